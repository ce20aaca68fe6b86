-- A trace: calls as bytes with what their answers say, and what document 01 reads off a call and its answer. Demand 3 and the report of waiting speak in these words.
use Rattle.std.specs.Prelude.{ℕ, Bool, cond, not, ◌&&◌, ◌||◌, List, [], ◌∷◌, map, drop, get_or, length, take, eqb, leb}
use Rattle.lists.specs.Lists.{some_pass}
use Rattle.event.specs.BigEndian.{number_of}
use Rattle.event.specs.Event.{Call, call_of}
use Rattle.steps.specs.Answer.{Said, said_by}
use Rattle.steps.specs.State.{State}
use Rattle.steps.specs.Effects.{Search}
use Rattle.steps.specs.Step.{after_by, step_by}

-- ---- lists of calls
-- a call is a kind and body bytes: any kind, unlisted ones too; any bytes, cut short or too long too
pub record CallBytes : Type 0 where
  pub kind : ℕ
  pub body : List ℕ

abbrev pub call_in : CallBytes → Call
call_in g = call_of g.kind g.body

-- the line and the buffer as a list of calls leaves them. `search` is how a release finds the lane to wake: `next_lane`
abbrev pub after_all : Search → State → List CallBytes → State
after_all search x gs = after_by search x (map call_in gs)

abbrev pub said_to : Search → State → CallBytes → Said
said_to search x g = said_by (step_by search x (call_in g)).answer

-- a call and what its answer says. The body's first byte is the lane of a call that names one; the second is the purpose of a want, or
-- the second and third are the count of a take or an enter
pub record Entry : Type 0 where
  pub kind : ℕ
  pub lane : ℕ
  pub purpose : ℕ
  pub count : ℕ
  pub said : Said

abbrev pub entry : CallBytes → Said → Entry
entry g said = record { kind = g.kind; lane = get_or g.body 0 0; purpose = get_or g.body 1 0; count = number_of (take 2 (drop 1 g.body)); said = said }

unfoldable pub entries : Search → State → List CallBytes → List Entry
entries search x [] = []
entries search x (g ∷ gs) = entry g (said_to search x g) ∷ entries search (step_by search x (call_in g)).after gs

-- ---- what is read off a call and its answer
abbrev pub is_accepted : ℕ → Entry → Bool
is_accepted kind e = e.said.accepted && eqb e.kind kind

abbrev pub value : ℕ → Entry → ℕ
value k e = get_or e.said.values k 0

abbrev pub has_values : Entry → Bool
has_values e = leb 1 (length e.said.values)

-- an accepted want or receive by lane i
abbrev pub wants_by : ℕ → Entry → Bool
wants_by i e = is_accepted 0x02 e && eqb e.lane i

abbrev pub receives_by : ℕ → Entry → Bool
receives_by i e = is_accepted 0x03 e && eqb e.lane i

-- "Releases are accepted 04 and 09"
abbrev pub is_release : Entry → Bool
is_release e = is_accepted 0x04 e || is_accepted 0x09 e

-- the answers waits and holds: waits has no value, holds has the pointer
abbrev pub answers_waits : Entry → Bool
answers_waits e = eqb e.said.number 0x02 && not (has_values e)

abbrev pub answers_holds : Entry → Bool
answers_holds e = eqb e.said.number 0x02 && has_values e

-- "A lane is told to wait by the answer waits to its want"
abbrev pub tells_to_wait : ℕ → Entry → Bool
tells_to_wait i e = wants_by i e && answers_waits e

-- "which an accepted release does by answering wakes with its number": the values after start and count, of 09 all of them
abbrev pub woken_by : Entry → List ℕ
woken_by e = cond (is_accepted 0x04 e) (drop 2 e.said.values) (cond (is_accepted 0x09 e) e.said.values [])

abbrev pub wakes : ℕ → Entry → Bool
wakes i e = some_pass (eqb i) (woken_by e)

-- an opening, a change of view or a seek
abbrev pub is_reset : Entry → Bool
is_reset e = is_accepted 0x01 e || is_accepted 0x0B e || is_accepted 0x0C e

-- N, by the answer to the opening; 0 before it
unfoldable pub lanes_in : ℕ → List Entry → ℕ
lanes_in n [] = n
lanes_in n (e ∷ es) = lanes_in (cond (is_accepted 0x01 e) (value 0 e) n) es
