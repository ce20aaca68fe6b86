-- Demand 3 as one claim about every list of calls: what a reader must believe, and no proof. docs/DEMAND3.md goes through it.
use Rattle.std.specs.Prelude.{ℕ, zero, suc, ◌+◌, ◌-◌, ◌≤◌, ◌≡◌, Bool, true, false, cond, ◌&&◌, ◌||◌, List, [], ◌∷◌, ◌++◌, map, eqb}
use Rattle.lists.specs.Lists.{count_pass, sum_of}
use Rattle.waitlist.specs.Distance.{distance}
use Rattle.waitlist.specs.NextLane.{next_lane}
use Rattle.steps.specs.State.{fresh}
use Rattle.steps.specs.Effects.{Search}
use Rattle.trace.specs.Trace.{CallBytes, Entry, after_all, answers_holds, answers_waits, entries, entry, has_values, is_accepted, is_release, is_reset, lanes_in, receives_by, said_to, tells_to_wait, value, wakes, wants_by}

-- ---- how a lane stands
pub data Status : Type 0 where
  -- none of these
  off : Status
  -- told to wait and its wake not sent; its wake under way; holding: each with the number of its purpose, as its want gave it
  waiting woken holding : ℕ → Status

abbrev pub purpose_for : Status → ℕ
purpose_for off = 0
purpose_for (waiting p) = p
purpose_for (woken p) = p
purpose_for (holding p) = p

-- "It waits from there until its wake is sent". "The wake is under way until the lane's accepted 03". "A lane holds from the answer holds,
-- to its want or receive, until its accepted release"
abbrev pub status_next : ℕ → Status → Entry → Status
status_next i s e =
    cond (wants_by i e) (cond (answers_waits e) (waiting e.purpose) (cond (answers_holds e) (holding e.purpose) off))
    (cond (receives_by i e) (cond (answers_holds e) (holding (purpose_for s)) off)
    (cond (wakes i e) (woken (purpose_for s))
    (cond (is_release e && eqb e.lane i) off
    s)))

unfoldable pub status : ℕ → Status → List Entry → Status
status i s [] = s
status i s (e ∷ es) = status i (status_next i s e) es

abbrev pub status_waits : Status → Bool
status_waits off = false
status_waits (waiting p) = true
status_waits (woken p) = false
status_waits (holding p) = false

-- holding, or its wake under way
abbrev pub status_has_turn : Status → Bool
status_has_turn off = false
status_has_turn (waiting p) = false
status_has_turn (woken p) = true
status_has_turn (holding p) = true

-- h is the one lane that holds or is being woken after these entries
pub record OnlyTurn (es : List Entry) (h : ℕ) : Type 0 where
  pub has : status_has_turn (status h off es) ≡ true
  pub only : (j : ℕ) → status_has_turn (status j off es) ≡ true → j ≡ h

-- the call by which lane h goes on: "03 while the wake is under way; 04 with count 0 by a holder of purpose 0 or 1; 09 by one of purpose 2"
abbrev pub release : ℕ → ℕ → CallBytes
release h purpose = cond (eqb purpose 2) (record { kind = 0x09; body = h ∷ [] }) (record { kind = 0x04; body = h ∷ 0 ∷ 0 ∷ [] })

abbrev pub next_call : ℕ → Status → CallBytes
next_call h off = record { kind = 0; body = [] }
next_call h (waiting p) = record { kind = 0; body = [] }
next_call h (woken p) = record { kind = 0x03; body = h ∷ [] }
next_call h (holding p) = release h p

-- ---- the places handed out
-- `count` places from `from` on, to one lane
pub record Grant : Type 0 where
  pub lane : ℕ
  pub from : ℕ
  pub count : ℕ

pub record Handed : Type 0 where
  pub lane : ℕ
  pub place : ℕ

-- an accepted 0A, with its lane and count
pub record OrderedEntry : Type 0 where
  pub lane : ℕ
  pub count : ℕ

-- the count of lane r among the accepted 0A since the last completed ordered call
unfoldable pub count_for : List OrderedEntry → ℕ → ℕ
count_for [] r = 0
count_for (n ∷ ns) r = cond (eqb n.lane r) n.count (count_for ns r)

-- "to each lane r, from lane 0 up, as many places as r's count, from the pointer before plus the counts of lanes below r"
unfoldable pub shares : List OrderedEntry → ℕ → ℕ → ℕ → List Grant
shares ns r from zero = []
shares ns r from (suc more) = record { lane = r; from = from; count = count_for ns r } ∷ shares ns (suc r) (from + count_for ns r) more

abbrev pub entered_by : Entry → OrderedEntry
entered_by e = record { lane = e.lane; count = e.count }

-- the 0A that completes an ordered call: its answer has values, those of the others have none
abbrev pub completes : Entry → Bool
completes e = is_accepted 0x0A e && (eqb e.said.number 0x0A && has_values e)

-- an accepted 04, or the 0A that completes an ordered call
abbrev pub hands_out : Entry → Bool
hands_out e = is_accepted 0x04 e || completes e

-- the accepted 0A after one more entry
abbrev pub entered_next : List OrderedEntry → Entry → List OrderedEntry
entered_next ns e = cond (completes e) [] (cond (is_accepted 0x0A e) (entered_by e ∷ ns) ns)

-- "An accepted 04 hands out its region's places, rising, to its lane. The 0A that completes an ordered call hands out .."; n is N
abbrev pub grants_by : ℕ → List OrderedEntry → Entry → List Grant
grants_by n ns e =
    cond (is_accepted 0x04 e) (record { lane = e.lane; from = value 0 e; count = e.count } ∷ [])
    (cond (completes e) (shares (entered_by e ∷ ns) 0 (value 0 e) n) [])

-- the accepted 0A after a list of entries
unfoldable pub entered_after : List OrderedEntry → List Entry → List OrderedEntry
entered_after ns [] = ns
entered_after ns (e ∷ es) = entered_after (entered_next ns e) es

unfoldable pub grants : ℕ → List OrderedEntry → List Entry → List Grant
grants n ns [] = []
grants n ns (e ∷ es) = grants_by n ns e ++ grants n (entered_next ns e) es

-- the places of a grant, rising, each with its lane
unfoldable pub hand_to : ℕ → ℕ → ℕ → List Handed
hand_to lane from zero = []
hand_to lane from (suc count) = record { lane = lane; place = from } ∷ hand_to lane (suc from) count

unfoldable pub handed : List Grant → List Handed
handed [] = []
handed (g ∷ gs) = hand_to g.lane g.from g.count ++ handed gs

-- first, first + 1, .. : as many as `count`
unfoldable pub places_from : ℕ → ℕ → List ℕ
places_from first zero = []
places_from first (suc count) = first ∷ places_from (suc first) count

-- ---- the claim
module _ (search : Search) (book : List ℕ) where
  -- "Its list starts with an unopened line and a lent buffer of any length and any bytes": the entries of a list, and of a stretch `later` after the calls `early`
  abbrev pub entries_of : List CallBytes → List Entry
  entries_of early = entries search (fresh book) early

  abbrev pub entries_after : List CallBytes → List CallBytes → List Entry
  entries_after early later = entries search (after_all search (fresh book) early) later

  -- one call after the calls `early`, with what its answer says
  abbrev pub entry_after : List CallBytes → CallBytes → Entry
  entry_after early g = entry g (said_to search (after_all search (fresh book) early) g)

  abbrev pub pointer_after : List CallBytes → ℕ
  pointer_after early = (after_all search (fresh book) early).line.pointer.0

  -- N after the calls `early`; and among the calls `later` that follow: the accepted releases, the wakes of lane j, its accepted wants
  abbrev pub lanes_after : List CallBytes → ℕ
  lanes_after early = lanes_in 0 (entries_of early)

  abbrev pub releases : List CallBytes → List CallBytes → ℕ
  releases early later = count_pass is_release (entries_after early later)

  abbrev pub wakes_of : ℕ → List CallBytes → List CallBytes → ℕ
  wakes_of j early later = count_pass (wakes j) (entries_after early later)

  abbrev pub wants_of : ℕ → List CallBytes → List CallBytes → ℕ
  wants_of j early later = count_pass (wants_by j) (entries_after early later)

  -- what `later` hands out
  abbrev pub grants_in : List CallBytes → List CallBytes → List Grant
  grants_in early later = grants (lanes_after early) (entered_after [] (entries_of early)) (entries_after early later)

  -- lane i was told to wait by the last of the calls `early`; `later` are the calls that follow, as far as they are looked at
  pub record WaitEnds (i : ℕ) (early later : List CallBytes) : Type 0 where
    -- the lane then holding or being woken
    pub holder : ℕ
    pub one : OnlyTurn (entries_of early) holder
    -- no later than at the d-th accepted release its wake is sent
    pub sent : distance (lanes_after early) holder i ≤ releases early later → 1 ≤ wakes_of i early later
    -- no second one before its next accepted want
    pub single : wants_of i early later ≡ 0 → wakes_of i early later ≤ 1
    -- until its wake each other lane is woken at most once
    pub others_once : wakes_of i early later ≡ 0 → (j : ℕ) → wakes_of j early later ≤ 1

  -- after the calls `early` exactly one lane holds or is being woken
  pub record OneTurn (early : List CallBytes) : Type 0 where
    pub holder : ℕ
    pub one : OnlyTurn (entries_of early) holder

  -- after the calls `early` the call by which lane h goes on would be accepted
  abbrev pub NextAccepted : List CallBytes → ℕ → Type 0
  NextAccepted early h = (said_to search (after_all search (fresh book) early) (next_call h (status h off (entries_of early)))).accepted ≡ true

  -- the places handed out by `later`, after `early`, which ends with an opening, a change of view or a seek: first, first + 1, .. last − 1
  pub record InOrder (early later : List CallBytes) : Type 0 where
    pub places : map (λ (h : Handed). h.place) (handed (grants_in early later)) ≡ places_from (pointer_after early) (pointer_after (early ++ later) - pointer_after early)
    pub last : pointer_after (early ++ later) ≡ pointer_after early + sum_of (λ (g : Grant). g.count) (grants_in early later)

  -- the count of a region, or the total of an ordered call, that call g answers is the number of places that it hands out
  abbrev pub CountTold : List CallBytes → CallBytes → Type 0
  CountTold early g =
      value 1 (entry_after early g) ≡ sum_of (λ (n : Grant). n.count) (grants_by (lanes_after early) (entered_after [] (entries_of early)) (entry_after early g))

  pub record Demand3 (calls : List CallBytes) : Type 0 where
    -- whenever a lane i is told to wait, by the answer to the call `told`
    pub waits_end : (early later rest : List CallBytes) (told : CallBytes) (i : ℕ) → calls ≡ (early ++ told ∷ []) ++ (later ++ rest)
        → tells_to_wait i (entry_after early told) ≡ true → WaitEnds i (early ++ told ∷ []) later
    -- at each point of the list, while any lane waits
    pub one_turn : (early rest : List CallBytes) (i : ℕ) → calls ≡ early ++ rest → status_waits (status i off (entries_of early)) ≡ true → OneTurn early
    -- at each point of the list, of each lane that holds or has its wake under way
    pub goes_on : (early rest : List CallBytes) (h : ℕ) → calls ≡ early ++ rest → status_has_turn (status h off (entries_of early)) ≡ true → NextAccepted early h
    -- from an opening, seek or change of view to the next of these or the list's end
    pub in_order : (early later rest : List CallBytes) (first : CallBytes) → calls ≡ (early ++ first ∷ []) ++ (later ++ rest)
        → is_reset (entry_after early first) ≡ true → count_pass is_reset (entries_after (early ++ first ∷ []) later) ≡ 0
        → InOrder (early ++ first ∷ []) later
    -- at each call of the list that hands out places
    pub counts_told : (early rest : List CallBytes) (g : CallBytes) → calls ≡ early ++ g ∷ rest → hands_out (entry_after early g) ≡ true → CountTold early g

-- of the line's own search
abbrev pub DemandThree : Type 0
DemandThree = (book : List ℕ) (calls : List CallBytes) → Demand3 next_lane book calls
