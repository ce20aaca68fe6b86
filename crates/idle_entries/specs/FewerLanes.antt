-- Wish 2, "By this wish stored sheets keep their bytes, and their answers too unless an 01 with 65 to 128 lanes got 6 in them": the steps of a
-- version that takes at most `most` lanes, 64 for the one before, and the claim. A sheet is a list of calls (demand3/Sheets: sound_run_is_list).
use Rattle.std.specs.Prelude.{ℕ, ◌≤◌, ◌≡◌, Bool, true, cond, not, ◌&&◌, List, [], ◌∷◌, map, length, replicate, eqb, leb, ltb}
use Rattle.limits.specs.Limits.{most_lanes}
use Rattle.view.specs.View.{place, plain_view}
use Rattle.line.specs.declared.Line.{Line}
use Rattle.line.specs.Line.{idle_lane}
use Rattle.line.specs.Sound.{sound}
use Rattle.waitlist.specs.NextLane.{next_lane}
use Rattle.event.specs.Event.{Call, cut_short, given}
use Rattle.event.specs.declared.Event.{Event}
use Rattle.steps.specs.Answer.{said_by}
use Rattle.steps.specs.State.{Result, State, fresh, leaves}
use Rattle.steps.specs.Refusals.{Reason, field, is, on_event, reason, reasons}
use Rattle.steps.specs.Effects.{effect, open_step}
use Rattle.steps.specs.Step.{after_calls, calls, effect_of, unless_refused}
use Rattle.steps.specs.declared.Answer.{Answer}
use Rattle.idle_entries.specs.Widened.{Wider}

-- ---- a step of that version: this one's, with `most` for the most lanes wherever that number stands
-- "1. The line handed in is not sound": N is in range up to `most`; `sound` has this version's number, which is not below it
abbrev pub not_sound_within : ℕ → Reason
not_sound_within most = record { number = 1; applies = λ x c. not (sound x.line (length x.book) && leb x.line.lanes most) }

-- "6. The lanes of 01 are not 1 to 64"
abbrev pub lanes_outside_of : ℕ → Reason
lanes_outside_of most = reason 6 (λ x e. is 0x01 e && not (leb 1 (field 0 e) && leb (field 0 e) most))

abbrev pub reasons_within : ℕ → List Reason
reasons_within most = map (λ (q : Reason). cond (eqb q.number 1) (not_sound_within most) (cond (eqb q.number 6) (lanes_outside_of most) q)) reasons

-- a line just opened, with `most` entries; and with no lane and no capacity one that is unopened
abbrev pub line_within : ℕ → ℕ → ℕ → Line
line_within most lanes capacity =
    record {
      lanes = lanes;
      capacity = capacity;
      size = 0;
      pointer = place 0;
      view = plain_view;
      lane = replicate most idle_lane;
      flag = replicate most 0;
    }

abbrev pub fresh_within : ℕ → List ℕ → State
fresh_within most book = record { line = line_within most 0 0; book = book }

abbrev pub open_within : ℕ → State → ℕ → ℕ → Result
open_within most x lanes capacity = leaves (Answer.Open lanes capacity) (line_within most lanes capacity) (open_step x lanes capacity).after.book

abbrev pub effect_within : ℕ → State → Call → Result
effect_within most x (given e) = cond (is 0x01 e) (open_within most x (field 0 e) (field 1 e)) (effect next_lane x e)
effect_within most x cut_short = effect_of next_lane x cut_short

unfoldable pub step_within : ℕ → State → Call → Result
step_within most x c = unless_refused (reasons_within most) x c (effect_within most x c)

-- ---- a list of calls
unfoldable pub calls_within : ℕ → State → List Call → List Result
calls_within most x [] = []
calls_within most x (c ∷ cs) = step_within most x c ∷ calls_within most (step_within most x c).after cs

unfoldable pub after_within : ℕ → State → List Call → State
after_within most x [] = x
after_within most x (c ∷ cs) = after_within most (step_within most x c).after cs

-- "an 01 with 65 to 128 lanes": more than `most`, and not more than this version takes
abbrev pub opens_above : ℕ → Call → Bool
opens_above most c = on_event (λ (e : Event). is 0x01 e && (ltb most (field 0 e) && leb (field 0 e) most_lanes)) c

-- ".. got 6"
abbrev pub got6 : Answer → Bool
got6 a = not (said_by a).accepted && eqb (said_by a).number 6

-- the call is such an 01 and got 6 in that version
abbrev pub refused_above : ℕ → State → Call → Bool
refused_above most x c = opens_above most c && got6 (step_within most x c).answer

-- no call of the list is
unfoldable pub none_above : ℕ → State → List Call → Bool
none_above most x [] = true
none_above most x (c ∷ cs) = not (refused_above most x c) && none_above most (step_within most x c).after cs

abbrev pub answers_of : List Result → List Answer
answers_of rs = map (λ (r : Result). r.answer) rs

-- the answers are the same, and so are at the end the book and all of the line but for idle entries
pub record SameAnswers (most : ℕ) (wide narrow : State) (cs : List Call) : Type 0 where
  pub answers : answers_of (calls wide cs) ≡ answers_of (calls_within most narrow cs)
  pub after : Wider (after_calls wide cs) (after_within most narrow cs)

abbrev pub KeepsAnswers : Type 0
KeepsAnswers =
    (most : ℕ) → most ≤ most_lanes → (book : List ℕ) (cs : List Call) → none_above most (fresh_within most book) cs ≡ true
    → SameAnswers most (fresh book) (fresh_within most book) cs
