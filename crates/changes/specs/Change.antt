-- A lane's call as a change: what it sees, and the line after it. Tied to `call_event` by lane_calls/Steps: decided_step, to `sound` by changes/Within: within_of.
use Rattle.std.specs.Prelude.{Option, Some, None, ℕ, ◌+◌, ◌-◌, ◌%◌, ◌≤◌, Bool, true, cond, List, eqb, leb, ltb, get_or, ◌≡◌}
use Rattle.lists.specs.Lists.{bit, implies, some_pass}
use Rattle.view.specs.View.{fits}
use Rattle.view.specs.declared.View.{View}
use Rattle.line.specs.declared.Line.{Line}
use Rattle.line.specs.declared.Phase.{Phase}
use Rattle.lane_tests.specs.Rules.{not_idle}
use Rattle.lane_tests.specs.declared.tallies.LaneCounts.{LaneCounts}
use Rattle.limits.specs.Limits.{most_lanes, most_pointer}
use Rattle.line.specs.Line.{is_gathered, is_writing, on, phase_at, place_in}
use Rattle.steps.specs.declared.Answer.{Answer}
use Rattle.steps.specs.declared.Outcome.{Outcome}
use Rattle.steps.specs.State.{Result, leaves, with_flag, with_phase, with_pointer, with_size}
use Rattle.steps.specs.Effects.{wake}
use Rattle.changes.specs.declared.Change.{Change}
use Rattle.changes.specs.declared.Seen.{Seen}

-- the entry in the arrays that stands for a lane's number: the number itself, if a line can have that lane
abbrev pub entry_of : ℕ → ℕ
entry_of i = i % most_lanes

-- what a call of the lane with entry i sees of a line
abbrev pub seen_of : Line → ℕ → Seen
seen_of l i =
    record {
      lanes = l.lanes;
      capacity = l.capacity;
      size = l.size;
      pointer = l.pointer;
      gathering = some_pass (on is_gathered) l.lane;
      phase = phase_at l i;
      flag = get_or l.flag i 0;
    }

-- an answer that changes nothing, and a refusal, which is one
abbrev pub kept_change : Seen → Answer → Change
kept_change s a = record { answer = a; phase = s.phase; flag = s.flag; pointer = s.pointer; size = s.size; wakes = None }

abbrev pub refused_change : Seen → ℕ → Change
refused_change s k = kept_change s (Answer.Refused k)

-- 4 before the line is open, 8 where it has no lane i, and else 0
abbrev pub missing_lane : ℕ → ℕ → ℕ
missing_lane lanes i = cond (eqb lanes 0) 4 (cond (leb lanes i) 8 0)

-- the tests of a call that names a lane: 4 and 8
abbrev pub lane_tested : Seen → ℕ → Change → Change
lane_tested s i c = cond (eqb s.lanes 0) (refused_change s 4) (cond (leb s.lanes i) (refused_change s 8) c)

-- the lane that is woken is one that a line can have
abbrev pub wakes_in : Option ℕ → Bool
wakes_in (Some w) = ltb w most_lanes
wakes_in None = true

-- the line with a change of the lane with entry i; the lane to wake is woken with the new pointer
abbrev pub applied : Line → ℕ → Change → Line
applied l i c = wake (with_size (with_pointer (with_phase (with_flag l i c.flag) i c.phase) c.pointer) c.size) c.wakes

-- what a call gives that makes this change
abbrev pub outcome_of : Line → ℕ → Change → Outcome
outcome_of l i c = record { line = applied l i c; answer = c.answer }

-- the answer, the line and the book that a change gives
abbrev pub changed : Line → ℕ → Change → List ℕ → Result
changed l i c book = leaves c.answer (applied l i c) book

-- the counts of all lanes once one that sees s makes change c, neither before nor after gathered
abbrev pub counts_after : LaneCounts → Seen → Change → LaneCounts
counts_after counts s c =
    record { active = counts.active + bit (not_idle c.phase) - bit (not_idle s.phase); gathered = counts.gathered; total = counts.total }

-- a lane with phase x is one of those counted, of which there are no more than a line can have
pub record Counted (counts : LaneCounts) (x : Phase) : Type 0 where
  pub own : bit (not_idle x) ≤ counts.active
  pub few : counts.active ≤ most_lanes

-- what a sound line with a buffer of n bytes gives a lane's call: its numbers are in their ranges, and a busy writer's next record fits
pub record Within (s : Seen) (v : View) (n : ℕ) : Type 0 where
  pub lanes_fit : s.lanes ≤ most_lanes
  pub sized : s.size ≤ n
  pub held : s.capacity ≤ n
  pub reach : (place_in s.phase).0 ≤ most_pointer
  pub writer : implies (is_writing s.phase) (fits v s.capacity (place_in s.phase) 1) ≡ true
