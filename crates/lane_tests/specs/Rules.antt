-- The counts over all lanes. Tied to `sound` by the contract of soundness::is_sound, to `call_event` by ordered_calls/Steps: enter_step_lem.
use Rattle.std.specs.Prelude.{Bool, not, List, eqb}
use Rattle.lists.specs.Lists.{count_pass}
use Rattle.line.specs.Line.{flag_for, has_turn, is_gathered, is_idle, on}
use Rattle.line.specs.Sound.{gathered_total}
use Rattle.line.specs.declared.Phase.{Phase}
use Rattle.line.specs.declared.Lane.{Lane}
use Rattle.lane_tests.specs.declared.tallies.LaneCounts.{LaneCounts}
use Rattle.lane_tests.specs.declared.tallies.Tally.{Tally}

abbrev pub flag_is_one : Phase → Bool
flag_is_one x = eqb 1 (flag_for x)

abbrev pub tally_of : List Lane → Tally
tally_of ls =
    record {
      flagged = count_pass (on flag_is_one) ls;
      turns = count_pass (on has_turn) ls;
      gathered = count_pass (on is_gathered) ls;
      total = gathered_total ls;
    }

abbrev pub not_idle : Phase → Bool
not_idle x = not (is_idle x)

abbrev pub counts_of : List Lane → LaneCounts
counts_of ls = record { active = count_pass (on not_idle) ls; gathered = count_pass (on is_gathered) ls; total = gathered_total ls }
