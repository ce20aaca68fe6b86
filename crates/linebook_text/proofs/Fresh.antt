-- A run from a line that is the unopened one.
use Prim.Native.Nat.{ℕ}
use mathlib.Core.Path.{◌≡◌, subst}
use mathlib.Core.List.{List}
use Rattle.line.specs.declared.Line.{Line}
use Rattle.line.specs.Line.{unopened}
use Rattle.steps.specs.Meets.{state_of}
use Rattle.run.specs.Runs.{RunMeets}
use Rattle.report.specs.Rows.{empty_report}
use Rattle.report.specs.declared.Report.{Report}
use Rattle.run.specs.declared.Reported.{Reported}
use Rattle.steps.specs.State.{fresh}

pub from_unopened : (l : Line) (book : List ℕ) (report : Report) (sheet text : List ℕ) (o : Reported) (book' text' : List ℕ) → l ≡ unopened → RunMeets (state_of l book) report sheet text o book' text'
    → RunMeets (fresh book) report sheet text o book' text'
from_unopened l book report sheet text o book' text' e m = subst (λ (k : Line). RunMeets (state_of k book) report sheet text o book' text') e m

-- and with the report of no waiting
pub from_empty : (l : Line) (book : List ℕ) (report : Report) (sheet text : List ℕ) (o : Reported) (book' text' : List ℕ) → l ≡ unopened → report ≡ empty_report → RunMeets (state_of l book) report sheet text o book' text'
    → RunMeets (fresh book) empty_report sheet text o book' text'
from_empty l book report sheet text o book' text' e none m = subst (λ (r : Report). RunMeets (fresh book) r sheet text o book' text') none (from_unopened l book report sheet text o book' text' e m)
