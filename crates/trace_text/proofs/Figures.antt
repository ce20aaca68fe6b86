-- A line of a trace computed, and what a reader takes from a row: a letter for each lane, and a phase from each letter.
use Rattle.std.specs.Prelude.{Some}
use Prim.Native.Nat.{ℕ, ◌≤◌}
use mathlib.Core.Path.{◌≡◌, refl, sym, ap, ◌∙◌}
use mathlib.Core.Bool.{cond}
use mathlib.Core.List.{[], ◌∷◌}
use native.Mathlib.Omega.{arith}
use lib.Dec.{eqb}
use lib.ListN.{length, length-map, take}
use lib.Seq.{length-take-le}
use Rattle.limits.specs.Limits.{most_lanes}
use Rattle.view.specs.View.{place, plain_view}
use Rattle.line.specs.Line.{Shaped, lane, on, phase_number}
use Rattle.line.specs.declared.Line.{Line}
use Rattle.line.specs.declared.Phase.{Phase}
use Rattle.line.specs.declared.Purpose.{Purpose}
use Rattle.event.specs.declared.Event.{Event}
use Rattle.event_text.specs.Show.{event_words}
use Rattle.steps.specs.declared.Answer.{Answer}
use Rattle.printout.specs.Text.{ascii}
use Rattle.printout.specs.Print.{answer_words, decimal_in}
use Rattle.trace_text.specs.TraceLine.{joined, letter_of, row_of, trace_line}

-- lane 2 has taken a place and woken lane 0, and lane 1 waits
abbrev taken : Line
taken =
    record {
      lanes = 3;
      capacity = 64;
      size = 0;
      pointer = place 1;
      view = plain_view;
      lane = lane (Phase.Woken Purpose.SharedRead (place 1)) ∷ lane (Phase.Waiting Purpose.SharedWrite) ∷ lane (Phase.BusyWriting 1 (place 0)) ∷ [];
      flag = 1 ∷ 1 ∷ 0 ∷ [];
    }

pub take_line : trace_line 5 (event_words (Event.Take 2 1)) (Answer.Region (place 0) 1 (Some 0)) taken
    ≡ ascii "5     take    lane 2 count 1                   region 0 1 wakes 0                    !wW  pointer 1      size 0\n"
unfolding event_words answer_words joined decimal_in
take_line = refl

pub refused_line : trace_line 10 (event_words (Event.Receive 1)) (Answer.Refused 14) taken
    ≡ ascii "10    receive lane 1                           refused 14: no wake yet               !wW  pointer 1      size 0\n"
unfolding event_words answer_words joined decimal_in
refused_line = refl

-- a row has a letter for each lane
pub row_letters : (l : Line) → Shaped l → l.lanes ≤ most_lanes → length (row_of l) ≡ l.lanes
row_letters l s h = length-map (take l.lanes l.lane) (on letter_of) ∙ length-take-le l.lanes l.lane (omega (arith, s.lanes_length, h))

-- the number of the phase that a letter stands for
abbrev phase_read : ℕ → ℕ
phase_read c = cond (eqb c 46) 0 (cond (eqb c 119) 1 (cond (eqb c 33) 2 (cond (eqb c 72) 3 (cond (eqb c 87) 4 (cond (eqb c 82) 5 6)))))

read_back : (x : Phase) → phase_read (letter_of x) ≡ phase_number x
read_back Phase.Idle = refl
read_back (Phase.Waiting p) = refl
read_back (Phase.Woken p v) = refl
read_back (Phase.Holding p v) = refl
read_back (Phase.BusyWriting left next) = refl
read_back (Phase.BusyReading left next) = refl
read_back (Phase.Gathered n) = refl

-- phases with the same letter are the same but for what they carry
pub letter_tells : (x y : Phase) → letter_of x ≡ letter_of y → phase_number x ≡ phase_number y
letter_tells x y same = sym (read_back x) ∙ ap phase_read same ∙ read_back y
