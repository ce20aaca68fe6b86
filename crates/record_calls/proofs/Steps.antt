-- Each change of a call on records is the step of document 01.
use Prim.Native.Nat.{ℕ, ◌≤◌}
use mathlib.Core.Path.{◌≡◌, refl, ◌∙◌}
use mathlib.Core.Bool.{true, cond, not}
use mathlib.Core.List.{List}
use lib.Dec.{leb}
use lib.ListN.{length}
use lib.Seq.{set-get_or}
use Rattle.lists.proofs.Tests.{by_test}
use Rattle.view.specs.View.{position_of, record_end}
use Rattle.view.specs.declared.Place.{Place}
use Rattle.line.specs.declared.Line.{Line}
use Rattle.line.specs.declared.Phase.{Phase}
use Rattle.limits.specs.Limits.{most_lanes}
use Rattle.line.specs.Line.{holds_whole, idle_lane, is_reading, is_writing, phase_at, place_in}
use Rattle.line.specs.Sound.{sound}
use Rattle.waitlist.specs.NextLane.{next_lane}
use Rattle.event.specs.declared.Event.{Event}
use Rattle.steps.specs.declared.Answer.{Answer}
use Rattle.steps.specs.Effects.{read_step, write_step}
use Rattle.steps.specs.Meets.{state_of}
use Rattle.steps.specs.State.{Result, State}
use Rattle.steps.specs.Step.{call_event, refuse}
use Rattle.steps.proofs.Chains.{look_chain, put_chain, read_chain, write_chain}
use Rattle.changes.specs.Change.{lane_tested, changed, entry_of, refused_change, seen_of}
use Rattle.changes.specs.declared.Seen.{Seen}
use Rattle.changes.proofs.Steps.{Gives, guarded, lane_step, refused_step, unchanged}
use Rattle.record_calls.proofs.Regular.{one_fits}
use Rattle.record_calls.specs.Records.{book_after, look_change, put_change, read_change, read_by, record_found, record_put, write_change, written_by}

-- the steps past the tests of the lane, by the lane's phase
abbrev write_rest : State → ℕ → ℕ → Phase → Result
write_rest x i content p = cond (not (is_writing p)) (refuse 13 x) (write_step x i content p)

abbrev read_rest : State → ℕ → Phase → Result
read_rest x i p = cond (not (is_reading p)) (refuse 13 x) (read_step x i p)

module _ (l : Line) (book : List ℕ) (lanes_fit : l.lanes ≤ most_lanes) (ok : sound l (length book) ≡ true) (i : ℕ) where
  abbrev seen : Seen
  seen = seen_of l (entry_of i)

  abbrev own : Seen
  own = seen_of l i

  -- ---- 05 and 07
  module _ (content : ℕ) where
    abbrev left : Answer → List ℕ
    left a = book_after content book a

    refused_13 : Gives l left i (refuse 13 (state_of l book)) (refused_change own 13)
    refused_13 = refused_step l book left (λ k. refl) i 13

    write_by : (x : Phase) → Gives l left i (write_rest (state_of l book) i content x) (written_by own (position_of l.view (place_in x)) x)
    write_by x = by_test (is_writing x) (λ w. rw w (record { is = rw (set-get_or l.flag i 0) })) (λ w. rw w refused_13)

    pub write_step_lem : call_event (state_of l book) (Event.Write i content) ≡ changed l (entry_of i) (lane_tested seen i (write_change seen l.view)) (left (lane_tested seen i (write_change seen l.view)).answer)
    write_step_lem =
        write_chain next_lane (state_of l book) i content
        ∙ (lane_step l book left (λ k. refl) lanes_fit ok i (λ (j : ℕ). write_change (seen_of l j) l.view) _ (λ h. write_by (phase_at l i))).is

    pub put_step : (k : Place) → call_event (state_of l book) (Event.Put i k content) ≡ changed l (entry_of i) (lane_tested seen i (put_change seen l.view k)) (left (lane_tested seen i (put_change seen l.view k)).answer)
    put_step k =
        put_chain next_lane (state_of l book) i k content
        ∙ (lane_step l book left (λ k. refl) lanes_fit ok i (λ (j : ℕ). put_change (seen_of l j) l.view k) _
        (λ h. guarded l book left (λ k. refl) i 13 (not (holds_whole (phase_at l i)))
        (rw (one_fits l.view l.capacity k) (guarded l book left (λ k. refl) i 16 (not (leb (record_end l.view k) l.capacity)) {c = record_put own (position_of l.view k) (phase_at l i)}
        (record { is = rw (set-get_or l.lane i idle_lane, set-get_or l.flag i 0) }))))
        ).is

  -- ---- 06 and 08
  none_13 : Gives l (unchanged book) i (refuse 13 (state_of l book)) (refused_change own 13)
  none_13 = refused_step l book (unchanged book) (λ k. refl) i 13

  read_by_lem : (x : Phase) → Gives l (unchanged book) i (read_rest (state_of l book) i x) (read_by own (position_of l.view (place_in x)) book x)
  read_by_lem x = by_test (is_reading x) (λ r. rw r (record { is = rw (set-get_or l.flag i 0) })) (λ r. rw r none_13)

  pub read_step_lem : call_event (state_of l book) (Event.Read i) ≡ changed l (entry_of i) (lane_tested seen i (read_change seen l.view book)) book
  read_step_lem =
      read_chain next_lane (state_of l book) i
      ∙ (lane_step l book (unchanged book) (λ k. refl) lanes_fit ok i (λ (j : ℕ). read_change (seen_of l j) l.view book) _ (λ h. read_by_lem (phase_at l i))).is

  pub look_step : (k : Place) → call_event (state_of l book) (Event.Look i k) ≡ changed l (entry_of i) (lane_tested seen i (look_change seen l.view book k)) book
  look_step k =
      look_chain next_lane (state_of l book) i k
      ∙ (lane_step l book (unchanged book) (λ k. refl) lanes_fit ok i (λ (j : ℕ). look_change (seen_of l j) l.view book k) _
      (λ h. guarded l book (unchanged book) (λ k. refl) i 13 (not (holds_whole (phase_at l i))) {c = record_found own (position_of l.view k) book (phase_at l i)}
      (record { is = rw (set-get_or l.lane i idle_lane, set-get_or l.flag i 0) }))
      ).is
