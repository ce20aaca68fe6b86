-- A turn of a run by a call of a lane: it is one event of the run.
use Rattle.std.specs.Prelude.{Option, Some, None, Result, Ok, Err}
use Prim.Native.Nat.{ℕ, ◌+◌, ◌≤◌, ◌<◌}
use mathlib.Core.Path.{◌≡◌, refl, sym, ap, ap₂, ◌∙◌, subst}
use mathlib.Core.Bool.{Bool, true, false, false≢true}
use mathlib.Core.List.{List, [], ◌∷◌}
use native.Mathlib.Omega.{arith}
use lib.Dec.{eqb}
use lib.ListN.{drop, get_or, length, set}
use borrow.Author.Tests.{eqb-false, eqb-true, not-true}
use Rattle.limits.specs.Limits.{most_lanes, most_pointer}
use Rattle.lists.proofs.Tests.{by_test}
use Rattle.view.specs.declared.Place.{Place}
use Rattle.view.specs.declared.View.{View}
use Rattle.tiling.specs.Tiling.{records_of, tiling_of}
use Rattle.tiling.specs.declared.Tiling.{Tiling}
use Rattle.line.specs.declared.Lane.{Lane}
use Rattle.line.specs.declared.Line.{Line}
use Rattle.line.specs.declared.Phase.{Phase}
use Rattle.line.specs.Line.{Shaped, idle_lane, phase_at}
use Rattle.lane_tests.specs.Rules.{counts_of}
use Rattle.lane_tests.specs.declared.tallies.LaneCounts.{LaneCounts}
use Rattle.event.specs.Event.{event_of, fields_in}
use Rattle.event.specs.ReadWrite.{event_read, read_at}
use Rattle.event.specs.Refusal.{number_of}
use Rattle.event.specs.declared.Event.{Event}
use Rattle.event.specs.declared.Refusal.{Refusal}
use Rattle.decode_fields.specs.Fields.{fields_at, total, values}
use Rattle.decode_fields.proofs.InOrder.{got}
use Rattle.steps.specs.Effects.{started, woken}
use Rattle.steps.specs.Meets.{state_of}
use Rattle.steps.specs.State.{State, leaves, with_lanes, with_phase}
use Rattle.steps.specs.Step.{call_event}
use Rattle.steps.specs.declared.Answer.{Answer}
use Rattle.steps.proofs.Ordered.{started_length}
use Rattle.changes.specs.Change.{counts_after, entry_of, missing_lane, seen_of}
use Rattle.changes.specs.declared.Change.{Change}
use Rattle.changes.specs.declared.Seen.{Seen}
use Rattle.changes.proofs.Steps.{entry_is, lane_below}
use Rattle.scopes.specs.Scope.{lane_event}
use Rattle.scopes.specs.declared.LaneCall.{LaneCall}
use Rattle.call_head.specs.Head.{Headed, rest_of}
use Rattle.call_head.specs.declared.Head.{Head}
use Rattle.call_head.proofs.Heads.{fields_there, headed_read}
use Rattle.call_head.proofs.LaneKinds.{enter_of_lem}
use Rattle.ordered_calls.specs.Settled.{IdlePast, enter_of}
use Rattle.ordered_calls.specs.declared.Entered.{Entered}
use Rattle.ordered_calls.proofs.Steps.{enter_refused, index_in, past_idle}
use Rattle.number_text.proofs.Decimal.{few_digits}
use Rattle.line_number.specs.Numbered.{Keeps, Numbered, number_in}
use Rattle.line_number.specs.declared.LineNumber.{LineNumber}
use Rattle.line_number.proofs.Bytes.{keeps_number, keeps_own}
use Rattle.line_number.proofs.Answers.{answer_line_lem}
use Rattle.kind_text.specs.Put.{Put}
use Rattle.sheet_calls.specs.Calls.{Ran, RanCall, RanEnter, RanEntered, enter_change, entered_with, is_complete, is_refusal}
use Rattle.sheet_calls.specs.declared.Called.{Called}
use Rattle.sheet_calls.specs.declared.Caller.{Caller}
use Rattle.trace.proofs.Seen.{lane_from}
use Rattle.wait_counts.specs.Counts.{counted}
use Rattle.wait_counts.proofs.Answers.{refused_count}
use Rattle.lanes_run.specs.Parts.{Advanced, Going, MayStart, Stores, caller_now, counts_left, lanes_left, line_now, own_changed}
use Rattle.lanes_run.proofs.Going.{good_state, goes_on}
use Rattle.lanes_run.proofs.Waits.{lane_counted}
use Rattle.lanes_run.proofs.Stores.{none_called, none_counts, refused_called, sees_now, stored_shaped, stored_line, woken_called, woken_counts, woken_shaped}
use Rattle.lanes_run.proofs.Enters.{complete_called, enter_missing, entered_is, gathered_called, gathered_counts}

-- a lane is woken or none is
lane_or_none : {X : Type 0} {w : ℕ} → Some w ≡ None → X
lane_or_none e = let z : ◌≡◌ {A = ℕ} 0 1 = cc in absurd (omega arith)

-- the lane that an event names
lane_named : (i d : ℕ) (call : LaneCall) → lane_from (lane_event i call) d ≡ i
lane_named i d (LaneCall.Want purpose) = refl
lane_named i d LaneCall.Receive = refl
lane_named i d (LaneCall.Take c) = refl
lane_named i d (LaneCall.Write content) = refl
lane_named i d LaneCall.Read = refl
lane_named i d (LaneCall.Put k content) = refl
lane_named i d (LaneCall.Look k) = refl
lane_named i d LaneCall.Free = refl

-- starting the lanes keeps the arrays' lengths
started_shaped : (l : Line) (k : ℕ) → Shaped l → Shaped (with_lanes l (started k l.lane))
started_shaped l k s = record { lanes_length = started_length k l.lane ∙ s.lanes_length; flags_length = s.flags_length; blocks_length = s.blocks_length }

-- an event's head stands in the sheet
pub headed_inside : {sheet : List ℕ} {at : ℕ} {h : Head} → Headed sheet at h → at < length sheet
headed_inside H = omega (arith, (got H.fields).past, H.room)

-- a turn by a call of a lane: where the run stands, the call's head, what it sees, its number stored, and what it gives
pub record Turn (sheet : List ℕ) (x₀ : State) (out₀ : List ℕ) (from so_far first : ℕ) (l : Line) (book out : List ℕ) (at len number : ℕ)
    (h : Head) (s : Seen) (counts : LaneCounts) (r : Called) (book' out' waits₀ waits : List ℕ) : Type 0 where
  pub advanced : Advanced sheet x₀ out₀ waits₀ from so_far first l book out waits at len number
  pub small : number < 18446744073709551616
  pub headed : Headed sheet at h
  pub sees : s ≡ seen_of l (entry_of h.lane)
  pub same : counts ≡ counts_of l.lane
  pub mid : List ℕ
  pub start : ℕ
  pub put : Numbered number out len mid start
  pub ran : RanCall h sheet s counts (tiling_of l.view) (records_of l.view) l.flag book mid start r book' out'
  pub same_book : length book' ≡ length book
  pub same_out : length out' ≡ length out

module _ {sheet : List ℕ} {x₀ : State} {out₀ : List ℕ} {from so_far first : ℕ} {l : Line} {book out : List ℕ} {at len number : ℕ} {h : Head} {s : Seen} {counts : LaneCounts} {r : Called} {book' out' waits₀ waits : List ℕ}
    (T : Turn sheet x₀ out₀ from so_far first l book out at len number h s counts r book' out' waits₀ waits) where
  G : Going sheet x₀ out₀ from so_far first l book out at len number
  G = T.advanced.going

  H : Headed sheet at h
  H = T.headed

  sees : s ≡ seen_of l (entry_of h.lane)
  sees = T.sees

  same : counts ≡ counts_of l.lane
  same = T.same

  abbrev mid : List ℕ
  mid = T.mid

  abbrev start : ℕ
  start = T.start

  -- the run has gone on, and the answer is counted
  abbrev After : Line → Type 0
  After line' = Advanced sheet x₀ out₀ waits₀ from so_far first line' book' out' (counted waits (entry_of h.lane) r.change.answer) r.next r.end (number + 1)

  -- an event that was read, with its answer and what it leaves
  on : (e : Event) → ((d : ℕ) → lane_from e d ≡ h.lane) → read_at sheet at ≡ event_read e (record { at = r.next }) → Put r.change.answer mid start out' r.end → (line' : Line) → Shaped line'
      → call_event (state_of l book) e ≡ leaves r.change.answer line' book' → After line'
  on e named read P line' shaped called = record {
    going = goes_on sheet x₀ out₀ from so_far first l book out at len number G e (record { at = r.next }) read r.change.answer line' book' called shaped
        out' r.end (answer_line_lem r.change.answer T.put P.text) (omega (arith, P.short, T.put.ends, few_digits 19 number (omega (arith, T.small)))) T.same_book T.same_out r.next refl;
    counted = lane_counted sheet x₀ waits₀ from first l book waits at number T.advanced.counted (good_state G) G.numbered e (record { at = r.next }) read r.change.answer line' book' called h.lane named;
  }

  -- the same after a refusal, which counts nothing
  abbrev Kept : Type 0
  Kept = Advanced sheet x₀ out₀ waits₀ from so_far first l book' out' waits r.next r.end (number + 1)

  kept : is_refusal r.change.answer ≡ true → After l → Kept
  kept e went =
      subst (λ (w : List ℕ). Advanced sheet x₀ out₀ waits₀ from so_far first l book' out' w r.next r.end (number + 1)) (refused_count waits (entry_of h.lane) r.change.answer (not-true _ e)) went

  -- ---- 02 to 09
  module _ (apart : h.kind ≡ 10 → ⊥) where
    lane_ran : Ran h.kind sheet h.to s counts h.lane (tiling_of l.view) (records_of l.view) l.flag book mid start r book' out'
    lane_ran = T.ran.lane_call apart

    lane_read : read_at sheet at ≡ event_read (lane_event h.lane lane_ran.call) (record { at = r.next })
    lane_read = headed_read H lane_ran.fields ∙ rw lane_ran.event

    lane_on : (line' : Line) → Shaped line' → call_event (state_of l book) (lane_event h.lane lane_ran.call) ≡ leaves r.change.answer line' book' → After line'
    lane_on line' shaped called = on (lane_event h.lane lane_ran.call) (λ d. lane_named h.lane d lane_ran.call) lane_read lane_ran.text line' shaped called

    lanes_fit : l.lanes ≤ most_lanes
    lanes_fit = (good_state G).facts.base.lanes_fit

    lane_refused : r.refused ≡ true → Kept
    lane_refused e =
        kept (sym lane_ran.refused ∙ e)
        (lane_on l G.shaped
        (refused_called l book G.shaped lanes_fit G.is_sound h.lane lane_ran.call s sees r.change book' lane_ran.change lane_ran.puts (sym lane_ran.refused ∙ e)))

    lane_none : (i : ℕ) → i ≡ entry_of h.lane → r.change.wakes ≡ None → After (stored_line l i r.change)
    lane_none i own none =
        lane_on (stored_line l i r.change) (stored_shaped l i r.change G.shaped)
        (none_called l book G.shaped lanes_fit G.is_sound h.lane lane_ran.call s sees r.change book' lane_ran.change lane_ran.puts i own none)

    lane_none_counts : (i : ℕ) → i ≡ entry_of h.lane → r.change.wakes ≡ None → r.refused ≡ false → r.counts ≡ counts_of (stored_line l i r.change).lane
    lane_none_counts i own none e =
        lane_ran.counted e ∙ ap (λ (k : LaneCounts). counts_after k s r.change) same
        ∙ none_counts l book G.shaped lanes_fit G.is_sound h.lane lane_ran.call s sees r.change book' lane_ran.change lane_ran.puts i own none

    module _ (i w v : ℕ) (y : Phase) (own : i ≡ entry_of h.lane) (wakes : r.change.wakes ≡ Some w) (entry : v ≡ entry_of w) (phase : y ≡ woken r.change.pointer (phase_at (stored_line l i r.change) v)) where
      lane_woken : After (with_phase (stored_line l i r.change) v y)
      lane_woken =
          lane_on (with_phase (stored_line l i r.change) v y) (woken_shaped (stored_line l i r.change) v y (stored_shaped l i r.change G.shaped))
          (woken_called l book G.shaped lanes_fit G.is_sound h.lane lane_ran.call s sees r.change book' lane_ran.change lane_ran.puts i w v y own wakes entry phase)

      lane_woken_counts : r.refused ≡ false → r.counts ≡ counts_of (with_phase (stored_line l i r.change) v y).lane
      lane_woken_counts e =
          lane_ran.counted e ∙ ap (λ (k : LaneCounts). counts_after k s r.change) same
          ∙ woken_counts l book G.shaped lanes_fit G.is_sound h.lane lane_ran.call s sees r.change book' lane_ran.change lane_ran.puts i w v y own wakes entry phase

  -- ---- 0A
  module _ (ten : h.kind ≡ 10) where
    entered_ran : RanEntered h sheet s counts (tiling_of l.view) (records_of l.view) book mid start r book' out'
    entered_ran = T.ran.enter_call ten

    lanes_same : s.lanes ≡ l.lanes
    lanes_same = ap (λ (v : Seen). v.lanes) sees

    -- refused by the tests of the lane
    enter_lane_missing : (missing_lane s.lanes h.lane ≡ 0 → ⊥) → Kept
    enter_lane_missing some =
        let refused = entered_ran.missing some in
        let rest = fields_in (rest_of h.kind) (drop h.to sheet) in
        let answer : r.change.answer ≡ Answer.Refused (missing_lane s.lanes h.lane) = ap (λ (c : Change). c.answer) refused.change in
        let past : h.to + total (rest_of h.kind) ≡ r.next = rw ten (sym refused.past) in
        let is : event_of h.kind (h.lane ∷ rest) ≡ Event.Enter h.lane (get_or rest 0 0) = ap (λ (k : ℕ). event_of k (h.lane ∷ rest)) ten ∙ enter_of_lem h.lane rest in
        kept (ap is_refusal answer)
        (on (Event.Enter h.lane (get_or rest 0 0)) (λ d. refl) (headed_read H (fields_there (rest_of h.kind) sheet h.to H.room ∙ ap (values rest) past) ∙ rw is)
        (subst (λ (a : Answer). Put a mid start out' r.end) (sym answer) refused.put) l G.shaped
        (enter_missing l book G.is_sound h.lane (get_or rest 0 0) (λ z. some (ap (λ (n : ℕ). missing_lane n h.lane) lanes_same ∙ z))
        ∙ ap (λ (n : ℕ). leaves (Answer.Refused (missing_lane n h.lane)) l book) (sym lanes_same)
        ∙ ap₂ (λ (a : Answer) (b : List ℕ). leaves a l b) (sym answer) (sym entered_ran.kept)))

    -- past them
    module _ (none : missing_lane s.lanes h.lane ≡ 0) where
      enter_ran : RanEnter sheet h.to s counts (tiling_of l.view) (records_of l.view) mid start r out'
      enter_ran = entered_ran.entered none

      below : h.lane < l.lanes
      below = lane_below l.lanes h.lane (rw lanes_same at none)

      abbrev comes : Result Entered Refusal
      comes = enter_of l h.lane enter_ran.count

      ran_is : r ≡ entered_with s counts enter_ran.count comes r.end r.next
      ran_is = enter_ran.is ∙ ap (λ (x : Result Entered Refusal). entered_with s counts enter_ran.count x r.end r.next) (entered_is l book G.shaped G.is_sound h.lane below enter_ran.count s sees counts same)

      enter_read : read_at sheet at ≡ event_read (Event.Enter h.lane enter_ran.count) (record { at = r.next })
      enter_read =
          headed_read H (subst (λ (k : ℕ). fields_at (rest_of k) sheet h.to ≡ values (enter_ran.count ∷ []) r.next) (sym ten) enter_ran.fields)
          ∙ ap (λ (k : ℕ). event_read (event_of k (h.lane ∷ enter_ran.count ∷ [])) (record { at = r.next })) ten

      enter_on : (line' : Line) → Shaped line' → call_event (state_of l book) (Event.Enter h.lane enter_ran.count) ≡ leaves r.change.answer line' book → After line'
      enter_on line' shaped called = on (Event.Enter h.lane enter_ran.count) (λ d. refl) enter_read enter_ran.text line' shaped (called ∙ ap (leaves r.change.answer line') (sym entered_ran.kept))

      -- refused past them
      refused_by : (x : Result Entered Refusal) → comes ≡ x → r.refused ≡ true → Kept
      refused_by (Err k) e told =
          let answer : r.change.answer ≡ Answer.Refused (number_of k) = ap (λ (v : Called). v.change.answer) ran_is ∙ ap (λ (x : Result Entered Refusal). (enter_change s enter_ran.count (counts.total + enter_ran.count) x).answer) e in
          kept (ap is_refusal answer) (enter_on l G.shaped (enter_refused l book G.shaped G.is_sound h.lane below enter_ran.count k e ∙ ap (λ (a : Answer). leaves a l book) (sym answer)))
      refused_by (Ok Entered.Gathered) e told = absurd (false≢true (sym (ap (λ (v : Called). v.refused) ran_is ∙ ap (λ (x : Result Entered Refusal). is_refusal (enter_change s enter_ran.count (counts.total + enter_ran.count) x).answer) e) ∙ told))
      refused_by (Ok Entered.Complete) e told = absurd (false≢true (sym (ap (λ (v : Called). v.refused) ran_is ∙ ap (λ (x : Result Entered Refusal). is_refusal (enter_change s enter_ran.count (counts.total + enter_ran.count) x).answer) e) ∙ told))

      -- gathered, and no more
      gathered_is : (x : Result Entered Refusal) → comes ≡ x → r.refused ≡ false → r.starts ≡ false → comes ≡ Ok Entered.Gathered
      gathered_is (Err k) e told waits = absurd (false≢true (sym told ∙ ap (λ (v : Called). v.refused) ran_is ∙ ap (λ (x : Result Entered Refusal). is_refusal (enter_change s enter_ran.count (counts.total + enter_ran.count) x).answer) e))
      gathered_is (Ok Entered.Gathered) e told waits = e
      gathered_is (Ok Entered.Complete) e told waits = absurd (false≢true (sym waits ∙ ap (λ (v : Called). v.starts) ran_is ∙ ap is_complete e))

      complete_is : (x : Result Entered Refusal) → comes ≡ x → r.starts ≡ true → comes ≡ Ok Entered.Complete
      complete_is (Err k) e told = absurd (false≢true (sym (ap (λ (v : Called). v.starts) ran_is ∙ ap is_complete e) ∙ told))
      complete_is (Ok Entered.Gathered) e told = absurd (false≢true (sym (ap (λ (v : Called). v.starts) ran_is ∙ ap is_complete e) ∙ told))
      complete_is (Ok Entered.Complete) e told = e

      -- what is known of the change, by what the enter comes to
      change_is : (x : Result Entered Refusal) → comes ≡ x → r.change ≡ enter_change s enter_ran.count (counts.total + enter_ran.count) x
      change_is x e = ap (λ (v : Called). v.change) ran_is ∙ ap (enter_change s enter_ran.count (counts.total + enter_ran.count)) e

      module _ (i : ℕ) (own : i ≡ entry_of h.lane) where
        enter_gathered_on : comes ≡ Ok Entered.Gathered → After (stored_line l i r.change)
        enter_gathered_on e =
            enter_on (stored_line l i r.change) (stored_shaped l i r.change G.shaped)
            (gathered_called l book G.shaped G.is_sound h.lane below enter_ran.count s sees counts same e i own ∙ ap (λ (c : Change). leaves c.answer (stored_line l i c) book) (sym (change_is (Ok Entered.Gathered) e)))

        enter_gathered_counts : comes ≡ Ok Entered.Gathered → r.counts ≡ counts_of (stored_line l i r.change).lane
        enter_gathered_counts e =
            ap (λ (v : Called). v.counts) ran_is ∙ gathered_counts l book G.shaped G.is_sound h.lane below enter_ran.count s sees counts same e i own
            ∙ ap (λ (c : Change). counts_of (stored_line l i c).lane) (sym (change_is (Ok Entered.Gathered) e))

        enter_complete_on : comes ≡ Ok Entered.Complete → After (with_lanes (stored_line l i r.change) (started s.pointer.0 (stored_line l i r.change).lane))
        enter_complete_on e =
            enter_on (with_lanes (stored_line l i r.change) (started s.pointer.0 (stored_line l i r.change).lane))
            (started_shaped (stored_line l i r.change) s.pointer.0 (stored_shaped l i r.change G.shaped))
            (complete_called l book G.shaped G.is_sound h.lane below enter_ran.count s sees counts same e i own
            ∙ ap (λ (c : Change). leaves c.answer (with_lanes (stored_line l i c) (started s.pointer.0 (stored_line l i c).lane)) book) (sym (change_is (Ok Entered.Complete) e)))

  -- ---- of any kind
  by_ten : {X : Type 0} → ((h.kind ≡ 10 → ⊥) → X) → (h.kind ≡ 10 → X) → X
  by_ten f g = by_test (eqb h.kind 10) (λ t. g (eqb-true h.kind 10 t)) (λ t. f (eqb-false h.kind 10 t))

  by_missing : {X : Type 0} → ((missing_lane s.lanes h.lane ≡ 0 → ⊥) → X) → (missing_lane s.lanes h.lane ≡ 0 → X) → X
  by_missing f g = by_test (eqb (missing_lane s.lanes h.lane) 0) (λ t. g (eqb-true _ 0 t)) (λ t. f (eqb-false _ 0 t))

  -- an accepted enter has passed the tests of the lane
  not_missing : (ten : h.kind ≡ 10) → r.refused ≡ false → missing_lane s.lanes h.lane ≡ 0
  not_missing ten told = by_missing (λ some. absurd (false≢true (sym told ∙ ((entered_ran ten).missing some).told))) (λ none. none)

  -- a refusal
  pub refused_on : r.refused ≡ true → Kept
  refused_on told = by_ten (λ apart. lane_refused apart told) (λ ten. by_missing (enter_lane_missing ten) (λ none. refused_by ten none (comes ten none) refl told))

  module _ (i : ℕ) (own : i ≡ entry_of h.lane) (told : r.refused ≡ false) where
    -- a change that wakes no lane and starts none
    pub none_on : r.change.wakes ≡ None → r.starts ≡ false → After (stored_line l i r.change)
    none_on none waits =
        by_ten (λ apart. lane_none apart i own none)
        (λ ten. let there = not_missing ten told in enter_gathered_on ten there i own (gathered_is ten there (comes ten there) refl told waits))

    pub none_on_counts : r.change.wakes ≡ None → r.starts ≡ false → r.counts ≡ counts_of (stored_line l i r.change).lane
    none_on_counts none waits =
        by_ten (λ apart. lane_none_counts apart i own none told)
        (λ ten. let there = not_missing ten told in enter_gathered_counts ten there i own (gathered_is ten there (comes ten there) refl told waits))

    -- an ordered call that is complete: the lanes past N are idle
    pub started_past : r.starts ≡ true → (y : Lane) → IdlePast l.lanes (set l.lane i y)
    started_past begins y =
        by_ten (λ apart. absurd (false≢true (sym (lane_ran apart).starts ∙ begins)))
        (λ ten. let below' = below ten (not_missing ten told) in
        subst (λ (j : ℕ). IdlePast l.lanes (set l.lane j y)) (entry_is h.lane (index_in l book G.shaped G.is_sound h.lane below') ∙ sym own) (past_idle l book G.shaped G.is_sound h.lane below' y))

    pub started_on : r.starts ≡ true → After (with_lanes (stored_line l i r.change) (started l.pointer.0 (stored_line l i r.change).lane))
    started_on begins =
        subst (λ (p : Place). After (with_lanes (stored_line l i r.change) (started p.0 (stored_line l i r.change).lane))) (ap (λ (v : Seen). v.pointer) sees)
        (by_ten (λ apart. absurd (false≢true (sym (lane_ran apart).starts ∙ begins)))
        (λ ten. let there = not_missing ten told in enter_complete_on ten there i own (complete_is ten there (comes ten there) refl begins)))

    -- a change that wakes a lane
    module _ (w v : ℕ) (y : Phase) (wakes : r.change.wakes ≡ Some w) (entry : v ≡ entry_of w) (phase : y ≡ woken r.change.pointer (phase_at (stored_line l i r.change) v)) where
      no_enter : {X : Type 0} → h.kind ≡ 10 → X
      no_enter ten =
          let there = not_missing ten told in
          lane_or_none (sym wakes ∙ ap (λ (c : Change). c.wakes) (change_is ten there (comes ten there) refl) ∙ wakes_none (comes ten there))
        where
          wakes_none : (x : Result Entered Refusal) → (enter_change s (enter_ran ten (not_missing ten told)).count (counts.total + (enter_ran ten (not_missing ten told)).count) x).wakes ≡ None
          wakes_none (Err k) = refl
          wakes_none (Ok Entered.Gathered) = refl
          wakes_none (Ok Entered.Complete) = refl

      pub woken_on : After (with_phase (stored_line l i r.change) v y)
      woken_on = by_ten (λ apart. lane_woken apart i w v y own wakes entry phase) (λ ten. no_enter ten)

      pub woken_on_counts : r.counts ≡ counts_of (with_phase (stored_line l i r.change) v y).lane
      woken_on_counts = by_ten (λ apart. lane_woken_counts apart i w v y own wakes entry phase told) (λ ten. no_enter ten)

    -- what it stores of the lanes and their flags, by what it wakes and starts, and the counts that it gives
    abbrev own_lanes : List Lane
    own_lanes = own_changed l.lane i r.change

    stored_by : (x : Option ℕ) → r.change.wakes ≡ x → (b : Bool) → r.starts ≡ b
        → After (line_now l r.change.size r.change.pointer (lanes_left x b l.pointer r.change.pointer own_lanes) (set l.flag i r.change.flag))
        × (counts_left x b l.pointer r.counts own_lanes ≡ counts_of (lanes_left x b l.pointer r.change.pointer own_lanes))
    stored_by (Some w) e b begins = (woken_on w (entry_of w) _ e refl refl, woken_on_counts w (entry_of w) _ e refl refl)
    stored_by None e true begins = (started_on begins, refl)
    stored_by None e false waits = (none_on e waits, none_on_counts e waits)

    pub stored_on : {lanes' : List Lane} {flags' : List ℕ} {counts' : LaneCounts} → Stores l.lane l.flag i r l.pointer lanes' flags' counts'
        → After (line_now l r.change.size r.change.pointer lanes' flags') × (counts' ≡ counts_of lanes')
    stored_on S = rw (S.lane, S.flag, S.count) (stored_by r.change.wakes refl r.starts refl)

    pub may_start : l.pointer.0 ≤ most_pointer → MayStart l.lane i r l.lanes l.pointer
    may_start reach none begins = (reach, started_past begins _)

  further : at < r.next
  further =
      let head = (got H.fields).past in
      by_ten (λ apart. omega (arith, head, (got (lane_ran apart).fields).past))
      (λ ten. by_missing (λ some. omega (arith, head, ((entered_ran ten).missing some).past)) (λ none. omega (arith, head, (got (enter_ran ten none).fields).past)))

  -- the next event stands further on, from an index of the sheet
  pub moves : (at < r.next) × (at < length sheet)
  moves = (further, headed_inside H)

-- ---- names of the run's variables for what a turn leaves
pub ran_as : {h : Head} {sheet : List ℕ} {c : Caller} {counts : LaneCounts} {t : Tiling} (v : View) {records flags book out : List ℕ} {at : ℕ} {r : Called} {book' out' : List ℕ}
    → c.head ≡ h → c.counts ≡ counts → t ≡ tiling_of v → records ≡ records_of v
    → RanCall c.head sheet c.seen c.counts t records flags book out at r book' out' → RanCall h sheet c.seen counts (tiling_of v) (records_of v) flags book out at r book' out'
ran_as v head counted tiles table R = rw (← head, ← counted, ← tiles, ← table) R

-- what a turn knows, from what its functions give
pub turn_at : {sheet : List ℕ} {x₀ : State} {out₀ waits₀ : List ℕ} {from so_far first : ℕ} (line : Line) {size : ℕ} {pointer : Place} {lanes : List Lane} {flags book out waits : List ℕ} {at len number : ℕ} {h : Head} {i : ℕ} {c : Caller} {counts : LaneCounts}
    {mid : List ℕ} {to : ℕ} {t : Tiling} {records : List ℕ} {r : Called} {book' out' : List ℕ}
    → Advanced sheet x₀ out₀ waits₀ from so_far first (line_now line size pointer lanes flags) book out waits at len number
    → number + 11 < 18446744073709551616 → Headed sheet at h → i ≡ entry_of h.lane
    → c ≡ caller_now h line size pointer counts (get_or lanes i idle_lane) (get_or flags i 0) → counts ≡ counts_of lanes
    → Numbered number out len mid to → t ≡ tiling_of line.view → records ≡ records_of line.view
    → RanCall c.head sheet c.seen c.counts t records flags book mid to r book' out' → length book' ≡ length book → length out' ≡ length out
    → Turn sheet x₀ out₀ from so_far first (line_now line size pointer lanes flags) book out at len number h c.seen counts r book' out' waits₀ waits
turn_at line {size} {pointer} {lanes} {flags} {number = number} {h} {i} {c} {counts} {mid} {to} advanced small headed own is same put tiles tabled ran same_book same_out =
    record {
      advanced = advanced;
      small = omega (arith, small);
      headed = headed;
      sees = sees_now (line_now line size pointer lanes flags) i (entry_of h.lane) counts c.seen own same (ap (λ (x : Caller). x.seen) is);
      same = same;
      mid = mid;
      start = to;
      put = put;
      ran = ran_as line.view (ap (λ (x : Caller). x.head) is) (ap (λ (x : Caller). x.counts) is) tiles tabled ran;
      same_book = same_book;
      same_out = same_out;
    }

-- a turn that leaves the counts of waiting as they are, and one that counts the answer of a lane
pub turned : {sheet : List ℕ} {x₀ : State} {out₀ waits₀ : List ℕ} {from so_far first : ℕ} (line : Line) {book out waits flags book' out' waits' flags' : List ℕ} {size at len size' at' len' n : ℕ} {pointer pointer' : Place}
    {lanes lanes' : List Lane} {counts counts' : LaneCounts} {number : LineNumber}
    → book ≡ book' → out ≡ out' → waits ≡ waits' → size ≡ size' → pointer ≡ pointer' → lanes ≡ lanes' → flags ≡ flags' → counts ≡ counts' → at ≡ at' → len ≡ len'
    → Advanced sheet x₀ out₀ waits₀ from so_far first (line_now line size' pointer' lanes' flags') book' out' waits' at' len' n → counts' ≡ counts_of lanes' → Keeps n number
    → (Advanced sheet x₀ out₀ waits₀ from so_far first (line_now line size pointer lanes flags) book out waits at len (number_in number)) × (counts ≡ counts_of lanes) × Keeps (number_in number) number
turned line a b w c d e f g i j advanced same keeps = (rw (a, b, w, c, d, e, f, i, j, keeps_number keeps) advanced, g ∙ same ∙ ap counts_of (sym e), keeps_own keeps)

pub turned_counted : {sheet : List ℕ} {x₀ : State} {out₀ waits₀ : List ℕ} {from so_far first : ℕ} (line : Line) {book out waits flags book' out' waits' flags' : List ℕ} {size at len size' at' len' n : ℕ} {pointer pointer' : Place}
    {lanes lanes' : List Lane} {counts counts' : LaneCounts} {number : LineNumber} (before : List ℕ) (answer : Answer) {i k : ℕ}
    → book ≡ book' → out ≡ out' → waits ≡ waits' → size ≡ size' → pointer ≡ pointer' → lanes ≡ lanes' → flags ≡ flags' → counts ≡ counts' → at ≡ at' → len ≡ len'
    → waits' ≡ counted before i answer → i ≡ k
    → Advanced sheet x₀ out₀ waits₀ from so_far first (line_now line size' pointer' lanes' flags') book' out' (counted before k answer) at' len' n → counts' ≡ counts_of lanes' → Keeps n number
    → (Advanced sheet x₀ out₀ waits₀ from so_far first (line_now line size pointer lanes flags) book out waits at len (number_in number)) × (counts ≡ counts_of lanes) × Keeps (number_in number) number
turned_counted line before answer a b w c d e f g i' j v own advanced same keeps =
    turned line a b (w ∙ v ∙ ap (λ (m : ℕ). counted before m answer) own) c d e f g i' j advanced same keeps
