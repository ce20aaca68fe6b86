-- A release keeps a sound line sound, and wakes the nearest lane that waits.
use Rattle.std.specs.Prelude.{Option, Some, None}
use Prim.Native.Nat.{ℕ, ◌+◌, ◌≤◌, ◌<◌}
use mathlib.Core.Path.{◌≡◌, refl, sym, ap, ◌∙◌}
use mathlib.Core.Logic.{◌≢◌}
use mathlib.Core.Bool.{Bool, true, false}
use native.Mathlib.Omega.{arith}
use native.Mathlib.Decide.{dec_lt}
use lib.ListN.{get_or, length, set, get_or-map}
use lib.Dec.{eqb}
use borrow.Author.Tests.{eq-eqb}
use Rattle.lists.specs.Lists.{all_pass, bit, count_pass}
use Rattle.lists.proofs.Tests.{both}
use Rattle.lists.proofs.Counts.{all_none, all_set, count_find, count_pos, count_zero}
use Rattle.view.specs.declared.Place.{Place}
use Rattle.line.specs.declared.Purpose.{Purpose}
use Rattle.line.specs.declared.Phase.{Phase}
use Rattle.line.specs.declared.Line.{Line}
use Rattle.line.specs.Line.{flag_for, has_turn, idle_lane, is_flagged, is_gathered, lane, on, phase_at, purpose_in}
use Rattle.line.specs.Sound.{apart, region_ok, value_ok}
use Rattle.line.proofs.Phases.{no_value, one_up, waiting_is}
use Rattle.line.proofs.Facts.{Base, Facts, Gathering}
use Rattle.waitlist.specs.Distance.{distance}
use Rattle.waitlist.specs.NextLane.{next_lane, raised}
use Rattle.waitlist.proofs.Nearest.{Next, next_found, next_none}
use Rattle.steps.specs.State.{with_pointer}
use Rattle.steps.specs.Effects.{lowered, next_of, released, wake, woken}
use Rattle.steps.proofs.Stored.{flags_same, flags_set, kinds_count, other_phase, placed, ready_length, recount, same_phase, short, store_base, stored}

-- a flag is up where the lane's phase says so
pub raised_up : (l : Line) → Base l → (j : ℕ) → raised l.flag j ≡ is_flagged (phase_at l j)
raised_up l B j =
    let e : get_or l.flag j 0 ≡ flag_for (phase_at l j) = rw B.flags (get_or-map (on flag_for) l.lane j idle_lane) in
    ap (λ (n : ℕ). eqb n 1) e ∙ one_up (phase_at l j)

-- where a flag is up nobody is gathered
pub none_gathered : (l : Line) → Facts l → 0 < count_pass (on is_flagged) l.lane → count_pass (on is_gathered) l.lane ≡ 0
none_gathered l F u =
    elim (dec_lt 0 (count_pass (on is_gathered) l.lane)) [
      | yes g ↦ absurd (omega (arith, kinds_count l.lane, ready_length l (F.gathering g), F.base.long))
      | no g ↦ omega arith
    ]

-- lane i, in phase o with the turn, leaves for phase y, and the pointer becomes k
pub record Leaving (l : Line) (i : ℕ) (o y : Phase) (k : Place) : Type 0 where
  pub inside : i < l.lanes
  pub was : phase_at l i ≡ o
  pub turn : has_turn o ≡ true
  pub up : is_flagged o ≡ true
  pub no_turn : has_turn y ≡ false
  pub down : flag_for y ≡ 0
  pub not_gathered : is_gathered y ≡ false
  pub rise : l.pointer.0 ≤ k.0
  pub ok : region_ok (with_pointer l k) y ≡ true
  pub away : (j : ℕ) → j ≢ i → apart y (phase_at l j) ≡ true

-- w is the lane that a release by i wakes
pub record Chosen (l : Line) (i w : ℕ) : Type 0 where
  pub inside : w < l.lanes
  pub other : w ≢ i
  pub purpose : Purpose
  pub was : phase_at l w ≡ Phase.Waiting purpose
  pub nearer : (j : ℕ) → j < l.lanes → is_flagged (phase_at l j) ≡ true → j ≢ i → j ≢ w → distance l.lanes w j < distance l.lanes i j

module _ (l : Line) (F : Facts l) (i : ℕ) (o y : Phase) (k : Place) (L : Leaving l i o y k) where
  -- the line between the releaser's leaving and the wake
  abbrev between : Line
  between = lowered l i y k

  down_up : is_flagged y ≡ false
  down_up = sym (one_up y) ∙ ap (λ (n : ℕ). eqb n 1) L.down

  between_base : Base between
  between_base = store_base l F.base i y k (set l.flag i 0) L.inside L.rise (flags_set l F.base i y 0 (sym L.down)) L.ok L.away

  -- one flag less is up, nobody has the turn, nobody is gathered
  pub up_less : count_pass (on is_flagged) l.lane ≡ count_pass (on is_flagged) (placed l i y) + 1
  up_less =
      let r : count_pass (on is_flagged) (placed l i y) + bit true ≡ count_pass (on is_flagged) l.lane + bit false = rw (L.up, down_up) at (recount l F.base is_flagged i o y L.inside L.was) in
      omega arith

  pub turn_none : count_pass (on has_turn) (placed l i y) ≡ 0
  turn_none =
      let r : count_pass (on has_turn) (placed l i y) + bit true ≡ count_pass (on has_turn) l.lane + bit false = rw (L.turn, L.no_turn) at (recount l F.base has_turn i o y L.inside L.was) in
      omega (arith, F.turn.one)

  pub gathered_none : count_pass (on is_gathered) (placed l i y) ≡ 0
  gathered_none =
      let r : count_pass (on is_gathered) (placed l i y) + bit (is_gathered o) ≡ count_pass (on is_gathered) l.lane + bit false = rw L.not_gathered at (recount l F.base is_gathered i o y L.inside L.was) in
      let q = none_gathered l F (omega (arith, up_less)) in omega arith

  own_down : raised (set l.flag i 0) i ≡ false
  own_down = raised_up between between_base i ∙ ap is_flagged (same_phase l F.base i y L.inside) ∙ down_up

  -- a lane that is up after the drop is another one, and was up before
  up_other : (j : ℕ) → raised (set l.flag i 0) j ≡ true → j ≢ i
  up_other j u z = both u (rw z own_down)

  values_none : all_pass (on (value_ok k)) (placed l i y) ≡ true
  values_none = all_none (on has_turn) (on (value_ok k)) (λ x e. no_value k x.phase e) (placed l i y) turn_none

  no_gathering : 0 < count_pass (on is_gathered) (placed l i y) → Gathering between
  no_gathering g = absurd (omega (arith, gathered_none))

  -- ---- nobody waits
  release_alone : next_of next_lane between i ≡ None → Facts between
  release_alone q =
      record {
        base = between_base;
        turn = record { one = omega (arith, turn_none, none_up); values = values_none };
        gathering = no_gathering;
      }
    where
      found : ((j : ℕ) × (j < length (placed l i y)) × (is_flagged (get_or (placed l i y) j idle_lane).phase ≡ true)) → ⊥
      found r =
          elim (dec_lt r.0 l.lanes) [
            | yes b ↦ both (raised_up between between_base r.0 ∙ r.2) (next_none l.lanes (set l.flag i 0) i L.inside own_down q r.0 b)
            | no b ↦ let z : is_flagged (get_or (placed l i y) r.0 idle_lane).phase ≡ false = rw (between_base.past r.0 (omega arith)) in both r.2 z
          ]

      none_up : count_pass (on is_flagged) (placed l i y) ≡ 0
      none_up =
          elim (dec_lt 0 (count_pass (on is_flagged) (placed l i y))) [
            | yes p ↦ absurd (found (count_find (on is_flagged) (placed l i y) idle_lane p))
            | no p ↦ omega arith
          ]

  -- ---- lane w is woken
  module _ (w : ℕ) (q : next_of next_lane between i ≡ Some w) where
    next : Next l.lanes (set l.flag i 0) i w
    next = next_found l.lanes (set l.flag i 0) i L.inside own_down w q

    other : w ≢ i
    other = up_other w next.up

    inside_lanes : w < length (placed l i y)
    inside_lanes = short between between_base w next.inside

    waits : phase_at between w ≡ Phase.Waiting (purpose_in (phase_at between w))
    waits =
        waiting_is (phase_at between w) (sym (raised_up between between_base w) ∙ next.up)
        (count_zero (on has_turn) (placed l i y) w idle_lane inside_lanes turn_none)

    pub chosen : Chosen l i w
    chosen =
        record {
          inside = next.inside;
          other = other;
          purpose = purpose_in (phase_at between w);
          was = sym (other_phase l i w y other) ∙ waits;
          nearer = λ j a b c d. next.nearer j a (raised_up between between_base j ∙ ap is_flagged (other_phase l i j y c) ∙ b) d;
        }

    abbrev wakened : Phase
    wakened = Phase.Woken (purpose_in (phase_at between w)) k

    recounts : (p : Phase → Bool) → count_pass (on p) (placed between w wakened) + bit (p (Phase.Waiting (purpose_in (phase_at between w)))) ≡ count_pass (on p) (placed l i y) + bit (p wakened)
    recounts p = recount between between_base p w (Phase.Waiting (purpose_in (phase_at between w))) wakened next.inside waits

    some_up : 0 < count_pass (on is_flagged) (placed l i y)
    some_up = count_pos (on is_flagged) (placed l i y) w idle_lane inside_lanes (rw waits)

    woken_facts : Facts (stored between w wakened k (set l.flag i 0))
    woken_facts =
        record {
          base = store_base between between_base w wakened k (set l.flag i 0) next.inside (omega arith) (flags_same between between_base w wakened (rw waits)) refl (λ j n. refl);
          turn =
              record {
                one = omega (arith, recounts has_turn, recounts is_flagged, turn_none, some_up);
                values = all_set (on (value_ok k)) (placed l i y) w (lane wakened) values_none (eq-eqb k.0 k.0 refl);
              };
          gathering = λ g. absurd (omega (arith, recounts is_gathered, gathered_none));
        }

    pub woken_is : wake between (Some w) ≡ stored between w wakened k (set l.flag i 0)
    woken_is = ap (λ (x : Phase). stored between w (woken k x) k (set l.flag i 0)) waits

  pub release_facts : Facts (released next_lane between i)
  release_facts = go (next_of next_lane between i) refl
    where
      go : (a : Option ℕ) → next_of next_lane between i ≡ a → Facts (wake between a)
      go None q = release_alone q
      go (Some w) q = rw (woken_is w q) (woken_facts w q)

module _ (l : Line) (F : Facts l) (i : ℕ) (o y : Phase) (k : Place) (L : Leaving l i o y k) where
  -- where nobody is woken no other lane is up
  pub alone : next_of next_lane (lowered l i y k) i ≡ None → (j : ℕ) → j < l.lanes → j ≢ i → is_flagged (phase_at l j) ≡ true → ⊥
  alone q j h n u =
      both (raised_up (lowered l i y k) (between_base l F i o y k L) j ∙ ap is_flagged (other_phase l i j y n) ∙ u)
      (next_none l.lanes (set l.flag i 0) i L.inside (own_down l F i o y k L) q j h)

  -- the lane that is woken has its wake under way, with the pointer that the release leaves
  pub woken_now : (w : ℕ) (q : next_of next_lane (lowered l i y k) i ≡ Some w)
      → phase_at (wake (lowered l i y k) (Some w)) w ≡ Phase.Woken (chosen l F i o y k L w q).purpose k
  unfolding chosen
  woken_now w q =
      ap (λ (t : Line). phase_at t w) (woken_is l F i o y k L w q)
      ∙ same_phase (lowered l i y k) (between_base l F i o y k L) w (Phase.Woken (chosen l F i o y k L w q).purpose k) (chosen l F i o y k L w q).inside
