-- From an opening, a seek or a change of view to the next, the places handed out are all from the first pointer value up to the last, in order.
use Rattle.std.specs.Prelude.{Option, Some, None}
use Prim.Native.Nat.{ℕ, zero, suc, ◌+◌, ◌-◌, ◌≤◌, ◌<◌}
use mathlib.Core.Path.{◌≡◌, refl, sym, ap, ◌∙◌}
use mathlib.Core.Bool.{Bool, true, false, cond, ◌&&◌, ◌||◌}
use mathlib.Core.List.{List, [], ◌∷◌, ◌++◌, map, append_assoc, append-nil}
use native.Mathlib.Omega.{arith}
use native.Mathlib.Nat.{add-zero, suc-add, zero-add}
use native.Mathlib.Decide.{ℕ_discrete}
use lib.ListN.{get_or, set}
use lib.Dec.{eqb, leb}
use borrow.Author.Tests.{eq-eqb, eqb-true, ne_eqb}
use Rattle.lists.specs.Lists.{all_pass, count_pass, sum_of}
use Rattle.lists.proofs.Tests.{at_test, both, by_test, clash}
use Rattle.lists.proofs.Counts.{bit_zero}
use Rattle.view.specs.View.{place, record_end}
use Rattle.view.specs.declared.Place.{Place}
use Rattle.line.specs.declared.Purpose.{Purpose}
use Rattle.line.specs.declared.Phase.{Phase}
use Rattle.line.specs.declared.Lane.{Lane}
use Rattle.line.specs.declared.Line.{Line}
use Rattle.line.specs.Line.{count_in, idle_lane, is_idle_or_gathered, lane, on, phase_at, is_waiting}
use Rattle.line.specs.Sound.{gathered_total}
use Rattle.line.proofs.Phases.{numbered_is}
use Rattle.waitlist.specs.NextLane.{next_lane}
use Rattle.event.specs.Event.{given}
use Rattle.event.specs.declared.Event.{Event}
use Rattle.steps.specs.Answer.{said_by}
use Rattle.steps.specs.State.{Result, State, fresh}
use Rattle.steps.specs.Effects.{all_entered, entered, lowered, next_of, freed, one_less, ordered, others_down, purpose_of, reading, released, wake, woken, writing}
use Rattle.steps.specs.Step.{after_by, step_by}
use Rattle.steps.proofs.Cases.{Steps, enters, frees, looks, opens, puts, reads, receives, refuses, seeks, take_reads, take_writes, views, wants, writes}
use Rattle.steps.proofs.Keeps.{GoodState, fresh_idle, holding_value}
use Rattle.steps.proofs.Lanes.{wake_lanes}
use Rattle.steps.proofs.Ordered.{busy_by, entered_all, started_by}
use Rattle.steps.proofs.Stored.{other_phase, placed, same_phase}
use Rattle.trace.specs.Trace.{CallBytes, Entry, after_all, call_in, entries, has_values, is_reset, value}
use Rattle.demand3.specs.Claim.{OrderedEntry, Grant, Handed, count_for, entered_after, entered_next, grants, grants_by, hand_to, handed, hands_out, places_from, shares}
use Rattle.trace.proofs.Seen.{by_entry, shown_entry}
use Rattle.demand3.proofs.Trace.{entry_on, then, then_good}

-- ---- ranges, and the places of grants
abbrev places : List Grant → List ℕ
places gs = map (λ (h : Handed). h.place) (handed gs)

abbrev pub total : List Grant → ℕ
total gs = sum_of (λ (g : Grant). g.count) gs

range_add : (a m k : ℕ) → places_from a m ++ places_from (a + m) k ≡ places_from a (m + k)
unfolding places_from
range_add a zero k = simp (add-zero, zero-add)
range_add a (suc m) k = let e : a + suc m ≡ suc a + m = omega arith in rw (e, suc-add m k, range_add (suc a) m k)

map_append : (a b : List Handed) → map (λ (h : Handed). h.place) (a ++ b) ≡ map (λ (h : Handed). h.place) a ++ map (λ (h : Handed). h.place) b
map_append [] b = refl
map_append (h ∷ a) b = rw (map_append a b)

hand_range : (i from n : ℕ) → map (λ (h : Handed). h.place) (hand_to i from n) ≡ places_from from n
unfolding hand_to places_from
hand_range i from zero = refl
hand_range i from (suc n) = rw (hand_range i (suc from) n)

handed_append : (a b : List Grant) → handed (a ++ b) ≡ handed a ++ handed b
unfolding handed
handed_append [] b = refl
handed_append (g ∷ a) b = rw (handed_append a b) (sym (append_assoc (hand_to g.lane g.from g.count) (handed a) (handed b)))

total_append : (a b : List Grant) → total (a ++ b) ≡ total a + total b
total_append [] b = omega arith
total_append (g ∷ a) b = let ih = total_append a b in omega arith

-- grants that follow one another
join : (a b : List Grant) (p q : ℕ) → q ≡ p + total a → places a ≡ places_from p (total a) → places b ≡ places_from q (total b) → places (a ++ b) ≡ places_from p (total (a ++ b))
join a b p q e u v = ap (map (λ (h : Handed). h.place)) (handed_append a b) ∙ map_append (handed a) (handed b) ∙ rw (u, v, e, total_append a b) (range_add p (total a) (total b))

one_grant : (g : Grant) → places (g ∷ []) ≡ places_from g.from (total (g ∷ []))
unfolding handed
one_grant g =
    let z : g.count + 0 ≡ g.count = omega arith in
    ap (map (λ (h : Handed). h.place)) (append-nil (hand_to g.lane g.from g.count)) ∙ hand_range g.lane g.from g.count ∙ rw z

shares_range : (ns : List OrderedEntry) (r from n : ℕ) → places (shares ns r from n) ≡ places_from from (total (shares ns r from n))
unfolding shares places_from handed
shares_range ns r from zero = refl
shares_range ns r from (suc n) =
    let g : Grant = record { lane = r; from = from; count = count_for ns r } in
    let e : from + count_for ns r ≡ from + total (g ∷ []) = omega arith in
    join (g ∷ []) (shares ns (suc r) (from + count_for ns r) n) from (from + count_for ns r) e (one_grant g) (shares_range ns (suc r) (from + count_for ns r) n)

-- ---- the counts of an ordered call: those of the accepted 0A are those of the gathered lanes
pub record Gathers (ns : List OrderedEntry) (l : Line) : Type 0 where
  pub each : (r : ℕ) → count_for ns r ≡ count_in (phase_at l r)

no_counts : (ls : List Lane) → ((r : ℕ) → count_in (get_or ls r idle_lane).phase ≡ 0) → gathered_total ls ≡ 0
no_counts [] f = refl
no_counts (x ∷ xs) f = let a = f 0 in let b = no_counts xs (λ r. f (suc r)) in omega arith

shares_total : (ls : List Lane) (ns : List OrderedEntry) (k from n : ℕ) → ((r : ℕ) → count_for ns (k + r) ≡ count_in (get_or ls r idle_lane).phase)
    → ((r : ℕ) → n ≤ r → count_in (get_or ls r idle_lane).phase ≡ 0) → total (shares ns k from n) ≡ gathered_total ls
unfolding shares
shares_total ls ns k from zero f z = sym (no_counts ls (λ r. z r (omega arith)))
shares_total [] ns k from (suc n) f z =
    let a : count_for ns k ≡ 0 = rw add-zero at (f 0) in
    let b = shares_total [] ns (suc k) (from + count_for ns k) n (λ r. let e : suc k + r ≡ k + suc r = omega arith in rw e (f (suc r))) (λ r h. refl) in
    omega arith
shares_total (x ∷ xs) ns k from (suc n) f z =
    let a : count_for ns k ≡ count_in x.phase = rw add-zero at (f 0) in
    let b = shares_total xs ns (suc k) (from + count_for ns k) n (λ r. let e : suc k + r ≡ k + suc r = omega arith in rw e (f (suc r))) (λ r h. z (suc r) (omega arith)) in
    omega arith

-- ---- a step that is no reset hands out its places from the pointer on, and moves the pointer past them
pub record Moves (x : State) (ns : List OrderedEntry) (e : Entry) (r : Result) : Type 0 where
  pub pointer : r.after.line.pointer.0 ≡ x.line.pointer.0 + total (grants_by x.line.lanes ns e)
  pub in_order : map (λ (h : Handed). h.place) (handed (grants_by x.line.lanes ns e)) ≡ places_from x.line.pointer.0 (total (grants_by x.line.lanes ns e))
  pub gathers : Gathers (entered_next ns e) r.after.line
  pub lanes : r.after.line.lanes ≡ x.line.lanes
  pub told : hands_out e ≡ true → value 1 e ≡ total (grants_by x.line.lanes ns e)

wake_pointer : (t : Line) (w : Option ℕ) → (wake t w).pointer ≡ t.pointer
wake_pointer t (Some i) = refl
wake_pointer t None = refl

woken_count : (v : Place) (y : Phase) → count_in (woken v y) ≡ count_in y
woken_count v y =
    by_test (is_waiting y) (λ w. let none : count_in y ≡ 0 = ap count_in (numbered_is y 1 w) in rw (w, none)) (λ w. rw w)

busy_count : (n : ℕ) (y : Phase) → count_in y ≡ 0 → count_in (cond (eqb n 0) Phase.Idle y) ≡ 0
busy_count n y e = busy_by (λ (z : Phase). count_in z ≡ 0) n y (λ z. refl) (λ z. e)

-- lane j gets a phase with the same count
same_count : (l : Line) (j r : ℕ) (y : Phase) → count_in y ≡ count_in (phase_at l j) → count_in (get_or (placed l j y) r idle_lane).phase ≡ count_in (phase_at l r)
same_count l j r y e = set_same (on count_in) l.lane j r (lane y) idle_lane e
  where
    set_same : (f : Lane → ℕ) (ls : List Lane) (j r : ℕ) (a d : Lane) → f a ≡ f (get_or ls j d) → f (get_or (set ls j a) r d) ≡ f (get_or ls r d)
    set_same f [] j r a d e = refl
    set_same f (x ∷ xs) zero zero a d e = e
    set_same f (x ∷ xs) zero (suc r) a d e = refl
    set_same f (x ∷ xs) (suc j) zero a d e = refl
    set_same f (x ∷ xs) (suc j) (suc r) a d e = set_same f xs j r a d e

wake_count : (t : Line) (w : Option ℕ) (r : ℕ) → count_in (phase_at (wake t w) r) ≡ count_in (phase_at t r)
wake_count t (Some i) r = same_count t i r (woken t.pointer (phase_at t i)) (woken_count t.pointer (phase_at t i))
wake_count t None r = refl

module _ (x : State) (G : GoodState x) (ns : List OrderedEntry) (C : Gathers ns x.line) where
  -- a step that hands nothing out, after which every lane has the count that it had
  hands_out_nothing : (e : Entry) (r : Result) → grants_by x.line.lanes ns e ≡ [] → entered_next ns e ≡ ns → r.after.line.pointer.0 ≡ x.line.pointer.0
      → r.after.line.lanes ≡ x.line.lanes → hands_out e ≡ false → ((k : ℕ) → count_in (phase_at r.after.line k) ≡ count_in (phase_at x.line k)) → Moves x ns e r
  unfolding handed places_from
  hands_out_nothing e r g n p q o c =
      record {
        pointer = rw g (omega arith);
        in_order = rw g nothing;
        gathers = record { each = λ k. rw n (C.each k ∙ sym (c k)) };
        lanes = q;
        told = λ z. both z o;
      }
    where
      nothing : map (λ (h : Handed). h.place) (handed []) ≡ places_from x.line.pointer.0 0
      nothing = refl

  -- lane j changes between phases with no count
  same_counts : (j : ℕ) (o y : Phase) → phase_at x.line j ≡ o → count_in o ≡ 0 → count_in y ≡ 0 → (k : ℕ) → count_in (get_or (placed x.line j y) k idle_lane).phase ≡ count_in (phase_at x.line k)
  same_counts j o y e a b k = same_count x.line j k y (b ∙ sym (ap count_in e ∙ a))

  -- a take by lane j, which holds with the pointer
  take_moves : (e : Entry) (r : Result) (j c : ℕ) (p : Purpose) (v : Place) (y : Phase) → phase_at x.line j ≡ Phase.Holding p v → count_in y ≡ 0
      → grants_by x.line.lanes ns e ≡ record { lane = j; from = v.0; count = c } ∷ [] → entered_next ns e ≡ ns → value 1 e ≡ c
      → r.after.line ≡ released next_lane (lowered x.line j y (place (v.0 + c))) j → Moves x ns e r
  take_moves e r j c p v y q cy g n count al =
      let value = holding_value x.line G.facts j p v q in
      record {
        pointer = rw (g, al, wake_pointer (lowered x.line j y (place (v.0 + c))) (next_of next_lane (lowered x.line j y (place (v.0 + c))) j)) (omega arith);
        in_order = rw g (one_grant (record { lane = j; from = v.0; count = c }) ∙ ap (λ (m : ℕ). places_from m (c + 0)) value);
        gathers = record { each = λ k. rw (n, al) (C.each k ∙ sym (wake_count (lowered x.line j y (place (v.0 + c))) (next_of next_lane (lowered x.line j y (place (v.0 + c))) j) k ∙ same_counts j (Phase.Holding p v) y q refl cy k)) };
        lanes = rw al (wake_lanes (lowered x.line j y (place (v.0 + c))) (next_of next_lane (lowered x.line j y (place (v.0 + c))) j));
        told = λ z. rw g (count ∙ sym (add-zero c));
      }

  -- lane j enters with count c
  enter_counts : (j c : ℕ) → j < x.line.lanes → (r : ℕ) → count_for (record { lane = j; count = c } ∷ ns) r ≡ count_in (get_or (entered x.line j c) r idle_lane).phase
  unfolding count_for
  enter_counts j c h r =
      elim (ℕ_discrete j r) [
        | yes z ↦ rw (eq-eqb j r z, ← z, same_phase x.line G.facts.base j (Phase.Gathered c) h)
        | no z ↦ rw (ne_eqb j r z, other_phase x.line j r (Phase.Gathered c) (λ u. z (sym u))) (C.each r)
      ]

  nothing_handed : map (λ (h : Handed). h.place) (handed []) ≡ places_from x.line.pointer.0 0
  unfolding handed places_from
  nothing_handed = refl

  -- lane j is the last to enter
  complete_moves : (j c : ℕ) → j < x.line.lanes → phase_at x.line j ≡ Phase.Idle → all_pass (on is_idle_or_gathered) x.line.lane ≡ true → (d : Entry)
      → Moves x ns (shown_entry (Event.Enter j c) d (said_by (ordered x (entered x.line j c)).answer)) (ordered x (entered x.line j c))
  unfolding count_for
  complete_moves j c h q g d =
      let ms : List OrderedEntry = record { lane = j; count = c } ∷ ns in
      let sum : total (shares ms 0 x.line.pointer.0 x.line.lanes) ≡ gathered_total (entered x.line j c) =
      shares_total (entered x.line j c) ms 0 x.line.pointer.0 x.line.lanes
      (λ r. let z : 0 + r ≡ r = omega arith in rw z (enter_counts j c h r))
      (λ r p. ap count_in (other_phase x.line j r (Phase.Gathered c) (λ u. omega arith) ∙ G.facts.base.past r p)) in
      record {
        pointer = rw sum;
        in_order = shares_range ms 0 x.line.pointer.0 x.line.lanes;
        gathers = record { each = λ r. sym (started_by (λ (y : Phase). count_in y ≡ 0) refl (λ n v. refl) x.line.pointer.0 (entered x.line j c) (entered_all x.line j c g) r) };
        lanes = refl;
        told = λ z. sym sum;
      }

  pub moves : (e : Event) (d : Entry) (r : Result) → Steps next_lane x (given e) r → is_reset (shown_entry e d (said_by r.answer)) ≡ false → Moves x ns (shown_entry e d (said_by r.answer)) r
  moves e d r (refuses n) f = hands_out_nothing _ _ refl refl refl refl refl (λ k. refl)
  moves e d r (opens lanes capacity z a b c g h) f = clash f
  moves e d r (wants j p h q g m) f =
      at_test (λ (t : Result). Moves x ns (shown_entry (Event.Want j p) d (said_by t.answer)) t) (others_down x.line j) _ _
      (λ t. hands_out_nothing _ _ refl refl refl refl refl (same_counts j Phase.Idle (Phase.Holding (purpose_of p) x.line.pointer) q refl refl))
      (λ t. hands_out_nothing _ _ refl refl refl refl refl (same_counts j Phase.Idle (Phase.Waiting (purpose_of p)) q refl refl))
  moves e d r (receives j p v h q) f = hands_out_nothing _ _ refl refl refl refl refl (same_counts j (Phase.Woken p v) (Phase.Holding p v) q refl refl)
  moves e d r (take_writes j c v h q g) f = take_moves _ _ j c Purpose.SharedWrite v (writing c v) q (busy_count c (Phase.BusyWriting c v) refl) refl refl refl refl
  moves e d r (take_reads j c v h q g) f = take_moves _ _ j c Purpose.SharedRead v (reading c v) q (busy_count c (Phase.BusyReading c v) refl) refl refl refl refl
  moves e d r (writes j content n k h q) f =
      hands_out_nothing _ _ refl refl refl refl refl (same_counts j (Phase.BusyWriting n k) (one_less (Phase.BusyWriting n k)) q refl (busy_count (n - 1) (Phase.BusyWriting (n - 1) (place (k.0 + 1))) refl))
  moves e d r (reads j n k h q) f =
      let c = same_counts j (Phase.BusyReading n k) (one_less (Phase.BusyReading n k)) q refl (busy_count (n - 1) (Phase.BusyReading (n - 1) (place (k.0 + 1))) refl) in
      by_test (leb (record_end x.line.view k) x.line.size) (λ t. rw t (hands_out_nothing _ _ refl refl refl refl refl c)) (λ t. rw t (hands_out_nothing _ _ refl refl refl refl refl c))
  moves e d r (puts j k content v h q g) f = hands_out_nothing _ _ refl refl refl refl refl (λ m. refl)
  moves e d r (looks j k v h q) f =
      by_test (leb (record_end x.line.view k) x.line.size) (λ t. rw t (hands_out_nothing _ _ refl refl refl refl refl (λ m. refl))) (λ t. rw t (hands_out_nothing _ _ refl refl refl refl refl (λ m. refl)))
  moves e d r (frees j v h q) f =
      let t = freed x.line j in
      hands_out_nothing _ _ refl refl (ap (λ (k : Place). k.0) (wake_pointer t (next_of next_lane t j))) (wake_lanes t (next_of next_lane t j)) refl
      (λ k. wake_count t (next_of next_lane t j) k ∙ same_counts j (Phase.Holding Purpose.WholeBook v) Phase.Idle q refl refl k)
  moves e d r (enters j c h q g o) f =
      at_test (λ (t : Result). Moves x ns (shown_entry (Event.Enter j c) d (said_by t.answer)) t) (all_entered x.line (entered x.line j c)) _ _
      (λ t. complete_moves j c h q g d)
      (λ t. record { pointer = omega arith; in_order = nothing_handed; gathers = record { each = enter_counts j c h }; lanes = refl; told = λ z. clash (sym z) })
  moves e d r (views displacement extent used blocks z o g) f = clash f
  moves e d r (seeks whence offset n z t m g) f = clash f

-- ---- over a stretch of calls with no reset
pub record Placed (x : State) (gs : List CallBytes) (ns : List OrderedEntry) : Type 0 where
  pub in_order : map (λ (h : Handed). h.place) (handed (grants x.line.lanes ns (entries next_lane x gs))) ≡ places_from x.line.pointer.0 (total (grants x.line.lanes ns (entries next_lane x gs)))
  pub last : (after_all next_lane x gs).line.pointer.0 ≡ x.line.pointer.0 + total (grants x.line.lanes ns (entries next_lane x gs))

moves_on : (x : State) → GoodState x → (ns : List OrderedEntry) → Gathers ns x.line → (g : CallBytes) → is_reset (entry_on x g) ≡ false → Moves x ns (entry_on x g) (step_by next_lane x (call_in g))
moves_on x G ns C g =
    by_entry x g (λ (e : Entry) (r : Result). is_reset e ≡ false → Moves x ns e r) (λ d n f. hands_out_nothing x G ns C _ _ refl refl refl refl refl (λ k. refl)) (moves x G ns C)

sums : (a b c p q : ℕ) → a ≡ q + c → q ≡ p + b → a ≡ p + (b + c)
sums a b c p q e f = omega arith

-- one call and then the others, whose N is the same
first_then : (g : CallBytes) (gs : List CallBytes) (x : State) (ns : List OrderedEntry) → Moves x ns (entry_on x g) (step_by next_lane x (call_in g))
    → Placed (then x g) gs (entered_next ns (entry_on x g)) → Placed x (g ∷ gs) ns
unfolding entries grants after_by
first_then g gs x ns m P =
    let ms = entered_next ns (entry_on x g) in
    let a = grants_by x.line.lanes ns (entry_on x g) in
    let b : List Grant = grants x.line.lanes ms (entries next_lane (then x g) gs) in
    let places-b : places b ≡ places_from (then x g).line.pointer.0 (total b) = rw m.lanes at P.in_order in
    let last-b : (after_all next_lane (then x g) gs).line.pointer.0 ≡ (then x g).line.pointer.0 + total b = rw m.lanes at P.last in
    record {
      in_order = join a b x.line.pointer.0 (then x g).line.pointer.0 m.pointer m.in_order places-b;
      last = sums (after_all next_lane (then x g) gs).line.pointer.0 (total a) (total b) x.line.pointer.0 (then x g).line.pointer.0 last-b m.pointer ∙ ap (λ (n : ℕ). x.line.pointer.0 + n) (sym (total_append a b));
    }

pub all_placed : (gs : List CallBytes) (x : State) (ns : List OrderedEntry) → GoodState x → Gathers ns x.line → count_pass is_reset (entries next_lane x gs) ≡ 0 → Placed x gs ns
unfolding entries grants after_by handed places_from
all_placed [] x ns G C z = record { in_order = refl; last = omega arith }
all_placed (g ∷ gs) x ns G C z =
    let f : is_reset (entry_on x g) ≡ false = bit_zero (is_reset (entry_on x g)) (omega arith) in
    let m = moves_on x G ns C g f in
    first_then g gs x ns m (all_placed gs (then x g) (entered_next ns (entry_on x g)) (then_good x g G) m.gathers (omega arith))

-- ---- the accepted 0A along a list, resets included
-- another kind is no reset, accepted or not
no_reset : {X : Type 0} (b : Bool) → b && false || b && false || b && false ≡ true → X
no_reset true e = clash (sym e)
no_reset false e = clash (sym e)

reset_gathers : (x : State) → GoodState x → (ns : List OrderedEntry) → Gathers ns x.line → (g : CallBytes) → is_reset (entry_on x g) ≡ true → Gathers (entered_next ns (entry_on x g)) (then x g).line
reset_gathers x G ns C g =
    by_entry x g (λ (e : Entry) (r : Result). is_reset e ≡ true → Gathers (entered_next ns e) r.after.line) (λ d n f. clash (sym f)) resets
  where
    resets : (e : Event) (d : Entry) (r : Result) → Steps next_lane x (given e) r → is_reset (shown_entry e d (said_by r.answer)) ≡ true → Gathers (entered_next ns (shown_entry e d (said_by r.answer))) r.after.line
    resets e d r (refuses n) f = clash (sym f)
    resets e d r (opens lanes capacity z a b c i h) f =
        record { each = λ k. C.each k ∙ ap count_in (G.facts.base.past k (omega arith)) ∙ sym (ap count_in (fresh_idle lanes capacity k)) }
    resets e d r (wants j p h q i m) f = no_reset (said_by r.answer).accepted f
    resets e d r (receives j p v h q) f = clash (sym f)
    resets e d r (take_writes j c v h q i) f = clash (sym f)
    resets e d r (take_reads j c v h q i) f = clash (sym f)
    resets e d r (writes j content n k h q) f = clash (sym f)
    resets e d r (reads j n k h q) f = no_reset (said_by r.answer).accepted f
    resets e d r (puts j k content v h q i) f = clash (sym f)
    resets e d r (looks j k v h q) f = no_reset (said_by r.answer).accepted f
    resets e d r (frees j v h q) f = clash (sym f)
    resets e d r (enters j c h q i o) f = no_reset (said_by r.answer).accepted f
    resets e d r (views displacement extent used blocks z o i) f = record { each = C.each }
    resets e d r (seeks whence offset n z t m i) f = record { each = C.each }

pub gathers_all : (gs : List CallBytes) (x : State) (ns : List OrderedEntry) → GoodState x → Gathers ns x.line → Gathers (entered_after ns (entries next_lane x gs)) (after_all next_lane x gs).line
unfolding entries entered_after after_by
gathers_all [] x ns G C = C
gathers_all (g ∷ gs) x ns G C =
    gathers_all gs (then x g) (entered_next ns (entry_on x g)) (then_good x g G)
    (by_test (is_reset (entry_on x g)) (reset_gathers x G ns C g) (λ f. (moves_on x G ns C g f).gathers))

-- at the start no lane is gathered
pub start_gathers : (book : List ℕ) → Gathers [] (fresh book).line
unfolding count_for
start_gathers book = record { each = λ r. sym (ap count_in (fresh_idle 0 0 r)) }

-- ---- the counts that the answers tell
no_count : {X : Type 0} (b c : Bool) → b && false || (b && false) && c ≡ true → X
no_count true c e = clash (sym e)
no_count false c e = clash (sym e)

-- a reset hands nothing out
reset_none : {X : Type 0} (e : Entry) → is_reset e ≡ true → hands_out e ≡ true → X
reset_none e f t =
    by_test (eqb e.kind 0x04) (λ k. no_reset e.said.accepted (rw (eqb-true e.kind 0x04 k) at f))
    (λ k. by_test (eqb e.kind 0x0A) (λ m. no_reset e.said.accepted (rw (eqb-true e.kind 0x0A m) at f))
    (λ m. no_count e.said.accepted (eqb e.said.number 0x0A && has_values e) (rw (k, m) at t)))

pub count_told : (x : State) → GoodState x → (ns : List OrderedEntry) → Gathers ns x.line → (g : CallBytes) → hands_out (entry_on x g) ≡ true
    → value 1 (entry_on x g) ≡ total (grants_by x.line.lanes ns (entry_on x g))
count_told x G ns C g t = by_test (is_reset (entry_on x g)) (λ f. reset_none (entry_on x g) f t) (λ f. (moves_on x G ns C g f).told t)
