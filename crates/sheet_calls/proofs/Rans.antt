-- What the functions of the kinds share: a call put together from what was read, decided and printed.
use Prim.Native.Nat.{ℕ, ◌+◌, ◌≤◌, ◌<◌}
use mathlib.Core.Path.{◌≡◌, refl, sym, ap, ◌∙◌, subst}
use mathlib.Core.Bool.{true, false, false≢true}
use mathlib.Core.List.{List, ◌∷◌}
use lib.ListN.{drop, length}
use native.Mathlib.Omega.{arith}
use Rattle.tiling.specs.declared.Tiling.{Tiling}
use Rattle.lane_tests.specs.declared.tallies.LaneCounts.{LaneCounts}
use Rattle.event.specs.Event.{event_of, fields_in}
use Rattle.event.specs.Refusal.{number_of}
use Rattle.event.specs.declared.Refusal.{Refusal}
use Rattle.event.proofs.Reasons.{some_number}
use Rattle.decode_fields.specs.Fields.{fields_at, total, values}
use Rattle.steps.specs.declared.Answer.{Answer}
use Rattle.changes.specs.Change.{counts_after, missing_lane}
use Rattle.changes.specs.declared.Change.{Change}
use Rattle.changes.specs.declared.Seen.{Seen}
use Rattle.changes.proofs.Steps.{lane_missing, lane_there}
use Rattle.scopes.specs.Scope.{lane_event}
use Rattle.scopes.specs.declared.LaneCall.{LaneCall}
use Rattle.lane_calls.specs.Decided.{book_decided}
use Rattle.lane_calls.proofs.Refused.{refused_book}
use Rattle.call_head.specs.Head.{lane_kind, rest_of}
use Rattle.call_head.specs.declared.Head.{Head}
use Rattle.call_head.proofs.Heads.{fields_there}
use Rattle.call_head.proofs.LaneKinds.{call_of, last_kind}
use Rattle.kind_text.specs.Put.{Put}
use Rattle.sheet_calls.specs.Calls.{RanAt, RanBy, RanCall, RanEnter, RanFree, RanLook, RanPut, RanRead, RanReceive, RanTake, RanWant, RanWrite, RefusedBy, called_with, is_refusal}
use Rattle.sheet_calls.specs.declared.Called.{Called}

-- `after` are the counts after it
pub ran_with : {decision : LaneCall → Change} {kind to lane at end next : ℕ} {sheet book out book_left out-left : List ℕ} {s : Seen} {counts after : LaneCounts} {c : Change} {r : Called}
    (call : LaneCall) (rest : List ℕ) → r ≡ called_with after c end next → (is_refusal c.answer ≡ false → after ≡ counts_after counts s c)
    → fields_at (rest_of kind) sheet to ≡ values rest next → event_of kind (lane ∷ rest) ≡ lane_event lane call
    → c ≡ decision call → book_left ≡ book_decided call book c.answer → Put c.answer out at out-left end
    → RanBy decision kind sheet to s counts lane book out at r book_left out-left
ran_with call rest is counted fields event change puts text =
    rw is
    (record {
      call = call;
      rest = rest;
      fields = fields;
      event = event;
      change = change;
      refused = refl;
      counted = counted;
      starts = refl;
      puts = puts;
      text = text;
    })

-- a reason's number is a byte
pub byte : (reason : Refusal) → number_of reason < 256
byte Refusal.NotSound = omega arith
byte Refusal.UnlistedKind = omega arith
byte Refusal.CutShort = omega arith
byte Refusal.NotOpen = omega arith
byte Refusal.AlreadyOpen = omega arith
byte Refusal.LanesOutside = omega arith
byte Refusal.CapacityOutside = omega arith
byte Refusal.NoSuchLane = omega arith
byte Refusal.AboveTwo = omega arith
byte Refusal.ViewBreaksRule = omega arith
byte Refusal.LaneNotIdle = omega arith
byte Refusal.LaneGathered = omega arith
byte Refusal.WrongPhase = omega arith
byte Refusal.NoWakeYet = omega arith
byte Refusal.PointerOutside = omega arith
byte Refusal.NoRoom = omega arith
byte Refusal.TooLarge = omega arith

-- a refusal with a number and up to an index that are known otherwise
pub refused_as : {s : Seen} {k j next past at : ℕ} {out out-left : List ℕ} {r : Called} → k ≡ j → next ≡ past → RefusedBy s k next out at r out-left → RefusedBy s j past out at r out-left
refused_as e f R = rw (← e, ← f) R

-- ---- a call of a lane, by its kind
module _ {h : Head} {sheet records flags book out book_left out-left : List ℕ} {s : Seen} {counts : LaneCounts} {t : Tiling} {at : ℕ} {r : Called} where
  -- 02 to 09, past the tests of the lane
  pub by_kind : (k : ℕ) → h.kind ≡ k → (k ≡ 10 → ⊥) → (missing_lane s.lanes h.lane) ≡ 0 → RanAt k sheet h.to s counts h.lane t records flags book out at r book_left out-left → RanCall h sheet s counts t records flags book out at r book_left out-left
  by_kind k e apart none R =
      record {
        lane_call = λ _. rw e
            (record {
              call = R.call;
              rest = R.rest;
              fields = R.fields;
              event = R.event;
              change = R.change ∙ sym (lane_there s h.lane _ none);
              refused = R.refused;
              counted = R.counted;
              starts = R.starts;
              puts = R.puts;
              text = R.text;
            });
        enter_call = λ ten. absurd (apart (sym e ∙ ten));
      }

  -- 0A, past them
  pub by_enter : h.kind ≡ 10 → (missing_lane s.lanes h.lane) ≡ 0 → RanEnter sheet h.to s counts t records out at r out-left → book_left ≡ book → RanCall h sheet s counts t records flags book out at r book_left out-left
  by_enter ten none R kept =
      record { lane_call = λ apart. absurd (apart ten); enter_call = λ _. record { missing = λ some. absurd (some none); entered = λ _. R; kept = kept } }

  -- refused by them
  pub by_missing : lane_kind h.kind ≡ true → h.to + total (rest_of h.kind) ≤ length sheet → ((missing_lane s.lanes h.lane) ≡ 0 → ⊥)
      → RefusedBy s (missing_lane s.lanes h.lane) (h.to + total (rest_of h.kind)) out at r out-left → book_left ≡ book → RanCall h sheet s counts t records flags book out at r book_left out-left
  by_missing kind room some R kept =
      record {
        lane_call = λ apart.
            let rest = fields_in (rest_of h.kind) (drop h.to sheet) in
            let found = call_of h.kind h.lane rest kind apart in
            let answer : r.change.answer ≡ Answer.Refused (missing_lane s.lanes h.lane) = ap (λ (c : Change). c.answer) R.change in
            record {
              call = found.0;
              rest = rest;
              fields = fields_there (rest_of h.kind) sheet h.to room ∙ ap (values rest) (sym R.past);
              event = found.1;
              change = R.change ∙ sym (lane_missing s h.lane _ some);
              refused = R.told ∙ rw answer;
              counted = λ f. absurd (false≢true (sym f ∙ R.told));
              starts = R.starts;
              puts = kept ∙ rw answer (refused_book found.0 book (missing_lane s.lanes h.lane));
              text = rw answer R.put;
            };
        enter_call = λ ten.
            record {
              missing = λ _. subst (λ (k : ℕ). RefusedBy s (missing_lane s.lanes h.lane) (h.to + total (rest_of k)) out at r out-left) ten R;
              entered = λ none. absurd (some none);
              kept = kept;
            };
      }

-- ---- the same by what each kind's function ensures
module _ {h : Head} {sheet records flags book out out-left : List ℕ} {s : Seen} {counts : LaneCounts} {t : Tiling} {at : ℕ} {r : Called} where
  pub by_want : h.kind ≡ 2 → missing_lane s.lanes h.lane ≡ 0 → RanWant s counts h.lane flags sheet h.to out at r out-left → RanCall h sheet s counts t records flags book out at r book out-left
  by_want e none R = by_kind 2 e (λ z. omega (arith, z)) none (R t records book)

  pub by_receive : h.kind ≡ 3 → missing_lane s.lanes h.lane ≡ 0 → h.to ≤ length sheet → RanReceive s counts h.to out at r out-left → RanCall h sheet s counts t records flags book out at r book out-left
  by_receive e none inside R = by_kind 3 e (λ z. omega (arith, z)) none (R h.lane t records flags book sheet inside)

  pub by_take : h.kind ≡ 4 → missing_lane s.lanes h.lane ≡ 0 → RanTake s counts h.lane t records flags sheet h.to out at r out-left → RanCall h sheet s counts t records flags book out at r book out-left
  by_take e none R = by_kind 4 e (λ z. omega (arith, z)) none (R book)

  pub by_write : {book_left : List ℕ} → h.kind ≡ 5 → missing_lane s.lanes h.lane ≡ 0 → RanWrite s counts t records book sheet h.to out at r book_left out-left → RanCall h sheet s counts t records flags book out at r book_left out-left
  by_write e none R = by_kind 5 e (λ z. omega (arith, z)) none (R h.lane flags)

  pub by_read : h.kind ≡ 6 → missing_lane s.lanes h.lane ≡ 0 → h.to ≤ length sheet → RanRead s counts t records book h.to out at r out-left → RanCall h sheet s counts t records flags book out at r book out-left
  by_read e none inside R = by_kind 6 e (λ z. omega (arith, z)) none (R h.lane flags sheet inside)

  pub by_put : {book_left : List ℕ} → h.kind ≡ 7 → missing_lane s.lanes h.lane ≡ 0 → RanPut s counts t records book sheet h.to out at r book_left out-left → RanCall h sheet s counts t records flags book out at r book_left out-left
  by_put e none R = by_kind 7 e (λ z. omega (arith, z)) none (R h.lane flags)

  pub by_look : h.kind ≡ 8 → missing_lane s.lanes h.lane ≡ 0 → RanLook s counts t records book sheet h.to out at r out-left → RanCall h sheet s counts t records flags book out at r book out-left
  by_look e none R = by_kind 8 e (λ z. omega (arith, z)) none (R h.lane flags)

  pub by_entered : h.kind ≡ 10 → missing_lane s.lanes h.lane ≡ 0 → RanEnter sheet h.to s counts t records out at r out-left → RanCall h sheet s counts t records flags book out at r book out-left
  by_entered e none R = by_enter e none R refl

  pub by_free : lane_kind h.kind ≡ true → (h.kind ≡ 2 → ⊥) → (h.kind ≡ 3 → ⊥) → (h.kind ≡ 4 → ⊥) → (h.kind ≡ 5 → ⊥) → (h.kind ≡ 6 → ⊥) → (h.kind ≡ 7 → ⊥) → (h.kind ≡ 8 → ⊥) → (h.kind ≡ 10 → ⊥)
      → missing_lane s.lanes h.lane ≡ 0 → h.to ≤ length sheet → RanFree s counts h.lane flags h.to out at r out-left → RanCall h sheet s counts t records flags book out at r book out-left
  by_free kind two three four five six seven eight ten none inside R =
      by_kind 9 (last_kind h.kind kind two three four five six seven eight ten) (λ z. omega (arith, z)) none (R t records book sheet inside)

  pub by_refused : (reason : Refusal) {next : ℕ} → lane_kind h.kind ≡ true → h.to + total (rest_of h.kind) ≤ length sheet → number_of reason ≡ missing_lane s.lanes h.lane → next ≡ h.to + total (rest_of h.kind)
      → RefusedBy s (number_of reason) next out at r out-left → RanCall h sheet s counts t records flags book out at r book out-left
  by_refused reason kind room is past R =
      let some : 0 < number_of reason = some_number reason in
      by_missing kind room (λ z. absurd (omega (arith, is, z))) (refused_as is past R) refl
