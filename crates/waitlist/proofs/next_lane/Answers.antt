-- The search above the releaser, then below it, is that of the definition, and finds lanes that have a flag alone.
use Rattle.std.specs.Prelude.{Some}
use Rattle.std.proofs.Common.{◌≡◌, ℕ, ◌+◌, ◌-◌, ◌≤◌, ◌<◌, List, length, set, min, arith, rules}
use borrow.Author.Tests.{le-ltb, lt-ltb}
use Rattle.limits.specs.Limits.{most_lanes}
use Rattle.waitlist.specs.NextLane.{first_raised, next_lane, or_else}
use Rattle.waitlist.specs.Words.{lane_or}
use Rattle.waitlist.proofs.Laws.{or_else_lem}
use Rattle.waitlist.proofs.Lowered.{next_in_row}
use Rattle.waitlist.proofs.Nearest.{first_found}
use Rattle.waitlist.proofs.WordLaws.{lane_found, lane_below}
use Rattle.waitlist.proofs.next_lane.Goals as goal
use Rattle.waitlist.proofs.next_lane.Goals.{After-first_raised-lane}

-- a lane that one of the two searches finds is below the most lanes, which tells it from none
below_most : (flags : List ℕ) (start end rest : ℕ) → end ≤ most_lanes → rest ≤ most_lanes → (j : ℕ) → or_else (first_raised flags start (end - start)) (first_raised flags 0 rest) ≡ Some j → j < most_lanes
below_most flags start end rest to_end to-rest j =
    or_else_lem (λ k. k < most_lanes) (first_raised flags start (end - start)) (first_raised flags 0 rest) j
    (λ k e. let f = first_found flags start (end - start) k e in omega (arith, f.low, f.high))
    (λ k e. omega (arith, (first_found flags 0 rest k e).high))

-- what the two searches tell is the next lane
next_told : (lanes : ℕ) (flags : List ℕ) (releaser end own rest lane : ℕ) → length flags ≡ most_lanes → end ≡ min lanes most_lanes → own ≡ releaser → rest ≡ min own end
    → lane ≡ lane_or most_lanes (or_else (first_raised flags (own + 1) (end - (own + 1))) (first_raised flags 0 rest)) → lane_below most_lanes lane ≡ next_lane lanes (set flags releaser 0) releaser
next_told lanes flags releaser end own rest lane row to of under told =
    rw (next_in_row flags lanes releaser, row, ← to, ← of, ← under)
    (lane_found most_lanes lane (or_else (first_raised flags (own + 1) (end - (own + 1))) (first_raised flags 0 rest)) (below_most flags (own + 1) end rest (omega arith) (omega arith)) told)

told : (c : After-first_raised-lane) → lane_below most_lanes c.first_raised-lane.result ≡ next_lane c.args.lanes (set c.args.flags.now c.args.releaser 0) c.args.releaser
told c =
    next_told c.args.lanes c.args.flags.now c.args.releaser c.min-end.result c.from-own.result c.min.result c.first_raised-lane.result (search rules) (rw c.from.ensures at c.min-end.ensures)
    c.from-own.ensures c.min.ensures c.first_raised-lane.ensures

pub returns-then-lane-lt-MOST_LANES : goal.returns-then-lane-lt-MOST_LANES
returns-then-lane-lt-MOST_LANES c = rw (lt-ltb _ _ c.if-lane-lt-MOST_LANES.true) at (told c.before)

pub returns-else-lane-lt-MOST_LANES : goal.returns-else-lane-lt-MOST_LANES
returns-else-lane-lt-MOST_LANES c = rw (le-ltb _ _ c.if-lane-lt-MOST_LANES.false) at (told c.before)
