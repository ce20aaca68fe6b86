-- Each kind's step as the chain of just those tests that the kind can fail, in the order of the refusals.
use mathlib.Core.List.{List, [], ◌∷◌}
use Prim.Native.Nat.{ℕ, ◌+◌}
use mathlib.Core.Path.{◌≡◌, refl, ap}
use mathlib.Core.Bool.{cond, not, ◌&&◌, and-true, or-false}
use lib.ListN.{length}
use lib.IntN.{ℤ}
use lib.Dec.{eqb, leb, ltb}
use Rattle.lists.specs.Lists.{all_pass, some_pass}
use Rattle.view.specs.View.{fits, view_ok}
use Rattle.view.specs.declared.Place.{Place}
use Rattle.limits.specs.Limits.{least_capacity, most_capacity, most_lanes, most_pointer}
use Rattle.line.specs.Line.{holds_shared, holds_whole, is_gathered, is_idle, is_idle_or_gathered, is_reading, is_shared_read, is_shared_write, is_waiting, is_woken, is_writing, on, phase_at, place_in, purpose_in}
use Rattle.line.specs.Sound.{gathered_total, sound}
use Rattle.view.specs.declared.Block.{Block}
use Rattle.event.specs.Event.{block_numbers, cut_short, given}
use Rattle.event.specs.declared.Event.{Event}
use Rattle.steps.specs.State.{Result, State}
use Rattle.steps.specs.Effects.{Search, entered, enter_step, free_step, look_step, open_step, purpose_of, put_step, read_step, receive_step, seek_step, seek_target, take_step, view_of, view_step, want_step, write_step}
use Rattle.steps.specs.Refusals.{blocks_of, is_outside}
use Rattle.steps.specs.Step.{refuse, step_by}

-- ---- blocks are made again of their numbers
pub blocks_of_numbers : (bs : List Block) → blocks_of (block_numbers bs) ≡ bs
blocks_of_numbers [] = refl
blocks_of_numbers (b ∷ bs) = ap (λ (l : List Block). b ∷ l) (blocks_of_numbers bs)

-- ---- the tests that come first
abbrev pub when_sound_lem : State → Result → Result
when_sound_lem x r = cond (not (sound x.line (length x.book))) (refuse 1 x) r

abbrev pub when_open_lem : State → Result → Result
when_open_lem x r = when_sound_lem x (cond (eqb x.line.lanes 0) (refuse 4 x) r)

abbrev pub at_lane_lem : State → ℕ → Result → Result
at_lane_lem x i r = when_open_lem x (cond (leb x.line.lanes i) (refuse 8 x) r)

-- 01, with the most lanes that it takes
abbrev pub open_by : State → ℕ → ℕ → ℕ → Result → Result
open_by x lanes capacity most r =
    when_sound_lem x
    (cond (not (eqb x.line.lanes 0)) (refuse 5 x)
    (cond (not (leb 1 lanes && leb lanes most)) (refuse 6 x)
    (cond (not (leb least_capacity capacity && leb capacity most_capacity && leb capacity (length x.book))) (refuse 7 x) r)))

module _ (search : Search) (x : State) where
  -- 01: 5 6 7
  pub open_chain : (lanes capacity : ℕ) → step_by search x (given (Event.Open lanes capacity)) ≡ open_by x lanes capacity most_lanes (open_step x lanes capacity)
  unfolding step_by
  open_chain lanes capacity = refl

  -- 02: 4 8 9 12 13
  pub want_chain : (i purpose : ℕ)
      → step_by search x (given (Event.Want i purpose))
      ≡ at_lane_lem x i
      (cond (ltb 2 purpose) (refuse 9 x)
      (cond (some_pass (on is_gathered) x.line.lane) (refuse 12 x)
      (cond (not (is_idle (phase_at x.line i))) (refuse 13 x) (want_step x i (purpose_of purpose)))))
  unfolding step_by
  want_chain i purpose = rw (or-false (ltb 2 purpose), and-true (not (is_idle (phase_at x.line i))))

  -- 03: 4 8 13 14
  pub receive_chain : (i : ℕ)
      → step_by search x (given (Event.Receive i))
      ≡ at_lane_lem x i
      (cond (not (is_woken (phase_at x.line i)) && not (is_waiting (phase_at x.line i))) (refuse 13 x)
      (cond (is_waiting (phase_at x.line i)) (refuse 14 x) (receive_step x i (phase_at x.line i))))
  unfolding step_by
  receive_chain i = refl

  -- 04: 4 8 13 15 16
  pub take_chain : (i c : ℕ)
      → step_by search x (given (Event.Take i c))
      ≡ at_lane_lem x i
      (cond (not (holds_shared (phase_at x.line i))) (refuse 13 x)
      (cond (is_shared_read (purpose_in (phase_at x.line i)) && ltb most_pointer ((place_in (phase_at x.line i)).0 + c)) (refuse 15 x)
      (cond (is_shared_write (purpose_in (phase_at x.line i)) && not (fits x.line.view x.line.capacity (place_in (phase_at x.line i)) c)) (refuse 16 x)
      (take_step search x i c (phase_at x.line i)))))
  unfolding step_by
  take_chain i c = rw (and-true (not (holds_shared (phase_at x.line i))))

  -- 05: 4 8 13
  pub write_chain : (i content : ℕ)
      → step_by search x (given (Event.Write i content))
      ≡ at_lane_lem x i (cond (not (is_writing (phase_at x.line i))) (refuse 13 x) (write_step x i content (phase_at x.line i)))
  unfolding step_by
  write_chain i content = rw (and-true (not (is_writing (phase_at x.line i))))

  -- 06: 4 8 13
  pub read_chain : (i : ℕ)
      → step_by search x (given (Event.Read i))
      ≡ at_lane_lem x i (cond (not (is_reading (phase_at x.line i))) (refuse 13 x) (read_step x i (phase_at x.line i)))
  unfolding step_by
  read_chain i = rw (and-true (not (is_reading (phase_at x.line i))))

  -- 07: 4 8 13 16
  pub put_chain : (i : ℕ) (k : Place) (content : ℕ)
      → step_by search x (given (Event.Put i k content))
      ≡ at_lane_lem x i
      (cond (not (holds_whole (phase_at x.line i))) (refuse 13 x)
      (cond (not (fits x.line.view x.line.capacity k 1)) (refuse 16 x) (put_step x k content)))
  unfolding step_by
  put_chain i k content = rw (and-true (not (holds_whole (phase_at x.line i))))

  -- 08: 4 8 13
  pub look_chain : (i : ℕ) (k : Place)
      → step_by search x (given (Event.Look i k))
      ≡ at_lane_lem x i (cond (not (holds_whole (phase_at x.line i))) (refuse 13 x) (look_step x k))
  unfolding step_by
  look_chain i k = rw (and-true (not (holds_whole (phase_at x.line i))))

  -- 09: 4 8 13
  pub free_chain : (i : ℕ)
      → step_by search x (given (Event.Free i))
      ≡ at_lane_lem x i (cond (not (holds_whole (phase_at x.line i))) (refuse 13 x) (free_step search x i))
  unfolding step_by
  free_chain i = rw (and-true (not (holds_whole (phase_at x.line i))))

  -- 0A: 4 8 11 13 16
  pub enter_chain : (i c : ℕ)
      → step_by search x (given (Event.Enter i c))
      ≡ at_lane_lem x i
      (cond (not (all_pass (on is_idle_or_gathered) x.line.lane)) (refuse 11 x)
      (cond (not (is_idle (phase_at x.line i))) (refuse 13 x)
      (cond (not (fits x.line.view x.line.capacity x.line.pointer (gathered_total (entered x.line i c)))) (refuse 16 x) (enter_step x i c))))
  unfolding step_by
  enter_chain i c = rw (and-true (not (is_idle (phase_at x.line i))))

  -- 0B: 4 10 11
  pub view_chain : (displacement extent used : ℕ) (blocks : List Block)
      → step_by search x (given (Event.View displacement extent used blocks))
      ≡ when_open_lem x
      (cond (not (view_ok x.line.capacity (view_of displacement extent used blocks))) (refuse 10 x)
      (cond (not (all_pass (on is_idle) x.line.lane)) (refuse 11 x) (view_step x (view_of displacement extent used blocks))))
  unfolding step_by
  view_chain displacement extent used blocks = rw (blocks_of_numbers blocks, or-false (not (all_pass (on is_idle) x.line.lane)))

  -- 0C: 4 9 11 15
  pub seek_chain : (whence : ℕ) (offset : ℤ)
      → step_by search x (given (Event.Seek whence offset))
      ≡ when_open_lem x
      (cond (ltb 2 whence) (refuse 9 x)
      (cond (not (all_pass (on is_idle) x.line.lane)) (refuse 11 x)
      (cond (is_outside (seek_target x.line whence offset)) (refuse 15 x) (seek_step x (seek_target x.line whence offset)))))
  unfolding step_by
  seek_chain whence offset = rw (or-false (not (all_pass (on is_idle) x.line.lane)))

  -- an unlisted kind: 2
  pub unlisted_chain : step_by search x (given Event.Unlisted) ≡ when_sound_lem x (refuse 2 x)
  unfolding step_by
  unlisted_chain = refl

  -- a body that is cut short: 3
  pub cut_chain : step_by search x cut_short ≡ when_sound_lem x (refuse 3 x)
  unfolding step_by
  cut_chain = refl
