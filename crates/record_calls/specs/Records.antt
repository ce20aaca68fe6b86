-- The calls 05, 06, 07 and 08 as changes, past the tests of 4 and 8. Tied to `call_event` by record_calls/Steps: write_step_lem, read_step_lem, put_step, look_step.
use Rattle.std.specs.Prelude.{None, ℕ, ◌+◌, max, Bool, true, cond, not, List, leb, drop, take}
use Rattle.std.proofs.lemmas.List.Edits.{sets}
use Rattle.lists.specs.Lists.{implies}
use Rattle.view.specs.View.{position_of}
use Rattle.view.specs.declared.Place.{Place}
use Rattle.view.specs.declared.Position.{Position}
use Rattle.view.specs.declared.View.{View}
use Rattle.line.specs.declared.Phase.{Phase}
use Rattle.line.specs.Line.{holds_whole, is_reading, is_writing, place_in}
use Rattle.event.specs.BigEndian.{big_endian, number_of}
use Rattle.steps.specs.declared.Answer.{Answer}
use Rattle.steps.specs.Effects.{one_less}
use Rattle.changes.specs.Change.{refused_change}
use Rattle.changes.specs.declared.Change.{Change}
use Rattle.changes.specs.declared.Seen.{Seen}

-- where the next record of a busy lane stands
abbrev pub next_position : View → Seen → Position
next_position v s = position_of v (place_in s.phase)

-- ---- 05 and 07: a record put at position p, by a lane that has phase y after it
abbrev pub record_put : Seen → Position → Phase → Change
record_put s p y =
    record { answer = Answer.Wrote p; phase = y; flag = s.flag; pointer = s.pointer; size = max s.size (p.0 + 8); wakes = None }

-- 13 to a lane that is no busy writer
abbrev pub written_by : Seen → Position → Phase → Change
written_by s p x = cond (is_writing x) (record_put s p (one_less x)) (refused_change s 13)

abbrev pub write_change : Seen → View → Change
write_change s v = written_by s (next_position v s) s.phase

-- 13 to a lane that does not hold the whole book, 16 where the record does not fit
abbrev pub put_at : Seen → Position → Change
put_at s p = cond (not (holds_whole s.phase)) (refused_change s 13) (cond (not (leb (p.0 + 8) s.capacity)) (refused_change s 16) (record_put s p s.phase))

abbrev pub put_change : Seen → View → Place → Change
put_change s v k = put_at s (position_of v k)

-- the next record of a busy writer fits, as it does on a sound line
abbrev pub writable : Seen → Position → Bool
writable s p = implies (is_writing s.phase) (leb (p.0 + 8) s.capacity)

-- the book after an answer: a record that was put stands at its position
abbrev pub book_after : ℕ → List ℕ → Answer → List ℕ
book_after content book (Answer.Open lanes capacity) = book
book_after content book (Answer.Holds pointer) = book
book_after content book Answer.Waits = book
book_after content book (Answer.Region start count wakes) = book
book_after content book (Answer.Wrote position) = sets book position.0 (big_endian 8 content)
book_after content book (Answer.Record c) = book
book_after content book Answer.None = book
book_after content book (Answer.Freed wakes) = book
book_after content book Answer.Gathered = book
book_after content book (Answer.Ordered before total) = book
book_after content book Answer.View = book
book_after content book (Answer.Seek pointer) = book
book_after content book (Answer.Refused number) = book

-- the record lies within a buffer of n bytes
abbrev pub storable : Answer → ℕ → Bool
storable (Answer.Open lanes capacity) n = true
storable (Answer.Holds pointer) n = true
storable Answer.Waits n = true
storable (Answer.Region start count wakes) n = true
storable (Answer.Wrote position) n = leb (position.0 + 8) n
storable (Answer.Record c) n = true
storable Answer.None n = true
storable (Answer.Freed wakes) n = true
storable Answer.Gathered n = true
storable (Answer.Ordered before total) n = true
storable Answer.View n = true
storable (Answer.Seek pointer) n = true
storable (Answer.Refused number) n = true

-- ---- 06 and 08: the record at position p, or none where it ends past the size
abbrev pub record_in : Position → ℕ → List ℕ → Answer
record_in p size book =
    cond (leb (p.0 + 8) size) (Answer.Record (number_of (take 8 (drop p.0 book)))) Answer.None

abbrev pub record_found : Seen → Position → List ℕ → Phase → Change
record_found s p book y =
    record { answer = record_in p s.size book; phase = y; flag = s.flag; pointer = s.pointer; size = s.size; wakes = None }

-- 13 to a lane that is no busy reader
abbrev pub read_by : Seen → Position → List ℕ → Phase → Change
read_by s p book x = cond (is_reading x) (record_found s p book (one_less x)) (refused_change s 13)

abbrev pub read_change : Seen → View → List ℕ → Change
read_change s v book = read_by s (next_position v s) book s.phase

-- 13 to a lane that does not hold the whole book
abbrev pub look_at : Seen → Position → List ℕ → Change
look_at s p book = cond (not (holds_whole s.phase)) (refused_change s 13) (record_found s p book s.phase)

abbrev pub look_change : Seen → View → List ℕ → Place → Change
look_change s v book k = look_at s (position_of v k) book
