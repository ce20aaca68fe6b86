-- The length of an event, and the buffer with an event at its start. Tied to `writing_of` and `written_to` by encode/Answers: refused_2, refused_3, written.
use Rattle.std.specs.Prelude.{ℕ, ◌+◌, cond, List, ◌∷◌, Option, Some, None}
use Rattle.event.specs.Kinds.{body_length, field_lengths, is_listed}
use Rattle.event.specs.Event.{fields_of, kind_of}
use Rattle.event.specs.declared.Event.{Event}
use Rattle.encode_fields.specs.Put.{put_fields}

-- the length of an event of a listed kind
abbrev pub length_of_event : Event → Option ℕ
length_of_event e = cond (is_listed (kind_of e)) (Some (1 + body_length (kind_of e))) None

-- the buffer with an event of a listed kind at its start, else as it was
unfoldable pub with_event : List ℕ → Event → List ℕ
with_event buffer e = cond (is_listed (kind_of e)) (put_fields (1 ∷ field_lengths (kind_of e)) (kind_of e ∷ fields_of e) buffer 0) buffer
