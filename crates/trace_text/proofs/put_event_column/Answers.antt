-- A column of the event's words.
use Rattle.std.proofs.Common.{arith}
use Rattle.event_text.specs.Show.{event_words}
use Rattle.trace_text.proofs.Widths.{columned_words, words_past}
use Rattle.trace_text.proofs.put_event_column.Goals as goal

pub end_column-requires : goal.end_column-requires
unfolding event_words
end_column-requires c = (words_past _ _ c.put_event-end.ensures.0, omega (arith, c.put_event-end.ensures.1, c.requires))

pub returns : goal.returns
unfolding event_words
returns c = (columned_words _ _ c.put_event-end.ensures.0 39 c.end_column.ensures.0, omega (arith, c.end_column.ensures.1, c.put_event-end.ensures.1))
