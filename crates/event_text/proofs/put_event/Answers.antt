-- `event_text::put_event` meets its contract: an arm for each kind.
use Rattle.std.proofs.Common.{rules, ◌≡◌, length}
use mir.Facts.{to_z-of_z}
use mir.Syntax.{w32}
use mir.Val.{SFits}
use Rattle.printout.specs.Print.{words}
use Rattle.event_text.specs.Show.{event_words}
use Rattle.event_text.proofs.Shown.{as_event, view_words}
use Rattle.event_text.proofs.put_event.Goals as goal

pub returns-in-Open : goal.returns-in-Open
unfolding event_words words
returns-in-Open c = (as_event c.in-Open.is c.put_open.ensures.0, c.put_open.ensures.1)

pub returns-in-Want : goal.returns-in-Want
unfolding event_words words
returns-in-Want c = (as_event c.in-Want.is c.put_want.ensures.0, c.put_want.ensures.1)

pub returns-in-Receive : goal.returns-in-Receive
unfolding event_words words
returns-in-Receive c = (as_event c.in-Receive.is (rw c.from.ensures at c.named.ensures.0.both), search rules)

pub returns-in-Take : goal.returns-in-Take
unfolding event_words words
returns-in-Take c = (as_event c.in-Take.is (rw c.from-in-Take.ensures at c.put_fields.ensures.0), search rules)

pub returns-in-Write : goal.returns-in-Write
unfolding event_words words
returns-in-Write c = (as_event c.in-Write.is c.put_write.ensures.0, c.put_write.ensures.1)

pub returns-in-Read : goal.returns-in-Read
unfolding event_words words
returns-in-Read c = (as_event c.in-Read.is (rw c.from-in-Read.ensures at c.named-in-Read.ensures.0.both), search rules)

pub returns-in-Put : goal.returns-in-Put
unfolding event_words words
returns-in-Put c = (as_event c.in-Put.is c.put_put.ensures.0, c.put_put.ensures.1)

pub returns-in-Look : goal.returns-in-Look
unfolding event_words words
returns-in-Look c = (as_event c.in-Look.is (rw c.from-in-Look.ensures at c.put_fields-in-Look.ensures.0), search rules)

pub returns-in-Free : goal.returns-in-Free
unfolding event_words words
returns-in-Free c = (as_event c.in-Free.is (rw c.from-in-Free.ensures at c.named-in-Free.ensures.0.both), search rules)

pub returns-in-Enter : goal.returns-in-Enter
unfolding event_words words
returns-in-Enter c = (as_event c.in-Enter.is (rw c.from-in-Enter.ensures at c.put_fields-in-Enter.ensures.0), search rules)

-- the words of eight blocks
pub returns-in-View : goal.returns-in-View
returns-in-View c =
    let v = c.in-View in
    let eight : length v.blocks ≡ 8 = search rules in
    (as_event v.is (rw (view_words v.displacement v.extent v.used v.blocks eight) c.put_view.ensures.0), c.put_view.ensures.1)

pub returns-in-Seek : goal.returns-in-Seek
unfolding event_words words
returns-in-Seek c =
    let fits : SFits w32 c.in-Seek.offset = record { sfits = search rules } in
    (as_event c.in-Seek.is (rw (← to_z-of_z fits, ← c.unsigned_of.ensures) c.put_seek.ensures.0), c.put_seek.ensures.1)

pub returns-in-Unlisted : goal.returns-in-Unlisted
unfolding event_words words
returns-in-Unlisted c = (as_event c.in-Unlisted.is c.word.ensures.0, search rules)
