-- What each kind decides: the record of a write fits, as on a sound line, and one that is put is stored where it fits.
use Rattle.std.proofs.Common.{refl, ap, ◌∙◌}
use Rattle.view.specs.declared.Position.{Position}
use Rattle.record_calls.specs.Records.{look_at, put_at, read_by, written_by}
use Rattle.record_calls.proofs.Regular.{next_fits, put_at_storable, written_storable}
use Rattle.lane_calls.specs.Decided.{book_decided, decided_at}
use Rattle.lane_calls.proofs.decide_at.Goals as goal

pub write-change-requires : goal.write-change-requires
write-change-requires c = (c.requires.reach, next_fits c.args.seen c.args.view _ c.requires _ c.next_position.ensures.is)

pub store-requires : goal.store-requires
store-requires c =
    let fits = next_fits c.args.seen c.args.view _ c.requires _ c.next_position.ensures.is in
    rw c.write-change.ensures (written_storable c.args.seen c.next_position.result _ c.requires.held fits)

pub store-requires-in-Put : goal.store-requires-in-Put
store-requires-in-Put c = rw c.put-change.ensures (put_at_storable c.args.seen c.position.result _ c.requires.held)

pub returns-in-Want : goal.returns-in-Want
unfolding decided_at book_decided
returns-in-Want c = rw c.in-Want.is (record { is = c.want.ensures; book_left = refl })

pub returns-in-Receive : goal.returns-in-Receive
unfolding decided_at book_decided
returns-in-Receive c = rw c.in-Receive.is (record { is = c.receive.ensures; book_left = refl })

pub returns-in-Take : goal.returns-in-Take
unfolding decided_at book_decided
returns-in-Take c = rw c.in-Take.is (record { is = rw (← c.take_fits.ensures) c.take.ensures; book_left = refl })

pub returns-in-Write : goal.returns-in-Write
unfolding decided_at book_decided
returns-in-Write c =
    let a = c.args in
    rw c.in-Write.is
    (record { is = c.write-change.ensures ∙ ap (λ (p : Position). written_by a.seen p a.seen.phase) c.next_position.ensures.is; book_left = c.store.ensures })

pub returns-in-Read : goal.returns-in-Read
unfolding decided_at book_decided
returns-in-Read c =
    let a = c.args in
    rw c.in-Read.is
    (record { is = c.read.ensures ∙ ap (λ (p : Position). read_by a.seen p a.book.now a.seen.phase) c.next_position-in-Read.ensures.is; book_left = refl })

pub returns-in-Put : goal.returns-in-Put
unfolding decided_at book_decided
returns-in-Put c =
    rw c.in-Put.is (record { is = c.put-change.ensures ∙ ap (put_at c.args.seen) c.position.ensures.is; book_left = c.store-in-Put.ensures })

pub returns-in-Look : goal.returns-in-Look
unfolding decided_at book_decided
returns-in-Look c =
    let a = c.args in
    rw c.in-Look.is
    (record { is = c.look.ensures ∙ ap (λ (p : Position). look_at a.seen p a.book.now) c.position-in-Look.ensures.is; book_left = refl })

pub returns-in-Free : goal.returns-in-Free
unfolding decided_at book_decided
returns-in-Free c = rw c.in-Free.is (record { is = c.free.ensures; book_left = refl })
