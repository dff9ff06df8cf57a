use Rattle.device.proofs.Outcomes.{ready_as, read_outcome, write_outcome}
use Rattle.device.proofs.applying.apply.Goals as goal

pub returns-in-Read : goal.returns-in-Read
returns-in-Read c =
    let a = c.args in
    read_outcome a.plan a.request.own a.request.h a.store.now a.work.now a.out.now c.requires _ c.in-Read.is _ _ (rw c.part.ensures at c.send_part.ensures)

pub returns-in-Write : goal.returns-in-Write
returns-in-Write c =
    let a = c.args in
    write_outcome a.plan a.request.own a.request.h a.store.now a.work.now a.out.now c.requires _ _ c.in-Write.is
    _ _ c.store_data.ensures c.acknowledge.ensures

pub apply_join-requires : goal.apply_join-requires
apply_join-requires c =
    let a = c.args in
    ready_as a.plan a.request.own a.request.h a.store.now a.work.now a.out.now c.requires _ c.in-Join.is

pub returns-in-Join : goal.returns-in-Join
returns-in-Join c = rw c.in-Join.is c.apply_join.ensures
