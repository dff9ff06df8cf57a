use Rattle.guest.specs.Step.{areas, call}
use Rattle.device.proofs.Outcomes.{misfit_outcome, ill_formed_outcome, unrouted_outcome, short_outcome, error_outcome, step_ready, step_outcome}
use Rattle.device.proofs.stepping.step.Goals as goal

pub returns-then-misfit : goal.returns-then-misfit
returns-then-misfit c =
    let a = c.args in
    misfit_outcome (call a.frame.now a.own a.table.now (areas a.store.now a.work.now) a.out.now) _ c.misfit.ensures c.if-misfit.true

pub returns-then-not-well_formed : goal.returns-then-not-well_formed
returns-then-not-well_formed c =
    let a = c.args in
    ill_formed_outcome (call a.frame.now a.own a.table.now (areas a.store.now a.work.now) a.out.now)
    _ c.misfit.ensures c.if-misfit.false _ c.well_formed-2.ensures c.if-not-well_formed.true

pub returns-in-Err : goal.returns-in-Err
returns-in-Err c =
    let a = c.args in
    unrouted_outcome (call a.frame.now a.own a.table.now (areas a.store.now a.work.now) a.out.now)
    _ c.misfit.ensures c.if-misfit.false _ c.well_formed-2.ensures c.if-not-well_formed.false
    _ c.header_of-h.ensures _ c.route.ensures _ c.in-Err.is

pub returns-then-h-eq0 : goal.returns-then-h-eq0
returns-then-h-eq0 c =
    let a = c.args in
    short_outcome (call a.frame.now a.own a.table.now (areas a.store.now a.work.now) a.out.now)
    _ c.misfit.ensures c.if-misfit.false _ c.well_formed-2.ensures c.if-not-well_formed.false
    _ c.header_of-h.ensures _ c.route.ensures c.in-Ok.is
    c.if-h-eq0.true _ (c.switch.ensures a.work.now)

pub apply-requires : goal.apply-requires
apply-requires c =
    let a = c.args in
    step_ready (call a.frame.now a.own a.table.now (areas a.store.now a.work.now) a.out.now)
    _ c.misfit.ensures c.if-misfit.false _ c.well_formed-2.ensures c.if-not-well_formed.false
    _ c.header_of-h.ensures _ c.route.ensures c.in-Ok.is
    c.if-h-eq0.false _ c.request_plan.ensures _ c.in-Ok-request_plan.is

pub returns-in-Ok-request_plan : goal.returns-in-Ok-request_plan
returns-in-Ok-request_plan c =
    let a = c.args in
    step_outcome (call a.frame.now a.own a.table.now (areas a.store.now a.work.now) a.out.now)
    _ c.misfit.ensures c.if-misfit.false _ c.well_formed-2.ensures c.if-not-well_formed.false
    _ c.header_of-h.ensures _ c.route.ensures c.in-Ok.is
    c.if-h-eq0.false _ c.request_plan.ensures _ c.in-Ok-request_plan.is _ c.apply.ensures

pub returns-in-Err-request_plan : goal.returns-in-Err-request_plan
returns-in-Err-request_plan c =
    let a = c.args in
    error_outcome (call a.frame.now a.own a.table.now (areas a.store.now a.work.now) a.out.now)
    _ c.misfit.ensures c.if-misfit.false _ c.well_formed-2.ensures c.if-not-well_formed.false
    _ c.header_of-h.ensures _ c.route.ensures c.in-Ok.is
    c.if-h-eq0.false _ c.request_plan.ensures _ c.in-Err-request_plan.is _ c.refuse.ensures
