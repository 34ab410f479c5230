use Rattle.std.proofs.Common.{length, refl, arith}
use Rattle.nf_routes.proofs.Common.{YieldsList-from_vec, YieldsList-turn, slice_get_read, err_from_is_err_and, passes_Q, last_entry, but_last, same_pushed}
use Rattle.nf_routes.proofs.routed.parted.Goals as goal

pub returns-in_err-push-clause-entries : goal.returns-in_err-push-clause-entries
returns-in_err-push-clause-entries c =
    let p = err_from_is_err_and c.from_residual.result c.from_residual.ensures.1 in
    rw p.1 tt

pub returns-in_err-push-clause-arrivals : goal.returns-in_err-push-clause-arrivals
returns-in_err-push-clause-arrivals c =
    let p = err_from_is_err_and c.from_residual.result c.from_residual.ensures.1 in
    rw p.1 tt

pub returns-in_err-push-2-clause-entries : goal.returns-in_err-push-2-clause-entries
returns-in_err-push-2-clause-entries c =
    let p = err_from_is_err_and c.from_residual-in_err-push-2.result c.from_residual-in_err-push-2.ensures.1 in
    rw p.1 tt

pub returns-in_err-push-2-clause-arrivals : goal.returns-in_err-push-2-clause-arrivals
returns-in_err-push-2-clause-arrivals c =
    let p = err_from_is_err_and c.from_residual-in_err-push-2.result c.from_residual-in_err-push-2.ensures.1 in
    rw p.1 tt

pub loop-stages-preserved-in-Continue-branch-2 : goal.loop-stages-preserved-in-Continue-branch-2
loop-stages-preserved-in-Continue-branch-2 c = (
  same_pushed _ (but_last passes_Q) c.loop-stages.all.items c.in-Some-end.sent c.loop-stages.yielded c.in-Some.stages c.push.new.self.items
      c.in_ok-push.ensures.items c.loop-stages.invariant.0 c.in-Some-end.ensures.sent,
  same_pushed _ last_entry c.loop-stages.arrivals.items c.in-Some-end.arrival c.loop-stages.yielded c.in-Some.stages c.push-in-Some-end.new.self.items
      c.in_ok-push-2.ensures.items c.loop-stages.invariant.1 c.in-Some-end.ensures.arrival,
)

pub end-requires : goal.end-requires
end-requires c =
    let all = YieldsList-from_vec c.args.entries.items c.into_iter-stages-iterator.ensures.into_iter_gives.0
    (omega (arith, c.into_iter-stages-iterator.ensures.into_iter_gives.1, c.args.entries.ok.0)) in
    let turn = YieldsList-turn all c.loop-stages.yielded c.loop-stages.stages-iterator c.loop-stages.yielded_by c.next.result c.next.new.self
    c.in-Some.stages c.in-Some.is c.next.ensures.steps in
    c.requires.each (length c.loop-stages.yielded) c.in-Some.stages (slice_get_read c.args.entries.items _ (length c.loop-stages.yielded) c.in-Some.stages refl turn.0 turn.1)
