use Rattle.std.proofs.Common.{ℕ, ◌<◌, Bool, length, refl}
use Rattle.nf_complete_cycles.proofs.Common.{slice_get_read}
use Rattle.nf_complete_cycles.proofs.Growing.{one_below}
use Rattle.nf_complete_cycles.proofs.way.trace.Goals as goal

pub end_of-requires : goal.end_of-requires
end_of-requires c = one_below (λ (step : ℕ × Bool). step.0 < length c.args.hops.now) c.args.tree.now c.loop-step.step-index c.step-item.result c.requires
    (slice_get_read c.args.tree.now (length c.args.tree.now) c.loop-step.step-index c.step-item.result refl c.loop-step-test.true c.step-item.is)

pub begin_of-node-requires : goal.begin_of-node-requires
begin_of-node-requires c = one_below (λ (step : ℕ × Bool). step.0 < length c.args.hops.now) c.args.tree.now c.loop-step.step-index c.step-item.result c.requires
    (slice_get_read c.args.tree.now (length c.args.tree.now) c.loop-step.step-index c.step-item.result refl c.loop-step-test.true c.step-item.is)
