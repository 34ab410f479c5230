use Rattle.std.proofs.Common.{ℕ, ◌<◌, length, below_more, arith}
use Rattle.nf_complete_conditions.proofs.Common.{slice_get_within, Takes}
use Rattle.nf_complete_conditions.proofs.taken.is_taken.Goals as goal

pub takes-requires-clause-sets : goal.takes-requires-clause-sets
takes-requires-clause-sets c = c.requires.sets

pub takes-requires-clause-flows : goal.takes-requires-clause-flows
takes-requires-clause-flows c = c.requires.flows

pub takes-requires-clause-slopes : goal.takes-requires-clause-slopes
takes-requires-clause-slopes c = c.requires.slopes

pub loop-e-preserved : goal.loop-e-preserved
loop-e-preserved c =
    below_more (λ (k : ℕ). Takes c.args.net.now.net c.args.sets.now c.args.flows.now c.args.slopes.now c.args.node k → ⊥) c.loop-e.e c.loop-e.invariant
    c.if-takes.ensures

pub returns : goal.returns
returns c = λ e t. c.loop-e.invariant e (let w : e < length c.args.net.now.net.links = slice_get_within c.args.net.now.net.links e t.0.0 t.0.1.is_link in omega arith) t
