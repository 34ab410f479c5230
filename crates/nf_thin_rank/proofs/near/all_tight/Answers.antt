use Rattle.std.proofs.Common.{sym, subst, arith}
use Rattle.nf_thin_rank.proofs.Common.{unbounded, Pattern, IsPattern}
use Rattle.nf_thin_rank.proofs.near.all_tight.Goals as goal

pub loop-e-init : goal.loop-e-init
loop-e-init c = subst (λ (p : Pattern). IsPattern c.args.ranking.now.sets.now (unbounded c.args.ranking.now.net.now.net) p) (sym c.in_ok-tight.ensures) c.requires.base

pub tighten-requires : goal.tighten-requires
tighten-requires c =
    let e = c.loop-e.invariant.count in let k = c.requires.sets.sets_are.count in let n = c.link_count-e-end.ensures in let d = c.loop-e.auto.e-end in
    let t = c.loop-e-test.true in omega arith

pub loop-e-preserved : goal.loop-e-preserved
loop-e-preserved c = c.tighten.ensures c.args.ranking.now.sets.now (unbounded c.args.ranking.now.net.now.net) c.loop-e.invariant
