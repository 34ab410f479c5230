use Rattle.std.proofs.Common.{sym, subst}
use Rattle.nf_thin_guess.proofs.Common.{Pattern, IsPatternIn}
use Rattle.nf_thin_guess.proofs.mending.mended.Goals as goal

pub cut_cycles-forest-requires : goal.cut_cycles-forest-requires
cut_cycles-forest-requires c = (c.args.sets.now, subst (λ (p : Pattern). IsPatternIn c.args.net.now.net c.args.sets.now p) (sym c.in_ok-near.ensures) c.requires)

pub entered_nodes-entered-requires : goal.entered_nodes-entered-requires
entered_nodes-entered-requires c =
    c.cut_cycles-forest.ensures c.args.sets.now (subst (λ (p : Pattern). IsPatternIn c.args.net.now.net c.args.sets.now p)
    (sym c.in_ok-near.ensures) c.requires)

pub enter_nodes-requires : goal.enter_nodes-requires
enter_nodes-requires c = (
  c.args.sets.now,
  c.cut_cycles-forest.ensures c.args.sets.now (subst (λ (p : Pattern). IsPatternIn c.args.net.now.net c.args.sets.now p)
      (sym c.in_ok-near.ensures) c.requires),
)

pub returns : goal.returns
returns c = c.enter_nodes.ensures c.args.sets.now
    (c.cut_cycles-forest.ensures c.args.sets.now (subst (λ (p : Pattern). IsPatternIn c.args.net.now.net c.args.sets.now p) (sym c.in_ok-near.ensures) c.requires))
