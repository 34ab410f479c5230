use Rattle.std.proofs.Common.{sym, subst}
use Rattle.nf_thin_guess.proofs.Common.{Pattern, IsPatternIn}
use Rattle.nf_thin_guess.proofs.reverting.Reverting.reverted.Goals as goal

pub revert-requires-clause-nearer : goal.revert-requires-clause-nearer
revert-requires-clause-nearer c = subst (λ (p : Pattern). IsPatternIn c.args.self.now.net.now.net c.args.self.now.sets.now p) (sym c.in_ok-nearer.ensures) c.requires
