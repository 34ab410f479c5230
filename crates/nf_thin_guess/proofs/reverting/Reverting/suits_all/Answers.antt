use Rattle.std.proofs.Common.{sym, subst}
use Rattle.nf_thin_guess.proofs.Common.{Pattern, IsPatternIn}
use Rattle.nf_thin_guess.proofs.reverting.Reverting.suits_all.Goals as goal

pub repair-requires : goal.repair-requires
repair-requires c = subst (λ (p : Pattern). IsPatternIn c.args.self.now.net.now.net c.args.self.now.sets.now p) (sym c.in_ok-repaired.ensures) c.requires.pattern
