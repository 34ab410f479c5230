use Rattle.std.proofs.Common.{sym, subst}
use Rattle.nf_thin_guess.proofs.Common.{Pattern, IsPatternIn}
use Rattle.nf_thin_guess.proofs.guessing.guess.Goals as goal

pub repaired-requires : goal.repaired-requires
repaired-requires c = subst (λ (p : Pattern). IsPatternIn c.args.net.now.net c.args.sets.now p) (sym c.in_ok-pattern.ensures) c.requires
