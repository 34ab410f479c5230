use Rattle.std.proofs.Common.{refl, ap, subst, ◌∙◌, Option, IsSome}
use Rattle.nf_thin_guess.proofs.Common.{ℚ, Link}
use Rattle.nf_thin_guess.proofs.Flags.{none_flag}
use Rattle.nf_thin_guess.proofs.Changing.{IsPatternIn-changed}
use Rattle.nf_thin_guess.proofs.repairs.may_have.Goals as goal

pub returns : goal.returns
returns c = λ fits sets is.
    IsPatternIn-changed c.args.net.now.net sets c.args.pattern.now c.args.link c.link.result c.state.result c.args.state is c.link.ensures.link
    c.state.ensures (none_flag c.state.result c.state.result c.is_none.result refl c.is_none.ensures ∙ c.if-is_none.false)
    (λ full. subst (λ (o : Option ℚ). IsSome o) (ap (λ (l : Link). l.capacity) c.capacity.view_is) (c.fits.ensures fits full))
