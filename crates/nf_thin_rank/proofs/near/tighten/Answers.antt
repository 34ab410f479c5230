use Rattle.std.proofs.Common.{refl, sym, subst, ◌∙◌}
use Rattle.nf_thin_rank.proofs.Common.{Pattern, IsPattern, none_flag}
use Rattle.nf_thin_rank.proofs.Keepers.{still_so}
use Rattle.nf_thin_rank.proofs.near.tighten.Goals as goal

pub returns : goal.returns
returns c sets unbounded is = subst (λ (p : Pattern). IsPattern sets unbounded p) (sym c.set.ensures)
    (still_so sets unbounded c.args.pattern.now c.args.link c.state.result is c.state.ensures
    (none_flag c.state.result c.state.result c.is_none.result refl c.is_none.ensures ∙ c.if-is_none.false))
