use Rattle.std.proofs.Common.{Option, not, unwrap_or, refl, sym, ap, ◌∙◌}
use Rattle.nf_thin_one.proofs.Common.{slice_get_read, ℚ, 0ℚ, le_ℚ}
use Rattle.nf_thin_one.proofs.verdicts.is_negative_at.Goals as goal

pub returns : goal.returns
returns c =
    ap not (c.is_not_negative.ensures ∙ ap (λ (o : Option ℚ). le_ℚ 0ℚ (unwrap_or o 0ℚ))
    (sym (slice_get_read c.args.slopes.now _ c.args.v c.index-slopes-v.result refl c.requires c.index-slopes-v.is)))
