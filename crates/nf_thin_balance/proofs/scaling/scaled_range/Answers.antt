use Rattle.std.proofs.Common.{sym, ◌∙◌}
use Rattle.nf_thin_balance.proofs.Common.{none-some}
use Rattle.nf_thin_balance.proofs.Within.{scaled_within}
use Rattle.nf_thin_balance.proofs.scaling.scaled_range.Goals as goal

pub returns-in_default : goal.returns-in_default
returns-in_default c = record {
  from = λ end at. absurd (none-some end (sym c.any.ensures.least ∙ at));
  up_to = λ end at. absurd (none-some end (sym c.any.ensures.greatest ∙ at));
}

pub returns : goal.returns
returns c = scaled_within c.args.scale c.args.number _ _ c.lower_end-least.ensures c.first_upper_end-greatest.ensures
