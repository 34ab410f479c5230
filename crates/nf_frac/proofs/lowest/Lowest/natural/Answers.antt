use Rattle.nf_frac.proofs.Made.{natural_form, natural_value, natural_within}
use Rattle.nf_frac.proofs.lowest.Lowest.natural.Goals as goal

pub invariant_of-result : goal.invariant_of-result
invariant_of-result c = natural_form c.args.number c.requires

pub returns-clause-value : goal.returns-clause-value
returns-clause-value c = natural_value c.args.number c.requires

pub returns-clause-small : goal.returns-clause-small
returns-clause-small c = natural_within c.args.number c.requires
