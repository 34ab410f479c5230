use Rattle.nf_linear_laws.proofs.Exact.{table_list_as}
use Rattle.nf_thin_laws.proofs.Exact.{slack_list_as, verdict_list_as, extend_list_as, advance_list_as, curve_list_as}
use Rattle.nf_thin_laws.proofs.values_are_exact.Goals as goal

pub returns : goal.returns
returns c = record {
  slack = slack_list_as;
  table = table_list_as;
  verdict = verdict_list_as;
  extend = extend_list_as;
  advance = advance_list_as;
  curve = curve_list_as;
}
