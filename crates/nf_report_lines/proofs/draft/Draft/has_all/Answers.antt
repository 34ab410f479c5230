use Rattle.std.proofs.Common.{nat_eq, ◌∙◌}
use Rattle.nf_report_lines.proofs.Common.{curve_keys, begun_count}
use Rattle.nf_report_lines.proofs.DraftSteps.{all_begun}
use Rattle.nf_report_lines.proofs.draft.Draft.has_all.Goals as goal

pub returns : goal.returns
returns c = (λ i. nat_eq (c.begun_count.ensures i) (c.curve_count.ensures i)) ∙ all_begun (curve_keys c.args.net.now) (begun_count c.args.self.now) c.requires.curves
