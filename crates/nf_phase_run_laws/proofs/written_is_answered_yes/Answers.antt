use Rattle.std.proofs.Common.{sym, ap, ◌∙◌, ◌≡◌}
use Rattle.nf_phase_run_laws.proofs.Common.{passes_Q, Report, check_list, same_Ok, report_equilibrium, report_back, fit}
use Rattle.nf_phase_run_laws.proofs.Running.{report_readable}
use Rattle.nf_phase_run_laws.proofs.Verdicts.{answered_yes}
use Rattle.nf_phase_run_laws.proofs.written_is_answered_yes.Goals as goal

pub returns : goal.returns
returns c = λ n bounds report read answer named within formed run reads e.
    let same : report ≡ read = same_Ok report read (sym (report_back n report named (fit n report named formed (report_readable n named bounds within report run))) ∙ reads) in
    answered_yes passes_Q n.net report.flow answer named.network (report_equilibrium passes_Q n.net named.network bounds report run)
    (ap (λ (r : Report). check_list passes_Q n.net r.flow) same ∙ e)
