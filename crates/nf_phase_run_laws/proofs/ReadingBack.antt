-- A readable report reads back, and so that of a run.
use Rattle.std.proofs.Common.{sym, ap, ◌∙◌}
use Rattle.nf_phase_run_laws.proofs.Common.{passes_Q, Named, IsNamed, Report, IsWellFormed, Bounds, IsRunReport, IsReadable, same_Ok, AreReadable}
use Rattle.nf_phase_run_laws.proofs.Common.{ReadsBack, report_in, report_back, fit}
use Rattle.nf_phase_run_laws.proofs.Running.{report_readable}

-- a readable report is read back from its text
pub readable_reads_back : (n : Named) (report : Report) → IsNamed n → IsWellFormed n.net report → IsReadable report → ReadsBack n report
readable_reads_back n report named formed readable =
    let reads = report_back n report named (fit n report named formed readable) in
    record {
      reads = reads;
      only = λ other other_formed can same. same_Ok report other (sym reads ∙ ap (report_in n) same ∙ report_back n other named (fit n other named other_formed can));
    }

pub reads_back : (n : Named) (bounds : Bounds) (report : Report) → IsNamed n → AreReadable bounds → IsWellFormed n.net report
    → IsRunReport passes_Q n.net bounds report → ReadsBack n report
reads_back n bounds report named within formed run = readable_reads_back n report named formed (report_readable n named bounds within report run)
