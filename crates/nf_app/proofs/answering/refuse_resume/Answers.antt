use Rattle.std.proofs.Common.{subst, inl, inr, refl}
use Rattle.nf_app.proofs.Common.{ℚ, ◌<ℚ◌, passes_Q, IsResumeFault}
use Rattle.nf_resume.specs.declared.fault.ResumeFault.{ResumeFault}
use Rattle.nf_app.proofs.ResumeResult.{no_start_given, passes_given, earlier_given}
use Rattle.nf_app.proofs.answering.refuse_resume.Goals as goal

pub returns-in-Earlier : goal.returns-in-Earlier
returns-in-Earlier c net file name text horizon phases patterns old held h =
    let e = subst (λ (f : ResumeFault). IsResumeFault passes_Q net.net old horizon f) c.in-Earlier.is h in
    inr (earlier_given net file name text horizon phases patterns old held (subst (λ (t : ℚ). horizon <ℚ t) e.0 e.1))

pub returns-in-No : goal.returns-in-No
returns-in-No c net file name text horizon phases patterns old held h =
    let e = subst (λ (f : ResumeFault). IsResumeFault passes_Q net.net old horizon f) c.in-No.is h in
    (no_start_given net file name text horizon phases patterns old held _ e.0 e.1, tt)

pub returns-in-Passed : goal.returns-in-Passed
returns-in-Passed c net file name text horizon phases patterns old held h =
    let e = subst (λ (f : ResumeFault). IsResumeFault passes_Q net.net old horizon f) c.in-Passed.is h in
    inr (passes_given net file name text horizon phases patterns old held _ e.0 e.1)

pub returns-in-Memory : goal.returns-in-Memory
returns-in-Memory c net file name text horizon phases patterns old held h = inl refl
