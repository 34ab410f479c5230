use Rattle.std.proofs.Common.{◌≡◌, sym, subst}
use Rattle.nf_net_def.specs.Report.{Report, IsWellFormed}
use Rattle.nf_model.specs.Equilibrium.{Equilibrium, label}
use Rattle.nf_report_read.specs.Files.{seen_report}
use Rattle.library_callers.proofs.resume.continued.Goals as goal

pub returns-in-Ok-clause-formed : goal.returns-in-Ok-clause-formed
returns-in-Ok-clause-formed c = subst (IsWellFormed c.args.net.now.net) (sym c.report_to.ensures) c.in-Ok.ensures.formed

pub returns-in-Ok-clause-equilibrium : goal.returns-in-Ok-clause-equilibrium
returns-in-Ok-clause-equilibrium c = subst (λ (r : Report). Equilibrium c.args.net.now.net r.flow) (sym c.report_to.ensures) c.in-Ok.ensures.equilibrium

pub returns-in-Ok-clause-arrivals : goal.returns-in-Ok-clause-arrivals
returns-in-Ok-clause-arrivals c = λ v departure node within.
    subst (λ (r : Report). label r.flow v departure ≡ label (seen_report c.args.report.now).flow v departure) (sym c.report_to.ensures)
    (c.in-Ok.ensures.goes_on.labels v departure node within)
