use Rattle.nf_curve.specs.Flows.{seen_flow}
use Rattle.library_callers.proofs.Deciding.{by_answer}
use Rattle.library_callers.proofs.check.is_equilibrium.Goals as goal

pub returns-in-Ok : goal.returns-in-Ok
returns-in-Ok c = by_answer c.args.net.now.net (seen_flow c.args.flow.now) c.in-Ok.answer c.is_yes.result c.in-Ok.ensures.exact c.is_yes.ensures
