use Rattle.nf_phase.proofs.Common.{IfOk-equal}
use Rattle.nf_phase.proofs.Rested.{phase_made}
use Rattle.nf_phase.proofs.run.Run.extend_by_next.Goals as goal

pub returns-then-not-rests-clause-made : goal.returns-then-not-rests-clause-made
returns-then-not-rests-clause-made c =
    IfOk-equal c.extend_by.result _ _ _ c.extend_by.ensures.made (phase_made c.args.rests c.args.net.now.net c.args.self.now c.args.phase
    c.if-not-rests.true)
