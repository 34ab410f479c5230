use Rattle.std.proofs.Common.{refl}
use Rattle.nf_phase.proofs.Common.{passes_Q, bounds_of}
use Rattle.nf_phase.proofs.Ended.{finished}
use Rattle.nf_phase.proofs.run.Run.finish.Goals as goal

pub returns : goal.returns
returns c =
    record {
      finished =
          finished passes_Q c.args.net.now.net c.recall.ensures.network (bounds_of c.args.horizon c.args.budgets) c.args.self c.requires.reaches
          c.requires.horizon c.go.new.self c.in_ok-stopped.stopped c.in_ok-stopped.ensures
          refl c.solution.result c.solution.ensures.flow c.solution.ensures.phases c.solution.ensures.last c.solution.ensures.stopped;
    }
