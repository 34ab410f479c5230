use Rattle.nf_phase.proofs.Common.{bounds_of}
use Rattle.nf_phase.proofs.Ended.{solved}
use Rattle.nf_phase.proofs.solving.solve.Goals as goal

pub returns : goal.returns
returns c =
    record {
      solution =
          solved c.args.net.now.net c.recall.ensures.network (bounds_of c.args.horizon c.args.budgets) c.in_ok-run.run' c.in_ok-run.ensures.starts
          c.finish.result c.finish.ensures.finished;
    }

pub finish-requires-clause-reaches : goal.finish-requires-clause-reaches
finish-requires-clause-reaches c = let run = c.in_ok-run.ensures {u = tt} in run.state.reaches
