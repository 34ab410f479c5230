use Rattle.nf_load.specs.Loadings.{loaded_of}
use Rattle.library_callers.proofs.BothQueues.{sum_begins, sum_rises, is_greatest_queue}
use Rattle.library_callers.proofs.greatest.greatest_queue.Goals as goal

pub load_link-requires-clause-begins : goal.load_link-requires-clause-begins
load_link-requires-clause-begins c =
    sum_begins c.args.first.now.points c.args.second.now.points c.in_ok-inflow.inflow.points c.requires.first c.requires.second c.in_ok-inflow.ensures.sum

pub load_link-requires-clause-rises : goal.load_link-requires-clause-rises
load_link-requires-clause-rises c =
    sum_rises c.args.first.now.points c.args.second.now.points c.in_ok-inflow.inflow.points c.requires.first c.requires.second c.in_ok-inflow.ensures.sum

pub returns-clause-greatest : goal.returns-clause-greatest
returns-clause-greatest c =
    is_greatest_queue c.args.transit c.args.capacity c.args.first.now.points c.args.second.now.points c.in_ok-inflow.inflow.points c.args.until
    (loaded_of c.in_ok-loaded.loaded) c.in_ok-greatest.greatest c.in_ok-inflow.ensures.sum c.in_ok-loaded.ensures.loaded c.in_ok-greatest.ensures.greatest
