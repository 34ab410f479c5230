use Rattle.nf_quick.proofs.Common.{passes_Q}
use Rattle.nf_quick.proofs.Answering.{answered_is_quick, answered_in_order}
use Rattle.nf_quick.proofs.working.quickest.Goals as goal

pub work_out-requires-clause-network : goal.work_out-requires-clause-network
work_out-requires-clause-network c = c.recall.ensures.network

pub work_out-requires-clause-amount : goal.work_out-requires-clause-amount
work_out-requires-clause-amount c = c.requires.amount

pub returns-clause-answered : goal.returns-clause-answered
returns-clause-answered c = c.work_out.ensures

pub returns-clause-quickest : goal.returns-clause-quickest
returns-clause-quickest c =
    answered_is_quick passes_Q c.args.net.now.net c.args.amount c.args.augments c.recall.ensures.network c.requires.amount c.work_out.result c.work_out.ensures

pub returns-clause-pushes : goal.returns-clause-pushes
returns-clause-pushes c =
    answered_in_order passes_Q c.args.net.now.net c.args.amount c.args.augments c.recall.ensures.network c.requires.amount c.requires.augments c.work_out.result c.work_out.ensures
