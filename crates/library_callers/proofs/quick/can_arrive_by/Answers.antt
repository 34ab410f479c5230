use Rattle.library_callers.proofs.Deciding.{by_deadline}
use Rattle.library_callers.proofs.quick.can_arrive_by.Goals as goal

pub returns-in-Ok : goal.returns-in-Ok
returns-in-Ok c =
    by_deadline c.args.net.now.net c.args.amount c.in-Ok.quick.time c.args.deadline c.ends_by.result c.in-Ok.ensures.quickest.quickest c.requires.deadline c.ends_by.ensures
