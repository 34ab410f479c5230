use Rattle.nf_app.proofs.answering.quick_to.Goals as goal

pub beside_arrival-requires-clause-flow : goal.beside_arrival-requires-clause-flow
beside_arrival-requires-clause-flow c = c.in-Ok.ensures.quickest

pub returns-in-Ok : goal.returns-in-Ok
returns-in-Ok c file other = c.beside_arrival.ensures file other c.args.augments c.in-Ok.ensures.answered c.in-Ok.ensures.pushes

pub returns-in-Err : goal.returns-in-Err
returns-in-Err c file other = c.refuse_quick.ensures file other c.args.amount c.in-Err.ensures.answered c.in-Err.ensures.pushes
