use Rattle.nf_app.proofs.Common.{err_from_is_err_and, requested, visit}
use Rattle.nf_app.proofs.Calls.{given, given_refusal}
use Rattle.nf_app.proofs.answering.answer_request.Goals as goal

pub find-requires-clause-fits : goal.find-requires-clause-fits
find-requires-clause-fits g c = c.in_ok-net.ensures.fits

pub returns-in_err-net-clause-answered : goal.returns-in_err-net-clause-answered
returns-in_err-net-clause-answered g c words asks =
    let p = err_from_is_err_and c.from_residual.result c.from_residual.ensures.1 in
    rw (p.1, p.2) (c.in_err-net.ensures.gathered words asks)

pub returns-in_err-found-clause-answered : goal.returns-in_err-found-clause-answered
returns-in_err-found-clause-answered g c words asks =
    let p = err_from_is_err_and c.from_residual-in_err-found.result c.from_residual-in_err-found.ensures.1 in
    let shelf = visit g.S.Shelf c.args.shelf.now c.gather.new.shelf in
    let gathered = c.in_ok-net.ensures.gathered words asks in
    rw (p.1, p.2) (given_refusal (record { words = words; shelf = shelf }) (requested c.args.request.now) c.in_ok-net.net c.recall.ensures gathered.0
    c.in_ok-net.other.items gathered.1 c.in_err-found.field-0.0 c.in_err-found.ensures)

pub returns-clause-answered : goal.returns-clause-answered
returns-clause-answered g c words asks =
    let shelf = visit g.S.Shelf c.args.shelf.now c.gather.new.shelf in
    let gathered = c.in_ok-net.ensures.gathered words asks in
    given (record { words = words; shelf = shelf }) (requested c.args.request.now) c.in_ok-net.net c.recall.ensures gathered.0 c.in_ok-net.other.items
    gathered.1 c.in_ok-found.found c.in_ok-found.ensures

pub returns-in_err-net-clause-same : goal.returns-in_err-net-clause-same
returns-in_err-net-clause-same g c = c.in_err-net.ensures.same

pub returns-in_err-found-clause-same : goal.returns-in_err-found-clause-same
returns-in_err-found-clause-same g c = c.in_ok-net.ensures.same

pub returns-clause-same : goal.returns-clause-same
returns-clause-same g c = c.in_ok-net.ensures.same

pub returns-in_err-net-clause-never_falls : goal.returns-in_err-net-clause-never_falls
returns-in_err-net-clause-never_falls g c = c.in_err-net.ensures.never_falls

pub returns-in_err-found-clause-never_falls : goal.returns-in_err-found-clause-never_falls
returns-in_err-found-clause-never_falls g c = c.in_ok-net.ensures.never_falls

pub returns-clause-never_falls : goal.returns-clause-never_falls
returns-clause-never_falls g c = c.in_ok-net.ensures.never_falls
