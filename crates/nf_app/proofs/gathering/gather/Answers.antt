use Rattle.std.proofs.Common.{ap, sym, subst, refl, IfOk}
use Rattle.nf_app.proofs.Common.{Request, CanBeAsked, requested, visit, input_file, report_file, files_of, generated_by, OtherFits}
use Rattle.nf_app_words.specs.declared.request.Request as code
use Rattle.nf_gen.specs.Ladder.{ladder}
use Rattle.nf_app.proofs.Calls.{gathered_one, gathered_two, gathered_none, any_fit}
use Rattle.nf_app.proofs.gathering.gather.Goals as goal

pub make_ladder-requires-clause-some : goal.make_ladder-requires-clause-some
make_ladder-requires-clause-some g c = (subst (λ (r : Request). CanBeAsked r) (ap requested c.in-Gen.is) c.requires).1.0

pub make_ladder-requires-clause-few : goal.make_ladder-requires-clause-few
make_ladder-requires-clause-few g c = (subst (λ (r : Request). CanBeAsked r) (ap requested c.in-Gen.is) c.requires).1.1

pub returns-in-Solve-clause-gathered : goal.returns-in-Solve-clause-gathered
returns-in-Solve-clause-gathered g c words asks =
    let shelf = visit g.S.Shelf c.args.shelf.now c.fetch_one.new.shelf in
    gathered_one words shelf (requested c.args.request.now) asks (input_file c.in-Solve.file.now)
    (ap (λ (r : code.Request). files_of (requested r)) c.in-Solve.is) (ap (λ (r : code.Request). generated_by (requested r)) c.in-Solve.is)
    c.fetch_one.result c.fetch_one.ensures.read

pub returns-in-SolveForever-clause-gathered : goal.returns-in-SolveForever-clause-gathered
returns-in-SolveForever-clause-gathered g c words asks =
    let shelf = visit g.S.Shelf c.args.shelf.now c.fetch_one-in-SolveForever.new.shelf in
    gathered_one words shelf (requested c.args.request.now) asks (input_file c.in-SolveForever.file.now)
    (ap (λ (r : code.Request). files_of (requested r)) c.in-SolveForever.is)
    (ap (λ (r : code.Request). generated_by (requested r)) c.in-SolveForever.is)
    c.fetch_one-in-SolveForever.result c.fetch_one-in-SolveForever.ensures.read

pub returns-in-Show-clause-gathered : goal.returns-in-Show-clause-gathered
returns-in-Show-clause-gathered g c words asks =
    let shelf = visit g.S.Shelf c.args.shelf.now c.fetch_one-in-Show.new.shelf in
    gathered_one words shelf (requested c.args.request.now) asks (input_file c.in-Show.file.now)
    (ap (λ (r : code.Request). files_of (requested r)) c.in-Show.is) (ap (λ (r : code.Request). generated_by (requested r)) c.in-Show.is)
    c.fetch_one-in-Show.result c.fetch_one-in-Show.ensures.read

pub returns-in-Load-clause-gathered : goal.returns-in-Load-clause-gathered
returns-in-Load-clause-gathered g c words asks =
    let shelf = visit g.S.Shelf c.args.shelf.now c.fetch_network_with.new.shelf in
    gathered_two words shelf (requested c.args.request.now) asks (input_file c.in-Load.file.now) (input_file c.in-Load.loads.now)
    (ap (λ (r : code.Request). files_of (requested r)) c.in-Load.is) (ap (λ (r : code.Request). generated_by (requested r)) c.in-Load.is)
    c.fetch_network_with.result c.fetch_network_with.ensures.read

pub returns-in-Check-clause-gathered : goal.returns-in-Check-clause-gathered
returns-in-Check-clause-gathered g c words asks =
    let shelf = visit g.S.Shelf c.args.shelf.now c.fetch_network_with-in-Check.new.shelf in
    gathered_two words shelf (requested c.args.request.now) asks (input_file c.in-Check.file.now) (report_file c.in-Check.report.now)
    (ap (λ (r : code.Request). files_of (requested r)) c.in-Check.is) (ap (λ (r : code.Request). generated_by (requested r)) c.in-Check.is)
    c.fetch_network_with-in-Check.result c.fetch_network_with-in-Check.ensures.read

pub returns-in-Quick-clause-gathered : goal.returns-in-Quick-clause-gathered
returns-in-Quick-clause-gathered g c words asks =
    let shelf = visit g.S.Shelf c.args.shelf.now c.fetch_one-in-Quick.new.shelf in
    gathered_one words shelf (requested c.args.request.now) asks (input_file c.in-Quick.file.now)
    (ap (λ (r : code.Request). files_of (requested r)) c.in-Quick.is) (ap (λ (r : code.Request). generated_by (requested r)) c.in-Quick.is)
    c.fetch_one-in-Quick.result c.fetch_one-in-Quick.ensures.read

pub returns-in-Gen-clause-gathered : goal.returns-in-Gen-clause-gathered
returns-in-Gen-clause-gathered g c words asks =
    let shelf = visit g.S.Shelf c.args.shelf.now c.args.shelf.now in
    gathered_none words shelf (requested c.args.request.now) asks (ap (λ (r : code.Request). files_of (requested r)) c.in-Gen.is) (ladder c.in-Gen.number c.in-Gen.rungs)
    (ap (λ (r : code.Request). generated_by (requested r)) c.in-Gen.is) refl c.make_ladder.result c.make_ladder.ensures.made c.make_ladder.ensures.refused

pub returns-in-Settle-clause-gathered : goal.returns-in-Settle-clause-gathered
returns-in-Settle-clause-gathered g c words asks =
    let shelf = visit g.S.Shelf c.args.shelf.now c.fetch_network_with-in-Settle.new.shelf in
    gathered_two words shelf (requested c.args.request.now) asks (input_file c.in-Settle.file.now) (input_file c.in-Settle.flows.now)
    (ap (λ (r : code.Request). files_of (requested r)) c.in-Settle.is) (ap (λ (r : code.Request). generated_by (requested r)) c.in-Settle.is)
    c.fetch_network_with-in-Settle.result c.fetch_network_with-in-Settle.ensures.read

pub returns-in-Resume-clause-gathered : goal.returns-in-Resume-clause-gathered
returns-in-Resume-clause-gathered g c words asks =
    let shelf = visit g.S.Shelf c.args.shelf.now c.fetch_network_with-in-Resume.new.shelf in
    gathered_two words shelf (requested c.args.request.now) asks (input_file c.in-Resume.file.now) (report_file c.in-Resume.report.now)
    (ap (λ (r : code.Request). files_of (requested r)) c.in-Resume.is) (ap (λ (r : code.Request). generated_by (requested r)) c.in-Resume.is)
    c.fetch_network_with-in-Resume.result c.fetch_network_with-in-Resume.ensures.read

pub returns-in-Routes-clause-gathered : goal.returns-in-Routes-clause-gathered
returns-in-Routes-clause-gathered g c words asks =
    let shelf = visit g.S.Shelf c.args.shelf.now c.fetch_network_with-in-Routes.new.shelf in
    gathered_two words shelf (requested c.args.request.now) asks (input_file c.in-Routes.file.now) (input_file c.in-Routes.routes.now)
    (ap (λ (r : code.Request). files_of (requested r)) c.in-Routes.is) (ap (λ (r : code.Request). generated_by (requested r)) c.in-Routes.is)
    c.fetch_network_with-in-Routes.result c.fetch_network_with-in-Routes.ensures.read

pub returns-in-Solve-clause-fits : goal.returns-in-Solve-clause-fits
returns-in-Solve-clause-fits g c =
    subst (λ (r : code.Request). IfOk c.fetch_one.result (λ got. OtherFits (requested r) got.1.items)) (sym c.in-Solve.is) (any_fit c.fetch_one.result)

pub returns-in-SolveForever-clause-fits : goal.returns-in-SolveForever-clause-fits
returns-in-SolveForever-clause-fits g c =
    subst (λ (r : code.Request). IfOk c.fetch_one-in-SolveForever.result (λ got. OtherFits (requested r) got.1.items)) (sym c.in-SolveForever.is)
    (any_fit c.fetch_one-in-SolveForever.result)

pub returns-in-Show-clause-fits : goal.returns-in-Show-clause-fits
returns-in-Show-clause-fits g c =
    subst (λ (r : code.Request). IfOk c.fetch_one-in-Show.result (λ got. OtherFits (requested r) got.1.items)) (sym c.in-Show.is) (any_fit c.fetch_one-in-Show.result)

pub returns-in-Load-clause-fits : goal.returns-in-Load-clause-fits
returns-in-Load-clause-fits g c =
    subst (λ (r : code.Request). IfOk c.fetch_network_with.result (λ got. OtherFits (requested r) got.1.items)) (sym c.in-Load.is) c.fetch_network_with.ensures.within

pub returns-in-Check-clause-fits : goal.returns-in-Check-clause-fits
returns-in-Check-clause-fits g c =
    subst (λ (r : code.Request). IfOk c.fetch_network_with-in-Check.result (λ got. OtherFits (requested r) got.1.items)) (sym c.in-Check.is) c.fetch_network_with-in-Check.ensures.within

pub returns-in-Quick-clause-fits : goal.returns-in-Quick-clause-fits
returns-in-Quick-clause-fits g c =
    subst (λ (r : code.Request). IfOk c.fetch_one-in-Quick.result (λ got. OtherFits (requested r) got.1.items)) (sym c.in-Quick.is) (any_fit c.fetch_one-in-Quick.result)

pub returns-in-Gen-clause-fits : goal.returns-in-Gen-clause-fits
returns-in-Gen-clause-fits g c =
    subst (λ (r : code.Request). IfOk c.make_ladder.result (λ got. OtherFits (requested r) got.1.items)) (sym c.in-Gen.is) (any_fit c.make_ladder.result)

pub returns-in-Settle-clause-fits : goal.returns-in-Settle-clause-fits
returns-in-Settle-clause-fits g c =
    subst (λ (r : code.Request). IfOk c.fetch_network_with-in-Settle.result (λ got. OtherFits (requested r) got.1.items))
    (sym c.in-Settle.is) c.fetch_network_with-in-Settle.ensures.within

pub returns-in-Resume-clause-fits : goal.returns-in-Resume-clause-fits
returns-in-Resume-clause-fits g c =
    subst (λ (r : code.Request). IfOk c.fetch_network_with-in-Resume.result (λ got. OtherFits (requested r) got.1.items))
    (sym c.in-Resume.is) c.fetch_network_with-in-Resume.ensures.within

pub returns-in-Routes-clause-fits : goal.returns-in-Routes-clause-fits
returns-in-Routes-clause-fits g c =
    subst (λ (r : code.Request). IfOk c.fetch_network_with-in-Routes.result (λ got. OtherFits (requested r) got.1.items))
    (sym c.in-Routes.is) c.fetch_network_with-in-Routes.ensures.within

pub returns-in-Solve-clause-same : goal.returns-in-Solve-clause-same
returns-in-Solve-clause-same g c = c.fetch_one.ensures.same

pub returns-in-SolveForever-clause-same : goal.returns-in-SolveForever-clause-same
returns-in-SolveForever-clause-same g c = c.fetch_one-in-SolveForever.ensures.same

pub returns-in-Show-clause-same : goal.returns-in-Show-clause-same
returns-in-Show-clause-same g c = c.fetch_one-in-Show.ensures.same

pub returns-in-Quick-clause-same : goal.returns-in-Quick-clause-same
returns-in-Quick-clause-same g c = c.fetch_one-in-Quick.ensures.same

pub returns-in-Load-clause-same : goal.returns-in-Load-clause-same
returns-in-Load-clause-same g c = c.fetch_network_with.ensures.same

pub returns-in-Check-clause-same : goal.returns-in-Check-clause-same
returns-in-Check-clause-same g c = c.fetch_network_with-in-Check.ensures.same

pub returns-in-Settle-clause-same : goal.returns-in-Settle-clause-same
returns-in-Settle-clause-same g c = c.fetch_network_with-in-Settle.ensures.same

pub returns-in-Resume-clause-same : goal.returns-in-Resume-clause-same
returns-in-Resume-clause-same g c = c.fetch_network_with-in-Resume.ensures.same

pub returns-in-Routes-clause-same : goal.returns-in-Routes-clause-same
returns-in-Routes-clause-same g c = c.fetch_network_with-in-Routes.ensures.same

pub returns-in-Solve-clause-never_falls : goal.returns-in-Solve-clause-never_falls
returns-in-Solve-clause-never_falls g c = c.fetch_one.ensures.never_falls

pub returns-in-SolveForever-clause-never_falls : goal.returns-in-SolveForever-clause-never_falls
returns-in-SolveForever-clause-never_falls g c = c.fetch_one-in-SolveForever.ensures.never_falls

pub returns-in-Show-clause-never_falls : goal.returns-in-Show-clause-never_falls
returns-in-Show-clause-never_falls g c = c.fetch_one-in-Show.ensures.never_falls

pub returns-in-Quick-clause-never_falls : goal.returns-in-Quick-clause-never_falls
returns-in-Quick-clause-never_falls g c = c.fetch_one-in-Quick.ensures.never_falls

pub returns-in-Load-clause-never_falls : goal.returns-in-Load-clause-never_falls
returns-in-Load-clause-never_falls g c = c.fetch_network_with.ensures.never_falls

pub returns-in-Check-clause-never_falls : goal.returns-in-Check-clause-never_falls
returns-in-Check-clause-never_falls g c = c.fetch_network_with-in-Check.ensures.never_falls

pub returns-in-Settle-clause-never_falls : goal.returns-in-Settle-clause-never_falls
returns-in-Settle-clause-never_falls g c = c.fetch_network_with-in-Settle.ensures.never_falls

pub returns-in-Resume-clause-never_falls : goal.returns-in-Resume-clause-never_falls
returns-in-Resume-clause-never_falls g c = c.fetch_network_with-in-Resume.ensures.never_falls

pub returns-in-Routes-clause-never_falls : goal.returns-in-Routes-clause-never_falls
returns-in-Routes-clause-never_falls g c = c.fetch_network_with-in-Routes.ensures.never_falls
