use Rattle.std.proofs.Common.{◌≡◌, ℕ, List, ◌≤◌, length, ap, sym, subst, arith, Result}
use Rattle.nf_app.proofs.Common.{Named, Computed, Refusal, Request, CanBeAsked, requested, input_limit, OtherFits, FindsResult}
use Rattle.nf_app_words.specs.declared.request.Request as code
use Rattle.nf_app.proofs.answering.find.Goals as goal

-- a request gives with the bytes of its second file what it gives with a borrow of them
with_bytes : (n : Named) (request : code.Request) (borrowed bytes : List ℕ) (result : Result Computed Refusal) → borrowed ≡ bytes
    → FindsResult n borrowed (requested request) result → FindsResult n bytes (requested request) result
with_bytes n request borrowed bytes result same given = subst (λ (l : List ℕ). FindsResult n l (requested request) result) same given

pub solve_to-requires : goal.solve_to-requires
solve_to-requires c = (subst (λ (r : Request). CanBeAsked r) (ap requested c.in-Solve.is) c.requires.asked).0

pub load_to-requires-clause-horizon : goal.load_to-requires-clause-horizon
load_to-requires-clause-horizon c = (subst (λ (r : Request). CanBeAsked r) (ap requested c.in-Load.is) c.requires.asked)

pub quick_to-requires-clause-amount : goal.quick_to-requires-clause-amount
quick_to-requires-clause-amount c = (subst (λ (r : Request). CanBeAsked r) (ap requested c.in-Quick.is) c.requires.asked).0

pub quick_to-requires-clause-augments : goal.quick_to-requires-clause-augments
quick_to-requires-clause-augments c = (subst (λ (r : Request). CanBeAsked r) (ap requested c.in-Quick.is) c.requires.asked).1.0

pub sum_up-requires : goal.sum_up-requires
sum_up-requires c = (subst (λ (r : Request). CanBeAsked r) (ap requested c.in-Gen.is) c.requires.asked).2

pub distribute-requires-clause-horizon : goal.distribute-requires-clause-horizon
distribute-requires-clause-horizon c = (subst (λ (r : Request). CanBeAsked r) (ap requested c.in-Routes.is) c.requires.asked)

pub load_to-requires-clause-within : goal.load_to-requires-clause-within
load_to-requires-clause-within c =
    let few : length c.args.other.items ≤ input_limit = subst (λ (r : code.Request). OtherFits (requested r) c.args.other.items) c.in-Load.is c.requires.fits in
    omega (arith, few, ap (λ (l : List ℕ). length l) c.deref.ensures.value)

pub check_report-requires : goal.check_report-requires
check_report-requires c = subst (λ (r : code.Request). OtherFits (requested r) c.args.other.items) c.in-Check.is c.requires.fits

pub settle_to-requires : goal.settle_to-requires
settle_to-requires c =
    let few : length c.args.other.items ≤ input_limit = subst (λ (r : code.Request). OtherFits (requested r) c.args.other.items) c.in-Settle.is c.requires.fits in
    omega (arith, few, ap (λ (l : List ℕ). length l) c.deref-in-Settle.ensures.value)

pub resume_to-requires : goal.resume_to-requires
resume_to-requires c = subst (λ (r : code.Request). OtherFits (requested r) c.args.other.items) c.in-Resume.is c.requires.fits

pub distribute-requires-clause-within : goal.distribute-requires-clause-within
distribute-requires-clause-within c =
    let few : length c.args.other.items ≤ input_limit = subst (λ (r : code.Request). OtherFits (requested r) c.args.other.items) c.in-Routes.is c.requires.fits in
    omega (arith, few, ap (λ (l : List ℕ). length l) c.deref-in-Routes.ensures.value)

pub returns-in-Solve : goal.returns-in-Solve
returns-in-Solve c =
    subst (λ (r : code.Request). FindsResult c.args.net.now c.args.other.items (requested r) c.solve_to.result) (sym c.in-Solve.is)
    (c.solve_to.ensures c.in-Solve.file.now c.args.other.items)

pub returns-in-SolveForever : goal.returns-in-SolveForever
returns-in-SolveForever c =
    subst (λ (r : code.Request). FindsResult c.args.net.now c.args.other.items (requested r) c.solve_on.result) (sym c.in-SolveForever.is)
    (c.solve_on.ensures c.in-SolveForever.file.now c.args.other.items)

pub returns-in-Show : goal.returns-in-Show
returns-in-Show c =
    subst (λ (r : code.Request). FindsResult c.args.net.now c.args.other.items (requested r) c.show.result) (sym c.in-Show.is) (c.show.ensures c.in-Show.file.now c.args.other.items)

pub returns-in-Load : goal.returns-in-Load
returns-in-Load c =
    with_bytes c.args.net.now c.args.request.now c.deref.result.now c.args.other.items c.load_to.result c.deref.ensures.value
    (subst (λ (r : code.Request). FindsResult c.args.net.now c.deref.result.now (requested r) c.load_to.result) (sym c.in-Load.is)
    (c.load_to.ensures c.in-Load.file.now c.in-Load.loads.now))

pub returns-in-Check : goal.returns-in-Check
returns-in-Check c =
    subst (λ (r : code.Request). FindsResult c.args.net.now c.args.other.items (requested r) c.check_report.result) (sym c.in-Check.is)
    (c.check_report.ensures c.in-Check.file.now c.in-Check.report.now)

pub returns-in-Quick : goal.returns-in-Quick
returns-in-Quick c =
    subst (λ (r : code.Request). FindsResult c.args.net.now c.args.other.items (requested r) c.quick_to.result) (sym c.in-Quick.is)
    (c.quick_to.ensures c.in-Quick.file.now c.args.other.items)

pub returns-in-Gen : goal.returns-in-Gen
returns-in-Gen c =
    subst (λ (r : code.Request). FindsResult c.args.net.now c.args.other.items (requested r) c.sum_up.result) (sym c.in-Gen.is) (c.sum_up.ensures c.args.other.items)

pub returns-in-Settle : goal.returns-in-Settle
returns-in-Settle c =
    with_bytes c.args.net.now c.args.request.now c.deref-in-Settle.result.now c.args.other.items c.settle_to.result c.deref-in-Settle.ensures.value
    (subst (λ (r : code.Request). FindsResult c.args.net.now c.deref-in-Settle.result.now (requested r) c.settle_to.result) (sym c.in-Settle.is)
    (c.settle_to.ensures c.in-Settle.file.now c.in-Settle.flows.now))

pub returns-in-Resume : goal.returns-in-Resume
returns-in-Resume c =
    subst (λ (r : code.Request). FindsResult c.args.net.now c.args.other.items (requested r) c.resume_to.result) (sym c.in-Resume.is)
    (c.resume_to.ensures c.in-Resume.file.now c.in-Resume.report.now)

pub returns-in-Routes : goal.returns-in-Routes
returns-in-Routes c =
    with_bytes c.args.net.now c.args.request.now c.deref-in-Routes.result.now c.args.other.items c.distribute.result c.deref-in-Routes.ensures.value
    (subst (λ (r : code.Request). FindsResult c.args.net.now c.deref-in-Routes.result.now (requested r) c.distribute.result) (sym c.in-Routes.is)
    (c.distribute.ensures c.in-Routes.file.now c.in-Routes.routes.now))
