use Rattle.std.proofs.Common.{◌∙◌, ap, sym, option_and_then}
use Rattle.nf_app_words.proofs.Common.{Task, rows_in, asked}
use Rattle.nf_app_words.proofs.request.request_of.Goals as goal

pub returns-in-Solve : goal.returns-in-Solve
returns-in-Solve c =
    ap (option_and_then (λ (does : Task). asked does (rows_in c.args.matches.now))) (sym c.in_ok-task_of.ensures)
    ∙ ap (λ (does : Task). asked does (rows_in c.args.matches.now)) c.in-Solve.is
    ∙ c.solve.ensures

pub returns-in-SolveForever : goal.returns-in-SolveForever
returns-in-SolveForever c =
    ap (option_and_then (λ (does : Task). asked does (rows_in c.args.matches.now))) (sym c.in_ok-task_of.ensures)
    ∙ ap (λ (does : Task). asked does (rows_in c.args.matches.now)) c.in-SolveForever.is
    ∙ c.solve_forever.ensures

pub returns-in-Show : goal.returns-in-Show
returns-in-Show c =
    ap (option_and_then (λ (does : Task). asked does (rows_in c.args.matches.now))) (sym c.in_ok-task_of.ensures)
    ∙ ap (λ (does : Task). asked does (rows_in c.args.matches.now)) c.in-Show.is
    ∙ c.show.ensures

pub returns-in-Load : goal.returns-in-Load
returns-in-Load c =
    ap (option_and_then (λ (does : Task). asked does (rows_in c.args.matches.now))) (sym c.in_ok-task_of.ensures)
    ∙ ap (λ (does : Task). asked does (rows_in c.args.matches.now)) c.in-Load.is
    ∙ c.load.ensures

pub returns-in-Check : goal.returns-in-Check
returns-in-Check c =
    ap (option_and_then (λ (does : Task). asked does (rows_in c.args.matches.now))) (sym c.in_ok-task_of.ensures)
    ∙ ap (λ (does : Task). asked does (rows_in c.args.matches.now)) c.in-Check.is
    ∙ c.check.ensures

pub returns-in-Quick : goal.returns-in-Quick
returns-in-Quick c =
    ap (option_and_then (λ (does : Task). asked does (rows_in c.args.matches.now))) (sym c.in_ok-task_of.ensures)
    ∙ ap (λ (does : Task). asked does (rows_in c.args.matches.now)) c.in-Quick.is
    ∙ c.quick.ensures

pub returns-in-Gen : goal.returns-in-Gen
returns-in-Gen c =
    ap (option_and_then (λ (does : Task). asked does (rows_in c.args.matches.now))) (sym c.in_ok-task_of.ensures)
    ∙ ap (λ (does : Task). asked does (rows_in c.args.matches.now)) c.in-Gen.is
    ∙ c.generate.ensures

pub returns-in-Settle : goal.returns-in-Settle
returns-in-Settle c =
    ap (option_and_then (λ (does : Task). asked does (rows_in c.args.matches.now))) (sym c.in_ok-task_of.ensures)
    ∙ ap (λ (does : Task). asked does (rows_in c.args.matches.now)) c.in-Settle.is
    ∙ c.settle.ensures

pub returns-in-Resume : goal.returns-in-Resume
returns-in-Resume c =
    ap (option_and_then (λ (does : Task). asked does (rows_in c.args.matches.now))) (sym c.in_ok-task_of.ensures)
    ∙ ap (λ (does : Task). asked does (rows_in c.args.matches.now)) c.in-Resume.is
    ∙ c.resume.ensures

pub returns-in-Routes : goal.returns-in-Routes
returns-in-Routes c =
    ap (option_and_then (λ (does : Task). asked does (rows_in c.args.matches.now))) (sym c.in_ok-task_of.ensures)
    ∙ ap (λ (does : Task). asked does (rows_in c.args.matches.now)) c.in-Routes.is
    ∙ c.routes.ensures
