use Rattle.std.proofs.Common.{◌≡◌, ℕ, List, ◌++◌, refl, ap, Option, Result}
use Rattle.nf_app_answers.proofs.Common.{option_copied, ℚ, SinkState, Wrote, Named, Report, WroteLines, wrote_next, wrote_failed, wrote_then_failed}
use Rattle.nf_app_answers.proofs.Common.{same_lines, ladder_lines, size_lines, run_lines, run_end_lines, last_arrival, gen_text}
use Rattle.nf_net_def.specs.declared.Cause.{Cause}
use Rattle.nf_phase.specs.Solution.{solution_report}
use Rattle.nf_app_answers.proofs.gen_text.write_summary.Goals as goal

-- with the arrival of the last departure, the lines are the text
as_text : {E : Type 0} {old now : SinkState} {r : Result (Unit {0}) E} (number rungs : ℕ) (n : Named) (made : ℕ) (report : Report) (arrival : ℚ)
    → WroteLines old now (ladder_lines number rungs ++ size_lines n ++ run_lines made report.flow.reached ++ run_end_lines report.stop arrival) r
    → arrival ≡ last_arrival n report → Wrote old now (gen_text number rungs n made report) r
as_text number rungs n made report arrival w last =
    same_lines (ladder_lines number rungs ++ size_lines n ++ run_lines made report.flow.reached ++ run_end_lines report.stop arrival)
    (ladder_lines number rungs ++ size_lines n ++ run_lines made report.flow.reached ++ run_end_lines report.stop (last_arrival n report))
    (ap (λ (time : ℚ). ladder_lines number rungs ++ size_lines n ++ run_lines made report.flow.reached ++ run_end_lines report.stop time) last) w

pub returns-in_err-write_ladder-clause-lines : goal.returns-in_err-write_ladder-clause-lines
returns-in_err-write_ladder-clause-lines g c =
    let s = c.args.solution.now in
    let first = ladder_lines c.args.ladder.number c.args.ladder.rungs in
    let rest = size_lines c.args.net.now ++ run_lines s.phases s.flow.reached ++ run_end_lines s.stopped c.args.arrival in
    wrote_failed first rest (first ++ rest) c.from_residual.result refl c.from_residual.ensures.0 c.in_err-write_ladder.ensures

pub returns-in_err-write_ladder-clause-text : goal.returns-in_err-write_ladder-clause-text
returns-in_err-write_ladder-clause-text g c horizon =
    let s = c.args.solution.now in
    as_text c.args.ladder.number c.args.ladder.rungs c.args.net.now s.phases (solution_report horizon s) c.args.arrival (returns-in_err-write_ladder-clause-lines g c)

pub returns-in_err-write_size-clause-lines : goal.returns-in_err-write_size-clause-lines
returns-in_err-write_size-clause-lines g c =
    let s = c.args.solution.now in
    let first = ladder_lines c.args.ladder.number c.args.ladder.rungs in
    let second = size_lines c.args.net.now in
    let rest = run_lines s.phases s.flow.reached ++ run_end_lines s.stopped c.args.arrival in
    wrote_then_failed first second rest (first ++ second ++ rest) c.from_residual-in_err-write_size.result refl c.from_residual-in_err-write_size.ensures.0
    c.in_ok-write_ladder.ensures c.in_err-write_size.ensures

pub returns-in_err-write_size-clause-text : goal.returns-in_err-write_size-clause-text
returns-in_err-write_size-clause-text g c horizon =
    let s = c.args.solution.now in
    as_text c.args.ladder.number c.args.ladder.rungs c.args.net.now s.phases (solution_report horizon s) c.args.arrival (returns-in_err-write_size-clause-lines g c)

pub returns-in_err-write_run-clause-lines : goal.returns-in_err-write_run-clause-lines
returns-in_err-write_run-clause-lines g c =
    let s = c.args.solution.now in
    let first = ladder_lines c.args.ladder.number c.args.ladder.rungs in
    let second = size_lines c.args.net.now in
    let third = run_lines s.phases s.flow.reached in
    let rest = run_end_lines s.stopped c.args.arrival in
    wrote_then_failed (first ++ second) third rest (first ++ second ++ third ++ rest) c.from_residual-in_err-write_run.result refl c.from_residual-in_err-write_run.ensures.0
    (wrote_next first second (first ++ second) refl c.in_ok-write_ladder.ensures c.in_ok-write_size.ensures) c.in_err-write_run.ensures

pub returns-in_err-write_run-clause-text : goal.returns-in_err-write_run-clause-text
returns-in_err-write_run-clause-text g c horizon =
    let s = c.args.solution.now in
    as_text c.args.ladder.number c.args.ladder.rungs c.args.net.now s.phases (solution_report horizon s) c.args.arrival (returns-in_err-write_run-clause-lines g c)

pub returns-clause-lines : goal.returns-clause-lines
returns-clause-lines g c =
    let s = c.args.solution.now in
    let first = ladder_lines c.args.ladder.number c.args.ladder.rungs in
    let second = size_lines c.args.net.now in
    let third = run_lines s.phases s.flow.reached in
    let rest = run_end_lines s.stopped c.args.arrival in
    let stop : option_copied c.as_ref.result ≡ s.stopped = cc (c.as_ref.ensures.value) in
    wrote_next (first ++ second ++ third) rest (first ++ second ++ third ++ rest) refl
    (wrote_next (first ++ second) third (first ++ second ++ third) refl
    (wrote_next first second (first ++ second) refl c.in_ok-write_ladder.ensures c.in_ok-write_size.ensures) c.in_ok-write_run.ensures)
    (same_lines (run_end_lines (option_copied c.as_ref.result) c.args.arrival) rest (ap (λ (o : Option (Cause ℚ)). run_end_lines o c.args.arrival) stop) c.write_end.ensures)

pub returns-clause-text : goal.returns-clause-text
returns-clause-text g c horizon =
    let s = c.args.solution.now in
    as_text c.args.ladder.number c.args.ladder.rungs c.args.net.now s.phases (solution_report horizon s) c.args.arrival (returns-clause-lines g c)
