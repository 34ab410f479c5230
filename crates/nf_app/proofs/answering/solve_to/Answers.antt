use Rattle.std.proofs.Common.{refl, arith}
use Rattle.nf_app.proofs.Common.{bounds_of, solution_report}
use Rattle.nf_phase_run_laws.proofs.ReadingBack.{reads_back}
use Rattle.nf_app.proofs.answering.solve_to.Goals as goal

pub returns : goal.returns
returns c file text =
    let s = c.in_ok-solution.solution in
    let e = c.in_ok-solution.ensures.solution in
    let report = solution_report c.args.horizon s in (
      record {
        report = report;
        is = refl;
        well_formed = e.well_formed;
        equilibrium = e.equilibrium;
        run = e.run;
        only_end = e.ends;
        labels = e.labels;
        short = e.short;
        ends = e.curves_end;
        reads_back = reads_back c.args.net.now (bounds_of c.args.horizon c.args.budgets) report c.recall.ensures
            (record {
              horizon = c.recall-2.ensures;
              phases = omega arith;
              patterns = omega arith;
            })
            e.well_formed e.run;
      },
      e.well_formed,
    )
