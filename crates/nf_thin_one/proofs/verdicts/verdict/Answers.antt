use Rattle.nf_thin_one.proofs.Common.{err_from_is_err_and, passes_Q}
use Rattle.nf_thin_one.proofs.Concluding.{judged_err, none_passes, first_fails, all_meet}
use Rattle.nf_thin_one.proofs.verdicts.verdict.Goals as goal

pub returns-in_err-failing : goal.returns-in_err-failing
returns-in_err-failing c =
    let p = err_from_is_err_and c.from_residual.result c.from_residual.ensures.1 in
    rw (p.1, p.2) (judged_err passes_Q c.args.net.now.net c.args.pattern.now c.args.flows.now c.args.labels.now c.in_err-failing.field-0.0 c.in_err-failing.ensures)

pub returns-in-Some : goal.returns-in-Some
returns-in-Some c =
    (none_passes passes_Q c.args.net.now.net c.args.pattern.now c.args.flows.now c.args.labels.now c.requires.states c.in_ok-failing.failing c.in_ok-failing.ensures, c.in-Some.ensures)

pub returns-in-Some-failing : goal.returns-in-Some-failing
returns-in-Some-failing c = (
  none_passes passes_Q c.args.net.now.net c.args.pattern.now c.args.flows.now c.args.labels.now c.requires.states c.in_ok-failing.failing c.in_ok-failing.ensures,
  first_fails passes_Q c.args.net.now.net c.args.pattern.now c.args.flows.now c.args.labels.now c.requires.states c.in_ok-failing.failing
      c.in_ok-failing.ensures c.in-Some-failing.link c.in-Some-failing.is c.in-None.ensures,
)

pub returns-in-None-failing : goal.returns-in-None-failing
returns-in-None-failing c = (
  none_passes passes_Q c.args.net.now.net c.args.pattern.now c.args.flows.now c.args.labels.now c.requires.states c.in_ok-failing.failing c.in_ok-failing.ensures,
  all_meet passes_Q c.args.net.now.net c.args.pattern.now c.args.flows.now c.args.labels.now c.requires.states c.in_ok-failing.failing
      c.in_ok-failing.ensures c.in-None-failing.is c.requires.flows c.in-None.ensures,
)
