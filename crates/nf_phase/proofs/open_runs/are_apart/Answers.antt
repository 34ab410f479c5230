use Rattle.std.proofs.Common.{length, arith}
use Rattle.nf_phase.proofs.Opened.{apart_more, apart_all}
use Rattle.nf_phase.proofs.open_runs.are_apart.Goals as goal

pub loop-e-init : goal.loop-e-init
loop-e-init c = λ k b. absurd (omega arith)

pub returns-then-not-is_apart : goal.returns-then-not-is_apart
returns-then-not-is_apart c = λ all. c.if-not-is_apart.ensures (all c.loop-e.e)

pub loop-e-preserved : goal.loop-e-preserved
loop-e-preserved c = apart_more c.args.slacks.now c.args.last.now c.loop-e.e c.loop-e.invariant c.if-not-is_apart.ensures

pub returns : goal.returns
returns c = apart_all c.args.slacks.now c.args.last.now (length c.args.net.now.net.links) c.requires.last (λ k b. c.loop-e.invariant k (omega arith))
