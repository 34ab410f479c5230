use Rattle.std.proofs.Common.{◌<◌, ◌≤◌, ◌++◌, ◌∷◌, [], ap, ◌∙◌, arith}
use Rattle.nf_residual.proofs.Common.{err_from_is_err_and, Step, twig_at}
use Rattle.nf_residual.proofs.Twigs.{reads_first, reads_more, reads_all}
use Rattle.nf_residual.proofs.ways.Ways.steps.Goals as goal

pub step_count-count-requires : goal.step_count-count-requires
step_count-count-requires c = c.requires

pub returns-in_err-steps : goal.returns-in_err-steps
returns-in_err-steps c =
    let p = err_from_is_err_and c.from_residual.result c.from_residual.ensures.1 in
    rw p.1 tt

pub loop-init : goal.loop-init
loop-init c = reads_first c.args.self.now c.args.way c.in_ok-steps.steps.items c.in_ok-steps.ensures.items c.requires

pub last-requires : goal.last-requires
last-requires c = c.loop.invariant.within

pub returns-in_err-push : goal.returns-in_err-push
returns-in_err-push c =
    let p = err_from_is_err_and c.from_residual-in_err-push.result c.from_residual-in_err-push.ensures.1 in
    rw p.1 tt

pub before-here-requires : goal.before-here-requires
before-here-requires c = c.loop.invariant.within

pub loop-preserved : goal.loop-preserved
loop-preserved c =
    let left : c.loop.counter < (twig_at c.args.self.now c.args.way).count = omega (arith, c.step_count-count.ensures.value, c.loop-test.true) in
    reads_more c.args.self.now c.args.way c.loop.steps.items c.loop.here c.loop.counter c.loop.invariant c.push.new.self.items c.before-here.result left
    (c.in_ok-push.ensures.items ∙ ap (λ (s : Step). c.loop.steps.items ++ s ∷ []) c.last.ensures) c.before-here.ensures.value c.before-here.ensures.within

pub returns : goal.returns
returns c =
    let none : (twig_at c.args.self.now c.args.way).count ≤ c.loop.counter = omega (arith, c.step_count-count.ensures.value, c.loop-test.false) in
    reads_all c.args.self.now c.args.way c.loop.steps.items c.loop.here c.loop.counter c.loop.invariant c.reverse.new.self.items none c.reverse.ensures.items
