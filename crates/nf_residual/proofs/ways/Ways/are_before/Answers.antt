use Rattle.std.proofs.Common.{◌<◌, ◌≤◌, false, ap, ◌∙◌, arith}
use Rattle.nf_residual.proofs.Common.{Step, twig_at, one_before}
use Rattle.nf_residual.proofs.FromBehind.{compares_first, compares_same, compares_more, compares_all}
use Rattle.nf_residual.proofs.ways.Ways.are_before.Goals as goal

pub loop-init : goal.loop-init
loop-init c = compares_first c.args.self.now c.args.way c.args.step c.args.other c.decided-are_before.result c.before-there.result c.requires.count
    (c.decided-are_before.ensures ∙ ap (λ (s : Step). one_before c.args.step s false) c.last.ensures) c.before-there.ensures.value c.requires.way c.before-there.ensures.within

pub returns-then-here-there : goal.returns-then-here-there
returns-then-here-there c =
    compares_same c.args.self.now c.args.way c.args.step c.args.other c.loop.here c.loop.there c.loop.are_before c.loop.counter c.loop.invariant
    c.if-here-there.true

pub loop-preserved : goal.loop-preserved
loop-preserved c =
    let left : c.loop.counter < (twig_at c.args.self.now c.args.way).count = omega (arith, c.step_count-end.ensures.value, c.loop-test.true) in
    compares_more c.args.self.now c.args.way c.args.step c.args.other c.loop.here c.loop.there c.loop.are_before c.loop.counter c.loop.invariant
    c.decided-are_before-in-loop.result c.before-here.result c.before-there-in-loop.result left
    (c.decided-are_before-in-loop.ensures ∙ ap (λ (s : Step). one_before s c.last-in-loop-2.result c.loop.are_before) c.last-in-loop.ensures
    ∙ ap (λ (s : Step). one_before (twig_at c.args.self.now c.loop.here).last s c.loop.are_before) c.last-in-loop-2.ensures)
    c.before-here.ensures.value c.before-there-in-loop.ensures.value c.before-here.ensures.within c.before-there-in-loop.ensures.within

pub returns : goal.returns
returns c =
    let none : (twig_at c.args.self.now c.args.way).count ≤ c.loop.counter = omega (arith, c.step_count-end.ensures.value, c.loop-test.false) in
    compares_all c.args.self.now c.args.way c.args.step c.args.other c.loop.here c.loop.there c.loop.are_before c.loop.counter c.loop.invariant none
