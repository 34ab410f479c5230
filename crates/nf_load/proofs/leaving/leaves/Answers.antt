use Rattle.std.proofs.Common.{refl, sym, subst, ◌∙◌, Option}
use Rattle.nf_load.proofs.Common.{ℚ, 0ℚ, is_zero, same_of, same_test, IsPace, IsPaceIf, IsLeaving, Pace}
use Rattle.nf_load.proofs.ExitSteps.{capacity_apart}
use Rattle.nf_load.proofs.Leaves.{level_leaving, busy_if, changes_if}
use Rattle.nf_load.proofs.Pacing.{first_true, second_true}
use Rattle.nf_load.proofs.leaving.leaves.Goals as goal

pub returns-then-is_level : goal.returns-then-is_level
returns-then-is_level c =
    let before = c.args.before.now in
    let after = c.args.after.now in
    let pace : IsPace c.args.capacity.now before.waits after.waits c.in-Some.pace =
    subst (λ (o : Option Pace). IsPaceIf c.args.capacity.now o before.waits after.waits) c.in-Some.is c.requires.pace in
    let step = c.is_step.ensures c.if-not-is_step.false in
    subst (λ (q : ℚ). IsLeaving before after (record { exit = q; outflow = c.in-Some.pace.rate })) (sym c.one.ensures)
    (level_leaving c.args.capacity.now before after c.in-Some.pace pace c.requires.exits step.0 step.1
    (same_of before.waits.queue 0ℚ (first_true (is_zero before.waits.queue) (is_zero after.waits.queue) c.is_level.result c.is_level.ensures c.if-is_level.true))
    (same_of after.waits.queue 0ℚ (second_true (is_zero before.waits.queue) (is_zero after.waits.queue) c.is_level.result c.is_level.ensures c.if-is_level.true)))

pub returns-in-Some-capacity : goal.returns-in-Some-capacity
returns-in-Some-capacity c =
    let before = c.args.before.now in
    let after = c.args.after.now in
    let pace : IsPace c.args.capacity.now before.waits after.waits c.in-Some.pace =
    subst (λ (o : Option Pace). IsPaceIf c.args.capacity.now o before.waits after.waits) c.in-Some.is c.requires.pace in
    let step = c.is_step.ensures c.if-not-is_step.false in
    busy_if c.args.capacity.now before after c.in-Some.pace pace c.requires.exits step.0 step.1 c.in-Some-capacity.capacity c.in-Some-capacity.is
    (capacity_apart c.args.capacity.now c.in-Some-capacity.capacity c.requires.capacity c.in-Some-capacity.is)
    (changes_if c.args.capacity.now before.waits after.waits c.in-Some.pace c.in-Some-capacity.capacity pace c.in-Some-capacity.is
    (sym c.is_level.ensures ∙ c.if-is_level.false) (same_test 0ℚ 0ℚ refl))
    c.busy.result c.busy.ensures
