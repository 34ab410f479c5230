use Rattle.std.proofs.Common.{◌∙◌, ℕ, ◌≤◌, sym, subst}
use Rattle.nf_pattern.proofs.Common.{take_all}
use Rattle.nf_pattern.proofs.Each.{take_pushed}
use Rattle.nf_pattern.proofs.question.copied_flags.Goals as goal

pub loop-e-preserved : goal.loop-e-preserved
loop-e-preserved c = record {
  active =
      take_pushed c.args.sets.now.active c.loop-e.active.items c.push.new.self.items c.loop-e.e c.active-is_active.result c.active-is_active.ensures.flag
      c.loop-e.invariant.active c.in_ok-push.ensures.items;
  resetting =
      take_pushed c.args.sets.now.resetting c.loop-e.resetting.items c.push-in-loop-e.new.self.items c.loop-e.e c.resetting-is_resetting.result
      c.resetting-is_resetting.ensures.flag c.loop-e.invariant.resetting c.in_ok-push-2.ensures.items;
}

pub returns-clause-active : goal.returns-clause-active
returns-clause-active c = c.loop-e.invariant.active ∙ take_all c.loop-e.e c.args.sets.now.active (subst (λ (n : ℕ). n ≤ c.loop-e.e) (sym c.requires.active) c.loop-e-test.false)

pub returns-clause-resetting : goal.returns-clause-resetting
returns-clause-resetting c =
    c.loop-e.invariant.resetting ∙ take_all c.loop-e.e c.args.sets.now.resetting
    (subst (λ (n : ℕ). n ≤ c.loop-e.e) (sym c.requires.resetting) c.loop-e-test.false)
