use Rattle.std.proofs.Common.{ℕ, sym, ap, subst, ◌∙◌}
use Rattle.nf_thin_one.proofs.Common.{Link, IsLed}
use Rattle.nf_thin_one.proofs.Leading.{led_by, one_more_led}
use Rattle.nf_thin_one.proofs.led.flag_led.Goals.{then-may_carry, else-may_carry}
use Rattle.nf_thin_one.proofs.led.flag_led.Goals as goal

pub may_carry-requires-clause-sets : goal.may_carry-requires-clause-sets
may_carry-requires-clause-sets c = sym c.requires.pattern.pattern_is.count

pub loop-e-preserved : goal.loop-e-preserved
loop-e-preserved c = elim c.if-may_carry.branch [
  | then-may_carry w ↦ rw w.led-is (one_more_led c.args.net.now.net c.args.sets.now c.args.pattern.now c.loop-e.led w.index.result c.loop-e.invariant
      (subst (λ (v : ℕ). IsLed c.args.net.now.net c.args.sets.now c.args.pattern.now v) (sym (w.index.ensures ∙ ap (λ (l : Link). l.head) w.head.view_is))
      (led_by c.args.net.now.net c.args.sets.now c.args.pattern.now c.loop-e.e w.link.result w.link.ensures.link (c.may_carry.ensures w.if-may_carry.true))))
  | else-may_carry w ↦ rw w.led-is c.loop-e.invariant
]
