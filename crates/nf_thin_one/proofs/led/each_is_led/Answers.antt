use Rattle.std.proofs.Common.{◌≡◌, ⊎_elim, false, replicate, refl, ◌∙◌, arith}
use Rattle.nf_thin_one.proofs.Common.{IsLed}
use Rattle.nf_thin_one.proofs.Leading.{source_led}
use Rattle.nf_thin_one.proofs.led.each_is_led.Goals as goal

pub flag_led-requires-clause-led : goal.flag_led-requires-clause-led
flag_led-requires-clause-led c = source_led c.args.net.now.net c.args.sets.now c.args.pattern.now (replicate 64 false) c.index.result refl (c.index.ensures ∙ c.source.ensures.value)

pub returns : goal.returns
returns c = λ told v less other. ⊎_elim
    (λ (same : v ≡ c.args.net.now.net.source). absurd (other same))
    (λ (led : IsLed c.args.net.now.net c.args.sets.now c.args.pattern.now v). led)
    (c.flag_led.ensures v (c.are_set.ensures told v (let n = c.node_count.ensures in omega arith)))
