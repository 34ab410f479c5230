use Rattle.nf_thin_one.proofs.Common.{AreLed}
use Rattle.nf_thin_one.proofs.led.flag_led.Given as goal

abbrev pub invariant-loop-e : goal.invariant-loop-e
invariant-loop-e l = AreLed l.net.net l.sets l.pattern l.led
