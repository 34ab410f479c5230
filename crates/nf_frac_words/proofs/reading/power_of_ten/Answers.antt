use Rattle.std.proofs.Common.{arith, ◌<◌, ◌^◌, ◌/◌}
use Rattle.nf_frac_words.proofs.Bounds.{power_passes}
use Rattle.nf_frac_words.proofs.reading.power_of_ten.Goals as goal

pub returns-then-power-bound : goal.returns-then-power-bound
returns-then-power-bound c =
    let wide : c.args.bound / 10 < 10 ^ c.loop.counter = omega arith in
    power_passes c.loop.counter c.args.exponent c.args.bound c.loop-test.true wide
