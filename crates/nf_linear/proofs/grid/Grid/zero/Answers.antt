use Rattle.std.proofs.Common.{◌≤◌, length, arith, length-take-le}
use Rattle.nf_linear.proofs.Written.{zero_seen, zeros_square}
use Rattle.nf_linear.proofs.grid.Grid.zero.Goals as goal

pub default-rows-requires-room-T-Default : goal.default-rows-requires-room-T-Default
default-rows-requires-room-T-Default g c κs = let few = c.requires.few in omega arith

pub default-rows-requires : goal.default-rows-requires
default-rows-requires g c = let few = c.requires.few in omega arith

pub whole_as_front-wipe : goal.whole_as_front-wipe
whole_as_front-wipe g c = let few = c.requires.few in (c.requires.size.1, omega arith)

pub wipe-requires : goal.wipe-requires
wipe-requires g c = let few = c.requires.few in (omega arith, c.requires.size.1)

pub invariant_of-result : goal.invariant_of-result
invariant_of-result g c =
    let within = c.requires.size.1 in
    let all = c.default-rows.ensures.long in
    let long : c.args.size ≤ length c.default-rows.result = omega arith in
    (c.requires.few, within, zeros_square c.args.size _ c.wipe.new.rows _ (length-take-le c.args.size c.default-rows.result long) c.wipe.ensures)

pub returns : goal.returns
returns g c =
    let within = c.requires.size.1 in
    let all = c.default-rows.ensures.long in
    let long : c.args.size ≤ length c.default-rows.result = omega arith in
    zero_seen c.args.size _ c.wipe.new.rows _ (length-take-le c.args.size c.default-rows.result long) c.wipe.ensures
