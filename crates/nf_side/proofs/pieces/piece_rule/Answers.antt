use Rattle.std.proofs.Common.{◌<◌, length, arith, rules}
use Rattle.nf_side.proofs.pieces.piece_rule.Goals as goal

pub returns : goal.returns
returns g c = let few : length c.args.before.now < c.args.rules.most = omega arith in search rules
