use Rattle.std.proofs.Common.{sym, ◌∙◌}
use Rattle.nf_residual.proofs.Common.{way_at, extended_by}
use Rattle.nf_residual.proofs.FromBehind.{shorter, longer_one, as_long}
use Rattle.nf_residual.proofs.ways.Ways.is_better.Goals as goal

pub returns-in-Less : goal.returns-in-Less
returns-in-Less c distance e = shorter (extended_by (way_at c.args.self.now c.args.way) c.args.step distance) (way_at c.args.self.now c.args.other) (sym e ∙ c.in-Less.is)

pub returns-in-Greater : goal.returns-in-Greater
returns-in-Greater c distance e = longer_one (extended_by (way_at c.args.self.now c.args.way) c.args.step distance) (way_at c.args.self.now c.args.other) (sym e ∙ c.in-Greater.is)

pub returns-in-Equal : goal.returns-in-Equal
returns-in-Equal c distance e =
    as_long (extended_by (way_at c.args.self.now c.args.way) c.args.step distance) (way_at c.args.self.now c.args.other)
    (sym e ∙ c.in-Equal.is) c.are_fewer_or_before.result c.are_fewer_or_before.ensures
