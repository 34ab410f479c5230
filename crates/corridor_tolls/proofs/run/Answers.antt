use Rattle.std.proofs.Common.{sym, ◌∙◌}
use Rattle.corridor_tolls.proofs.Given.{not_below}
use Rattle.corridor_tolls.proofs.run.Goals as goal

pub link_tolls-requires-clause-horizon : goal.link_tolls-requires-clause-horizon
link_tolls-requires-clause-horizon g c = not_below _ c.zero.result c.zero.ensures (sym c.is_below.ensures ∙ c.if-is_below.false)
