use Rattle.std.proofs.Common.{subst}
use Rattle.nf_thin_balance.proofs.Common.{0ℚ, IsInRange}
use Rattle.nf_thin_balance.proofs.Conserving.{needed_sink, needed_source, needed_none}
use Rattle.nf_thin_balance.proofs.node_test.needed.Goals as goal

pub returns-then-takes : goal.returns-then-takes
returns-then-takes c rate within = subst (IsInRange c.difference.result)
    (needed_sink c.args.net.now.net rate c.args.node c.sink.result c.eq-takes.result c.eq-takes.ensures c.sink.ensures.value c.if-takes.true)
    (c.difference.ensures 0ℚ rate c.zero.ensures within)

pub returns-then-sends : goal.returns-then-sends
returns-then-sends c rate within = subst (IsInRange c.args.supply)
    (needed_source c.args.net.now.net rate c.args.node c.sink.result c.eq-takes.result c.eq-takes.ensures c.sink.ensures.value
    c.source.result c.eq-sends.result c.eq-sends.ensures c.source.ensures.value c.if-takes.false c.if-sends.true)
    within

pub returns-else-sends : goal.returns-else-sends
returns-else-sends c rate within = subst (IsInRange c.zero-else-sends.result)
    (needed_none c.args.net.now.net rate c.args.node c.sink.result c.eq-takes.result c.eq-takes.ensures c.sink.ensures.value
    c.source.result c.eq-sends.result c.eq-sends.ensures c.source.ensures.value c.if-takes.false c.if-sends.false)
    c.zero-else-sends.ensures
