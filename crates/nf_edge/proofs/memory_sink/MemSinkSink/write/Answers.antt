use Rattle.std.proofs.Common.{rules}
use Rattle.nf_edge.proofs.Sunk.{failed}
use Rattle.nf_edge.proofs.memory_sink.MemSinkSink.write.Goals as goal

pub returns-then-count-eq0-clause-err : goal.returns-then-count-eq0-clause-err
returns-then-count-eq0-clause-err c = failed _ c.args.self.now _ _ c.self.view_is c.saturating_add-self-inside.ensures c.saturating_add-self-inside-then-count-eq0.ensures

pub returns-clause-count : goal.returns-clause-count
returns-clause-count c = search rules
