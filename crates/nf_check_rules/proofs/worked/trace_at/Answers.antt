use Rattle.std.proofs.Common.{refl}
use Rattle.nf_check_rules.proofs.Common.{slice_get_read}
use Rattle.nf_check_rules.proofs.ByNumber.{trace_there, trace_same, trace_points}
use Rattle.nf_check_rules.proofs.worked.trace_at.Goals as goal

pub returns-clause-there : goal.returns-clause-there
returns-clause-there c =
    trace_there c.args.traces.now c.args.link c.index-traces-index.result
    (slice_get_read c.args.traces.now _ c.args.link c.index-traces-index.result refl c.requires (rw c.index.ensures at c.index-traces-index.is))

pub returns-clause-trace : goal.returns-clause-trace
returns-clause-trace c =
    trace_same c.args.traces.now c.args.link c.index-traces-index.result
    (slice_get_read c.args.traces.now _ c.args.link c.index-traces-index.result refl c.requires (rw c.index.ensures at c.index-traces-index.is))

pub returns-clause-points : goal.returns-clause-points
returns-clause-points c =
    trace_points c.args.traces.now c.args.link c.index-traces-index.result
    (slice_get_read c.args.traces.now _ c.args.link c.index-traces-index.result refl c.requires (rw c.index.ensures at c.index-traces-index.is))
