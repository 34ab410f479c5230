use Rattle.std.proofs.Common.{subst, sym}
use Rattle.nf_thin_balance.proofs.Common.{IsInRange}
use Rattle.nf_thin_balance.proofs.Within.{resetting_within, idle_flow}
use Rattle.nf_thin_balance.proofs.ranges.flow_range.Goals as goal

pub returns-then-resetting : goal.returns-then-resetting
returns-then-resetting c scale capacity flow tail_slope head_slope m =
    resetting_within scale c.args.state c.args.resetting c.args.full capacity flow tail_slope head_slope m c.in_default.is c.if-resetting.true

pub returns-else-resetting : goal.returns-else-resetting
returns-else-resetting c scale capacity flow tail_slope head_slope m = subst (IsInRange c.zero.result)
    (sym (idle_flow scale c.args.state c.args.resetting c.args.full capacity flow tail_slope head_slope m c.in_default.is c.if-resetting.false)) c.zero.ensures
