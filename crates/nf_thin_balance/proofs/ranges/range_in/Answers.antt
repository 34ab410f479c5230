use Rattle.std.proofs.Common.{ap, subst, sym, Some}
use Rattle.nf_thin_balance.proofs.Common.{State, IsInRange}
use Rattle.nf_thin_balance.proofs.Within.{tight_up_to, from_none, full_within, zero_flow}
use Rattle.nf_thin_balance.proofs.ranges.range_in.Goals as goal

pub returns-in-Tight : goal.returns-in-Tight
returns-in-Tight c scale resetting capacity flow tail_slope head_slope m =
    c.from_zero.ensures _ (from_none scale (Some c.args.state) resetting c.args.full capacity flow tail_slope head_slope m)
    (tight_up_to scale (Some c.args.state) resetting c.args.full capacity flow tail_slope head_slope m (ap (λ (s : State). Some s) c.in-Tight.is))

pub returns-in-Full : goal.returns-in-Full
returns-in-Full c scale resetting capacity flow tail_slope head_slope m =
    full_within scale (Some c.args.state) resetting c.args.full capacity flow tail_slope head_slope m (ap (λ (s : State). Some s) c.in-Full.is)

pub returns-in-Zero : goal.returns-in-Zero
returns-in-Zero c scale resetting capacity flow tail_slope head_slope m = subst (IsInRange c.zero.result)
    (sym (zero_flow scale (Some c.args.state) resetting c.args.full capacity flow tail_slope head_slope m (ap (λ (s : State). Some s) c.in-Zero.is))) c.zero.ensures
