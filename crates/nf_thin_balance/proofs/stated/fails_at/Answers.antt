use Rattle.std.proofs.Common.{sym, subst, arith}
use Rattle.nf_thin_balance.proofs.Common.{number_at, IsInRange, scaled, surplus_by, scaled_flow}
use Rattle.nf_thin_balance.proofs.Conserving.{conserves, scaled_conserves, failing}
use Rattle.nf_thin_balance.proofs.stated.fails_at.Goals as goal

pub returns : goal.returns
returns c fails scale rate flows supply can =
    failing c.meets.result fails (c.meets.ensures (surplus_by c.args.stated.now.net.now.net (scaled_flow scale flows) c.args.node) (c.stated_surplus-range.ensures scale rate flows can)
    (subst (IsInRange c.needed.result)
    (sym (scaled_conserves c.args.stated.now.net.now.net scale rate (number_at flows)
    (conserves scale c.args.stated.now.net.now.net c.args.stated.now.sets.now rate c.args.stated.now.pattern.now c.args.stated.now.full.now flows can
    c.requires.network) c.args.node (let t = c.if-node-nodes.false in let n = c.node_count-nodes.ensures in omega arith)))
    (c.needed.ensures (scaled scale rate) supply)))
