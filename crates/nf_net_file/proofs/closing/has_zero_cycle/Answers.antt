use Rattle.std.proofs.Common.{ℕ, ◌≤◌, length, sym, subst, arith, rules}
use Rattle.nf_net_file.proofs.Common.{AreBelow, seen_draft}
use Rattle.nf_net_file.proofs.FileWalks.{good_of, below_of, few_hops, cycle_by_option}
use Rattle.nf_net_file.proofs.closing.has_zero_cycle.Goals as goal

pub overflow_cast-len : goal.overflow_cast-len
overflow_cast-len c = let few : length c.args.draft.now.nodes ≤ 64 = (good_of (seen_draft c.args.draft.now) c.requires.read).few_nodes in search rules

pub zero_cycle-requires-clause-ends : goal.zero_cycle-requires-clause-ends
zero_cycle-requires-clause-ends c =
    subst (λ (n : ℕ). AreBelow n c.args.hops.now) (sym c.len.ensures) (below_of (seen_draft c.args.draft.now) c.args.hops.now c.requires.read c.requires.hops)

pub zero_cycle-requires-clause-fewer : goal.zero_cycle-requires-clause-fewer
zero_cycle-requires-clause-fewer c =
    let few : length c.args.hops.now ≤ 200 = few_hops (seen_draft c.args.draft.now) c.args.hops.now c.requires.read c.requires.hops in omega arith

pub returns : goal.returns
returns c =
    cycle_by_option (seen_draft c.args.draft.now) c.args.hops.now c.requires.hops c.in_ok-cycle.cycle c.in_ok-cycle.ensures.cycle c.in_ok-cycle.ensures.none
    c.is_some-there.result c.is_some-there.ensures
