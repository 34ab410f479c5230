use Rattle.std.proofs.Common.{ℕ, ◌<◌, ◌≤◌, length, unwrap_or, [], sym, subst, arith, rules}
use Rattle.nf_net_file.proofs.Common.{place_of, AreBelow, seen_draft}
use Rattle.nf_net_file.proofs.FileWalks.{good_of, below_of, source_given, source_below}
use Rattle.nf_net_file.proofs.closing.flags_of.Goals as goal

pub place_in-source-requires-clause-few : goal.place_in-source-requires-clause-few
place_in-source-requires-clause-few c = (good_of (seen_draft c.args.draft.now) c.requires.read).few_nodes

pub place_in-source-requires-clause-given : goal.place_in-source-requires-clause-given
place_in-source-requires-clause-given c = source_given (seen_draft c.args.draft.now) c.requires.ends

pub overflow_cast-len : goal.overflow_cast-len
overflow_cast-len c = let few : length c.args.draft.now.nodes ≤ 64 = (good_of (seen_draft c.args.draft.now) c.requires.read).few_nodes in search rules

pub reached-requires-clause-ends : goal.reached-requires-clause-ends
reached-requires-clause-ends c =
    subst (λ (n : ℕ). AreBelow n c.args.hops.now) (sym c.len.ensures) (below_of (seen_draft c.args.draft.now) c.args.hops.now c.requires.read c.requires.hops)

pub reached-requires-clause-from : goal.reached-requires-clause-from
reached-requires-clause-from c =
    let below : place_of c.args.draft.now.nodes (unwrap_or c.args.draft.now.source []) < length c.args.draft.now.nodes =
    source_below (seen_draft c.args.draft.now) c.requires.read c.requires.ends in
    omega (arith, c.place_in-source.ensures, c.len.ensures)
