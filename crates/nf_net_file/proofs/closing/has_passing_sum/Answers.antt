use Rattle.std.proofs.Common.{ℕ, ◌<◌, ◌≤◌, length, unwrap_or, [], sym, subst, arith, rules}
use Rattle.nf_net_file.proofs.Common.{place_of, AreBelow, seen_draft}
use Rattle.nf_net_file.proofs.FileWalks.{good_of, below_of, transits_of, few_hops, source_given, source_below, has_no_passing, passing_by_fault}
use Rattle.nf_net_file.proofs.closing.has_passing_sum.Goals as goal

pub place_in-source-requires-clause-few : goal.place_in-source-requires-clause-few
place_in-source-requires-clause-few c = (good_of (seen_draft c.args.draft.now) c.requires.read).few_nodes

pub place_in-source-requires-clause-given : goal.place_in-source-requires-clause-given
place_in-source-requires-clause-given c = source_given (seen_draft c.args.draft.now) c.requires.ends

pub overflow_cast-len : goal.overflow_cast-len
overflow_cast-len c = let few : length c.args.draft.now.nodes ≤ 64 = (good_of (seen_draft c.args.draft.now) c.requires.read).few_nodes in search rules

pub distances-requires-clause-ends : goal.distances-requires-clause-ends
distances-requires-clause-ends c =
    subst (λ (n : ℕ). AreBelow n c.args.hops.now) (sym c.len.ensures) (below_of (seen_draft c.args.draft.now) c.args.hops.now c.requires.read c.requires.hops)

pub distances-requires-clause-from : goal.distances-requires-clause-from
distances-requires-clause-from c =
    let below : place_of c.args.draft.now.nodes (unwrap_or c.args.draft.now.source []) < length c.args.draft.now.nodes =
    source_below (seen_draft c.args.draft.now) c.requires.read c.requires.ends in
    omega (arith, c.place_in-source.ensures, c.len.ensures)

pub distances-requires-clause-fewer : goal.distances-requires-clause-fewer
distances-requires-clause-fewer c =
    let few : length c.args.hops.now ≤ 200 = few_hops (seen_draft c.args.draft.now) c.args.hops.now c.requires.read c.requires.hops in omega arith

pub distances-requires-clause-transits : goal.distances-requires-clause-transits
distances-requires-clause-transits c = transits_of (seen_draft c.args.draft.now) c.args.hops.now c.requires.read c.requires.hops

pub returns-in-Ok : goal.returns-in-Ok
returns-in-Ok c = has_no_passing (seen_draft c.args.draft.now) c.args.hops.now c.requires.hops c.place_in-source.result c.place_in-source.ensures c.in-Ok.ensures.fits

pub returns : goal.returns
returns c =
    passing_by_fault (seen_draft c.args.draft.now) c.args.hops.now c.requires.hops c.place_in-source.result c.place_in-source.ensures _ c.is_passing.result
    c.in-Err.ensures.passed c.is_passing.ensures
