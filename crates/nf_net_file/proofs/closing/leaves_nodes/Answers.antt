use Rattle.std.proofs.Common.{◌<◌, length, unwrap_or, [], arith}
use Rattle.nf_net_file.proofs.Common.{place_of, seen_draft}
use Rattle.nf_net_file.proofs.FileWalks.{good_of, sink_given, sink_below, leaves_by_test}
use Rattle.nf_net_file.proofs.closing.leaves_nodes.Goals as goal

pub place_in-sink-requires-clause-few : goal.place_in-sink-requires-clause-few
place_in-sink-requires-clause-few c = (good_of (seen_draft c.args.draft.now) c.requires.read).few_nodes

pub place_in-sink-requires-clause-given : goal.place_in-sink-requires-clause-given
place_in-sink-requires-clause-given c = sink_given (seen_draft c.args.draft.now) c.requires.ends

pub leaves_unreached-requires : goal.leaves_unreached-requires
leaves_unreached-requires c =
    let below : place_of c.args.draft.now.nodes (unwrap_or c.args.draft.now.sink []) < length c.args.draft.now.nodes =
    sink_below (seen_draft c.args.draft.now) c.requires.read c.requires.ends in
    omega (arith, c.place_in-sink.ensures, c.requires.flags.count)

pub returns : goal.returns
returns c =
    leaves_by_test (seen_draft c.args.draft.now) c.args.flags.now c.requires.flags c.place_in-sink.result c.place_in-sink.ensures c.leaves_unreached.result c.leaves_unreached.ensures
