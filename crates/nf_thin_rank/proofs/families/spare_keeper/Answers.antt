use Rattle.std.proofs.Common.{◌∙◌, arith}
use Rattle.nf_thin_rank.proofs.Covers.{keeper_within}
use Rattle.nf_thin_rank.proofs.families.spare_keeper.Goals as goal

pub has_state-requires : goal.has_state-requires
has_state-requires c =
    let k = keeper_within c.args.ranking.now.net.now.net c.args.ranking.now.sets.now c.args.listed.now _ c.args.node c.in_ok-keeper.keeper
    c.args.keepers.now c.requires.keepers c.in_ok-keeper.ensures in
    let b = c.requires.ranking.base.count in let s = c.requires.ranking.sets.sets_are.count in omega arith

pub other_keeper-requires : goal.other_keeper-requires
other_keeper-requires c = record { listed = c.requires.listed.states.count ∙ c.requires.ranking.sets.sets_are.count }

pub returns : goal.returns
returns c = record {
  state = (c.has_state.ensures c.if-not-has_state.false).0;
  stated = (c.has_state.ensures c.if-not-has_state.false).1;
  keeps = c.in_ok-keeper.ensures;
  within =
      keeper_within c.args.ranking.now.net.now.net c.args.ranking.now.sets.now c.args.listed.now _ c.args.node c.in_ok-keeper.keeper c.args.keepers.now
      c.requires.keepers c.in_ok-keeper.ensures;
  differs = c.in_ok-other.ensures.0;
  may_keep = c.in_ok-other.ensures.1 c.args.ranking.now.sets.now;
}
