use Rattle.std.proofs.Common.{inr, ℕ, List, length, sym, ap, subst, ◌∙◌, arith, Option, Some, IfSome, slice_set}
use Rattle.nf_thin_rank.proofs.Common.{IfOk-weaker, Firm, AreKeepers, AreFirmBy, IsSpare, IsByOther, hops_length, few_hops}
use Rattle.nf_thin_rank.specs.declared.families.Spare.{Spare}
use Rattle.nf_thin_rank.proofs.Covers.{other_keeps}
use Rattle.nf_thin_rank.proofs.families.ways_by_other.Goals as goal

pub firm_states-requires-clause-keepers : goal.firm_states-requires-clause-keepers
firm_states-requires-clause-keepers c =
    let is_spare = subst (λ (o : Option Spare). IfSome o (IsSpare c.args.ranking.now.net.now.net c.args.ranking.now.sets.now c.args.ranking.now.base.now
    c.args.listed.now c.args.keepers.now c.args.node)) c.in-Some.is c.spare_keeper.ensures in
    subst (λ (l : List (Option ℕ)). AreKeepers c.args.ranking.now.net.now.net c.args.ranking.now.sets.now c.args.listed.now
    (length c.args.ranking.now.net.now.net.links) l) (sym (c.deref.ensures.value ∙ c.in_ok-changed.ensures))
    (other_keeps c.args.ranking.now.net.now.net c.args.ranking.now.sets.now c.args.listed.now _ c.args.node c.in-Some.spare.other c.args.keepers.now
    c.requires.keepers c.requires.node is_spare.may_keep)

pub firm_ways_before-requires-clause-firm : goal.firm_ways_before-requires-clause-firm
firm_ways_before-requires-clause-firm c =
    let f = ap (λ (l : List Firm). length l) c.deref-2.ensures.value in
    let n = c.in_ok-firm.ensures.count in let b = c.requires.ranking.base.count in let s = c.requires.ranking.sets.sets_are.count in omega arith

pub firm_ways_before-requires-clause-fewer : goal.firm_ways_before-requires-clause-fewer
firm_ways_before-requires-clause-fewer c =
    let f = few_hops c.args.ranking.now.net.now c.requires.ranking.named in let h = hops_length c.args.ranking.now.net.now.net in
    let b = c.requires.ranking.base.count in let s = c.requires.ranking.sets.sets_are.count in omega arith

pub returns : goal.returns
returns c =
    let is_spare = subst (λ (o : Option Spare). IfSome o (IsSpare c.args.ranking.now.net.now.net c.args.ranking.now.sets.now c.args.ranking.now.base.now
    c.args.listed.now c.args.keepers.now c.args.node)) c.in-Some.is c.spare_keeper.ensures in
    IfOk-weaker c.firm_ways_before.result _ (λ ways. IsByOther c.args.ranking.now.net.now.net c.args.ranking.now.sets.now c.args.ranking.now.base.now
    c.args.pattern.now c.args.listed.now c.args.keepers.now c.args.node ways)
    (λ ways is. inr (record {
      spare = c.in-Some.spare;
      is_spare = is_spare;
      firm = c.deref-2.result.now;
      are = subst (λ (f : List Firm). AreFirmBy c.args.ranking.now.net.now.net c.args.ranking.now.sets.now c.args.listed.now
          (slice_set c.args.keepers.now c.args.node (Some c.in-Some.spare.other)) c.in-Some.spare.keeper f) (sym c.deref-2.ensures.value)
          (subst (λ (l : List (Option ℕ)). AreFirmBy c.args.ranking.now.net.now.net c.args.ranking.now.sets.now c.args.listed.now l c.in-Some.spare.keeper c.in_ok-firm.firm.items)
          (c.deref.ensures.value ∙ c.in_ok-changed.ensures) c.in_ok-firm.ensures);
      ways_is = is;
    })) c.firm_ways_before.ensures
