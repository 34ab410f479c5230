use Rattle.std.proofs.Common.{Bool, List, length, ap, sym, subst, ◌∙◌, arith}
use Rattle.nf_pattern.proofs.Common.{Hop, Pattern, AreBelow, Question, IsQuestion, AreStated, AllEnterAlone, AreSpared}
use Rattle.nf_pattern.proofs.Sparing.{are_spared}
use Rattle.nf_pattern.proofs.Seeking.{same_question}
use Rattle.nf_pattern.proofs.question.Question.new.Goals as goal

pub invariant_of-result : goal.invariant_of-result
invariant_of-result c =
    let same = same_question c.args.nodes.count c.args.nodes.source (c.in_ok-hops.ensures.items_if_clones_equal (λ x y e. e)) c.in_ok-flags.ensures.active
    c.in_ok-flags.ensures.resetting (c.in_ok-unbounded.ensures.items_if_clones_equal (λ x y e. e)) c.in_ok-base.ensures in
    let hops = c.deref.ensures.value ∙ c.in_ok-hops.ensures.items_if_clones_equal (λ x y e. e) in
    let resetting = c.deref-2.ensures.value ∙ c.in_ok-flags.ensures.resetting in
    let base = c.states-2.ensures ∙ c.in_ok-base.ensures in (
      subst (λ (q : Question). IsQuestion q) (sym same) c.requires,
      subst (λ (base : Pattern). AreStated base c.in_ok-stated.stated) c.states.ensures c.in_ok-stated.ensures,
      subst (λ (q : Question). AreSpared q c.in_ok-sole.sole.items) (sym same)
          (are_spared _ c.requires c.in_ok-sole.sole.items (c.in_ok-sole.ensures.count ∙ ap (λ (l : List Hop). length l) hops)
          (subst (λ (hs : List Hop). AllEnterAlone c.args.nodes.source hs c.args.sets.now.resetting c.args.base.now c.in_ok-sole.sole.items) hops
          (subst (λ (rs : List Bool). AllEnterAlone c.args.nodes.source c.deref.result.now rs c.args.base.now c.in_ok-sole.sole.items) resetting
          (subst (λ (b : Pattern). AllEnterAlone c.args.nodes.source c.deref.result.now c.deref-2.result.now b c.in_ok-sole.sole.items) base c.in_ok-sole.ensures.sole)))),
    )

pub sole_links-requires-clause-base : goal.sole_links-requires-clause-base
sole_links-requires-clause-base c =
    ap (λ (p : Pattern). length p) (c.states-2.ensures ∙ c.in_ok-base.ensures) ∙ (c.requires.base.count ∙ (c.requires.active
    ∙ sym (ap (λ (l : List Hop). length l) (c.deref.ensures.value ∙ c.in_ok-hops.ensures.items_if_clones_equal (λ x y e. e)))))

pub sole_links-requires-clause-resetting : goal.sole_links-requires-clause-resetting
sole_links-requires-clause-resetting c =
    ap (λ (l : List Bool). length l) (c.deref-2.ensures.value ∙ c.in_ok-flags.ensures.resetting) ∙ (c.requires.resetting
    ∙ sym (ap (λ (l : List Hop). length l) (c.deref.ensures.value ∙ c.in_ok-hops.ensures.items_if_clones_equal (λ x y e. e))))

pub sole_links-requires-clause-below : goal.sole_links-requires-clause-below
sole_links-requires-clause-below c =
    subst (λ (hs : List Hop). AreBelow c.args.nodes.count hs) (sym (c.deref.ensures.value ∙ c.in_ok-hops.ensures.items_if_clones_equal (λ x y e. e))) c.requires.ends

pub sole_links-requires-clause-fewer : goal.sole_links-requires-clause-fewer
sole_links-requires-clause-fewer c =
    let count = ap (λ (l : List Hop). length l) (c.deref.ensures.value ∙ c.in_ok-hops.ensures.items_if_clones_equal (λ x y e. e)) in let few = c.requires.fewer in omega arith

pub returns : goal.returns
returns c =
    same_question c.args.nodes.count c.args.nodes.source (c.in_ok-hops.ensures.items_if_clones_equal (λ x y e. e)) c.in_ok-flags.ensures.active
    c.in_ok-flags.ensures.resetting (c.in_ok-unbounded.ensures.items_if_clones_equal (λ x y e. e)) c.in_ok-base.ensures

pub copied_flags-requires-clause-active : goal.copied_flags-requires-clause-active
copied_flags-requires-clause-active c = c.requires.active

pub copied_flags-requires-clause-resetting : goal.copied_flags-requires-clause-resetting
copied_flags-requires-clause-resetting c = c.requires.resetting
