use Rattle.std.proofs.Common.{◌≡◌, ◌∙◌, ap, sym, subst, length, ◌<◌, ℕ, suc, List, Some, Option, slice_get}
use Rattle.nf_pattern.proofs.Common.{Hop, IsHop, same_from_test, apart_from_test, AreChained}
use Rattle.nf_pattern.proofs.Entries.{hop_there, head_led, carries_keeps, source_keeps, later_keeps, strands_told}
use Rattle.nf_pattern.proofs.trail.Trail.strands.Goals as goal

pub returns-then-may_carry : goal.returns-then-may_carry
returns-then-may_carry c = carries_keeps c.args.hops.now c.args.resetting.now c.args.states.now c.args.source c.args.self.now.ends.items c.args.link c.if-may_carry.ensures

pub returns-then-eq : goal.returns-then-eq
returns-then-eq c =
    let here : IsHop c.args.hops.now c.args.link c.index-hops-index.result =
    hop_there c.args.hops.now c.args.link c.index.result c.index-hops-index.result c.requires.link c.index.ensures c.index-hops-index.is in
    source_keeps c.args.hops.now c.args.resetting.now c.args.states.now c.args.source c.args.self.now.ends.items c.args.link c.index-hops-index.result here c.hop.inside.head
    (ap (λ (h : Hop). h.head) c.hop.view_is) (same_from_test c.hop.inside.head c.args.source (sym c.if-eq.true ∙ c.eq.ensures))

pub returns-then-not-is_end : goal.returns-then-not-is_end
returns-then-not-is_end c =
    let here : IsHop c.args.hops.now c.args.link c.index-hops-index.result =
    hop_there c.args.hops.now c.args.link c.index.result c.index-hops-index.result c.requires.link c.index.ensures c.index-hops-index.is in
    later_keeps c.args.hops.now c.args.resetting.now c.args.states.now c.args.source c.args.self.now.ends.items c.args.link c.index-hops-index.result here c.hop.inside.head
    (ap (λ (h : Hop). h.head) c.hop.view_is) (subst (λ (es : List ℕ). slice_get es c.hop.inside.head ≡ Some (suc c.args.link) → ⊥) c.deref.ensures.value c.if-not-is_end.ensures)

pub is_entered_before-requires-clause-chained : goal.is_entered_before-requires-clause-chained
is_entered_before-requires-clause-chained c =
    let here : IsHop c.args.hops.now c.args.link c.index-hops-index.result =
    hop_there c.args.hops.now c.args.link c.index.result c.index-hops-index.result c.requires.link c.index.ensures c.index-hops-index.is in (
      c.args.hops.now,
      c.hop.inside.head,
      (subst (AreChained c.args.hops.now) (sym c.deref-2.ensures.value) c.requires.chain),
      (head_led c.args.hops.now c.args.resetting.now c.args.states.now c.args.source c.args.self.now.ends.items c.args.link c.index-hops-index.result here
          c.hop.inside.head (ap (λ (h : Hop). h.head) c.hop.view_is)),
    )

pub returns : goal.returns
returns c =
    let here : IsHop c.args.hops.now c.args.link c.index-hops-index.result =
    hop_there c.args.hops.now c.args.link c.index.result c.index-hops-index.result c.requires.link c.index.ensures c.index-hops-index.is in
    strands_told c.args.hops.now c.args.resetting.now c.args.states.now c.args.source c.args.self.now.ends.items c.args.link c.index-hops-index.result here c.hop.inside.head
    (ap (λ (h : Hop). h.head) c.hop.view_is) (apart_from_test c.hop.inside.head c.args.source (sym c.if-eq.false ∙ c.eq.ensures)) c.if-may_carry.ensures
    (subst (λ (es : List ℕ). slice_get es c.hop.inside.head ≡ Some (suc c.args.link)) c.deref.ensures.value c.if-not-is_end.ensures)
    c.is_entered_before.result (c.is_entered_before.ensures c.args.hops.now c.hop.inside.head
    (subst (AreChained c.args.hops.now) (sym c.deref-2.ensures.value) c.requires.chain)
    (head_led c.args.hops.now c.args.resetting.now c.args.states.now c.args.source c.args.self.now.ends.items c.args.link c.index-hops-index.result here
    c.hop.inside.head (ap (λ (h : Hop). h.head) c.hop.view_is)))

pub is_end-requires : goal.is_end-requires
is_end-requires c =
    let here : IsHop c.args.hops.now c.args.link c.index-hops-index.result =
    hop_there c.args.hops.now c.args.link c.index.result c.index-hops-index.result c.requires.link c.index.ensures c.index-hops-index.is in
    subst (λ (es : List ℕ). c.hop.inside.head < length es) (sym c.deref.ensures.value)
    (subst (λ (n : ℕ). n < length c.args.self.now.ends.items) (sym (ap (λ (h : Hop). h.head) c.hop.view_is)) (c.requires.below.heads c.args.link c.index-hops-index.result here))

pub is_entered_before-requires-clause-resetting : goal.is_entered_before-requires-clause-resetting
is_entered_before-requires-clause-resetting c = c.requires.resetting ∙ sym (ap (λ (os : List (Option ℕ)). length os) c.deref-2.ensures.value ∙ c.requires.count)

pub is_entered_before-requires-clause-states : goal.is_entered_before-requires-clause-states
is_entered_before-requires-clause-states c = c.requires.states ∙ sym (ap (λ (os : List (Option ℕ)). length os) c.deref-2.ensures.value ∙ c.requires.count)

pub is_entered_before-requires-clause-link : goal.is_entered_before-requires-clause-link
is_entered_before-requires-clause-link c = subst (λ (n : ℕ). c.args.link < n) (sym (ap (λ (os : List (Option ℕ)). length os) c.deref-2.ensures.value ∙ c.requires.count)) c.requires.link
