use Rattle.std.proofs.Common.{ℕ, [], length, ◌<◌, sym, ap, subst, ◌∙◌}
use Rattle.nf_pattern.proofs.Common.{Hop, IsHop, same_from_test, apart_from_test, AreJoined, TightBefore}
use Rattle.nf_pattern.proofs.Each.{under_len}
use Rattle.nf_pattern.proofs.Entries.{hop_there}
use Rattle.nf_pattern.proofs.Holding.{ends_joined, ends_led}
use Rattle.nf_pattern.proofs.Trails.{joined_turned}
use Rattle.nf_pattern.proofs.Steps.{read_last, stands_first, stands_next, next_joined, fewer_left, stands_end}
use Rattle.nf_pattern.proofs.walking.TightLinks.closes.Goals as goal

pub is_tight-requires : goal.is_tight-requires
is_tight-requires c = c.requires.stated

pub returns-then-not-is_tight : goal.returns-then-not-is_tight
returns-then-not-is_tight c = λ closes. c.if-not-is_tight.ensures closes.0

pub returns-then-eq : goal.returns-then-eq
returns-then-eq c =
    let here : IsHop c.args.hops.now c.args.link c.index-hops-index.result =
    hop_there c.args.hops.now c.args.link c.index.result c.index-hops-index.result c.requires.link c.index.ensures c.index-hops-index.is in (
      c.if-not-is_tight.ensures,
      ends_joined c.args.hops.now c.args.states.now c.args.link c.index-hops-index.result here c.hop.inside.tail c.hop.inside.head
          (ap (λ (h : Hop). h.tail) c.hop.view_is) (ap (λ (h : Hop). h.head) c.hop.view_is)
          ([], sym (same_from_test c.hop.inside.tail c.hop.inside.head (sym c.if-eq.true ∙ c.eq.ensures))),
    )

pub index-requires-3 : goal.index-requires-3
index-requires-3 c =
    let here : IsHop c.args.hops.now c.args.link c.index-hops-index.result =
    hop_there c.args.hops.now c.args.link c.index.result c.index-hops-index.result c.requires.link c.index.ensures c.index-hops-index.is in
    under_len c.args.self.now.last _ _ (c.index-2.ensures ∙ ap (λ (h : Hop). h.tail) c.hop.view_is) (c.requires.holds.below.tails c.args.link c.index-hops-index.result here)

pub index-requires-5 : goal.index-requires-5
index-requires-5 c =
    let here : IsHop c.args.hops.now c.args.link c.index-hops-index.result =
    hop_there c.args.hops.now c.args.link c.index.result c.index-hops-index.result c.requires.link c.index.ensures c.index-hops-index.is in
    under_len c.args.self.now.last _ _ (c.index-4.ensures ∙ ap (λ (h : Hop). h.head) c.hop.view_is) (c.requires.holds.below.heads c.args.link c.index-hops-index.result here)

pub loop-next-init : goal.loop-next-init
loop-next-init c =
    let here : IsHop c.args.hops.now c.args.link c.index-hops-index.result =
    hop_there c.args.hops.now c.args.link c.index.result c.index-hops-index.result c.requires.link c.index.ensures c.index-hops-index.is in
    let at_tail = (subst (λ (n : ℕ). n < length c.args.self.now.last.items) (sym (ap (λ (h : Hop). h.tail) c.hop.view_is))
    (c.requires.holds.below.tails c.args.link c.index-hops-index.result here)) in
    let at_head = (subst (λ (n : ℕ). n < length c.args.self.now.last.items) (sym (ap (λ (h : Hop). h.head) c.hop.view_is))
    (c.requires.holds.below.heads c.args.link c.index-hops-index.result here)) in
    let differ = apart_from_test c.hop.inside.tail c.hop.inside.head (sym c.if-eq.false ∙ c.eq.ensures) in record {
      near = stands_first c.args.hops.now c.args.states.now c.args.link c.hop.inside.tail c.hop.inside.head (length c.args.self.now.last.items) c.index-3.result.now c.requires.clear
          (read_last c.args.hops.now c.args.states.now c.args.link c.requires.holds c.hop.inside.tail c.index-2.result c.index-3.result.now at_tail
          c.index-2.ensures c.index-3.ensures) at_tail differ;
      far = stands_first c.args.hops.now c.args.states.now c.args.link c.hop.inside.head c.hop.inside.tail (length c.args.self.now.last.items) c.index-5.result.now c.requires.clear
          (read_last c.args.hops.now c.args.states.now c.args.link c.requires.holds c.hop.inside.head c.index-4.result c.index-5.result.now at_head
          c.index-4.ensures c.index-5.ensures) at_head (λ same. differ (sym same));
    }

pub step-requires-clause-placed : goal.step-requires-clause-placed
step-requires-clause-placed c = (c.args.states.now, c.args.link, c.requires.holds, c.loop-next.invariant.near.place)

pub step-requires-in-Some-clause-placed : goal.step-requires-in-Some-clause-placed
step-requires-in-Some-clause-placed c = (c.args.states.now, c.args.link, c.requires.holds, c.loop-next.invariant.far.place)

pub returns-then-eq-2 : goal.returns-then-eq-2
returns-then-eq-2 c =
    let here : IsHop c.args.hops.now c.args.link c.index-hops-index.result =
    hop_there c.args.hops.now c.args.link c.index.result c.index-hops-index.result c.requires.link c.index.ensures c.index-hops-index.is in (
      c.if-not-is_tight.ensures,
      ends_joined c.args.hops.now c.args.states.now c.args.link c.index-hops-index.result here c.hop.inside.tail c.hop.inside.head
          (ap (λ (h : Hop). h.tail) c.hop.view_is) (ap (λ (h : Hop). h.head) c.hop.view_is)
          (joined_turned c.args.hops.now (TightBefore c.args.states.now c.args.link) c.hop.inside.tail c.hop.inside.head
          (subst (λ (h : ℕ). AreJoined c.args.hops.now (TightBefore c.args.states.now c.args.link) c.hop.inside.tail h)
          (same_from_test c.in-Some.next.node c.hop.inside.head (sym c.if-eq-2.true ∙ c.eq-in-Some.ensures))
          (next_joined c.args.hops.now c.args.states.now c.args.link c.hop.inside.tail c.hop.inside.head
          (length c.args.self.now.last.items) c.loop-next.near.node c.loop-next.near.link c.loop-next.invariant.near c.in-Some.next
          (c.in-Some.ensures.goes c.args.states.now c.args.link c.requires.holds c.loop-next.invariant.near.place)))),
    )

pub returns-in_default-step : goal.returns-in_default-step
returns-in_default-step c = λ closes.
    let here : IsHop c.args.hops.now c.args.link c.index-hops-index.result =
    hop_there c.args.hops.now c.args.link c.index.result c.index-hops-index.result c.requires.link c.index.ensures c.index-hops-index.is in
    stands_end c.args.hops.now c.args.states.now c.args.link c.hop.inside.head c.hop.inside.tail
    (length c.args.self.now.last.items) c.loop-next.far.node c.loop-next.far.link c.loop-next.invariant.far
    (λ same. (apart_from_test c.hop.inside.tail c.hop.inside.head (sym c.if-eq.false ∙ c.eq.ensures)) (sym same))
    (c.in_default-step.ensures.goes c.args.states.now c.args.link c.requires.holds c.loop-next.invariant.far.place)
    (ends_led c.args.hops.now c.args.states.now c.args.link c.index-hops-index.result here c.hop.inside.tail c.hop.inside.head
    (ap (λ (h : Hop). h.tail) c.hop.view_is) (ap (λ (h : Hop). h.head) c.hop.view_is) closes.1)

pub returns-then-eq-3 : goal.returns-then-eq-3
returns-then-eq-3 c =
    let here : IsHop c.args.hops.now c.args.link c.index-hops-index.result =
    hop_there c.args.hops.now c.args.link c.index.result c.index-hops-index.result c.requires.link c.index.ensures c.index-hops-index.is in (
      c.if-not-is_tight.ensures,
      ends_joined c.args.hops.now c.args.states.now c.args.link c.index-hops-index.result here c.hop.inside.tail c.hop.inside.head
          (ap (λ (h : Hop). h.tail) c.hop.view_is) (ap (λ (h : Hop). h.head) c.hop.view_is)
          (subst (λ (h : ℕ). AreJoined c.args.hops.now (TightBefore c.args.states.now c.args.link) c.hop.inside.head h)
          (same_from_test c.in-Some-step.other.node c.hop.inside.tail (sym c.if-eq-3.true ∙ c.eq-in-Some-2.ensures))
          (next_joined c.args.hops.now c.args.states.now c.args.link c.hop.inside.head c.hop.inside.tail
          (length c.args.self.now.last.items) c.loop-next.far.node c.loop-next.far.link c.loop-next.invariant.far c.in-Some-step.other
          (c.in-Some-step.ensures.goes c.args.states.now c.args.link c.requires.holds c.loop-next.invariant.far.place))),
    )

pub loop-next-smaller : goal.loop-next-smaller
loop-next-smaller c =
    fewer_left c.args.hops.now c.args.states.now c.args.link c.hop.inside.tail c.hop.inside.head
    (length c.args.self.now.last.items) c.loop-next.near.node c.loop-next.near.link c.loop-next.invariant.near c.in-Some.next
    (c.in-Some.ensures.goes c.args.states.now c.args.link c.requires.holds c.loop-next.invariant.near.place)

pub loop-next-preserved : goal.loop-next-preserved
loop-next-preserved c = record {
  near =
      stands_next c.args.hops.now c.args.states.now c.args.link c.hop.inside.tail c.hop.inside.head
      (length c.args.self.now.last.items) c.loop-next.near.node c.loop-next.near.link c.loop-next.invariant.near c.in-Some.next
      (c.in-Some.ensures.goes c.args.states.now c.args.link c.requires.holds c.loop-next.invariant.near.place)
      (c.in-Some.ensures.place c.args.states.now c.args.link c.requires.holds c.loop-next.invariant.near.place) c.in-Some.ensures.within
      (apart_from_test c.in-Some.next.node c.hop.inside.head (sym c.if-eq-2.false ∙ c.eq-in-Some.ensures));
  far =
      stands_next c.args.hops.now c.args.states.now c.args.link c.hop.inside.head c.hop.inside.tail
      (length c.args.self.now.last.items) c.loop-next.far.node c.loop-next.far.link c.loop-next.invariant.far c.in-Some-step.other
      (c.in-Some-step.ensures.goes c.args.states.now c.args.link c.requires.holds c.loop-next.invariant.far.place)
      (c.in-Some-step.ensures.place c.args.states.now c.args.link c.requires.holds c.loop-next.invariant.far.place) c.in-Some-step.ensures.within
      (apart_from_test c.in-Some-step.other.node c.hop.inside.tail (sym c.if-eq-3.false ∙ c.eq-in-Some-2.ensures));
}

pub returns : goal.returns
returns c = λ closes.
    let here : IsHop c.args.hops.now c.args.link c.index-hops-index.result =
    hop_there c.args.hops.now c.args.link c.index.result c.index-hops-index.result c.requires.link c.index.ensures c.index-hops-index.is in
    stands_end c.args.hops.now c.args.states.now c.args.link c.hop.inside.tail c.hop.inside.head
    (length c.args.self.now.last.items) c.loop-next.near.node c.loop-next.near.link c.loop-next.invariant.near
    (apart_from_test c.hop.inside.tail c.hop.inside.head (sym c.if-eq.false ∙ c.eq.ensures))
    (c.in_default.ensures.goes c.args.states.now c.args.link c.requires.holds c.loop-next.invariant.near.place)
    (joined_turned c.args.hops.now (TightBefore c.args.states.now c.args.link) c.hop.inside.head c.hop.inside.tail
    (ends_led c.args.hops.now c.args.states.now c.args.link c.index-hops-index.result here c.hop.inside.tail c.hop.inside.head
    (ap (λ (h : Hop). h.tail) c.hop.view_is) (ap (λ (h : Hop). h.head) c.hop.view_is) closes.1))
