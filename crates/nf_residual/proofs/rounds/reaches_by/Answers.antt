use Rattle.std.proofs.Common.{◌≡◌, ℕ, ◌+◌, ◌<◌, List, length, Option, Vec, Global, refl, sym, ap, subst, ◌∙◌, arith}
use Rattle.nf_residual.proofs.Common.{err_from_is_err_and, passes_Q, Leg, AreLegs, AreSettled, AreChains, Places, ArePathsBelow}
use Rattle.nf_residual.proofs.NodeByNode.{stops_by}
use Rattle.nf_residual.proofs.Rounding.{SearchOn, search_first, search_stops, search_still, search_more, places_are, within_still, count_still, search_all}
use Rattle.nf_residual.proofs.Rounding.{search_count}
use Rattle.nf_residual.proofs.rounds.reaches_by.Goals as goal

pub loop-init : goal.loop-init
loop-init c = (
  search_first passes_Q c.args.net.now.net c.args.flows.now c.args.from c.in_ok-arcs.arcs.legs.items c.in_ok-ways.ways c.in_ok-places.places.items
      c.in_ok-ways.ensures c.in_ok-places.ensures,
  sym c.in_ok-next.next.ok.0 ∙ c.in_ok-next.ensures.len ∙ ap (λ (p : Places). length p) c.as_slice.ensures.value,
)

pub copy_from_slice-requires : goal.copy_from_slice-requires
copy_from_slice-requires c =
    let lent : length c.deref.result.now ≡ length c.loop.places.items = ap (λ (p : Places). length p) c.deref.ensures.value in
    let same : length c.loop.next.items ≡ length c.loop.places.items = c.loop.invariant.1 in
    omega (arith, c.loop.next.ok.0)

pub round-requires-clause-legs : goal.round-requires-clause-legs
round-requires-clause-legs c =
    let nodes : length c.deref-in-loop.result.now ≡ c.args.net.now.net.nodes = ap (λ (p : Places). length p) c.deref-in-loop.ensures.value
    ∙ places_are passes_Q c.args.net.now.net c.args.flows.now c.args.from c.in_ok-arcs.arcs.legs.items c.loop.fresh c.loop.ways c.loop.places.items c.loop.counter c.loop.invariant.0 in
    subst (λ (n : ℕ). AreLegs n c.in_ok-arcs.arcs.legs.items) (sym nodes)
    (subst (λ (l : List Leg). AreLegs c.args.net.now.net.nodes l) (sym c.in_ok-arcs.ensures.legs) c.in_ok-legs.ensures.within)

pub round-requires-clause-chains : goal.round-requires-clause-chains
round-requires-clause-chains c =
    let nodes : length c.deref-in-loop.result.now ≡ c.node_count.result = ap (λ (p : Places). length p) c.deref-in-loop.ensures.value
    ∙ places_are passes_Q c.args.net.now.net c.args.flows.now c.args.from c.in_ok-arcs.arcs.legs.items c.loop.fresh c.loop.ways c.loop.places.items
    c.loop.counter c.loop.invariant.0 ∙ sym c.node_count.ensures in
    subst (λ (n : ℕ). AreChains n c.in_ok-arcs.arcs.legs.items c.in_ok-arcs.arcs.first.items c.in_ok-arcs.arcs.next.items) (sym nodes) c.in_ok-arcs.ensures.chains

pub round-requires-clause-tree : goal.round-requires-clause-tree
round-requires-clause-tree c = c.loop.invariant.0.good

pub round-requires-clause-same : goal.round-requires-clause-same
round-requires-clause-same c = c.copy_from_slice.ensures.items ∙ c.deref.ensures.value ∙ sym c.deref-in-loop.ensures.value

pub round-requires-clause-within : goal.round-requires-clause-within
round-requires-clause-within c = subst (λ (p : Places). ArePathsBelow (length c.loop.ways) p) (sym c.deref-in-loop.ensures.value) c.loop.invariant.0.within

pub round-requires-clause-settled : goal.round-requires-clause-settled
round-requires-clause-settled c =
    subst (λ (p : Places). AreSettled passes_Q c.in_ok-arcs.arcs.legs.items c.loop.fresh c.loop.ways p) (sym c.deref-in-loop.ensures.value) c.loop.invariant.0.settled

pub returns-in_err-round-clause-list : goal.returns-in_err-round-clause-list
returns-in_err-round-clause-list c =
    let p = err_from_is_err_and c.from_residual-in_err-round.result c.from_residual-in_err-round.ensures.1 in
    let inside : c.loop.counter < c.args.net.now.net.nodes = omega arith in
    rw (p.1, p.2) (stops_by c.args.in_order c.in_err-round.field-0.0 _ _ (search_stops passes_Q c.args.net.now.net c.args.flows.now c.args.from
    c.in_ok-arcs.arcs.legs.items c.loop.fresh c.loop.ways c.loop.places.items c.loop.counter c.loop.invariant.0 inside
    (c.in_ok-arcs.ensures.legs ∙ c.in_ok-legs.ensures.legs) c.in_ok-arcs.arcs.legs.items refl c.deref-in-loop.result.now c.deref-in-loop.ensures.value c.in_err-round.field-0.0)
    c.in_err-round.ensures.list)

pub of-requires-then-count : goal.of-requires-then-count
of-requires-then-count c =
    let inside : c.loop.counter < c.args.net.now.net.nodes = omega arith in
    within_still passes_Q c.args.net.now.net c.args.flows.now c.args.from c.in_ok-arcs.arcs.legs.items c.loop.fresh c.loop.ways c.loop.places.items
    c.loop.counter c.loop.invariant.0 inside
    (c.in_ok-arcs.ensures.legs ∙ c.in_ok-legs.ensures.legs) c.in_ok-arcs.arcs.legs.items refl c.deref-in-loop.result.now c.deref-in-loop.ensures.value
    c.round.new.ways c.round.new.places.items c.in_ok-round.ensures.list c.in_ok-round.ensures.grows

pub returns-then-count-clause-count : goal.returns-then-count-clause-count
returns-then-count-clause-count c =
    let inside : c.loop.counter < c.args.net.now.net.nodes = omega arith in
    count_still passes_Q c.args.net.now.net c.args.flows.now c.args.from c.in_ok-arcs.arcs.legs.items c.loop.fresh c.loop.ways c.loop.places.items
    c.loop.counter c.loop.invariant.0 inside
    (c.in_ok-arcs.ensures.legs ∙ c.in_ok-legs.ensures.legs) c.in_ok-arcs.arcs.legs.items refl c.deref-in-loop.result.now c.deref-in-loop.ensures.value
    c.round.new.ways c.round.new.places.items c.in_ok-round.ensures.list c.in_ok-round.ensures.grows c.of-then-count.result c.of-then-count.ensures

pub returns-then-count-clause-list : goal.returns-then-count-clause-list
returns-then-count-clause-list c =
    let inside : c.loop.counter < c.args.net.now.net.nodes = omega arith in
    let same : length c.round.new.ways ≡ length c.loop.ways = sym c.count.ensures.count ∙ c.if-count.true ∙ c.count-count.ensures.count in
    search_still passes_Q c.args.net.now.net c.args.flows.now c.args.from c.in_ok-arcs.arcs.legs.items c.loop.fresh c.loop.ways c.loop.places.items
    c.loop.counter c.loop.invariant.0 inside
    (c.in_ok-arcs.ensures.legs ∙ c.in_ok-legs.ensures.legs) c.in_ok-arcs.arcs.legs.items refl c.deref-in-loop.result.now c.deref-in-loop.ensures.value
    c.round.new.ways c.round.new.places.items c.in_ok-round.ensures.list c.in_ok-round.ensures.grows same c.of-then-count.result c.of-then-count.ensures

pub loop-preserved : goal.loop-preserved
loop-preserved c =
    let inside : c.loop.counter < c.args.net.now.net.nodes = omega arith in
    let more : SearchOn passes_Q c.args.net.now.net c.args.flows.now c.args.from c.in_ok-arcs.arcs.legs.items c.count-count.result c.round.new.ways
    c.round.new.places.items (c.loop.counter + 1) =
    search_more passes_Q c.args.net.now.net c.args.flows.now c.args.from c.in_ok-arcs.arcs.legs.items c.loop.fresh c.loop.ways c.loop.places.items
    c.loop.counter c.loop.invariant.0 inside
    (c.in_ok-arcs.ensures.legs ∙ c.in_ok-legs.ensures.legs) c.in_ok-arcs.arcs.legs.items refl c.deref-in-loop.result.now c.deref-in-loop.ensures.value
    c.round.new.ways c.round.new.places.items c.in_ok-round.ensures.list c.in_ok-round.ensures.grows c.count.ensures.tree c.in_ok-round.ensures.settled
    c.count-count.result c.count-count.ensures.count in
    let long : length c.round.new.places.items ≡ length c.loop.places.items = c.in_ok-round.ensures.grows.count ∙ ap (λ (p : Places). length p) c.deref-in-loop.ensures.value in (
      subst (λ (v : Vec (Option ℕ) Global). SearchOn passes_Q c.args.net.now.net c.args.flows.now c.args.from c.in_ok-arcs.arcs.legs.items
          c.count-count.result c.round.new.ways v.items (c.loop.counter + 1))
          (sym c.swap.ensures.x_after) more,
      ap (λ (v : Vec (Option ℕ) Global). length v.items) c.swap.ensures.y_after ∙ sym long ∙ sym (ap (λ (v : Vec (Option ℕ) Global). length v.items) c.swap.ensures.x_after),
    )

pub of-requires-2 : goal.of-requires-2
of-requires-2 c = c.loop.invariant.0.within

pub returns-clause-list : goal.returns-clause-list
returns-clause-list c =
    search_all passes_Q c.args.net.now.net c.args.flows.now c.args.from c.in_ok-arcs.arcs.legs.items c.loop.fresh c.loop.ways c.loop.places.items
    c.loop.counter c.loop.invariant.0 (omega arith) c.of-2.result c.of-2.ensures

pub returns-clause-count : goal.returns-clause-count
returns-clause-count c =
    search_count passes_Q c.args.net.now.net c.args.flows.now c.args.from c.in_ok-arcs.arcs.legs.items c.loop.fresh c.loop.ways c.loop.places.items
    c.loop.counter c.loop.invariant.0 c.of-2.result c.of-2.ensures

pub returns-in_err-legs-clause-list : goal.returns-in_err-legs-clause-list
returns-in_err-legs-clause-list c =
    let p = err_from_is_err_and c.from_residual.result c.from_residual.ensures.1 in
    rw (p.1, p.2) tt

pub returns-in_err-legs-clause-count : goal.returns-in_err-legs-clause-count
returns-in_err-legs-clause-count c =
    let p = err_from_is_err_and c.from_residual.result c.from_residual.ensures.1 in
    rw p.1 tt

pub returns-in_err-arcs-clause-list : goal.returns-in_err-arcs-clause-list
returns-in_err-arcs-clause-list c =
    let p = err_from_is_err_and c.from_residual-in_err-arcs.result c.from_residual-in_err-arcs.ensures.1 in
    rw (p.1, p.2) tt

pub returns-in_err-arcs-clause-count : goal.returns-in_err-arcs-clause-count
returns-in_err-arcs-clause-count c =
    let p = err_from_is_err_and c.from_residual-in_err-arcs.result c.from_residual-in_err-arcs.ensures.1 in
    rw p.1 tt

pub returns-in_err-ways-clause-list : goal.returns-in_err-ways-clause-list
returns-in_err-ways-clause-list c =
    let p = err_from_is_err_and c.from_residual-in_err-ways.result c.from_residual-in_err-ways.ensures.1 in
    rw (p.1, p.2) tt

pub returns-in_err-ways-clause-count : goal.returns-in_err-ways-clause-count
returns-in_err-ways-clause-count c =
    let p = err_from_is_err_and c.from_residual-in_err-ways.result c.from_residual-in_err-ways.ensures.1 in
    rw p.1 tt

pub returns-in_err-places-clause-list : goal.returns-in_err-places-clause-list
returns-in_err-places-clause-list c =
    let p = err_from_is_err_and c.from_residual-in_err-places.result c.from_residual-in_err-places.ensures.1 in
    rw (p.1, p.2) tt

pub returns-in_err-places-clause-count : goal.returns-in_err-places-clause-count
returns-in_err-places-clause-count c =
    let p = err_from_is_err_and c.from_residual-in_err-places.result c.from_residual-in_err-places.ensures.1 in
    rw p.1 tt

pub returns-in_err-next-clause-list : goal.returns-in_err-next-clause-list
returns-in_err-next-clause-list c =
    let p = err_from_is_err_and c.from_residual-in_err-next.result c.from_residual-in_err-next.ensures.1 in
    rw (p.1, p.2) tt

pub returns-in_err-next-clause-count : goal.returns-in_err-next-clause-count
returns-in_err-next-clause-count c =
    let p = err_from_is_err_and c.from_residual-in_err-next.result c.from_residual-in_err-next.ensures.1 in
    rw p.1 tt

pub returns-in_err-round-clause-count : goal.returns-in_err-round-clause-count
returns-in_err-round-clause-count c =
    let p = err_from_is_err_and c.from_residual-in_err-round.result c.from_residual-in_err-round.ensures.1 in
    rw p.1 tt

pub legs_of-requires : goal.legs_of-requires
legs_of-requires c = c.requires.flows

pub first_places-requires : goal.first_places-requires
first_places-requires c = c.requires.from

pub same-ways-in-loop : goal.same-ways-in-loop
same-ways-in-loop c = refl
