use Rattle.std.proofs.Common.{◌≡◌, ap, subst, refl}
use Rattle.nf_graph.proofs.Common.{Hop, IsHop, ℚ, ◌+ℚ◌, SumPasses}
use Rattle.nf_graph.proofs.Offering.{checked-ok, checked-err, IsHop-read_at}
use Rattle.nf_graph.proofs.Walks.{IsHop-unique}
use Rattle.nf_graph.proofs.distance.sum_along.Goals as goal

pub returns-in-Ok-clause-sum : goal.returns-in-Ok-clause-sum
returns-in-Ok-clause-sum c = λ hop p.
    let seen : Hop = record { tail = c.hop.inside.tail; head = c.hop.inside.head; transit = c.hop.inside.transit } in
    let here : IsHop c.args.hops.now c.args.link seen = IsHop-read_at c.args.hops.now c.index.result c.args.link c.index-hops-index.result seen c.requires
    c.index.ensures c.index-hops-index.is c.hop.view_is in
    let same : c.hop.inside.transit ≡ hop.transit = ap (λ (h : Hop). h.transit) (IsHop-unique c.args.hops.now c.args.link seen hop here p) in
    subst (λ (t : ℚ). (c.in-Ok.sum ≡ c.args.before +ℚ t) × (SumPasses c.args.before t → ⊥)) same (checked-ok _ _ _ _ _ c.in-Ok.ensures)

pub returns-in-Err-clause-passed : goal.returns-in-Err-clause-passed
returns-in-Err-clause-passed c = (
  refl,
  refl,
  checked-err _ _ _ _ c.in-Err.field-0 c.in-Err.ensures,
  λ hop p.
      let seen : Hop = record { tail = c.hop.inside.tail; head = c.hop.inside.head; transit = c.hop.inside.transit } in
      let here : IsHop c.args.hops.now c.args.link seen = IsHop-read_at c.args.hops.now c.index.result c.args.link c.index-hops-index.result seen c.requires
      c.index.ensures c.index-hops-index.is c.hop.view_is in
      ap (λ (h : Hop). h.transit) (IsHop-unique c.args.hops.now c.args.link hop seen p here),
)
