use Rattle.std.proofs.Common.{◌≡◌, ◌<◌, ℕ, false, Some, slice_get, sym, subst}
use Rattle.nf_graph.proofs.Common.{is_some, HasSum, IsUnsettled}
use Rattle.nf_graph.proofs.Entries.{open_by_test, entry_by_place}
use Rattle.nf_graph.proofs.Offering.{step_found}
use Rattle.nf_graph.proofs.distance.step_to.Goals as goal

pub returns : goal.returns
returns c =
    let none : is_some c.index-sums-place.result ≡ false = cc (c.is_some.ensures, c.if-is_some.false) in
    let open_yet : IsUnsettled c.args.sums.now c.args.node = open_by_test c.args.sums.now c.index-place.result c.args.node c.index-sums-place.result none
    c.index-sums-place.is c.index-place.ensures c.requires.node in
    let read : slice_get c.args.offers.now c.args.node ≡ Some c.index-offers-place.result =
    entry_by_place c.args.offers.now c.index-place.result c.args.node c.index-offers-place.result c.index-offers-place.is c.index-place.ensures
    (subst (λ (n : ℕ). c.args.node < n) (sym c.requires.count) c.requires.node) in
    let offered : HasSum c.args.offers.now c.args.node c.in_ok-sum.sum = cc (read, c.in_ok-sum.was) in
    step_found c.args.sums.now c.args.offers.now c.args.node c.in_ok-sum.sum open_yet offered
