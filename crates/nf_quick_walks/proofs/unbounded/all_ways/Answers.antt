use Rattle.std.proofs.Common.{◌≡◌, ◌<◌, ℕ, List, length, Some, sym, ap, subst, ◌∙◌}
use Rattle.nf_quick_walks.proofs.Common.{slice_get_within, err_from_is_err_and, Link, Ways, walk_to, LeadsToNew, NoneLeadsOn, AreWays}
use Rattle.nf_quick_walks.proofs.GrowingWays.{unknown, ways_first, fewer, ways_more, all_known}
use Rattle.nf_quick_walks.proofs.unbounded.all_ways.Goals as goal

pub loop-link-init : goal.loop-link-init
loop-link-init c = ways_first c.args.net.now.net c.recall.ensures.network c.in_ok-ways.ways.items c.in_ok-ways.ensures

pub loop-link-smaller : goal.loop-link-smaller
loop-link-smaller c =
    let on = subst (λ (w : Ways). LeadsToNew c.args.net.now.net w c.in-Some.link) c.deref.ensures.value c.in-Some.ensures in
    let long = λ (way : List ℕ) (f : walk_to c.loop-link.ways.items c.link-here.result.tail ≡ Some way). c.in_ok-way.ensures way
    (ap (λ (w : Ways). walk_to w c.here.inside.tail) c.deref-in-Some.ensures.value
    ∙ ap (λ (l : Link). walk_to c.loop-link.ways.items l.tail) c.here.view_is ∙ f) in
    subst (λ (w : Ways). unknown w < unknown c.loop-link.ways.items) (sym c.put.ensures)
    (fewer c.args.net.now.net c.recall.ensures.network c.loop-link.ways.items c.loop-link.invariant c.in-Some.link on c.link-here.result
    c.link-here.ensures.link c.in_ok-way.way long c.here.inside.head (ap (λ (l : Link). l.head) c.here.view_is))

pub loop-link-preserved : goal.loop-link-preserved
loop-link-preserved c =
    let on = subst (λ (w : Ways). LeadsToNew c.args.net.now.net w c.in-Some.link) c.deref.ensures.value c.in-Some.ensures in
    let long = λ (way : List ℕ) (f : walk_to c.loop-link.ways.items c.link-here.result.tail ≡ Some way). c.in_ok-way.ensures way
    (ap (λ (w : Ways). walk_to w c.here.inside.tail) c.deref-in-Some.ensures.value
    ∙ ap (λ (l : Link). walk_to c.loop-link.ways.items l.tail) c.here.view_is ∙ f) in
    subst (λ (w : Ways). AreWays c.args.net.now.net w) (sym c.put.ensures)
    (ways_more c.args.net.now.net c.recall.ensures.network c.loop-link.ways.items c.loop-link.invariant c.in-Some.link on c.link-here.result
    c.link-here.ensures.link c.in_ok-way.way long c.here.inside.head (ap (λ (l : Link). l.head) c.here.view_is))

pub returns : goal.returns
returns c = all_known c.args.net.now.net c.recall.ensures.network c.loop-link.ways.items
    (subst (λ (w : Ways). NoneLeadsOn c.args.net.now.net w) c.deref.ensures.value c.in_default.ensures) c.loop-link.invariant

pub returns-in_err-ways : goal.returns-in_err-ways
returns-in_err-ways c =
    let p = err_from_is_err_and c.from_residual.result c.from_residual.ensures.1 in
    rw p.1 tt

pub returns-in_err-way : goal.returns-in_err-way
returns-in_err-way c =
    let p = err_from_is_err_and c.from_residual-in_err-way.result c.from_residual-in_err-way.ensures.1 in
    rw p.1 tt

pub link-here-requires : goal.link-here-requires
link-here-requires c = let on = c.in-Some.ensures in slice_get_within c.args.net.now.net.links c.in-Some.link on.link on.is_link

pub longer-requires : goal.longer-requires
longer-requires c =
    let tail = subst (λ (n : ℕ). c.link-here.result.tail < n) (sym c.loop-link.invariant.count)
    (c.recall.ensures.network.tails c.in-Some.link c.link-here.result c.link-here.ensures.link) in
    subst (λ (w : Ways). c.here.inside.tail < length w) (sym c.deref-in-Some.ensures.value) (subst (λ (l : Link). l.tail < length c.loop-link.ways.items) (sym c.here.view_is) tail)

pub put-requires : goal.put-requires
put-requires c =
    let head = subst (λ (n : ℕ). c.link-here.result.head < n) (sym c.loop-link.invariant.count)
    (c.recall.ensures.network.heads c.in-Some.link c.link-here.result c.link-here.ensures.link) in
    subst (λ (l : Link). l.head < length c.loop-link.ways.items) (sym c.here.view_is) head
