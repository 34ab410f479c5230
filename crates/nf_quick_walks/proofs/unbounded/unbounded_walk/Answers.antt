use Rattle.std.proofs.Common.{ℕ, List, ◌<◌, length, get_or, None, Some, sym, ap, subst, ◌∙◌}
use Rattle.nf_quick_walks.proofs.Common.{get_or_read, none-some, unwrap_or-slice_get, IsUnboundedWalk}
use Rattle.nf_quick_walks.proofs.unbounded.unbounded_walk.Goals as goal

pub returns-in-None : goal.returns-in-None
returns-in-None c = λ walk leads.
    let known = c.in_ok-ways.ensures.all walk c.args.net.now.net.sink leads in
    let none = c.in-None.ensures.value ∙ ap (λ (k : ℕ). get_or c.in_ok-ways.ways.items k None) (c.index.ensures ∙ c.sink-sink.ensures.value)
    ∙ sym (unwrap_or-slice_get c.in_ok-ways.ways.items c.args.net.now.net.sink None) in
    none-some known.0 (none ∙ known.1)

pub returns : goal.returns
returns c =
    let ways = c.in_ok-ways.ensures.each in
    let here = c.in-Some.ensures.value ∙ ap (λ (k : ℕ). get_or c.in_ok-ways.ways.items k (Some c.in-Some.way)) (c.index.ensures ∙ c.sink-sink.ensures.value) in
    let inside = subst (λ (k : ℕ). k < length c.in_ok-ways.ways.items) c.sink-sink.ensures.value (subst (λ (n : ℕ). c.sink-sink.result < n) (sym ways.count) c.sink-sink.ensures.node) in
    let known = unwrap_or-slice_get c.in_ok-ways.ways.items c.args.net.now.net.sink None
    ∙ sym (get_or_read c.in_ok-ways.ways.items c.args.net.now.net.sink (Some c.in-Some.way) inside here None) in
    subst (λ (way : List ℕ). IsUnboundedWalk c.args.net.now.net way c.args.net.now.net.source c.args.net.now.net.sink) (sym c.way.view_is)
    (ways.walks c.args.net.now.net.sink c.in-Some.way known)
