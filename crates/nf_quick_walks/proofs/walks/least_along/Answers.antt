use Rattle.std.proofs.Common.{ℕ, ◌+◌, ◌<◌, List, ◌∷◌, length, drop, None, Some, sym, ap, subst, ◌∙◌}
use Rattle.nf_quick_walks.proofs.Common.{AllByRecursion, drop_more, drop_all, ℚ, min_ℚ, least_along, all_at}
use Rattle.nf_quick_walks.proofs.WalkByWalk.{rest_of, rest_is}
use Rattle.nf_quick_walks.proofs.walks.least_along.Goals as goal

pub flow_at-least-requires : goal.flow_at-least-requires
flow_at-least-requires c =
    let is = rest_is c.args.way.now c.first-item.result c.in-len1-up.len_at_least c.first-item.is in
    (subst (AllByRecursion (λ e. e < length c.args.flows.now)) is c.requires).0

pub loop-link-init : goal.loop-link-init
loop-link-init c =
    ap (λ (x : ℚ). least_along c.args.flows.now (Some x) (rest_of c.args.way.now)) c.flow_at-least.ensures
    ∙ ap (λ (way : List ℕ). least_along c.args.flows.now None way) (sym (rest_is c.args.way.now c.first-item.result c.in-len1-up.len_at_least c.first-item.is))

pub flow_at-requires : goal.flow_at-requires
flow_at-requires c =
    let is = rest_is c.args.way.now c.first-item.result c.in-len1-up.len_at_least c.first-item.is in
    let later = (subst (AllByRecursion (λ e. e < length c.args.flows.now)) is c.requires).1 in
    all_at (λ e. e < length c.args.flows.now) (rest_of c.args.way.now) c.loop-link.link-index c.link-item.result later c.loop-link-test.true c.link-item.is

pub loop-link-preserved : goal.loop-link-preserved
loop-link-preserved c =
    let rest = rest_of c.args.way.now in
    let after = drop (c.loop-link.link-index + 1) rest in
    ap (λ (x : ℚ). least_along c.args.flows.now (Some x) after) (c.lesser-least.ensures ∙ ap (λ (x : ℚ). min_ℚ c.loop-link.least x) c.flow_at.ensures)
    ∙ ap (λ (way : List ℕ). least_along c.args.flows.now (Some c.loop-link.least) way)
    (sym (drop_more rest c.loop-link.link-index c.link-item.result c.loop-link-test.true ∙ ap (λ (e : ℕ). e ∷ after) (sym c.link-item.is)))
    ∙ c.loop-link.invariant

pub returns : goal.returns
returns c =
    sym (ap (λ (way : List ℕ). least_along c.args.flows.now (Some c.loop-link.least) way) (drop_all c.loop-link.link-index (rest_of c.args.way.now) c.loop-link-test.false))
    ∙ c.loop-link.invariant
