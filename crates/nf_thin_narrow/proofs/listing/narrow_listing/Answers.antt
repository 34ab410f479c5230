use Rattle.std.proofs.Common.{List, length, sym, ap, subst, ◌∙◌, arith}
use Rattle.nf_thin_narrow.proofs.Common.{Hop, Sets, Pattern, IsPattern, sets_left, left_pattern, sets_count, flags_count}
use Rattle.nf_net.proofs.Limits.{few_links}
use Rattle.nf_graph.proofs.NetworkHops.{hops_length}
use Rattle.nf_thin_narrow.proofs.listing.narrow_listing.Goals as goal

pub new-requires-clause-ends : goal.new-requires-clause-ends
new-requires-clause-ends c = rw (c.node_count-nodes.ensures, c.hops-hops.ensures.value) c.requires.ends

pub new-requires-clause-active : goal.new-requires-clause-active
new-requires-clause-active c =
    ap (λ (s : Sets). length s.active) c.in_ok-left.ensures ∙ (sets_count c.args.sets.now c.args.unbounded.now c.args.forced.now c.requires.forcing ∙ (c.requires.active
    ∙ (sym (hops_length c.args.net.now.net) ∙ ap (λ (l : List Hop). length l) (sym c.hops-hops.ensures.value))))

pub new-requires-clause-resetting : goal.new-requires-clause-resetting
new-requires-clause-resetting c =
    ap (λ (s : Sets). length s.resetting) c.in_ok-left.ensures ∙ (flags_count c.args.sets.now c.args.unbounded.now c.args.forced.now c.requires.forcing ∙ (c.requires.active
    ∙ (sym (hops_length c.args.net.now.net) ∙ ap (λ (l : List Hop). length l) (sym c.hops-hops.ensures.value))))

pub new-requires-clause-unbounded : goal.new-requires-clause-unbounded
new-requires-clause-unbounded c =
    c.requires.unbounded ∙ (sym (hops_length c.args.net.now.net) ∙ ap (λ (l : List Hop). length l) (sym c.hops-hops.ensures.value))

pub new-requires-clause-fewer : goal.new-requires-clause-fewer
new-requires-clause-fewer c =
    let few = few_links c.args.net.now c.hops-hops.ensures.named in
    let same = hops_length c.args.net.now.net in rw (c.hops-hops.ensures.value) (omega arith)

pub new-requires-clause-base : goal.new-requires-clause-base
new-requires-clause-base c =
    subst (λ (s : Sets). IsPattern s c.args.unbounded.now c.in_ok-part.part) (sym c.in_ok-left.ensures)
    (subst (λ (p : Pattern). IsPattern (sets_left c.args.forced.now c.args.sets.now) c.args.unbounded.now p) (sym c.in_ok-part.ensures)
    (left_pattern c.args.sets.now c.args.unbounded.now c.args.forced.now c.requires.forcing c.args.base.now c.requires.base))

pub left_sets-requires-clause-forcing : goal.left_sets-requires-clause-forcing
left_sets-requires-clause-forcing c = (c.args.unbounded.now, c.requires.forcing)
