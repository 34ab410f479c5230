use Rattle.std.proofs.Common.{◌+◌, ◌++◌, List, [], ◌∷◌, drop, refl, sym, ◌∙◌, ap, append-nil}
use Rattle.nf_net.proofs.Common.{NamedLink, marked, tail_flags, filled, filled_all, marked_with, marked_past}
use Rattle.nf_net.proofs.building.active_of.Goals as goal
use Rattle.nf_net.proofs.building.active_of.Goals.{then-is_active+in_ok-push, else-is_active}

pub loop-link-preserved : goal.loop-link-preserved
loop-link-preserved c =
    let given : List NamedLink → List NamedLink = λ (ls : List NamedLink). marked (tail_flags c.args.nodes.now c.args.flags.now ls) ls in
    let link : NamedLink = c.link-item.result in
    let front : List NamedLink = c.loop-link.active.items in
    elim c.if-is_active.branch [
      | then-is_active+in_ok-push w ↦ filled given c.args.links.now c.loop-link.link-index link front (link ∷ []) _ _
          (ap (λ v. v.items) w.active-is ∙ w.in_ok-push.ensures.items ∙ ap (λ (x : NamedLink). front ++ x ∷ []) w.copy.ensures)
          c.loop-link-test.true c.link-item.is (marked_with _ _ link (drop (c.loop-link.link-index + 1) c.args.links.now)
          (sym c.is_active.ensures ∙ w.if-is_active.true)) c.loop-link.invariant
      | else-is_active w ↦ filled given c.args.links.now c.loop-link.link-index link front [] _ _
          (ap (λ v. v.items) w.active-is ∙ sym (append-nil front))
          c.loop-link-test.true c.link-item.is (marked_past _ _ link (drop (c.loop-link.link-index + 1) c.args.links.now)
          (sym c.is_active.ensures ∙ w.if-is_active.false)) c.loop-link.invariant
    ]

pub returns : goal.returns
returns c =
    filled_all (λ (ls : List NamedLink). marked (tail_flags c.args.nodes.now c.args.flags.now ls) ls) c.args.links.now c.loop-link.link-index
    c.loop-link.active.items _ c.loop-link-test.false refl c.loop-link.invariant
