use Rattle.std.proofs.Common.{◌<◌, ◌≤◌, ◌+◌, ℕ, List, length, refl, sym, ap, subst, ◌∙◌, arith}
use Rattle.nf_routes_read.proofs.Common.{has_name, IsNameAt}
use Rattle.nf_routes_read.proofs.RouteLinks.{AreRead, all_read, none_there, one_more}
use Rattle.nf_routes_read.proofs.entry.read_links.Goals as goal

pub returns-in_default : goal.returns-in_default
returns-in_default c =
    let lt : c.loop-place.place < length c.args.line.now.words = omega (arith, c.len-place-end.ensures) in (
      refl,
      none_there c.args.net.now.link_names c.args.line.now.words c.loop-place.place c.loop-place.links.items c.loop-place.invariant lt
          (ap (has_name c.args.net.now.link_names) (sym c.at.ensures) ∙ c.in_default.ensures),
    )

pub loop-place-preserved : goal.loop-place-preserved
loop-place-preserved c =
    let lt : c.loop-place.place < length c.args.line.now.words = omega (arith, c.len-place-end.ensures) in
    subst (λ (l : List ℕ). AreRead c.args.net.now.link_names c.args.line.now.words (c.loop-place.place + 1) l) (sym c.in_ok-push.ensures.items)
    (one_more c.args.net.now.link_names c.args.line.now.words c.loop-place.place c.loop-place.links.items c.loop-place.invariant lt c.in-Some.link (c.loop-place.place + 1)
    (subst (λ (w : List ℕ). IsNameAt c.args.net.now.link_names w c.in-Some.link) c.at.ensures c.in-Some.ensures) refl)

pub returns : goal.returns
returns c =
    all_read c.args.net.now.link_names c.args.line.now.words c.loop-place.place c.loop-place.links.items c.loop-place.invariant
    (subst (λ (n : ℕ). n ≤ c.loop-place.place) c.len-place-end.ensures c.loop-place-test.false)
