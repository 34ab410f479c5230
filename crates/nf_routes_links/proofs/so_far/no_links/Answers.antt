use Rattle.std.proofs.Common.{ℕ, ◌<◌, ◌≤◌, List, [], ◌∷◌, ◌++◌, length, None, ap, subst, ◌∙◌, arith, take_all, Option}
use Rattle.nf_routes_links.proofs.Common.{LoadedLink, nothing_loaded}
use Rattle.nf_routes_links.proofs.Lists.{same_next}
use Rattle.nf_routes_links.proofs.so_far.no_links.Goals as goal

pub loop-preserved : goal.loop-preserved
loop-preserved c =
    let inside : c.loop.counter < length c.args.net.now.net.links = omega arith in
    c.in_ok-push.ensures.items ∙ ap (λ (l : List (Option LoadedLink)). l ++ None ∷ []) c.loop.invariant ∙ same_next None c.args.net.now.net.links c.loop.counter inside

pub returns : goal.returns
returns c =
    let past = subst (λ (n : ℕ). n ≤ c.loop.counter) c.link_count-end.ensures c.loop-test.false in
    c.loop.invariant ∙ ap nothing_loaded (take_all c.loop.counter c.args.net.now.net.links past)
