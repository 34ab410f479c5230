use Rattle.std.proofs.Common.{◌≡◌, List, [], ◌∷◌, ◌++◌, length, map, Some, refl, sym, ap, ◌∙◌, arith}
use Rattle.nf_routes.proofs.Common.{YieldsList-from_vec, YieldsList-turn, slice_get_read, err_from_is_err_and, ℚ, passes_Q, loaded_of, LoadedLink, end_or}
use Rattle.nf_routes.proofs.Common.{loaded_or, same_pushed}
use Rattle.std.proofs.lemmas.List.{map-append}
use Rattle.nf_routes.proofs.routed.ended.Goals as goal

pub loop-link-init : goal.loop-link-init
loop-link-init c = (c.new-ends.ensures.items, ap (λ (l : List _). map loaded_of l) c.new-all.ensures.items)

pub returns-in_err-push-clause-ends : goal.returns-in_err-push-clause-ends
returns-in_err-push-clause-ends c =
    let p = err_from_is_err_and c.from_residual.result c.from_residual.ensures.1 in
    rw p.1 tt

pub returns-in_err-push-clause-loaded : goal.returns-in_err-push-clause-loaded
returns-in_err-push-clause-loaded c =
    let p = err_from_is_err_and c.from_residual.result c.from_residual.ensures.1 in
    rw p.1 tt

pub returns-in_err-push-2-clause-ends : goal.returns-in_err-push-2-clause-ends
returns-in_err-push-2-clause-ends c =
    let p = err_from_is_err_and c.from_residual-in_err-push-2.result c.from_residual-in_err-push-2.ensures.1 in
    rw p.1 tt

pub returns-in_err-push-2-clause-loaded : goal.returns-in_err-push-2-clause-loaded
returns-in_err-push-2-clause-loaded c =
    let p = err_from_is_err_and c.from_residual-in_err-push-2.result c.from_residual-in_err-push-2.ensures.1 in
    rw p.1 tt

pub loop-link-preserved-in-Continue-branch-2 : goal.loop-link-preserved-in-Continue-branch-2
loop-link-preserved-in-Continue-branch-2 c =
    let end : c.link.inside.end ≡ end_or passes_Q c.in-Some.link = ap (λ (l : LoadedLink). l.end) c.link.view_is ∙ ap (end_or passes_Q) (sym c.in-Some-link.is) in
    let loaded : loaded_of c.link.inside.loaded ≡ loaded_or passes_Q c.in-Some.link = ap (λ (l : LoadedLink). l.loaded) c.link.view_is
    ∙ ap (loaded_or passes_Q) (sym c.in-Some-link.is) in (
      c.in_ok-push.ensures.items ∙ ap (λ (l : List ℚ). l ++ c.link.inside.end ∷ []) c.loop-link.invariant.0
          ∙ ap (λ (z : ℚ). map (end_or passes_Q) c.loop-link.yielded ++ z ∷ []) end ∙ sym (map-append (end_or passes_Q) c.loop-link.yielded (c.in-Some.link ∷ [])),
      same_pushed loaded_of (loaded_or passes_Q) c.loop-link.all.items c.link.inside.loaded c.loop-link.yielded c.in-Some.link
          c.push-in-Some-link.new.self.items c.in_ok-push-2.ensures.items c.loop-link.invariant.1 loaded,
    )

pub loop-link-preserved : goal.loop-link-preserved
loop-link-preserved c =
    let all = YieldsList-from_vec c.args.links.items c.into_iter-link-iterator.ensures.into_iter_gives.0
    (omega (arith, c.into_iter-link-iterator.ensures.into_iter_gives.1, c.args.links.ok.0)) in
    let turn = YieldsList-turn all c.loop-link.yielded c.loop-link.link-iterator c.loop-link.yielded_by c.next.result c.next.new.self c.in-Some.link c.in-Some.is c.next.ensures.steps in
    absurd (c.requires.each (length c.loop-link.yielded) (slice_get_read c.args.links.items _ (length c.loop-link.yielded) c.in-Some.link refl turn.0 turn.1 ∙ ap Some c.in_default.is))
