use Rattle.std.proofs.Common.{◌≡◌, List, [], ◌∷◌, ◌++◌, map, sym, ap, subst, ◌∙◌}
use Rattle.nf_resume.proofs.Common.{map-append, Point, CutLink, cut_in, AreLists}
use Rattle.nf_model.specs.Equilibrium.{Trace}
use Rattle.nf_resume_def.specs.Resuming as lists
use Rattle.nf_resume.proofs.cutting.in_lists.Goals as goal

-- one more link
one_more : {A B : Type 0} (f : A → B) (xs : List A) (x : A) (ys new : List B) → ys ≡ map f xs → new ≡ ys ++ f x ∷ [] → new ≡ map f (xs ++ x ∷ [])
one_more f xs x ys new same e = e ∙ ap (λ l. l ++ f x ∷ []) same ∙ sym (map-append f xs (x ∷ []))

lists_more : (inflows outflows new_inflows new_outflows : List Trace) (queues new_queues : List (List Point)) (cuts : List CutLink) (cut : CutLink)
    → AreLists inflows outflows queues (map cut_in cuts)
    → new_inflows ≡ inflows ++ (cut_in cut).inflow ∷ [] → new_outflows ≡ outflows ++ (cut_in cut).outflow ∷ [] → new_queues ≡ queues ++ (cut_in cut).queue ∷ []
    → AreLists new_inflows new_outflows new_queues (map cut_in (cuts ++ cut ∷ []))
lists_more inflows outflows new_inflows new_outflows queues new_queues cuts cut h i o q =
    subst (AreLists new_inflows new_outflows new_queues) (sym (map-append cut_in cuts (cut ∷ []))) (record {
      are_inflows = one_more (λ (c : lists.CutLink). c.inflow) (map cut_in cuts) (cut_in cut) inflows new_inflows h.are_inflows i;
      are_outflows = one_more (λ (c : lists.CutLink). c.outflow) (map cut_in cuts) (cut_in cut) outflows new_outflows h.are_outflows o;
      are_queues = one_more (λ (c : lists.CutLink). c.queue) (map cut_in cuts) (cut_in cut) queues new_queues h.are_queues q;
    })

pub loop-cut-preserved : goal.loop-cut-preserved
loop-cut-preserved c =
    let pushed = c.in_ok-push.ensures {u = tt} in
    lists_more _ _ _ _ _ _ c.loop-cut.yielded c.in-Some.cut c.loop-cut.invariant pushed.inflows pushed.outflows pushed.queues
