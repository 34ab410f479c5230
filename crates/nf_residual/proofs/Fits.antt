-- The steps of a shortest walk are along links that have a flow.
use Rattle.std.proofs.Common.{◌≡◌, ℕ, ◌<◌, List, [], ◌∷◌, length, sym, ap, subst, refl, ◌∙◌, Ok}
use Rattle.nf_residual.proofs.Common.{AllByRecursion, ℚ, 0ℚ, ◌≤ℚ◌, ◌<ℚ◌, Passing, Part, at_part, fold_checked, part_ok, Network, IsNetwork, Step, IsSound}
use Rattle.nf_residual.proofs.Common.{Walk, push_step, IsShortestWalk, IsPush, links_within, IsPush-list}
use Rattle.nf_quick_def.specs.Pushes.{push_list}
use Rattle.nf_quick_laws.proofs.Apart.{EachStep}
use Rattle.nf_quick_laws.proofs.NewSteps.{IsSound-pushed}

pub all_of : (n : ℕ) (steps : List Step) → EachStep (λ step. step.link < n) steps → AllByRecursion (λ (step : Step). step.link < n) steps
all_of n [] e = tt
all_of n (step ∷ steps) e = (e.0, all_of n steps e.1)

pub fits : (net : Network) (flows : List ℚ) (walk : Walk) (steps : List Step) (n : ℕ) → IsSound net flows → IsShortestWalk net flows walk → steps ≡ walk.steps → n ≡ length flows
    → AllByRecursion (λ (step : Step). step.link < n) steps
fits net flows walk steps n sound shortest same count = subst (λ (s : List Step). AllByRecursion (λ (step : Step). step.link < n) s) (sym same)
    (all_of n walk.steps (links_within net flows n walk.steps net.source net.sink (count ∙ sound.flow.count) shortest.first.is_walk))

as_list : (passes : Passing) (amount : ℚ) (flows : List ℚ) (steps : List Step) → push_list passes steps amount flows ≡ fold_checked (push_step passes amount) flows steps
unfolding push_list
as_list passes amount flows steps = refl

-- A push leaves a sound flow.
pub pushed_sound : (passes : Passing) (net : Network) (flows new old : List ℚ) (walk : Walk) (steps : List Step) (amount : ℚ) → IsNetwork net
    → IsSound net flows → IsShortestWalk net flows walk → 0ℚ <ℚ amount
    → amount ≤ℚ walk.room → old ≡ flows → steps ≡ walk.steps → Ok new ≡ at_part Part.Quick (fold_checked (push_step passes amount) old steps) → IsSound net new
pushed_sound passes net flows new old walk steps amount good sound shortest some within same along e =
    let p : IsPush net flows new walk.steps amount = IsPush-list passes net flows new walk amount good sound shortest some within
    (as_list passes amount flows walk.steps ∙ ap (λ (l : List ℚ). fold_checked (push_step passes amount) l walk.steps) (sym same)
    ∙ ap (λ (s : List Step). fold_checked (push_step passes amount) old s) (sym along)
    ∙ part_ok Part.Quick (fold_checked (push_step passes amount) old steps) new e) in
    IsSound-pushed net flows new walk.steps amount good p.sound p.each p.first p.some p.room p.pushed
