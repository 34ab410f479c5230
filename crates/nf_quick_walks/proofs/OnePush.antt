-- The next shortest walk, and its push.
use Rattle.std.proofs.Common.{◌≡◌, List, [], ◌∷◌, ◌++◌, Bool, true, false, Option, Some, None, sym, ap, subst, ◌∙◌, Ok, Err, IfSome, if◌then◌else◌}
use Rattle.nf_quick_walks.proofs.Common.{ℚ, 0ℚ, ◌≤ℚ◌, ◌<ℚ◌, Passing, Sum, PassedAt, Checked, at_part, checked, checked_at, ◌>>=◌, Network, Walk}
use Rattle.nf_quick_walks.proofs.Common.{shortest_list, IsShortestWalk, IsShortest, Times, push_list, time_list, Augment, QuickStanding, is_early, push_on}
use Rattle.nf_quick_walks.proofs.Common.{next_of, next_list, ok_of_part, stopped, goes_on}
use Rattle.nf_rational_laws.proofs.Signs.{nn_plus_ps}
use Rattle.nf_frac_def.specs.declared.Part.TheVariants as Part
use Rattle.nf_frac_def.proofs.Exact.{checked-is}

-- the sum of a rate of at least 0 and one above 0
pub some_sum : (passes : Passing) (so_far rate all : ℚ) → 0ℚ ≤ℚ so_far → 0ℚ <ℚ rate → Ok all ≡ checked_at passes Part.Quick Sum so_far rate → 0ℚ <ℚ all
some_sum passes so_far rate all h k e =
    subst (λ (x : ℚ). 0ℚ <ℚ x) (sym (checked-is passes Sum so_far rate all (ok_of_part (checked passes Sum so_far rate) all (sym e)))) (nn_plus_ps so_far rate h k)

-- ---- the next walk, from the shortest one
module _ (passes : Passing) (net : Network) (amount : ℚ) (s : QuickStanding) (flows : List ℚ) (flows_are : flows ≡ s.flows) (found next : Option Walk)
    (is : next ≡ next_of passes net amount s found) where
  pub next_listed : at_part Part.Quick (shortest_list passes net flows) ≡ Ok found → at_part Part.Quick (next_list passes net amount s) ≡ Ok next
  next_listed e = ap (at_part Part.Quick)
      (goes_on (shortest_list passes net s.flows) (λ o. Ok (next_of passes net amount s o)) found
      (ap (λ (l : List ℚ). at_part Part.Quick (shortest_list passes net l)) (sym flows_are) ∙ e)) ∙ ap Ok (sym is)

  if_early : (b : Bool) (walk : Walk) → IsShortestWalk net flows walk → IfSome (if b then Some walk else None) (IsShortestWalk net flows)
  if_early true walk h = h
  if_early false walk h = tt

  of_found : (o : Option Walk) → IsShortest net flows o → IfSome (next_of passes net amount s o) (IsShortestWalk net flows)
  of_found None h = tt
  of_found (Some walk) h = if_early (is_early walk.length s.time) walk h

  pub next_shortest : IsShortest net flows found → IfSome next (IsShortestWalk net s.flows)
  next_shortest h = subst (λ (l : List ℚ). IfSome next (IsShortestWalk net l)) flows_are (subst (λ (o : Option Walk). IfSome o (IsShortestWalk net flows)) (sym is) (of_found found h))

-- ---- a push that stops
module _ (passes : Passing) (net : Network) (amount : ℚ) (s t : QuickStanding) (w v : Walk) (same : s ≡ t) (walk_is : w ≡ v) where
  abbrev moved : Checked (List ℚ)
  moved = push_list passes v.steps w.room s.flows

  abbrev timed : Checked Times
  timed = time_list passes amount s.rate s.cost w.room w.length

  abbrev made : List ℚ → Times → QuickStanding
  made flows times = record { flows = flows; pushed = s.pushed ++ record { walk = v; amount = w.room } ∷ []; rate = times.rate; cost = times.cost; time = Some times.time }

  opened : push_on passes net amount t v ≡ (moved >>= λ flows. timed >>= λ times. Ok (made flows times))
  opened = sym (ap (λ (u : QuickStanding). push_on passes net amount u v) same)
      ∙ ap (λ (u : Walk). push_list passes v.steps u.room s.flows >>= λ flows. time_list passes amount s.rate s.cost u.room u.length >>= λ times.
      Ok (record { flows = flows; pushed = s.pushed ++ record { walk = v; amount = u.room } ∷ []; rate = times.rate; cost = times.cost; time = Some times.time })) (sym walk_is)

  pub move_passes : (p : PassedAt ℚ) → Err p ≡ at_part Part.Quick moved → at_part Part.Quick (push_on passes net amount t v) ≡ Err p
  move_passes p e = ap (at_part Part.Quick) opened ∙ stopped moved (λ flows. timed >>= λ times. Ok (made flows times)) p (sym e)

  pub time_passes : (flows : List ℚ) → Ok flows ≡ at_part Part.Quick moved → (p : PassedAt ℚ) → Err p ≡ at_part Part.Quick timed
      → at_part Part.Quick (push_on passes net amount t v) ≡ Err p
  time_passes flows f p e =
      ap (at_part Part.Quick) (opened ∙ goes_on moved (λ flows. timed >>= λ times. Ok (made flows times)) flows (sym f))
      ∙ stopped timed (λ times. Ok (made flows times)) p (sym e)

  -- A push that succeeds.
  pub push_made : (flows : List ℚ) → Ok flows ≡ at_part Part.Quick moved → (times u : Times) → Ok times ≡ at_part Part.Quick timed → u ≡ times
      → (pushed : List Augment) → pushed ≡ s.pushed ++ record { walk = v; amount = w.room } ∷ []
      → at_part Part.Quick (push_on passes net amount t v) ≡ Ok (record { flows = flows; pushed = pushed; rate = u.rate; cost = u.cost; time = Some u.time })
  push_made flows f times u e is pushed more =
      ap (at_part Part.Quick) (opened ∙ goes_on moved (λ flows. timed >>= λ times. Ok (made flows times)) flows (sym f) ∙ goes_on timed (λ times. Ok (made flows times)) times (sym e))
      ∙ ap (λ (x : Times). Ok (made flows x)) (sym is)
      ∙ ap (λ (l : List Augment). Ok (record { flows = flows; pushed = l; rate = u.rate; cost = u.cost; time = Some u.time })) (sym more)
