-- The capacities of Full and resetting links.
use Rattle.std.proofs.Common.{◌≡◌, ℕ, refl, sym, ap, ◌∙◌, Option, Some, None, is_none, IsSome, slice_get}
use Rattle.nf_thin_guess.proofs.Common.{option_map, none-some, same_Some, slice_get-map, ℚ, State, Full, Has, Link, Network, IsLink, unbounded, Sets}
use Rattle.nf_thin_guess.proofs.Common.{Pattern, HasState, IsPatternIn}

some_unless : {A : Type 0} (o : Option A) → (o ≡ None → ⊥) → IsSome o
some_unless None never = absurd (never refl)
some_unless (Some x) never = refl

module _ (net : Network) (sets : Sets) (pattern : Pattern) (is : IsPatternIn net sets pattern) (e : ℕ) (link : Link) (here : IsLink net e link) where
  flagged : link.capacity ≡ None → Has (unbounded net) e
  flagged none = slice_get-map (λ (l : Link). is_none l.capacity) net.links e ∙ ap (option_map (λ (l : Link). is_none l.capacity)) here ∙ ap (λ (o : Option ℚ). Some (is_none o)) none

  -- A Full link has a capacity.
  pub full_bounded : HasState pattern e Full → IsSome link.capacity
  full_bounded full = some_unless link.capacity (λ none. is.pattern_is.no_full e (flagged none) full)

  -- An active link without a state has a capacity, since it is resetting.
  pub stateless_bounded : Has sets.active e → slice_get pattern e ≡ Some None → IsSome link.capacity
  stateless_bounded active stateless = some_unless link.capacity (λ none. stated ((is.pattern_is.states e).0 (active, λ resetting. is.bounded e (flagged none) resetting)))
    where
      stated : (state : State) × HasState pattern e state → ⊥
      stated s = none-some s.0 (same_Some None (Some s.0) (sym stateless ∙ s.1))
