-- A pattern in which one link changes its state.
use Rattle.std.proofs.Common.{◌≡◌, ◌≢◌, ⊎_elim, ℕ, Bool, true, false, List, length-set, set, sym, ap, subst, ◌∙◌, Option, Some, None, is_none, IsSome}
use Rattle.std.proofs.Common.{slice_get}
use Rattle.nf_thin_guess.proofs.Common.{option_map, slice_get-map, same_Some, slice_get_within, ℚ, State, Full, Has, Link, Network, IsLink, unbounded, Sets}
use Rattle.nf_thin_guess.proofs.Common.{Pattern, HasState, NeedsState, IsPattern, IsPatternIn}
use Rattle.nf_pattern.proofs.Setting.{set_same, set_other, tell}

pub by_place : (P : Type 0) (k e : ℕ) → (k ≡ e → P) → (k ≢ e → P) → P
by_place P k e same apart = ⊎_elim same apart (tell k e)

module _ (sets : Sets) (flags : List Bool) (pattern : Pattern) (is : IsPattern sets flags pattern) (e : ℕ) (old new : State) (has : HasState pattern e old)
    (fits : new ≡ Full → Has flags e → ⊥) where
  abbrev changed : Pattern
  changed = set pattern e (Some new)

  here : HasState changed e new
  here = set_same pattern e (Some new) (slice_get_within pattern e (Some old) has)

  elsewhere : (k : ℕ) → k ≢ e → slice_get changed k ≡ slice_get pattern k
  elsewhere k apart = set_other pattern e k (Some new) apart

  same_new : (k : ℕ) (state : State) → k ≡ e → HasState changed k state → new ≡ state
  same_new k state same h = inside (same_Some (Some new) (Some state) (sym here ∙ subst (λ (i : ℕ). HasState changed i state) same h))
    where
      inside : Some new ≡ Some state → new ≡ state
      inside e = cc

  state_after : (k : ℕ) → NeedsState sets k → (state : State) × HasState changed k state
  state_after k needs = by_place ((state : State) × HasState changed k state) k e
      (λ (same : k ≡ e). (new, subst (λ (i : ℕ). HasState changed i new) (sym same) here))
      (λ (apart : k ≢ e). (((is.states k).0 needs).0, elsewhere k apart ∙ ((is.states k).0 needs).1))

  need_before : (k : ℕ) → (state : State) × HasState changed k state → NeedsState sets k
  need_before k s = by_place (NeedsState sets k) k e
      (λ (same : k ≡ e). subst (λ (i : ℕ). NeedsState sets i) (sym same) ((is.states e).1 (old, has)))
      (λ (apart : k ≢ e). (is.states k).1 (s.0, sym (elsewhere k apart) ∙ s.1))

  none_full : (k : ℕ) → Has flags k → HasState changed k Full → ⊥
  none_full k unbounded_here full = by_place ⊥ k e
      (λ (same : k ≡ e). fits (same_new k Full same full) (subst (λ (i : ℕ). Has flags i) same unbounded_here))
      (λ (apart : k ≢ e). is.no_full k unbounded_here (sym (elsewhere k apart) ∙ full))

  pub still_pattern : IsPattern sets flags changed
  still_pattern = record { count = length-set pattern e (Some new) ∙ is.count; states = λ k. (state_after k, need_before k); no_full = none_full }

-- A link with a state changes to another state that it may have.
pub IsPatternIn-changed : (net : Network) (sets : Sets) (pattern : Pattern) (e : ℕ) (link : Link) (old : Option State) (new : State) → IsPatternIn net sets pattern → IsLink net e link
    → slice_get pattern e ≡ Some old → is_none old ≡ false → (new ≡ Full → IsSome link.capacity) → IsPatternIn net sets (set pattern e (Some new))
IsPatternIn-changed net sets pattern e link None new p is at some fits = absurd (cc)
IsPatternIn-changed net sets pattern e link (Some old) new p is at some fits = record {
  network = p.network;
  sets_are = p.sets_are;
  bounded = p.bounded;
  pattern_is = still_pattern sets (unbounded net) pattern p.pattern_is e old new at (λ full flag. no link.capacity (fits full) (flag_is flag));
}
  where
    flag_is : Has (unbounded net) e → is_none link.capacity ≡ true
    flag_is flag = same_Some (is_none link.capacity) true (sym (slice_get-map (λ (l : Link). is_none l.capacity) net.links e
        ∙ ap (option_map (λ (l : Link). is_none l.capacity)) is) ∙ flag)

    no : (o : Option ℚ) → IsSome o → is_none o ≡ true → ⊥
    no None s n = absurd (cc)
    no (Some x) s n = absurd (cc)
