-- Base patterns, link by link.
use Rattle.std.proofs.Common.{◌≡◌, ℕ, zero, suc, ◌<◌, List, Bool, length, get_or, replicate, true, false, refl, ap, ◌∙◌, arith, inl, inr, subst, sym}
use Rattle.std.proofs.Common.{Option, Some, None, slice_get}
use Rattle.nf_pattern.proofs.Common.{slice_get_within, slice_get-get_or, same_Some, 0ℚ, State, Tight, Full, Zero, Has, Hop, IsHop, Sets, Pattern, HasState}
use Rattle.nf_pattern.proofs.Common.{NeedsState, IsPattern, IsFirstInto, IsBase, IsHop-unique, Bars, AreBarred, IsBaseState}
use Rattle.nf_pattern.proofs.Each.{EachEntry}

module _ (hops : List Hop) (sets : Sets) where
  -- a link bars this one
  barred : (e k : ℕ) (hop other : Hop) → IsHop hops k other → other.head ≡ hop.head → Bars sets k e → IsFirstInto hops sets e hop → ⊥
  barred e k hop other q same (inl resetting) first = first.no_reset k other q same resetting
  barred e k hop other q same (inr (less, active)) first = first.first k other less q same active

  -- ---- what the flag of a link's head says
  module _ (nodes e : ℕ) (flags : List Bool) (entered : AreBarred nodes hops sets e flags) where
    pub first_if_free : (hop : Hop) → IsHop hops e hop → (Has flags hop.head → ⊥) → IsFirstInto hops sets e hop
    first_if_free hop p free = record {
      is_hop = p;
      first = λ other before less q same active. free (subst (λ (v : ℕ). Has flags v) same (entered.all other before q (inr (less, active))));
      no_reset = λ other before q same resetting. free (subst (λ (v : ℕ). Has flags v) same (entered.all other before q (inl resetting)));
    }

    pub not_first_if_set : (here : Hop) → IsHop hops e here → Has flags here.head → (hop : Hop) → IsFirstInto hops sets e hop → ⊥
    not_first_if_set here p has hop first =
        let by = entered.into here.head has in
        barred e by.0 hop by.1 by.2 (by.3 ∙ ap (λ (h : Hop). h.head) (IsHop-unique hops e here hop p first.is_hop)) by.4 first

  -- ---- the state of the first one
  any_hop : Hop
  any_hop = record { tail = 0; head = 0; transit = 0ℚ }

  not_set : (e : ℕ) → slice_get sets.resetting e ≡ Some false → Has sets.resetting e → ⊥
  not_set e off on = cc

  no_state : (last : Pattern) (e : ℕ) (state : State) → slice_get last e ≡ Some None → HasState last e state → ⊥
  no_state last e state none some = cc

  pub tight_first : (last : Pattern) (nodes e : ℕ) (flags : List Bool) → e < length hops → Has sets.active e → slice_get sets.resetting e ≡ Some false → slice_get last e ≡ Some None
      → AreBarred nodes hops sets e flags → ((hop : Hop) → IsHop hops e hop → Has flags hop.head → ⊥) → IsBaseState hops sets last e (Some Tight)
  tight_first last nodes e flags below active off none entered free = record {
    needed = λ state _. (active, not_set e off);
    there = λ _. (Tight, refl);
    kept = λ state _ was. absurd (no_state last e state none was);
    first = λ _ _ _ _. refl;
    later = λ _ _ not_first.
        let hop = get_or hops e any_hop in
        let p : IsHop hops e hop = slice_get-get_or hops e any_hop below in
        absurd (not_first hop (first_if_free nodes e flags entered hop p (free hop p)));
  }

  -- ---- the state of one that had one, and of a later one
  same_state : (last : Pattern) (e : ℕ) (s t : State) → slice_get last e ≡ Some (Some s) → HasState last e t → s ≡ t
  same_state last e s t at was = same_Some s t (same_Some (Some s) (Some t) (sym at ∙ was))

  pub state_kept : (last : Pattern) (e : ℕ) (state : State) → Has sets.active e → slice_get sets.resetting e ≡ Some false
      → slice_get last e ≡ Some (Some state) → IsBaseState hops sets last e (Some state)
  state_kept last e state active off at = record {
    needed = λ s _. (active, not_set e off);
    there = λ _. (state, refl);
    kept = λ s _ was. ap (λ (x : State). Some x) (same_state last e state s at was);
    first = λ _ _ none _. absurd (no_state last e state none at);
    later = λ _ none _. absurd (no_state last e state none at);
  }

  pub zero_later : (last : Pattern) (nodes e : ℕ) (flags : List Bool) → e < length hops → Has sets.active e → slice_get sets.resetting e ≡ Some false → slice_get last e ≡ Some None
      → AreBarred nodes hops sets e flags → ((hop : Hop) → IsHop hops e hop → Has flags hop.head) → IsBaseState hops sets last e (Some Zero)
  zero_later last nodes e flags below active off none entered has = record {
    needed = λ state _. (active, not_set e off);
    there = λ _. (Zero, refl);
    kept = λ state _ was. absurd (no_state last e state none was);
    first = λ hop _ _ is. absurd (not_first_if_set nodes e flags entered hop is.is_hop (has hop is.is_hop) hop is);
    later = λ _ _ _. refl;
  }

  -- ---- the whole pattern
  module _ (last base : Pattern) (count : length base ≡ length sets.active) (each : EachEntry (IsBaseState hops sets last) base) where
    entry : (e : ℕ) → NeedsState sets e → (given : Option State) × (slice_get base e ≡ Some given) × IsBaseState hops sets last e given
    entry e needs =
        let below : e < length base = (let h : e < length sets.active = slice_get_within sets.active e true needs.0 in omega arith) in
        let at : slice_get base e ≡ Some _ = slice_get-get_or base e None below in
        (_, at, each e _ at)

    at_entry : (e : ℕ) (state : State) (given : Option State) → slice_get base e ≡ Some given → given ≡ Some state → HasState base e state
    at_entry e state given at is = at ∙ ap (λ (g : Option State). Some g) is

    pub is_base : IsBase hops sets last base
    is_base = record {
      count = count;
      states = λ e. (
        λ needs. (let x = entry e needs in let s = x.2.there needs in (s.0, at_entry e s.0 x.0 x.1 s.1)),
        λ s. (each e (Some s.0) s.1).needed s.0 refl,
      );
      kept = λ e state needs was. let x = entry e needs in at_entry e state x.0 x.1 (x.2.kept state needs was);
      first = λ e hop needs was first. let x = entry e needs in at_entry e Tight x.0 x.1 (x.2.first hop needs was first);
      later = λ e needs was none. let x = entry e needs in at_entry e Zero x.0 x.1 (x.2.later needs was none);
    }

-- ---- a base pattern is a pattern, where the last one makes no unbounded link Full
module _ (hops : List Hop) (sets : Sets) (unbounded : List Bool) (last base : Pattern) (is : IsBase hops sets last base) (count : length last ≡ length sets.active)
    (no_full : (e : ℕ) → Has unbounded e → HasState last e Full → ⊥) where
  never_full : (e : ℕ) (given : Option State) → slice_get last e ≡ Some given → NeedsState sets e → Has unbounded e → HasState base e Full → ⊥
  never_full e None at needs u full = let zero : HasState base e Zero = is.later e needs at (λ hop first. let tight = is.first e hop needs at first in cc) in cc
  never_full e (Some state) at needs u full =
      let kept : HasState base e state = is.kept e state needs at in
      let same : state ≡ Full = cc in no_full e u (at ∙ ap (λ (s : State). Some (Some s)) same)

  pub base_is_pattern : IsPattern sets unbounded base
  base_is_pattern = record {
    count = is.count;
    states = is.states;
    no_full = λ e u full.
        let needs = (is.states e).1 (Full, full) in
        let below : e < length last = (let h : e < length sets.active = slice_get_within sets.active e true needs.0 in omega arith) in
        never_full e _ (slice_get-get_or last e None below) needs u full;
  }

pub none_full : (links : ℕ) (e : ℕ) → HasState (replicate links None) e Full → ⊥
none_full zero e h = cc
none_full (suc links) zero h = cc
none_full (suc links) (suc e) h = none_full links e h
