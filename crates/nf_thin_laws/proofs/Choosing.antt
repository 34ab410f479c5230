-- The states of listed patterns are among the choices.
use Rattle.std.proofs.Common.{◌≡◌, ◌⊎◌, inl, inr, ℕ, suc, ◌<◌, Bool, true, false, List, [], ◌∷◌, length, refl, sym, ap, subst, ◌∙◌, arith, Option, Some}
use Rattle.std.proofs.Common.{None, slice_get}
use Rattle.nf_thin_laws.proofs.Common.{none-some, same_Some, State, Tight, Full, Zero, Has, Hop, IsHop, Sets, Pattern, HasState, IsPattern, IsListed, IsIn}
use Rattle.nf_thin_laws.proofs.Common.{AreIn, AreSole, states_of, choices_of}

-- link by link
abbrev EachIsIn : Pattern → List Bool → List Bool → Pattern → Type 0
EachIsIn base us sole p = (e : ℕ) (b s : Option State) (u o : Bool) → slice_get base e ≡ Some b → slice_get us e ≡ Some u → slice_get sole e ≡ Some o → slice_get p e ≡ Some s
    → IsIn (states_of b u o) s

all_in : (base : Pattern) (us sole : List Bool) (p : Pattern) → length base ≡ length p → length us ≡ length p → length sole ≡ length p
    → EachIsIn base us sole p → AreIn (choices_of base us sole) p
all_in [] us sole [] n m k each = tt
all_in [] us sole (s ∷ p) n m k each = absurd (omega arith)
all_in (b ∷ base) us sole [] n m k each = absurd (omega arith)
all_in (b ∷ base) [] sole (s ∷ p) n m k each = absurd (omega arith)
all_in (b ∷ base) (u ∷ us) [] (s ∷ p) n m k each = absurd (omega arith)
all_in (b ∷ base) (u ∷ us) (o ∷ sole) (s ∷ p) n m k each =
    (each 0 b s u o refl refl refl refl, all_in base us sole p (omega arith) (omega arith) (omega arith) (λ e c t v w. each (suc e) c t v w))

state_in : (b t : State) (u o : Bool) → (t ≡ Full → u ≡ true → ⊥) → (t ≡ Zero → o ≡ true → ⊥) → IsIn (states_of (Some b) u o) (Some t)
state_in b Tight true true full none = inl refl
state_in b Tight true false full none = inl refl
state_in b Tight false true full none = inl refl
state_in b Tight false false full none = inl refl
state_in b Full true o full none = absurd (full refl refl)
state_in b Full false true full none = inr (inl refl)
state_in b Full false false full none = inr (inl refl)
state_in b Zero u true full none = absurd (none refl refl)
state_in b Zero true false full none = inr (inl refl)
state_in b Zero false false full none = inr (inr (inl refl))

module _ (nodes source : ℕ) (hops : List Hop) (sets : Sets) (unbounded sole : List Bool) (base p : Pattern) (heads : (e : ℕ) (hop : Hop) → IsHop hops e hop → hop.head < nodes)
    (resets : (e : ℕ) → Has sets.resetting e → Has sets.active e) (is_base : IsPattern sets unbounded base) (bounds : length unbounded ≡ length sets.active)
    (flags : length sole ≡ length sets.active) (are_sole : AreSole source hops sets sole) (listed : IsListed nodes source hops sets unbounded p) where
  one_state : (e : ℕ) (s t : State) → HasState p e s → HasState p e t → s ≡ t
  one_state e s t h k = same_Some s t (same_Some (Some s) (Some t) (sym h ∙ k))

  abbrev Carries : ℕ → Type 0
  Carries e = Has sets.resetting e ⊎ (HasState p e Tight ⊎ HasState p e Full)

  active : (e : ℕ) → Carries e → Has sets.active e
  active e (inl r) = resets e r
  active e (inr (inl h)) = ((listed.states.states e).1 (Tight, h)).0
  active e (inr (inr h)) = ((listed.states.states e).1 (Full, h)).0

  not_carried : (e : ℕ) → HasState p e Zero → Carries e → ⊥
  not_carried e zero_here (inl r) = ((listed.states.states e).1 (Zero, zero_here)).1 r
  not_carried e zero_here (inr (inl h)) = let same = one_state e Tight Zero h zero_here in cc
  not_carried e zero_here (inr (inr h)) = let same = one_state e Full Zero h zero_here in cc

  not_zero : (e : ℕ) → Has sole e → HasState p e Zero → ⊥
  not_zero e has zero_here =
      let alone = are_sole e has in
      let w = listed.entered alone.hop.head (heads e alone.hop alone.is_hop) alone.elsewhere in
      let same : w.0 ≡ e = alone.alone w.0 w.1 w.2 w.3 (active w.0 w.4) in
      not_carried e zero_here (subst Carries same w.4)

  none_here : (e : ℕ) (t : State) → slice_get base e ≡ Some None → HasState p e t → ⊥
  none_here e t none has =
      let b = (is_base.states e).0 ((listed.states.states e).1 (t, has)) in
      none-some b.0 (same_Some None (Some b.0) (sym none ∙ b.1))

  each : EachIsIn base unbounded sole p
  each e None None u o at_b at_u at_o at = inl refl
  each e None (Some t) u o at_b at_u at_o at = absurd (none_here e t at_b at)
  each e (Some b) None u o at_b at_u at_o at =
      let t = (listed.states.states e).0 ((is_base.states e).1 (b, at_b)) in
      absurd (none-some t.0 (same_Some None (Some t.0) (sym at ∙ t.1)))
  each e (Some b) (Some t) u o at_b at_u at_o at = state_in b t u o
      (λ full set. listed.states.no_full e (at_u ∙ ap (λ (x : Bool). Some x) set) (at ∙ ap (λ (x : State). Some (Some x)) full))
      (λ zero_is set. not_zero e (at_o ∙ ap (λ (x : Bool). Some x) set) (at ∙ ap (λ (x : State). Some (Some x)) zero_is))

  pub listed_in : AreIn (choices_of base unbounded sole) p
  listed_in = all_in base unbounded sole p (is_base.count ∙ sym listed.states.count) (bounds ∙ sym listed.states.count) (flags ∙ sym listed.states.count) each
