-- Tests of one entry of a list.
use Rattle.std.proofs.Common.{◌≡◌, ◌≢◌, ℕ, suc, ◌+◌, ◌<◌, Bool, true, false, not, eqb, ◌⊎◌, ⊎_elim, List, length, get_or, Some, None, add-one, refl, sym}
use Rattle.std.proofs.Common.{ap, subst, ◌∙◌, slice_get, MatchBool}
use Rattle.nf_pattern.proofs.Common.{eqb_tells, same_Some, none-some, State, Tight, Full, Has, Pattern, HasState, apart_from_test, Has-not_unset, MayCarry}
use Rattle.nf_pattern.proofs.Each.{entry_at}

-- a link without a state, and one with another
pub no_state : (p : Pattern) (e : ℕ) (state : State) → slice_get p e ≡ Some None → HasState p e state → ⊥
no_state p e state none there = none-some state (same_Some None (Some state) (sym none ∙ there))

pub other_state : (p : Pattern) (e : ℕ) (state other : State) → slice_get p e ≡ Some (Some other) → (other ≡ state → ⊥) → HasState p e state → ⊥
other_state p e state other at apart there = apart (same_Some other state (same_Some (Some other) (Some state) (sym at ∙ there)))

-- a link that is neither resetting nor Tight nor Full
pub carries_not : (resetting : List Bool) (p : Pattern) (e : ℕ) → slice_get resetting e ≡ Some false → (HasState p e Tight → ⊥) → (HasState p e Full → ⊥) → MayCarry resetting p e → ⊥
carries_not resetting p e off tight full may = ⊎_elim
    (λ (on : Has resetting e). Has-not_unset resetting e off on)
    (λ (w : HasState p e Tight ⊎ HasState p e Full). ⊎_elim (λ (t : HasState p e Tight). tight t) (λ (f : HasState p e Full). full f) w) may

by_test : (m n : ℕ) (P : Type 0) → (m ≡ n → P) → (P → m ≡ n) → MatchBool (eqb m n) P (P → ⊥)
by_test m n P to from = ⊎_elim
    (λ (w : (eqb m n ≡ true) × (m ≡ n)). subst (λ (b : Bool). MatchBool b P (P → ⊥)) (sym w.0) (to w.1))
    (λ (w : (eqb m n ≡ false) × (m ≢ n)). subst (λ (b : Bool). MatchBool b P (P → ⊥)) (sym w.0) (λ p. w.1 (from p)))
    (eqb_tells m n)

-- whether this link is the last one that can enter a node
pub is_end_told : (ends : List ℕ) (v e i j : ℕ) → v < length ends → i ≡ v → j ≡ e
    → MatchBool (eqb (get_or ends i 0) (j + 1)) (slice_get ends v ≡ Some (suc e)) (slice_get ends v ≡ Some (suc e) → ⊥)
is_end_told ends v e i j below at_v at_e = by_test (get_or ends i 0) (j + 1) (slice_get ends v ≡ Some (suc e))
    (λ same. entry_at ends 0 (suc e) v i below at_v (same ∙ (add-one j ∙ ap suc at_e)))
    (λ there. same_Some (get_or ends i 0) (suc e) (sym (entry_at ends 0 (get_or ends i 0) v i below at_v refl) ∙ there) ∙ (ap suc (sym at_e) ∙ sym (add-one j)))

-- Whether no link can enter a node other than the source.
pub is_lost_told : (ends : List ℕ) (source v : ℕ) → v < length ends → true ≡ not (eqb v source)
    → MatchBool (eqb (get_or ends v 0) 0) ((v ≢ source) × (slice_get ends v ≡ Some 0)) (v ≢ source → slice_get ends v ≡ Some 0 → ⊥)
is_lost_told ends source v below other = ⊎_elim
    (λ (w : (eqb (get_or ends v 0) 0 ≡ true) × (get_or ends v 0 ≡ 0)). subst (λ (b : Bool). MatchBool b Yes No) (sym w.0) (apart, entry_at ends 0 0 v v below refl w.1))
    (λ (w : (eqb (get_or ends v 0) 0 ≡ false) × (get_or ends v 0 ≢ 0)). subst (λ (b : Bool). MatchBool b Yes No) (sym w.0)
    (λ _ there. w.1 (same_Some (get_or ends v 0) 0 (sym (entry_at ends 0 (get_or ends v 0) v v below refl refl) ∙ there))))
    (eqb_tells (get_or ends v 0) 0)
  where
    Yes : Type 0
    Yes = (v ≢ source) × (slice_get ends v ≡ Some 0)

    No : Type 0
    No = v ≢ source → slice_get ends v ≡ Some 0 → ⊥

    turned : (b : Bool) → true ≡ not b → false ≡ b
    turned true e = sym e
    turned false e = refl

    apart : v ≢ source
    apart = apart_from_test v source (turned (eqb v source) other)
