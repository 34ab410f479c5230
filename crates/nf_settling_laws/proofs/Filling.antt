-- The links of a thin flow are of two kinds. The queue of a full link changes, and its flow is the capacity times the slope of its head. On
-- any other link nothing changes: it carries no flow, or the slopes at its ends are equal.
use Rattle.std.proofs.Common.{◌≡◌, ℕ, List, [], ◌∷◌, ◌⊎◌, inl, inr, ⊎_elim, Bool, true, false, Option, Some, None, refl}
use Rattle.nf_settling_laws.proofs.Common.{ℚ, 0ℚ, ◌-ℚ◌, ◌*ℚ◌, ◌≤ℚ◌, ◌<ℚ◌, lt_ℚ, reading_of, ≤ℚ_antisymm, lt_or_le_ℚ, not_both_ℚ, ps_times, not_both}
use Rattle.nf_settling_laws.proofs.Common.{less_of_test, not_less_of_test, le, lt, linear_lt, <_≤_trans, number_at, Has, Link, Network, IsNetwork, IsLink, Sets}
use Rattle.nf_settling_laws.proofs.Common.{IsThinFlow, IsPositive, IsPositive-link, AreSets, HoldNoCycle, flag, flag-cases, link_law, link_sum}
use Rattle.nf_thin_laws.proofs.LinkLaws.{LinkLaw}
use Rattle.nf_settling_laws.proofs.Terms.{rise}
use Rattle.nf_settling_laws.proofs.Carried.{value_carried}

-- ---- the filled amount of a link
-- The capacity, or 0 for an unbounded link.
abbrev pub capacity_or_0 : Option ℚ → ℚ
capacity_or_0 None = 0ℚ
capacity_or_0 (Some capacity) = capacity

-- The filled amount: the capacity of a link that is resetting, or that is active with a greater slope at its head than at its tail, and 0 for
-- any other link. The queue of the link changes at this amount times the rise of the slope along the link.
abbrev pub filled_amount : Bool → Bool → Bool → Option ℚ → ℚ
filled_amount true active up capacity = capacity_or_0 capacity
filled_amount false true true capacity = capacity_or_0 capacity
filled_amount false true false capacity = 0ℚ
filled_amount false false up capacity = 0ℚ

abbrev pub filled : Sets → List ℚ → ℕ → Link → ℚ
filled sets slopes e link =
    filled_amount (flag sets.resetting e) (flag sets.active e) (lt_ℚ (number_at slopes link.tail) (number_at slopes link.head)) link.capacity

-- ---- the two kinds: n is the filled amount, x the flow, s and t the slopes of tail and head
abbrev pub IsFull : ℚ → ℚ → ℚ → Type 0
IsFull n x t = (0ℚ <ℚ n) × (x ≡ n *ℚ t)

abbrev pub IsLevel : ℚ → ℚ → ℚ → ℚ → Type 0
IsLevel n x s t = (n ≡ 0ℚ) × ((x ≡ 0ℚ) ⊎ (s ≡ t))

abbrev pub Kind : ℚ → ℚ → ℚ → ℚ → Type 0
Kind n x s t = IsFull n x t ⊎ IsLevel n x s t

used_level : (x s t : ℚ) → 0ℚ ≤ℚ x → (0ℚ <ℚ x → s ≡ t) → (x ≡ 0ℚ) ⊎ (s ≡ t)
used_level x s t n used = ⊎_elim
    (λ (k : 0ℚ <ℚ x). inr (used k))
    (λ (k : x ≤ℚ 0ℚ). inl (≤ℚ_antisymm _ _ k n))
    (lt_or_le_ℚ 0ℚ x)

pub kind_of : (resets active up : Bool) (capacity : Option ℚ) (x s t : ℚ) → IsPositive capacity → 0ℚ ≤ℚ x → 0ℚ ≤ℚ s → lt_ℚ s t ≡ up
    → (active ≡ false → (resets ≡ false) × (x ≡ 0ℚ)) → (active ≡ true → LinkLaw resets capacity x s t) → Kind (filled_amount resets active up capacity) x s t
kind_of true true up None x s t p n m e off law = inr (refl, used_level x s t n (law refl).used)
kind_of true true up (Some c) x s t p n m e off law = inl (p c refl, (law refl).full refl)
kind_of true false up capacity x s t p n m e off law = let k : true ≡ false = (off refl).0 in absurd (cc)
kind_of false true true None x s t p n m e off law = inr (refl, used_level x s t n (law refl).used)
kind_of false true true (Some c) x s t p n m e off law =
    let up : s <ℚ t = less_of_test s t e in
    ⊎_elim
    (λ (k : t ≤ℚ s). absurd (not_both_ℚ _ _ up k))
    (λ (k : c *ℚ t ≤ℚ x).
    let head : 0ℚ <ℚ t = linear_lt (s ∷ t ∷ []) (le m ∷ lt up ∷ []) (search reading_of) tt in
    inl (p c refl, ≤ℚ_antisymm _ _ ((law refl).used refl (<_≤_trans _ _ _ (ps_times c t (p c refl) head) k)).1 k))
    ((law refl).upper refl)
kind_of false true false None x s t p n m e off law = inr (refl, used_level x s t n (law refl).used)
kind_of false true false (Some c) x s t p n m e off law = inr (refl, used_level x s t n (λ k. ≤ℚ_antisymm _ _ ((law refl).used refl k).0 (not_less_of_test s t e)))
kind_of false false up capacity x s t p n m e off law = inr (refl, inl (off refl).1)

-- What a thin flow carries up a potential is its value times the rise of the potential from source to sink.
pub carried_up : (net : Network) (sets : Sets) (rate : ℚ) (flows slopes : List ℚ) (w : ℕ → ℚ) → IsNetwork net → IsThinFlow net sets rate flows slopes
    → link_sum net.links (λ e link. number_at flows e *ℚ rise w link) ≡ rate *ℚ (w net.sink -ℚ w net.source)
carried_up net sets rate flows slopes w good thin = value_carried net good rate (number_at flows) thin.source thin.inner w

-- ---- each link of a thin flow is of one kind
module _ (net : Network) (good : IsNetwork net) (sets : Sets) (rate : ℚ) (are : AreSets net sets) (acyclic : HoldNoCycle net sets) (flows slopes : List ℚ)
    (thin : IsThinFlow net sets rate flows slopes) where
  pub law_at : (e : ℕ) (link : Link) → IsLink net e link → flag sets.active e ≡ true
      → LinkLaw (flag sets.resetting e) link.capacity (number_at flows e) (number_at slopes link.tail) (number_at slopes link.head)
  law_at e link p on = ⊎_elim
      (λ (a : (flag sets.active e ≡ true) × Has sets.active e). link_law net sets rate good acyclic flows slopes thin e link p a.1)
      (λ (a : (flag sets.active e ≡ false) × (Has sets.active e → ⊥)). absurd (not_both (flag sets.active e) on a.0))
      (flag-cases sets.active e)

  off_at : (e : ℕ) → flag sets.active e ≡ false → (flag sets.resetting e ≡ false) × (number_at flows e ≡ 0ℚ)
  off_at e off = ⊎_elim
      (λ (a : (flag sets.active e ≡ true) × Has sets.active e). absurd (not_both (flag sets.active e) a.0 off))
      (λ (a : (flag sets.active e ≡ false) × (Has sets.active e → ⊥)). ⊎_elim
      (λ (r : (flag sets.resetting e ≡ true) × Has sets.resetting e). absurd (a.1 (are.resetting e r.1)))
      (λ (r : (flag sets.resetting e ≡ false) × (Has sets.resetting e → ⊥)). (r.0, thin.active_only e a.1))
      (flag-cases sets.resetting e))
      (flag-cases sets.active e)

  pub kind_at : (e : ℕ) (link : Link) → IsLink net e link → Kind (filled sets slopes e link) (number_at flows e) (number_at slopes link.tail)
      (number_at slopes link.head)
  kind_at e link p = kind_of (flag sets.resetting e) (flag sets.active e) (lt_ℚ (number_at slopes link.tail) (number_at slopes link.head)) link.capacity
      (number_at flows e) (number_at slopes link.tail)
      (number_at slopes link.head) (IsPositive-link net e link good p) (thin.no_negative_flow e) (thin.no_negative_slope link.tail) refl (off_at e)
      (law_at e link p)
