-- An interior link of a thin flow has equal slopes at its ends.
use Rattle.std.proofs.Common.{◌≡◌, ℕ, List, ⊎_elim, Bool, true, false, Option, Some, None, sym, subst, refl}
use Rattle.nf_complete_laws.proofs.Common.{ℚ, 0ℚ, ◌*ℚ◌, ◌≤ℚ◌, ◌<ℚ◌, ≤ℚ_antisymm, not_both_ℚ, number_at, Has, Link, Network, IsLink, IsNetwork, Sets}
use Rattle.nf_complete_laws.proofs.Common.{IsThinFlow, NeedsState, IsLink-unique, HoldNoCycle, flag, flag-cases, IsInterior, LinkLaw, link_law}

pub level_by : (capacity : Option ℚ) (x s t : ℚ) → LinkLaw false capacity x s t → 0ℚ <ℚ x → ((c : ℚ) → capacity ≡ Some c → x <ℚ c *ℚ t) → t ≡ s
level_by None x s t l h k = sym (l.used h)
level_by (Some c) x s t l h k = ⊎_elim
    (λ (w : t ≤ℚ s). ≤ℚ_antisymm _ _ w (l.used refl h).0)
    (λ (w : c *ℚ t ≤ℚ x). absurd (not_both_ℚ _ _ (k c refl) w))
    (l.upper refl)

module _ (net : Network) (sets : Sets) (rate : ℚ) (flows slopes : List ℚ) (good : IsNetwork net) (acyclic : HoldNoCycle net sets) (thin : IsThinFlow net sets rate flows slopes) where
  -- the condition of a thin flow on a link that needs a state
  pub state_law : (e : ℕ) (link : Link) → IsLink net e link → NeedsState sets e
      → LinkLaw false link.capacity (number_at flows e) (number_at slopes link.tail) (number_at slopes link.head)
  state_law e link p n = ⊎_elim
      (λ (w : (flag sets.resetting e ≡ true) × Has sets.resetting e). absurd (n.1 w.1))
      (λ (w : (flag sets.resetting e ≡ false) × (Has sets.resetting e → ⊥)).
      subst (λ (b : Bool). LinkLaw b link.capacity (number_at flows e) (number_at slopes link.tail) (number_at slopes link.head)) w.0
      (link_law net sets rate good acyclic flows slopes thin e link p n.0))
      (flag-cases sets.resetting e)

  pub interior-level : (e : ℕ) → IsInterior net sets slopes flows e → (link : Link) → IsLink net e link → number_at slopes link.head ≡ number_at slopes link.tail
  interior-level e i link p = level_by link.capacity _ _ _ (state_law e link p i.needs) i.some
      (subst (λ (l : Link). (c : ℚ) → l.capacity ≡ Some c → number_at flows e <ℚ c *ℚ number_at slopes l.head) (IsLink-unique net e i.link link i.is_link p) i.not_full)
