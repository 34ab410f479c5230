-- The excess of a node in an oversupply, its inflow less its outflow and demand; and properties of the links.
use Rattle.std.proofs.Common.{◌≢◌, ℕ, ◌==◌, if◌then◌else◌, Bool, true, false, [], ◌∷◌, ⊎_elim, sym}
use Rattle.nf_complete_laws.proofs.Common.{ℚ, 0ℚ, ◌+ℚ◌, ◌-ℚ◌, ◌≤ℚ◌, ◌<ℚ◌, reading_of, ≤ℚ_of_same, ≤ℚ_refl, le, lt, linear_le, linear_lt, Has, Link, Network}
use Rattle.nf_complete_laws.proofs.Common.{IsLink, IsNetwork, sum_in, sum_out, Sets, NeedsState, IsPositive-link, HasIn, sum_in-some, demand, IsOversupply}
use Rattle.nf_complete_laws.proofs.Deciding.{Decided, both}
use Rattle.nf_complete_laws.proofs.Bare.{flagged, same_node}
use Rattle.nf_complete_laws.proofs.ExistsDeciding.{not_so, less_or_not}
use Rattle.nf_complete_laws.proofs.LinkSums.{sum_out-not_negative}
use Rattle.nf_complete_laws.proofs.Fitting.{IsAtMost, IsAtMost-fills, IsAtMost-none, not_negative-fills}

abbrev pub spare : Network → ℚ → (ℕ → ℚ) → ℕ → ℚ
spare net rate flows v = sum_in net.links flows v -ℚ (sum_out net.links flows v +ℚ demand net rate v)

-- A node other than the source with positive excess.
abbrev pub HasSpare : Network → ℚ → (ℕ → ℚ) → ℕ → Type 0
HasSpare net rate flows v = (v ≢ net.source) × (0ℚ <ℚ spare net rate flows v)

pub spare_or_not : (net : Network) (rate : ℚ) (flows : ℕ → ℚ) (v : ℕ) → Decided (HasSpare net rate flows v)
spare_or_not net rate flows v = both (not_so (same_node v net.source)) (less_or_not 0ℚ (spare net rate flows v))

pub enough_of_spare : (i o d : ℚ) → 0ℚ ≤ℚ i -ℚ (o +ℚ d) → o +ℚ d ≤ℚ i
enough_of_spare i o d h = linear_le (i ∷ o ∷ d ∷ []) (le h ∷ []) (search reading_of) tt

pub spare_of_enough : (i o d : ℚ) → o +ℚ d ≤ℚ i → 0ℚ ≤ℚ i -ℚ (o +ℚ d)
spare_of_enough i o d h = linear_le (i ∷ o ∷ d ∷ []) (le h ∷ []) (search reading_of) tt

pub demand-not_negative : (net : Network) (rate : ℚ) (v : ℕ) → 0ℚ ≤ℚ rate → 0ℚ ≤ℚ demand net rate v
demand-not_negative net rate v n = by_sink (v == net.sink)
  where
    by_sink : (b : Bool) → 0ℚ ≤ℚ (if b then rate else 0ℚ)
    by_sink true = n
    by_sink false = ≤ℚ_refl 0ℚ

-- A node with excess has an inflow.
pub spare-brings : (net : Network) (rate : ℚ) (flows : ℕ → ℚ) → ((e : ℕ) (link : Link) → IsLink net e link → 0ℚ ≤ℚ flows e) → 0ℚ ≤ℚ rate
    → (v : ℕ) → 0ℚ <ℚ spare net rate flows v → HasIn net.links flows v
spare-brings net rate flows nn n v h =
    sum_in-some net.links flows v (some _ _ _ (sum_out-not_negative net.links flows v nn) (demand-not_negative net rate v n) h)
  where
    some : (i o d : ℚ) → 0ℚ ≤ℚ o → 0ℚ ≤ℚ d → 0ℚ <ℚ i -ℚ (o +ℚ d) → 0ℚ <ℚ i
    some i o d p q r = linear_lt (i ∷ o ∷ d ∷ []) (le p ∷ le q ∷ lt r ∷ []) (search reading_of) tt

-- A link is resetting, needs a state, or is not active.
pub by_kind : {B : Type 0} (sets : Sets) (e : ℕ) → (Has sets.resetting e → B) → (NeedsState sets e → B) → ((Has sets.active e → ⊥) → B) → B
by_kind sets e full free none = ⊎_elim
    full
    (λ (r : Has sets.resetting e → ⊥). ⊎_elim (λ (a : Has sets.active e). free (a, r)) none (flagged sets.active e))
    (flagged sets.resetting e)

module _ (net : Network) (sets : Sets) (rate : ℚ) (flows slopes : ℕ → ℚ) (good : IsNetwork net) (over : IsOversupply net sets rate flows slopes) where
  pub not_negative : (e : ℕ) (link : Link) → IsLink net e link → 0ℚ ≤ℚ flows e
  not_negative e link p = by_kind sets e
      (λ r. not_negative-fills link.capacity _ _ (IsPositive-link net e link good p) (over.resetting e link p r)
      (over.no_negative_slope link.head (good.heads e link p)))
      (λ n. (over.others e link p n).no_negative)
      (λ a. ≤ℚ_of_same _ _ (sym (over.inactive e link p a)))

  pub at_most : (e : ℕ) (link : Link) → IsLink net e link → IsAtMost link.capacity (flows e) (slopes link.head)
  at_most e link p = by_kind sets e
      (λ r. IsAtMost-fills link.capacity _ _ (over.resetting e link p r))
      (λ n. (over.others e link p n).most)
      (λ a. IsAtMost-none link.capacity _ _ (IsPositive-link net e link good p) (over.inactive e link p a)
      (over.no_negative_slope link.head (good.heads e link p)))
