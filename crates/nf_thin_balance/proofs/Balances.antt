-- The surplus of each node on the first links, link by link.
use Rattle.std.proofs.Common.{◌≡◌, ◌≢◌, ℕ, zero, suc, ◌<◌, ◌≤◌, List, length, replicate, ⊎_elim, Bool, true, false, eqb, refl, sym, ap, subst, ◌∙◌, arith}
use Rattle.std.proofs.Common.{Some, slice_get, slice_set}
use Rattle.nf_thin_balance.proofs.Common.{true≢false, ne_eqb, eqb_tells, none-some, same_Some, ℚ, 0ℚ, ◌+ℚ◌, ◌-ℚ◌, Link, Network, IsLink, set_same}
use Rattle.nf_thin_balance.proofs.Common.{set_other, tell, length_set, Range, IsInRange, AreFlowsWithin, surplus_of_first, BoundsFirst, BoundEach}
use Rattle.nf_thin_balance.proofs.Common.{AreSurpluses}
use Rattle.nf_thin_balance.proofs.Conserving.{same_surplus, idle_surplus, greater_surplus, lesser_surplus, surplus_of_all}

-- ---- tests of numbers
pub test_same : (b : Bool) (v w : ℕ) → b ≡ eqb v w → b ≡ true → v ≡ w
test_same b v w is told = ⊎_elim
    (λ (t : (eqb v w ≡ true) × (v ≡ w)). t.1)
    (λ (t : (eqb v w ≡ false) × (v ≢ w)). absurd (true≢false (sym told ∙ (is ∙ t.0))))
    (eqb_tells v w)

eqb_same : (v w : ℕ) → v ≡ w → eqb v w ≡ true
eqb_same v w same = ⊎_elim
    (λ (t : (eqb v w ≡ true) × (v ≡ w)). t.0)
    (λ (t : (eqb v w ≡ false) × (v ≢ w)). absurd (t.1 same))
    (eqb_tells v w)

pub test_other : (b : Bool) (v w : ℕ) → b ≡ eqb v w → b ≡ false → v ≢ w
test_other b v w is told same = true≢false (sym (eqb_same v w same) ∙ (sym is ∙ told))

-- ---- no link
pub replicated : {A : Type 0} (n k : ℕ) (x y : A) → slice_get (replicate n x) k ≡ Some y → x ≡ y
replicated zero k x y h = absurd (none-some y h)
replicated (suc n) zero x y h = same_Some x y h
replicated (suc n) (suc k) x y h = replicated n k x y h

pub each_first : (net : Network) (ranges nodes : List Range) (n : ℕ) (nothing : Range) → nodes ≡ replicate n nothing
    → ((flow : ℕ → ℚ) (v : ℕ) → IsInRange nothing (surplus_of_first net flow v 0)) → BoundEach net ranges 0 nodes
each_first net ranges nodes n nothing is none v range at flow within =
    subst (λ (r : Range). IsInRange r (surplus_of_first net flow v 0)) (replicated n v nothing range (sym (ap (λ (l : List Range). slice_get l v) is) ∙ at)) (none flow v)

-- All links.
pub each_last : (net : Network) (ranges nodes : List Range) (n : ℕ) (flow : ℕ → ℚ) → length net.links ≤ n → BoundEach net ranges n nodes
    → AreFlowsWithin ranges flow → AreSurpluses net nodes flow
each_last net ranges nodes n flow all each within v range at = subst (IsInRange range) (surplus_of_all net flow v n all) (each v range at flow within)

-- ---- one link more
module _ (net : Network) (ranges nodes : List Range) (e : ℕ) (link : Link) (is_link : IsLink net e link) (so_far : BoundEach net ranges e nodes) where
  pub each_looped : link.tail ≡ link.head → BoundEach net ranges (suc e) nodes
  each_looped same v range at flow within = subst (IsInRange range) (same_surplus net flow v e link is_link (ap (λ (w : ℕ). eqb w v) same)) (so_far v range at flow within)

  module _ (here : Range) (there : slice_get ranges e ≡ Some here) where
    pub each_idle : ((x : ℚ) → IsInRange here x → x ≡ 0ℚ) → BoundEach net ranges (suc e) nodes
    each_idle nothing v range at flow within = subst (IsInRange range) (idle_surplus net flow v e link is_link (nothing (flow e) (within e here there))) (so_far v range at flow within)

    module _ (t h : ℕ) (tail_is : link.tail ≡ t) (head_is : link.head ≡ h) (apart : t ≢ h) (sent out kept rest : Range) (middle after : List Range)
        (tail_below : t < length nodes) (head_below : h < length nodes)
        (sent_at : slice_get nodes t ≡ Some sent) (sums : (x y : ℚ) → IsInRange sent x → IsInRange here y → IsInRange out (x +ℚ y)) (middle_is : middle ≡ slice_set nodes t out)
        (kept_at : slice_get middle h ≡ Some kept) (differences : (x y : ℚ) → IsInRange kept x → IsInRange here y → IsInRange rest (x -ℚ y))
        (after_is : after ≡ slice_set middle h rest) where
      middle_at : (v : ℕ) → v ≢ t → slice_get middle v ≡ slice_get nodes v
      middle_at v other = ap (λ (l : List Range). slice_get l v) middle_is ∙ set_other nodes t v out other

      after_at : (v : ℕ) → v ≢ h → slice_get after v ≡ slice_get middle v
      after_at v other = ap (λ (l : List Range). slice_get l v) after_is ∙ set_other middle h v rest other

      at_head : (range : Range) → slice_get after h ≡ Some range → BoundsFirst net ranges h (suc e) range
      at_head range at flow within =
          let below : h < length middle = (let n : length middle ≡ length nodes = ap (λ (l : List Range). length l) middle_is ∙ length_set nodes t out in omega arith) in
          let same : rest ≡ range = same_Some rest range (sym (ap (λ (l : List Range). slice_get l h) after_is ∙ set_same middle h rest below) ∙ at) in
          let was : slice_get nodes h ≡ Some kept = sym (middle_at h (λ back. apart (sym back))) ∙ kept_at in
          subst (λ (r : Range). IsInRange r (surplus_of_first net flow h (suc e))) same
          (subst (IsInRange rest) (lesser_surplus net flow h e link is_link (ap (λ (w : ℕ). eqb w h) tail_is ∙ ne_eqb t h apart) (ap (λ (w : ℕ). eqb w h) head_is ∙ eqb_same h h refl))
          (differences _ _ (so_far h kept was flow within) (within e here there)))

      at_tail : (range : Range) → slice_get after t ≡ Some range → BoundsFirst net ranges t (suc e) range
      at_tail range at flow within =
          let same : out ≡ range = same_Some out range (sym (after_at t apart ∙ (ap (λ (l : List Range). slice_get l t) middle_is ∙ set_same nodes t out tail_below)) ∙ at) in
          subst (λ (r : Range). IsInRange r (surplus_of_first net flow t (suc e))) same
          (subst (IsInRange out) (greater_surplus net flow t e link is_link (ap (λ (w : ℕ). eqb w t) tail_is ∙ eqb_same t t refl)
          (ap (λ (w : ℕ). eqb w t) head_is ∙ ne_eqb h t (λ back. apart (sym back))))
          (sums _ _ (so_far t sent sent_at flow within) (within e here there)))

      elsewhere : (v : ℕ) (range : Range) → v ≢ h → v ≢ t → slice_get after v ≡ Some range → BoundsFirst net ranges v (suc e) range
      elsewhere v range not_head not_tail at flow within = subst (IsInRange range)
          (same_surplus net flow v e link is_link
          ((ap (λ (w : ℕ). eqb w v) tail_is ∙ ne_eqb t v (λ back. not_tail (sym back))) ∙ sym (ap (λ (w : ℕ). eqb w v) head_is ∙ ne_eqb h v (λ back. not_head (sym back)))))
          (so_far v range (sym (after_at v not_head ∙ middle_at v not_tail) ∙ at) flow within)

      pub each_more : BoundEach net ranges (suc e) after
      each_more v range at = ⊎_elim
          (λ (is : v ≡ h). subst (λ (w : ℕ). BoundsFirst net ranges w (suc e) range) (sym is) (at_head range (ap (slice_get after) (sym is) ∙ at)))
          (λ (not_head : v ≢ h). ⊎_elim
          (λ (is : v ≡ t). subst (λ (w : ℕ). BoundsFirst net ranges w (suc e) range) (sym is) (at_tail range (ap (slice_get after) (sym is) ∙ at)))
          (λ (not_tail : v ≢ t). elsewhere v range not_head not_tail at)
          (tell v t))
          (tell v h)
