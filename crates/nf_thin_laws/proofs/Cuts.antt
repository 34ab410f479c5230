-- Flows across a set of nodes, by a potential of 0 and 1.
use Rattle.std.proofs.Common.{◌≡◌, ◌≢◌, ℕ, suc, ◌<◌, List, [], ◌∷◌, ⊎_elim, true, false, eqb, sym, ap, refl, ◌∙◌}
use Rattle.nf_thin_laws.proofs.Common.{eqb_tells, ℚ, 0ℚ, 1ℚ, ◌+ℚ◌, ◌-ℚ◌, ◌*ℚ◌, ◌≤ℚ◌, reading_of, le, eq, eq_times, linear_le, linear_eq, less_itself, Link}
use Rattle.nf_thin_laws.proofs.Common.{Network, IsNetwork, carried, carried-is, EndsBelow, out_less_in, sum_to-same}

-- ---- x and y are two flows on a link, and a and b the potentials of its tail and head
pub fall_none : (x y a b : ℚ) → a ≡ b → x *ℚ (a -ℚ b) ≤ℚ y *ℚ (a -ℚ b)
fall_none x y a b e = linear_le (x ∷ y ∷ a ∷ b ∷ []) (eq_times x e ∷ eq_times y e ∷ []) (search reading_of) tt

pub fall_into : (x y a b : ℚ) → a ≡ 0ℚ → b ≡ 1ℚ → y ≤ℚ x → x *ℚ (a -ℚ b) ≤ℚ y *ℚ (a -ℚ b)
fall_into x y a b e f h = linear_le (x ∷ y ∷ a ∷ b ∷ []) (eq_times x e ∷ eq_times y e ∷ eq_times x f ∷ eq_times y f ∷ le h ∷ []) (search reading_of) tt

pub fall_out : (x y a b : ℚ) → a ≡ 1ℚ → b ≡ 0ℚ → x ≤ℚ y → x *ℚ (a -ℚ b) ≤ℚ y *ℚ (a -ℚ b)
fall_out x y a b e f h = linear_le (x ∷ y ∷ a ∷ b ∷ []) (eq_times x e ∷ eq_times y e ∷ eq_times x f ∷ eq_times y f ∷ le h ∷ []) (search reading_of) tt

pub fall_same : (x y a b : ℚ) → x ≡ y → x *ℚ (a -ℚ b) ≤ℚ y *ℚ (a -ℚ b)
fall_same x y a b e = linear_le (x ∷ y ∷ a ∷ b ∷ []) (eq_times (a -ℚ b) e ∷ []) (search reading_of) tt

pub into_equal : (x y a b : ℚ) → a ≡ 0ℚ → b ≡ 1ℚ → x *ℚ (a -ℚ b) ≡ y *ℚ (a -ℚ b) → x ≡ y
into_equal x y a b e f h = linear_eq (x ∷ y ∷ a ∷ b ∷ []) (eq_times x e ∷ eq_times y e ∷ eq_times x f ∷ eq_times y f ∷ eq h ∷ []) (search reading_of) tt tt

-- ---- a potential shifted by a constant
pub carried-shift : (w : ℕ → ℚ) (c : ℚ) (links : List Link) (f : ℕ → ℚ) → carried (λ v. w v -ℚ c) links f ≡ carried w links f
carried-shift w c [] f = refl
carried-shift w c (link ∷ links) f = one (f 0) (w link.tail) (w link.head) c _ _ (carried-shift w c links (λ e. f (suc e)))
  where
    one : (a s t c p q : ℚ) → p ≡ q → a *ℚ ((s -ℚ c) -ℚ (t -ℚ c)) +ℚ p ≡ a *ℚ (s -ℚ t) +ℚ q
    one a s t c p q e = linear_eq (a ∷ s ∷ t ∷ c ∷ p ∷ q ∷ []) (eq e ∷ []) (search reading_of) tt tt

pub EndsBelow-net : (net : Network) → IsNetwork net → EndsBelow net.nodes net.links
EndsBelow-net net good e link p = (good.tails e link p, good.heads e link p)

no_product : (w a b : ℚ) → w ≡ 0ℚ → w *ℚ a ≡ w *ℚ b
no_product w a b e = linear_eq (w ∷ a ∷ b ∷ []) (eq_times a e ∷ eq_times b e ∷ []) (search reading_of) tt tt

module _ (net : Network) (w x y : ℕ → ℚ) (good : IsNetwork net) (same : (v : ℕ) → v < net.nodes → v ≢ net.sink → out_less_in net.links x v ≡ out_less_in net.links y v) where
  abbrev shifted : ℕ → ℚ
  shifted v = w v -ℚ w net.sink

  at_node : (v : ℕ) → v < net.nodes → shifted v *ℚ out_less_in net.links x v ≡ shifted v *ℚ out_less_in net.links y v
  at_node v h = ⊎_elim
      (λ (s : (eqb v net.sink ≡ true) × (v ≡ net.sink)). no_product (shifted v) _ _ (ap (λ (k : ℕ). w k -ℚ w net.sink) s.1 ∙ less_itself (w net.sink)))
      (λ (s : (eqb v net.sink ≡ false) × (v ≢ net.sink)). ap (λ (z : ℚ). shifted v *ℚ z) (same v h s.1))
      (eqb_tells v net.sink)

  -- Two flows with equal surplus at each node except the sink carry the same along a potential.
  pub same_carried : carried w net.links x ≡ carried w net.links y
  same_carried =
      sym (carried-shift w (w net.sink) net.links x) ∙ carried-is net.nodes shifted net.links x (EndsBelow-net net good)
      ∙ sum_to-same net.nodes (λ v. shifted v *ℚ out_less_in net.links x v) (λ v. shifted v *ℚ out_less_in net.links y v) at_node
      ∙ sym (carried-is net.nodes shifted net.links y (EndsBelow-net net good)) ∙ carried-shift w (w net.sink) net.links y
