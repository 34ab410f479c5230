-- One call of the solver for each kind of goal; docs/PROOFS.md explains them.
use Rattle.std.proofs.Common.{◌≡◌, [], ◌∷◌}
use Rattle.nf_rational_laws.proofs.Common.{ℚ, 0ℚ, whole, ◌+ℚ◌, ◌-ℚ◌, ◌*ℚ◌, inv_ℚ, ◌≤ℚ◌, ◌<ℚ◌}
use lib.IntN.{pos}
use Rattle.nf_rational_laws.proofs.Polynomial.{ring, reading, reading_of}
use Rattle.nf_rational_laws.proofs.Field.{rationals}
use Rattle.nf_rational_laws.proofs.Order.{ps_whole}
use Rattle.nf_rational_laws.proofs.Linear.{le, lt, eq, le_times, eq_times, linear_le, linear_lt, linear_eq, linear_false}
use Rattle.nf_rational_laws.proofs.Quotient.{ps_times_inv}

-- an order from orders
less_through : (a b c d : ℚ) → a ≤ℚ b → b <ℚ c → c ≤ℚ d → a <ℚ d
less_through a b c d h k l = linear_lt (a ∷ b ∷ c ∷ d ∷ []) (le h ∷ lt k ∷ le l ∷ []) (search reading_of) tt

-- terms cancel, and need not stand side by side
cancelled : (a b c d : ℚ) → a +ℚ b ≤ℚ c → c ≤ℚ d +ℚ b → a ≤ℚ d
cancelled a b c d h k = linear_le (a ∷ b ∷ c ∷ d ∷ []) (le h ∷ le k ∷ []) (search reading_of) tt

-- a product of two facts is named: 0 ≤ k times a ≤ b
scaled : (k a b c : ℚ) → 0ℚ ≤ℚ k → a ≤ℚ b → k *ℚ a +ℚ c ≤ℚ k *ℚ b +ℚ c
scaled k a b c h p = linear_le (k ∷ a ∷ b ∷ c ∷ []) (le_times h p ∷ []) (search reading_of) tt

-- an equation from equations
rises_add : (p q n s t u : ℚ) → p ≡ n *ℚ (t -ℚ s) → q ≡ n *ℚ (u -ℚ t) → p +ℚ q ≡ n *ℚ (u -ℚ s)
rises_add p q n s t u e f = linear_eq (p ∷ q ∷ n ∷ s ∷ t ∷ u ∷ []) (eq e ∷ eq f ∷ []) (search reading_of) tt tt

-- whole numbers
with_numbers : (x y : ℚ) → whole (pos 2) *ℚ x +ℚ y ≤ℚ whole (pos 7) → whole (pos 3) ≤ℚ y -ℚ x → x ≤ℚ whole (pos 2)
with_numbers x y h k = linear_le (x ∷ y ∷ []) (le h ∷ le k ∷ []) (search reading_of) tt

-- facts that contradict each other
contradiction : (a b c d e f : ℚ) → a ≤ℚ b → b +ℚ c ≤ℚ d → d <ℚ e -ℚ f → f ≡ whole (pos 2) *ℚ c → e ≡ a +ℚ whole (pos 3) *ℚ c → ⊥
contradiction a b c d e f h i j k l = linear_false (a ∷ b ∷ c ∷ d ∷ e ∷ f ∷ []) (le h ∷ le i ∷ lt j ∷ eq k ∷ eq l ∷ []) (search reading_of) tt

-- an identity of the ring
identity : (x y z : ℚ) → x *ℚ (y +ℚ z) -ℚ x *ℚ y ≡ x *ℚ z
identity x y z = ring rationals (x ∷ y ∷ z ∷ []) (search reading depth 30) tt

-- a quotient is an atom with its equation: here 1/2
middle : (a b : ℚ) → a <ℚ b → a <ℚ (a +ℚ b) *ℚ inv_ℚ (whole (pos 2))
middle a b h =
    linear_lt (a ∷ b ∷ inv_ℚ (whole (pos 2)) ∷ []) (lt h ∷ eq_times a (ps_times_inv (whole (pos 2)) (ps_whole 1)) ∷ eq_times b
    (ps_times_inv (whole (pos 2)) (ps_whole 1)) ∷ []) (search reading_of) tt
