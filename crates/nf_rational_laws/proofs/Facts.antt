-- Short facts on sums, differences and products, each by one call of the solver.
use Rattle.std.proofs.Common.{◌≡◌, Bool, true, false, [], ◌∷◌, ⊎_elim, if◌then◌else◌}
use Rattle.nf_rational_laws.proofs.Common.{ℚ, 0ℚ, 1ℚ, ◌+ℚ◌, ◌-ℚ◌, ◌*ℚ◌, ◌≤ℚ◌, ◌<ℚ◌}
use Rattle.nf_rational_laws.proofs.Polynomial.{reading_of}
use Rattle.nf_rational_laws.proofs.Order.{≤ℚ_of_lt, lt_or_le_ℚ, less_ps, ps_times}
use Rattle.nf_rational_laws.proofs.Chains.{≤ℚ_trans}
use Rattle.nf_rational_laws.proofs.Linear.{le, lt, eq, le_times, eq_times, linear_le, linear_lt, linear_eq, linear_false}

-- ---- equations
pub zero_plus : (x : ℚ) → x ≡ 0ℚ +ℚ x
zero_plus x = linear_eq (x ∷ []) [] (search reading_of) tt tt

pub plus_zero : (x : ℚ) → x ≡ x +ℚ 0ℚ
plus_zero x = linear_eq (x ∷ []) [] (search reading_of) tt tt

pub less_itself : (x : ℚ) → x -ℚ x ≡ 0ℚ
less_itself x = linear_eq (x ∷ []) [] (search reading_of) tt tt

pub zero_less_zero : 0ℚ ≡ 0ℚ -ℚ 0ℚ
zero_less_zero = linear_eq [] [] (search reading_of) tt tt

pub without_zero : (y s : ℚ) → y ≡ 0ℚ +ℚ s → y ≡ s
without_zero y s e = linear_eq (y ∷ s ∷ []) (eq e ∷ []) (search reading_of) tt tt

pub second_is_zero : (x y : ℚ) → y ≡ 0ℚ → x +ℚ y ≡ x
second_is_zero x y e = linear_eq (x ∷ y ∷ []) (eq e ∷ []) (search reading_of) tt tt

pub both_are_zero : (x y : ℚ) → x ≡ 0ℚ → y ≡ 0ℚ → x +ℚ y ≡ 0ℚ
both_are_zero x y e f = linear_eq (x ∷ y ∷ []) (eq e ∷ eq f ∷ []) (search reading_of) tt tt

pub first_and_zero : (x y z : ℚ) → x ≡ z → y ≡ 0ℚ → x +ℚ y ≡ z
first_and_zero x y z e f = linear_eq (x ∷ y ∷ z ∷ []) (eq e ∷ eq f ∷ []) (search reading_of) tt tt

pub less_zero : (x y : ℚ) → y ≡ 0ℚ → x -ℚ y ≡ x
less_zero x y e = linear_eq (x ∷ y ∷ []) (eq e ∷ []) (search reading_of) tt tt

pub same_of_plus_zero : (x y : ℚ) → x +ℚ 0ℚ ≡ y +ℚ 0ℚ → x ≡ y
same_of_plus_zero x y e = linear_eq (x ∷ y ∷ []) (eq e ∷ []) (search reading_of) tt tt

pub same_sums : (a b c d : ℚ) → a ≡ c → b ≡ d → a +ℚ b ≡ c +ℚ d
same_sums a b c d e f = cc

pub same_differences : (a b c d : ℚ) → a ≡ c → b ≡ d → a -ℚ b ≡ c -ℚ d
same_differences a b c d e f = cc

-- the slack of a hop with the transit time r
pub same_slacks : (b a d c r : ℚ) → b ≡ d → a ≡ c → b -ℚ (a +ℚ r) ≡ d -ℚ (c +ℚ r)
same_slacks b a d c r e f = cc

pub sum_of_sum : (a s p q : ℚ) → s ≡ p +ℚ q → a +ℚ s ≡ (a +ℚ p) +ℚ q
sum_of_sum a s p q e = linear_eq (a ∷ s ∷ p ∷ q ∷ []) (eq e ∷ []) (search reading_of) tt tt

pub back_and_forth : (a b : ℚ) → a +ℚ (b -ℚ a) ≡ b
back_and_forth a b = linear_eq (a ∷ b ∷ []) [] (search reading_of) tt tt

-- one more term where b is set
pub term_and_none : (b : Bool) (a s : ℚ) → s ≡ 0ℚ → (if b then a +ℚ s else s) ≡ (if b then a else 0ℚ)
term_and_none true a s e = linear_eq (a ∷ s ∷ []) (eq e ∷ []) (search reading_of) tt tt
term_and_none false a s e = e

-- ---- products
pub times_first_zero : (x y : ℚ) → x ≡ 0ℚ → x *ℚ y ≡ 0ℚ
times_first_zero x y e = linear_eq (x ∷ y ∷ []) (eq_times y e ∷ []) (search reading_of) tt tt

pub times_second_zero : (x y : ℚ) → y ≡ 0ℚ → x *ℚ y ≡ 0ℚ
times_second_zero x y e = linear_eq (x ∷ y ∷ []) (eq_times x e ∷ []) (search reading_of) tt tt

pub zero_of_zero_times : (x : ℚ) → 0ℚ ≡ 0ℚ *ℚ x
zero_of_zero_times x = linear_eq (x ∷ []) [] (search reading_of) tt tt

pub zero_of_times_zero : (x : ℚ) → 0ℚ ≡ x *ℚ 0ℚ
zero_of_times_zero x = linear_eq (x ∷ []) [] (search reading_of) tt tt

pub plus_zero_times : (x y : ℚ) → x ≡ x +ℚ 0ℚ *ℚ y
plus_zero_times x y = linear_eq (x ∷ y ∷ []) [] (search reading_of) tt tt

pub moved_by_one : (x y k t : ℚ) → k ≡ 1ℚ → y ≡ x +ℚ k *ℚ t → y ≡ x +ℚ t
moved_by_one x y k t e f = linear_eq (x ∷ y ∷ k ∷ t ∷ []) (eq_times t e ∷ eq f ∷ []) (search reading_of) tt tt

pub moved_by_zero : (x y k t : ℚ) → k ≡ 0ℚ → y ≡ x +ℚ k *ℚ t → y ≡ x
moved_by_zero x y k t e f = linear_eq (x ∷ y ∷ k ∷ t ∷ []) (eq_times t e ∷ eq f ∷ []) (search reading_of) tt tt

pub same_terms : (k x y a b : ℚ) → x ≡ y → a ≡ b → k *ℚ x +ℚ a ≡ k *ℚ y +ℚ b
same_terms k x y a b e f = cc

pub term_and_zero : (k x y : ℚ) → x ≡ 0ℚ → y ≡ 0ℚ → k *ℚ x +ℚ y ≡ 0ℚ
term_and_zero k x y e f = linear_eq (k ∷ x ∷ y ∷ []) (eq_times k e ∷ eq f ∷ []) (search reading_of) tt tt

pub term_of_zero : (x k y : ℚ) → y ≡ 0ℚ → x ≡ x +ℚ k *ℚ y
term_of_zero x k y e = linear_eq (x ∷ k ∷ y ∷ []) (eq_times k e ∷ []) (search reading_of) tt tt

-- ---- orders
pub sum_le : (a b c d : ℚ) → a ≤ℚ b → c ≤ℚ d → a +ℚ c ≤ℚ b +ℚ d
sum_le a b c d h k = linear_le (a ∷ b ∷ c ∷ d ∷ []) (le h ∷ le k ∷ []) (search reading_of) tt

pub sum_lt_le : (a b c d : ℚ) → a <ℚ b → c ≤ℚ d → a +ℚ c <ℚ b +ℚ d
sum_lt_le a b c d h k = linear_lt (a ∷ b ∷ c ∷ d ∷ []) (lt h ∷ le k ∷ []) (search reading_of) tt

pub sum_le_lt : (a b c d : ℚ) → a ≤ℚ b → c <ℚ d → a +ℚ c <ℚ b +ℚ d
sum_le_lt a b c d h k = linear_lt (a ∷ b ∷ c ∷ d ∷ []) (le h ∷ lt k ∷ []) (search reading_of) tt

pub less_le : (x y s : ℚ) → x ≤ℚ y → x -ℚ s ≤ℚ y -ℚ s
less_le x y s h = linear_le (x ∷ y ∷ s ∷ []) (le h ∷ []) (search reading_of) tt

pub times_le : (k x y : ℚ) → 0ℚ ≤ℚ k → x ≤ℚ y → k *ℚ x ≤ℚ k *ℚ y
times_le k x y n h = linear_le (k ∷ x ∷ y ∷ []) (le_times n h ∷ []) (search reading_of) tt

pub gap_np : (x y : ℚ) → x ≤ℚ y → x -ℚ y ≤ℚ 0ℚ
gap_np x y h = linear_le (x ∷ y ∷ []) (le h ∷ []) (search reading_of) tt

pub gap_ng : (x y : ℚ) → x <ℚ y → x -ℚ y <ℚ 0ℚ
gap_ng x y h = linear_lt (x ∷ y ∷ []) (lt h ∷ []) (search reading_of) tt

pub le_of_gap : (x y : ℚ) → 0ℚ ≤ℚ y -ℚ x → x ≤ℚ y
le_of_gap x y h = linear_le (x ∷ y ∷ []) (le h ∷ []) (search reading_of) tt

pub lt_of_gap : (x y : ℚ) → 0ℚ <ℚ y -ℚ x → x <ℚ y
lt_of_gap x y h = linear_lt (x ∷ y ∷ []) (lt h ∷ []) (search reading_of) tt

pub later_by : (x d : ℚ) → 0ℚ <ℚ d → x <ℚ x +ℚ d
later_by x d h = linear_lt (x ∷ d ∷ []) (lt h ∷ []) (search reading_of) tt

pub not_before_by : (x d : ℚ) → 0ℚ ≤ℚ d → x ≤ℚ x +ℚ d
not_before_by x d h = linear_le (x ∷ d ∷ []) (le h ∷ []) (search reading_of) tt

pub first_of_sum : (x d y : ℚ) → 0ℚ ≤ℚ d → x +ℚ d ≤ℚ y → x ≤ℚ y
first_of_sum x d y h k = linear_le (x ∷ d ∷ y ∷ []) (le h ∷ le k ∷ []) (search reading_of) tt

pub nn_above_sum : (x d y : ℚ) → 0ℚ ≤ℚ x → 0ℚ ≤ℚ d → x +ℚ d ≤ℚ y → 0ℚ ≤ℚ y
nn_above_sum x d y n h k = linear_le (x ∷ d ∷ y ∷ []) (le n ∷ le h ∷ le k ∷ []) (search reading_of) tt

pub plus_zero_le : (x y : ℚ) → x ≡ y → x +ℚ 0ℚ ≤ℚ y
plus_zero_le x y e = linear_le (x ∷ y ∷ []) (eq e ∷ []) (search reading_of) tt

-- an end b is reached from a within r
pub in_time : (a b r : ℚ) → b -ℚ (a +ℚ r) ≤ℚ 0ℚ → b -ℚ r ≤ℚ a
in_time a b r h = linear_le (a ∷ b ∷ r ∷ []) (le h ∷ []) (search reading_of) tt

pub less_some_le : (x a y : ℚ) → 0ℚ <ℚ a → x ≤ℚ y → x +ℚ (0ℚ -ℚ a) ≤ℚ y
less_some_le x a y h k = linear_le (x ∷ a ∷ y ∷ []) (lt h ∷ le k ∷ []) (search reading_of) tt

pub nn_less_part : (x a : ℚ) → a ≤ℚ x → 0ℚ ≤ℚ x +ℚ (0ℚ -ℚ a)
nn_less_part x a h = linear_le (x ∷ a ∷ []) (le h ∷ []) (search reading_of) tt

pub nn_after_less : (x y a : ℚ) → y ≡ x +ℚ (0ℚ -ℚ a) → a ≤ℚ x → 0ℚ ≤ℚ y
nn_after_less x y a e h = linear_le (x ∷ y ∷ a ∷ []) (eq e ∷ le h ∷ []) (search reading_of) tt

-- ---- signs
pub negated_ps : (x : ℚ) → x <ℚ 0ℚ → 0ℚ <ℚ 0ℚ -ℚ x
negated_ps x h = linear_lt (x ∷ []) (lt h ∷ []) (search reading_of) tt

pub zero_not_above : (x : ℚ) → x ≡ 0ℚ → 0ℚ <ℚ x → ⊥
zero_not_above x e h = linear_false (x ∷ []) (eq e ∷ lt h ∷ []) (search reading_of) tt

pub one_ps : 0ℚ <ℚ 1ℚ
one_ps = linear_lt [] [] (search reading_of) tt

pub nn_of_one : (x : ℚ) → 1ℚ ≤ℚ x → 0ℚ ≤ℚ x
nn_of_one x h = linear_le (x ∷ []) (le h ∷ []) (search reading_of) tt

pub nn_plus_one : (x : ℚ) → 0ℚ ≤ℚ x → 0ℚ ≤ℚ x +ℚ 1ℚ
nn_plus_one x h = linear_le (x ∷ []) (le h ∷ []) (search reading_of) tt

-- ---- a slack s that changes at c: if it is below 0 at first and at most 0 at y, it is below 0 at d between
pub below_between : (s c d y : ℚ) → s <ℚ 0ℚ → 0ℚ ≤ℚ d → d <ℚ y → s +ℚ y *ℚ c ≤ℚ 0ℚ → s +ℚ d *ℚ c <ℚ 0ℚ
below_between s c d y h i j k = ⊎_elim
    (λ (l : s +ℚ d *ℚ c <ℚ 0ℚ). l)
    (λ (l : 0ℚ ≤ℚ s +ℚ d *ℚ c).
    let y_nn : 0ℚ ≤ℚ y = ≤ℚ_trans _ _ _ i (≤ℚ_of_lt _ _ j) in
    let below : 0ℚ <ℚ 0ℚ -ℚ s = linear_lt (s ∷ []) (lt h ∷ []) (search reading_of) tt in
    let some : 0ℚ <ℚ (y -ℚ d) *ℚ (0ℚ -ℚ s) = ps_times (y -ℚ d) (0ℚ -ℚ s) (less_ps d y j) below in
    absurd (linear_false (s ∷ c ∷ d ∷ y ∷ []) (le_times y_nn l ∷ le_times i k ∷ lt some ∷ []) (search reading_of) tt))
    (lt_or_le_ℚ (s +ℚ d *ℚ c) 0ℚ)

pub above_between : (s c d y : ℚ) → 0ℚ <ℚ s → 0ℚ ≤ℚ d → d <ℚ y → 0ℚ ≤ℚ s +ℚ y *ℚ c → 0ℚ <ℚ s +ℚ d *ℚ c
above_between s c d y h i j k =
    let below : 0ℚ -ℚ s <ℚ 0ℚ = linear_lt (s ∷ []) (lt h ∷ []) (search reading_of) tt in
    let under : (0ℚ -ℚ s) +ℚ y *ℚ (0ℚ -ℚ c) ≤ℚ 0ℚ = linear_le (s ∷ c ∷ y ∷ []) (le k ∷ []) (search reading_of) tt in
    let m : (0ℚ -ℚ s) +ℚ d *ℚ (0ℚ -ℚ c) <ℚ 0ℚ = below_between (0ℚ -ℚ s) (0ℚ -ℚ c) d y below i j under in
    linear_lt (s ∷ c ∷ d ∷ []) (lt m ∷ []) (search reading_of) tt
