-- Rules that go from point to point, from each point on.
use Rattle.std.proofs.Common.{◌≡◌, ℕ, zero, suc, ◌+◌, ◌-◌, ◌<◌, ◌≤◌, List, [], ◌∷◌, length, drop, Bool, true, false, Some, None, slice_get, ⊎_elim, refl}
use Rattle.std.proofs.Common.{sym, ap, subst, ◌∙◌, arith, Ok, Err, if◌then◌else◌}
use Rattle.nf_check_rules.proofs.Common.{AllByRecursion, ℚ, 0ℚ, ◌≤ℚ◌, lt_ℚ, max_ℚ, Passing, at_part, ◌>>=◌, Check, PassedAt, Point, checked_slope, C2}
use Rattle.nf_check_rules.proofs.Common.{Subject, Passes, in_part, unless, negative_point, falling_from, if_other, rates_from, rates_list, greatest_value}
use Rattle.nf_check_rules.proofs.Common.{last_value, Network, Flow, drop_next, Ended, first_fall, first_value, EndsAs}
use Rattle.nf_check_def.specs.CheckList as lists_of_check
use Rattle.nf_check_rules.proofs.Trying.{ends, ends_as, goes_on, part_ok, part_passes}

pub drop_none : {A : Type 0} (xs : List A) (i : ℕ) → length xs ≤ i → drop i xs ≡ []
drop_none [] zero h = refl
drop_none [] (suc i) h = refl
drop_none (x ∷ xs) zero h = absurd (omega arith)
drop_none (x ∷ xs) (suc i) h = drop_none xs i (omega arith)

-- ---- two entries in succession, where i is the number of the second one
pub few_left : {A : Type 0} (xs : List A) (i : ℕ) → 0 < i → length xs ≤ i → length (drop (i - 1) xs) ≤ 1
few_left {A} xs i some h = go xs (i - 1) (omega arith)
  where
    go : (xs : List A) (k : ℕ) → length xs ≤ k + 1 → length (drop k xs) ≤ 1
    go [] zero h = omega arith
    go [] (suc k) h = omega arith
    go (x ∷ xs) zero h = omega arith
    go (x ∷ xs) (suc k) h = go xs k (omega arith)

pub drop_two : {A : Type 0} (xs : List A) (i : ℕ) (x y : A) → 0 < i → slice_get xs (i - 1) ≡ Some x → slice_get xs i ≡ Some y → drop (i - 1) xs ≡ x ∷ y ∷ drop (i + 1) xs
drop_two {A} xs i x y some at next =
    drop_next xs (i - 1) x at ∙ ap (λ (l : List A). x ∷ l) (ap (λ (k : ℕ). drop k xs) (let same : (i - 1) + 1 ≡ i = omega arith in same) ∙ drop_next xs i y next)

pub drop_again : {A : Type 0} (xs : List A) (i : ℕ) (y : A) → slice_get xs i ≡ Some y → drop ((i + 1) - 1) xs ≡ y ∷ drop (i + 1) xs
drop_again {A} xs i y next = ap (λ (k : ℕ). drop k xs) (let same : (i + 1) - 1 ≡ i = omega arith in same) ∙ drop_next xs i y next

-- ---- the first negative point
module _ (points : List Point) (i : ℕ) (so_far : negative_point (drop i points) ≡ negative_point points) where
  module _ (p : Point) (at : slice_get points i ≡ Some p) where
    by_first : (if lt_ℚ p.1 0ℚ then Some (record { time = p.0; left = p.1; right = 0ℚ }) else negative_point (drop (i + 1) points)) ≡ negative_point points
    by_first = sym (ap negative_point (drop_next points i p at)) ∙ so_far

    pub is_negative : lt_ℚ p.1 0ℚ ≡ true → negative_point points ≡ Some (record { time = p.0; left = p.1; right = 0ℚ })
    is_negative t = sym (sym (ap (λ (b : Bool). if b then Some (record { time = p.0; left = p.1; right = 0ℚ }) else negative_point (drop (i + 1) points)) t) ∙ by_first)

    pub not_negative : lt_ℚ p.1 0ℚ ≡ false → negative_point (drop (i + 1) points) ≡ negative_point points
    not_negative t = sym (ap (λ (b : Bool). if b then Some (record { time = p.0; left = p.1; right = 0ℚ }) else negative_point (drop (i + 1) points)) t) ∙ by_first

-- ---- the first fall, where i is the number of the point after the one looked at
module _ (points : List Point) (i : ℕ) (some : 0 < i) (so_far : first_fall (drop (i - 1) points) ≡ first_fall points) where
  pub no_fall : length points ≤ i → first_fall points ≡ None
  no_fall h = sym so_far ∙ alone (drop (i - 1) points) (few_left points i some h)
    where
      alone : (xs : List Point) → length xs ≤ 1 → first_fall xs ≡ None
      alone [] h = refl
      alone (x ∷ []) h = refl
      alone (x ∷ y ∷ xs) h = absurd (omega arith)

  module _ (p q : Point) (at : slice_get points (i - 1) ≡ Some p) (next : slice_get points i ≡ Some q) where
    by_pair : (if lt_ℚ q.1 p.1 then Some (record { time = p.0; left = p.1; right = q.1 }) else falling_from q (drop (i + 1) points)) ≡ first_fall points
    by_pair = sym (ap first_fall (drop_two points i p q some at next)) ∙ so_far

    pub falls : lt_ℚ q.1 p.1 ≡ true → first_fall points ≡ Some (record { time = p.0; left = p.1; right = q.1 })
    falls t = sym (sym (ap (λ (b : Bool). if b then Some (record { time = p.0; left = p.1; right = q.1 }) else falling_from q (drop (i + 1) points)) t) ∙ by_pair)

    pub rises : lt_ℚ q.1 p.1 ≡ false → first_fall (drop ((i + 1) - 1) points) ≡ first_fall points
    rises t =
        ap first_fall (drop_again points i q next)
        ∙ sym (ap (λ (b : Bool). if b then Some (record { time = p.0; left = p.1; right = q.1 }) else falling_from q (drop (i + 1) points)) t) ∙ by_pair

-- ---- rates
module _ (passes : Passing) (subject : Subject ℕ ℕ) (points : List Point) (rates : List ℚ) (i : ℕ)
    (so_far : rates_list passes subject (drop i points) (drop i rates) ≡ rates_list passes subject points rates) where
  pub rates_end : length rates ≤ i → rates_list passes subject points rates ≡ Ok tt
  rates_end h = sym so_far ∙ ap (rates_list passes subject (drop i points)) (drop_none rates i h) ∙ no_rate (drop i points)
    where
      no_rate : (xs : List Point) → rates_list passes subject xs [] ≡ Ok tt
      no_rate [] = refl
      no_rate (x ∷ []) = refl
      no_rate (x ∷ y ∷ xs) = refl

  module _ (p q : Point) (rate : ℚ) (at : slice_get points i ≡ Some p) (next : slice_get points (i + 1) ≡ Some q) (here : slice_get rates i ≡ Some rate) where
    from_next : drop (i + 1) points ≡ q ∷ drop ((i + 1) + 1) points
    from_next = drop_next points (i + 1) q next

    by_rate : (in_part Check (checked_slope passes p q) >>= λ k. unless C2 subject (if_other p.0 rate k) >>= λ _. rates_from passes subject q
        (drop ((i + 1) + 1) points) (drop (i + 1) rates)) ≡ rates_list passes subject points rates
    by_rate =
        sym (ap (λ (l : List Point). rates_list passes subject l (drop i rates)) (drop_next points i p at ∙ ap (λ (l : List Point). p ∷ l) from_next)
        ∙ ap (rates_list passes subject (p ∷ q ∷ drop ((i + 1) + 1) points)) (drop_next rates i rate here))
        ∙ so_far

    pub slope_ends : (passed : PassedAt ℚ) → at_part Check (checked_slope passes p q) ≡ Err passed → rates_list passes subject points rates ≡ Err (Passes passed)
    slope_ends passed e = sym by_rate ∙ ends (Ended.Passed passed) (in_part Check (checked_slope passes p q)) _ (part_passes Check (checked_slope passes p q) passed e)

    module _ (slope : ℚ) (slope_is : at_part Check (checked_slope passes p q) ≡ Ok slope) where
      by_slope : (unless C2 subject (if_other p.0 rate slope) >>= λ _. rates_from passes subject q (drop ((i + 1) + 1) points) (drop (i + 1) rates))
          ≡ rates_list passes subject points rates
      by_slope = sym (goes_on (in_part Check (checked_slope passes p q)) _ slope (part_ok Check (checked_slope passes p q) slope slope_is)) ∙ by_rate

      pub other_ends : (e : Ended) → EndsAs e (unless C2 subject (if_other p.0 rate slope)) → EndsAs e (rates_list passes subject points rates)
      other_ends e h = ends_as e (rates_list passes subject points rates) _ (sym by_slope) (ends e (unless C2 subject (if_other p.0 rate slope)) _ h)

      pub rate_fits : unless C2 subject (if_other p.0 rate slope) ≡ Ok tt → rates_list passes subject (drop (i + 1) points) (drop (i + 1) rates) ≡ rates_list passes subject points rates
      rate_fits h = ap (λ (l : List Point). rates_list passes subject l (drop (i + 1) rates)) from_next
          ∙ sym (goes_on (unless C2 subject (if_other p.0 rate slope)) _ tt h) ∙ by_slope

-- ---- values
pub greater_before : (points : List Point) (left next : ℕ) (p : Point) (greatest : ℚ) → left ≡ next + 1 → slice_get points next ≡ Some p → greatest ≡ greatest_value (drop left points)
    → max_ℚ p.1 greatest ≡ greatest_value (drop next points)
greater_before points left next p greatest n e g =
    ap (max_ℚ p.1) (g ∙ ap (λ (k : ℕ). greatest_value (drop k points)) n) ∙ sym (ap greatest_value (drop_next points next p e))

pub first_same : (passes : Passing) (net : Network) (flow : Flow) (points : List Point) → first_value points ≡ lists_of_check.first_value passes net flow points
first_same passes net flow [] = refl
first_same passes net flow (p ∷ rest) = refl

pub last_is : (points : List Point) (k : ℕ) (p : Point) → slice_get points k ≡ Some p → k + 1 ≡ length points → p.1 ≡ last_value points
last_is [] k p e n = absurd (cc)
last_is (x ∷ []) zero p e n = let same : p ≡ x = cc in ap (λ (q : Point). q.1) same
last_is (x ∷ []) (suc k) p e n = absurd (omega arith)
last_is (x ∷ y ∷ rest) zero p e n = absurd (omega arith)
last_is (x ∷ y ∷ rest) (suc k) p e n = last_is (y ∷ rest) k p e (omega arith)

pub all_from_0 : (points : List Point) (k : ℕ) (p : Point) → slice_get points k ≡ Some p → AllByRecursion (λ (q : Point). 0ℚ ≤ℚ q.1) points → 0ℚ ≤ℚ p.1
all_from_0 [] k p e a = absurd (cc)
all_from_0 (x ∷ rest) zero p e a = let same : x ≡ p = cc in subst (λ (q : Point). 0ℚ ≤ℚ q.1) same a.0
all_from_0 (x ∷ rest) (suc k) p e a = all_from_0 rest k p e a.1
