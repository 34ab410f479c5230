-- Two flows that share a rate in proportion to two capacities: the equations have one solution.
use Rattle.std.proofs.Common.{◌≡◌, ◌≢◌, ℕ, zero, suc, ◌<◌, List, [], ◌∷◌, length, map, Some, slice_get, refl, sym, ap, subst, ◌∙◌, arith}
use Rattle.std.proofs.lemmas.Option.{same_Some}
use Rattle.nf_rational.specs.Rational.{ℚ}
use Rattle.nf_rational.specs.Operations.{0ℚ, 1ℚ, neg_ℚ, ◌+ℚ◌, ◌*ℚ◌, ◌/ℚ◌}
use Rattle.nf_rational.specs.Order.{◌<ℚ◌}
use Rattle.nf_rational_laws.proofs.Polynomial.{reading_of}
use Rattle.nf_rational_laws.proofs.Linear.{lt, eq, eq_times, linear_lt, linear_eq}
use Rattle.nf_rational_laws.proofs.Quotient.{/ℚ-times, /ℚ-unique, ps_apart}
use Rattle.nf_model.specs.Entries.{number_at}
use Rattle.nf_linear_def.specs.Table.{row_at}
use Rattle.nf_linear_laws.specs.Solution.{left_side, SolvesRows, IsOnlySolution}

-- the two flows add to the rate, and the first times the second capacity is the second times the first
abbrev pub share_rows : ℚ → ℚ → ℚ → List (List ℚ)
share_rows rate first second = (1ℚ ∷ 1ℚ ∷ rate ∷ []) ∷ (second ∷ neg_ℚ first ∷ 0ℚ ∷ []) ∷ []

pub record AreShares (rate first second x y : ℚ) : Type 0 where
  pub whole : x +ℚ y ≡ rate
  pub cross : second *ℚ x ≡ first *ℚ y

shares_of : (rate first second x y : ℚ) → SolvesRows (share_rows rate first second) (x ∷ y ∷ []) → AreShares rate first second x y
shares_of rate first second x y s =
    let sum : 1ℚ *ℚ x +ℚ (1ℚ *ℚ y +ℚ 0ℚ) ≡ rate = s.each 0 (omega arith) in
    let same : second *ℚ x +ℚ (neg_ℚ first *ℚ y +ℚ 0ℚ) ≡ 0ℚ = s.each 1 (omega arith) in
    record {
      whole = linear_eq (x ∷ y ∷ rate ∷ []) (eq sum ∷ []) (search reading_of depth 20) tt tt;
      cross = linear_eq (x ∷ y ∷ first ∷ second ∷ []) (eq same ∷ []) (search reading_of depth 20) tt tt;
    }

too_few : {X : Type 0} (n : ℕ) → n < 2 → n ≡ 2 → X
too_few n less e = absurd (omega arith)

too_many : {X : Type 0} (n : ℕ) → suc (suc (suc n)) ≡ 2 → X
too_many n e = absurd (omega arith)

-- ---- what the only solution is
same_items : (xs : List ℚ) → map (λ q. q) xs ≡ xs
same_items [] = refl
same_items (x ∷ xs) = ap (λ (ys : List ℚ). x ∷ ys) (same_items xs)

pub only_flows : (rate first second : ℚ) (xs : List ℚ) (rows : List (List ℚ)) → rows ≡ share_rows rate first second → IsOnlySolution rows (map (λ q. q) xs)
    → IsOnlySolution (share_rows rate first second) xs
only_flows rate first second xs rows e o =
    subst (λ (r : List (List ℚ)). IsOnlySolution r xs) e (subst (λ (ys : List ℚ). IsOnlySolution rows ys) (same_items xs) o)

pub two_flows : (rate first second : ℚ) (xs : List ℚ) → IsOnlySolution (share_rows rate first second) xs → length xs ≡ 2
two_flows rate first second xs o = o.solves.count

shares : (rate first second : ℚ) (xs : List ℚ) (x y : ℚ) → SolvesRows (share_rows rate first second) xs → slice_get xs 0 ≡ Some x → slice_get xs 1 ≡ Some y → AreShares rate first second x y
shares rate first second [] x y s e f = absurd (cc)
shares rate first second (a ∷ []) x y s e f = absurd (cc)
shares rate first second (a ∷ b ∷ []) x y s e f =
    let given = shares_of rate first second a b s in
    subst (λ (u : ℚ). AreShares rate first second u y) (same_Some a x e) (subst (λ (u : ℚ). AreShares rate first second a u) (same_Some b y f) given)
shares rate first second (a ∷ b ∷ c ∷ xs) x y s e f = too_many (length xs) s.count

pub whole_of : (rate first second : ℚ) (xs : List ℚ) (x y : ℚ) → IsOnlySolution (share_rows rate first second) xs → slice_get xs 0 ≡ Some x → slice_get xs 1 ≡ Some y → x +ℚ y ≡ rate
whole_of rate first second xs x y o e f = (shares rate first second xs x y o.solves e f).whole

-- ---- there is one solution
module _ (rate first second : ℚ) (above : 0ℚ <ℚ first) (positive : 0ℚ <ℚ second) where
  both_apart : first +ℚ second ≢ 0ℚ
  both_apart = ps_apart (first +ℚ second) (linear_lt (first ∷ second ∷ []) (lt above ∷ lt positive ∷ []) (search reading_of depth 12) tt)

  abbrev part : ℚ
  part = rate /ℚ (first +ℚ second)

  part_is : part *ℚ (first +ℚ second) ≡ rate
  part_is = /ℚ-times rate (first +ℚ second) both_apart

  sum : (q : ℚ) → q *ℚ (first +ℚ second) ≡ rate → 1ℚ *ℚ (first *ℚ q) +ℚ (1ℚ *ℚ (second *ℚ q) +ℚ 0ℚ) ≡ rate
  sum q e = linear_eq (first ∷ second ∷ q ∷ rate ∷ []) (eq e ∷ []) (search reading_of depth 24) tt tt

  same : (q : ℚ) → second *ℚ (first *ℚ q) +ℚ (neg_ℚ first *ℚ (second *ℚ q) +ℚ 0ℚ) ≡ 0ℚ
  same q = linear_eq (first ∷ second ∷ q ∷ []) [] (search reading_of depth 24) tt tt

  solved : SolvesRows (share_rows rate first second) (first *ℚ part ∷ second *ℚ part ∷ [])
  solved = record { count = refl; each = each }
    where
      each : (i : ℕ) → i < 2 → left_side (row_at (share_rows rate first second) i) (first *ℚ part ∷ second *ℚ part ∷ []) ≡ number_at (row_at (share_rows rate first second) i) 2
      each zero less = sum part part_is
      each (suc zero) less = same part
      each (suc (suc i)) less = absurd (omega arith)

  -- each share is the capacity times the same quotient
  first_share : (x y : ℚ) → AreShares rate first second x y → x ≡ first *ℚ part
  first_share x y s =
      /ℚ-unique (first *ℚ rate) (first +ℚ second) x both_apart
      (linear_eq (first ∷ second ∷ x ∷ y ∷ rate ∷ []) (eq_times first s.whole ∷ eq s.cross ∷ []) (search reading_of depth 24) tt tt)
      ∙ sym (/ℚ-unique (first *ℚ rate) (first +ℚ second) (first *ℚ part) both_apart
      (linear_eq (first ∷ second ∷ part ∷ rate ∷ []) (eq_times first part_is ∷ []) (search reading_of depth 24) tt tt))

  second_share : (x y : ℚ) → AreShares rate first second x y → y ≡ second *ℚ part
  second_share x y s =
      /ℚ-unique (second *ℚ rate) (first +ℚ second) y both_apart
      (linear_eq (first ∷ second ∷ x ∷ y ∷ rate ∷ []) (eq_times second s.whole ∷ eq s.cross ∷ []) (search reading_of depth 24) tt tt)
      ∙ sym (/ℚ-unique (second *ℚ rate) (first +ℚ second) (second *ℚ part) both_apart
      (linear_eq (first ∷ second ∷ part ∷ rate ∷ []) (eq_times second part_is ∷ []) (search reading_of depth 24) tt tt))

  only : (ys : List ℚ) → SolvesRows (share_rows rate first second) ys → ys ≡ first *ℚ part ∷ second *ℚ part ∷ []
  only [] s = too_few 0 (omega arith) s.count
  only (x ∷ []) s = too_few 1 (omega arith) s.count
  only (x ∷ y ∷ []) s =
      let shares = shares_of rate first second x y s in
      ap (λ (z : ℚ). z ∷ y ∷ []) (first_share x y shares) ∙ ap (λ (z : ℚ). first *ℚ part ∷ z ∷ []) (second_share x y shares)
  only (x ∷ y ∷ z ∷ ys) s = too_many (length ys) s.count

  -- a system without exactly one solution is another one
  pub one_solution : ((xs : List ℚ) → IsOnlySolution (share_rows rate first second) xs → ⊥) → ⊥
  one_solution none = none (first *ℚ part ∷ second *ℚ part ∷ []) (record { solves = solved; only = only })

  pub same_share : (xs : List ℚ) (x y : ℚ) → IsOnlySolution (share_rows rate first second) xs → slice_get xs 0 ≡ Some x → slice_get xs 1 ≡ Some y
      → x /ℚ first ≡ y /ℚ second
  same_share xs x y o e f =
      let s = shares rate first second xs x y o.solves e f in
      let apart = ps_apart first above in
      /ℚ-unique y second (x /ℚ first) (ps_apart second positive)
      (/ℚ-unique (y *ℚ first) first (x /ℚ first *ℚ second) apart (crossed (x /ℚ first) x y (/ℚ-times x first apart) s.cross)
      ∙ sym (/ℚ-unique (y *ℚ first) first y apart refl))
    where
      crossed : (q x y : ℚ) → q *ℚ first ≡ x → second *ℚ x ≡ first *ℚ y → q *ℚ second *ℚ first ≡ y *ℚ first
      crossed q x y back cross = linear_eq (q ∷ x ∷ y ∷ first ∷ second ∷ []) (eq_times second back ∷ eq cross ∷ []) (search reading_of depth 24) tt tt
