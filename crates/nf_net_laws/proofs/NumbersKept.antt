-- A number that a word writes has no part beyond the greatest.
use Rattle.std.proofs.Common.{◌≡◌, ◌≢◌, ℕ, zero, suc, ◌+◌, ◌*◌, ◌^◌, ◌/◌, ◌≤◌, ◌==◌, ◌&&◌, ◌||◌, Bool, true, false, not, if◌then◌else◌, List, length}
use Rattle.std.proofs.Common.{nat_lt, nat_abs, ℤ, refl, sym, ap, subst, arith, div-le_self, codes, bytes_eq, Option, Some, None, Result, Ok, Err}
use Rattle.std.proofs.Common.{option_map, unwrap_or, lit≤}
use Rattle.nf_net_laws.proofs.Common.{result_ok, le-ltb, ltb-false, or_parts, or_from, are_digits, value_of, greatest, number_in, capacity_in, IsFraction}
use Rattle.nf_net_laws.proofs.Common.{same_Ok, ℚ, abs_quot, NumberFault, slash, point, before, bytes_after, unsigned, signed_by, denominator, is_decimal}
use Rattle.nf_net_laws.proofs.Common.{parts_or_fault, as_ratio}
use Rattle.nf_rational.specs.Gcd.{gcd}
use Rattle.nf_rational.specs.Rational.{ratio}
use Rattle.nf_frac_words.specs.declared.NumberFault.TheVariants.{Empty, BadDigit, TooWide, ZeroDenominator}
use Rattle.nf_frac_words.specs.Numbers.{parts_of, decimal_parts_of, number_of, decimal_of}

-- parts that are within the bound, the second above 0
pub record FitParts (bound : ℕ) (p : ℤ × ℕ) : Type 0 where
  pub num : nat_abs p.0 ≤ bound
  pub den : p.1 ≤ bound

-- a test that is answered by a fault says no where there is a value
says_no : {A : Type 0} (b : Bool) (fault : NumberFault) (rest : Result A NumberFault) (x : A) → (if b then Err fault else rest) ≡ Ok x → (b ≡ false) × (rest ≡ Ok x)
says_no true fault rest x e = absurd (cc)
says_no false fault rest x e = (refl, e)

pub parts_fit : (bound : ℕ) (a b : List ℕ) (n : ℤ) (d : ℕ) (p : ℤ × ℕ) → parts_or_fault bound a b n d ≡ Ok p → FitParts bound p
parts_fit bound a b n d p e =
    let first = says_no (length a == 0 || length b == 0) Empty _ p e in
    let second = says_no (not (are_digits a && are_digits b)) BadDigit _ p first.1 in
    let third = says_no (nat_lt bound (nat_abs n) || nat_lt bound d) TooWide _ p second.1 in
    let fourth = says_no (d == 0) ZeroDenominator _ p third.1 in
    let both = or_parts (nat_lt bound (nat_abs n)) (nat_lt bound d) third.0 in
    let same : ◌≡◌ {A = ℤ × ℕ} (n, d) p = same_Ok (n, d) p fourth.1 in
    subst (FitParts bound) same (record { num = ltb-false bound (nat_abs n) both.0; den = ltb-false bound d both.1 })

pub fraction_parts_fit : (bound : ℕ) (word : List ℕ) (p : ℤ × ℕ) → parts_of bound word ≡ Ok p → FitParts bound p
unfolding parts_of
fraction_parts_fit bound word p e =
    let a : List ℕ = before slash word in
    parts_fit bound (unsigned a) (denominator word) (signed_by a (value_of (unsigned a))) (value_of (denominator word)) p e

decimal_cases : (bound : ℕ) (word a b : List ℕ) (n : ℤ) (d : ℕ) (p : ℤ × ℕ) (is : Bool) → (if is then parts_or_fault bound a b n d else parts_of bound word) ≡ Ok p → FitParts bound p
decimal_cases bound word a b n d p true e = parts_fit bound a b n d p e
decimal_cases bound word a b n d p false e = fraction_parts_fit bound word p e

pub decimal_parts_fit : (bound : ℕ) (word : List ℕ) (p : ℤ × ℕ) → decimal_parts_of bound word ≡ Ok p → FitParts bound p
unfolding decimal_parts_of
decimal_parts_fit bound word p e =
    let a : List ℕ = before point word in
    let b : List ℕ = bytes_after point word in
    decimal_cases bound word (unsigned a) b (signed_by a (value_of (unsigned a) * 10 ^ length b + value_of b)) (10 ^ length b) p (is_decimal word) e

-- ---- in lowest terms parts don't grow
pub lowest_num : (n : ℤ) (d : ℕ) → nat_abs (ratio n d).num ≤ nat_abs n
unfolding ratio
lowest_num n zero = omega arith
lowest_num n (suc d) = subst (λ k. k ≤ nat_abs n) (sym (abs_quot n (gcd (nat_abs n) (suc d)))) (div-le_self (nat_abs n) (gcd (nat_abs n) (suc d)))

pub lowest_den : (n : ℤ) (d : ℕ) (bound : ℕ) → 1 ≤ bound → d ≤ bound → (ratio n d).den ≤ bound
unfolding ratio
lowest_den n zero bound one h = one
lowest_den n (suc d) bound one h = let less : suc d / gcd (nat_abs n) (suc d) ≤ suc d = div-le_self (suc d) (gcd (nat_abs n) (suc d)) in omega arith

is_fraction : (n : ℤ) (d : ℕ) → FitParts greatest (n, d) → IsFraction (ratio n d)
is_fraction n d h =
    let small : nat_abs (ratio n d).num ≤ nat_abs n = lowest_num n d in
    let num : nat_abs n ≤ greatest = h.num in
    or_from (nat_lt greatest (nat_abs (ratio n d).num)) (nat_lt greatest (ratio n d).den)
    (le-ltb greatest (nat_abs (ratio n d).num) (omega arith)) (le-ltb greatest (ratio n d).den (lowest_den n d greatest (lit≤ tt) h.den))

reduced : (r : Result (ℤ × ℕ) NumberFault) (q : ℚ) → ((p : ℤ × ℕ) → r ≡ Ok p → FitParts greatest p) → as_ratio r ≡ Ok q → IsFraction q
reduced (Ok p) q fit e = subst IsFraction (same_Ok (ratio p.0 p.1) q e) (is_fraction p.0 p.1 (fit p refl))
reduced (Err fault) q fit e = absurd (cc)

fraction_kept : (word : List ℕ) (q : ℚ) → number_of greatest word ≡ Ok q → IsFraction q
unfolding number_of
fraction_kept word q e = reduced (parts_of greatest word) q (λ p. fraction_parts_fit greatest word p) e

decimal_kept : (word : List ℕ) (q : ℚ) → decimal_of greatest word ≡ Ok q → IsFraction q
unfolding decimal_of
decimal_kept word q e = reduced (decimal_parts_of greatest word) q (λ p. decimal_parts_fit greatest word p) e

ok_of : {A E : Type 0} (r : Result A E) (x : A) → result_ok r ≡ Some x → r ≡ Ok x
ok_of (Ok y) x e = ap (λ o. Ok (unwrap_or o y)) e
ok_of (Err fault) x e = absurd (cc)

number_cases : (word : List ℕ) (q : ℚ) (b : Bool) → result_ok (if b then number_of greatest word else decimal_of greatest word) ≡ Some q → IsFraction q
number_cases word q true e = fraction_kept word q (ok_of (number_of greatest word) q e)
number_cases word q false e = decimal_kept word q (ok_of (decimal_of greatest word) q e)

pub number_kept : (version : ℕ) (word : List ℕ) (q : ℚ) → number_in version word ≡ Some q → IsFraction q
number_kept version word q e = number_cases word q (version == 1) e

-- ---- capacities: a fraction, or none from version 2 on
abbrev pub IsReadCapacity : ℕ → Option ℚ → Type 0
IsReadCapacity version None = version ≢ 1
IsReadCapacity version (Some capacity) = IsFraction capacity

not_one : (version : ℕ) (t : Bool) → (not (version == 1) && t) ≡ true → version ≢ 1
not_one version t e same = let f : (not (1 == 1) && t) ≡ true = subst (λ v. (not (v == 1) && t) ≡ true) same e in absurd (cc)

capacity_cases : (version : ℕ) (word : List ℕ) (capacity : Option ℚ) (b : Bool) (number : Option ℚ) → (not (version == 1) && bytes_eq word (codes "inf")) ≡ b → number_in version word ≡ number
    → (if b then Some None else option_map (λ q. Some q) number) ≡ Some capacity → IsReadCapacity version capacity
capacity_cases version word capacity true number f g e =
    subst (IsReadCapacity version) (ap (λ o. unwrap_or o None) e) (not_one version (bytes_eq word (codes "inf")) f)
capacity_cases version word capacity false None f g e = absurd (cc)
capacity_cases version word capacity false (Some q) f g e = subst (IsReadCapacity version) (ap (λ o. unwrap_or o None) e) (number_kept version word q g)

pub capacity_kept : (version : ℕ) (word : List ℕ) (capacity : Option ℚ) → capacity_in version word ≡ Some capacity → IsReadCapacity version capacity
capacity_kept version word capacity e = capacity_cases version word capacity (not (version == 1) && bytes_eq word (codes "inf")) (number_in version word) refl refl e
