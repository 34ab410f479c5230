-- Printed numbers and counts are read as what they are printed of, and nothing else is.
use Rattle.std.proofs.Common.{◌≡◌, ℕ, Bool, true, false, if◌then◌else◌, List, Option, Some, None, Result, Ok, Err, refl, sym, ap, subst, ◌∙◌, bytes_eq}
use Rattle.std.proofs.Common.{codes}
use Rattle.nf_report_laws.proofs.Common.{same_Some, ℚ, ◌>>=◌, printed, count_word, IsFraction, same_names, bytes_eq-self, P8, or_rule, if_printed}
use Rattle.nf_report_laws.proofs.Common.{printed_number, some_place, place_in, point_numbers, some_rate, rate_word, Point, IsCount, IsCountOrNone}
use Rattle.nf_report_laws.proofs.Common.{IsFractionPoint, IsFractionOrNone, same_Ok, digits_of}
use Rattle.std.specs.Result.{result_ok}
use Rattle.nf_frac_words.specs.declared.NumberFault.{NumberFault}
use Rattle.nf_frac_words.specs.Digits.{count_of}
use Rattle.nf_frac_words.specs.Numbers.{number_of, parts_of}
use Rattle.nf_frac_words.proofs.Counts.{digits_from_count, count_from_digits}
use Rattle.nf_frac_words.proofs.ReadBack.{number_read}
use Rattle.nf_net_def.specs.Numbers.{greatest}
use Rattle.nf_net_laws.proofs.LinesBack.{within}
use Rattle.nf_net_laws.proofs.NumbersKept.{number_kept}
use Rattle.nf_report_laws.proofs.Outcomes.{both_ok, or_ok}

-- ---- numbers
pub number_back : (q : ℚ) → IsFraction q → printed_number (printed q) ≡ Some q
number_back q h =
    ap (if_printed (printed q)) (number_read greatest q (within q h).0 (within q h).1)
    ∙ ap (λ (b : Bool). if b then Some q else None) (bytes_eq-self (printed q))

pub number_is : (word : List ℕ) (q : ℚ) → printed_number word ≡ Some q → (word ≡ printed q) × IsFraction q
number_is word q e = by_number (number_of greatest word) refl e
  where
    by_test : (r : ℚ) (b : Bool) → number_of greatest word ≡ Ok r → bytes_eq word (printed r) ≡ b → (if b then Some r else None) ≡ Some q → (word ≡ printed q) × IsFraction q
    by_test r true k f g =
        let same : r ≡ q = same_Some r q g in
        (same_names word (printed r) f ∙ ap printed same, subst IsFraction same (number_kept 1 word r (ap result_ok k)))
    by_test r false k f g = absurd (cc)

    by_number : (r : Result ℚ NumberFault) → number_of greatest word ≡ r → if_printed word r ≡ Some q → (word ≡ printed q) × IsFraction q
    by_number (Ok r) k g = by_test r (bytes_eq word (printed r)) k refl g
    by_number (Err fault) k g = absurd (cc)

-- `-` is neither a number nor a count
no_number : (q : ℚ) (r : Result ℚ NumberFault) → number_of greatest (codes "-") ≡ r → r ≡ Ok q → ⊥
unfolding number_of parts_of
no_number q r e f = absurd (cc)

pub not_dash : (q : ℚ) → IsFraction q → bytes_eq (printed q) (codes "-") ≡ false
not_dash q h = go (bytes_eq (printed q) (codes "-")) refl
  where
    go : (b : Bool) → bytes_eq (printed q) (codes "-") ≡ b → b ≡ false
    go true e = absurd (no_number q (number_of greatest (printed q)) (ap (number_of greatest) (sym (same_names (printed q) (codes "-") e))) (number_read greatest q (within q h).0 (within q h).1))
    go false e = refl

-- ---- counts
no_count : (k : ℕ) (o : Option ℕ) → count_of (codes "-") ≡ o → o ≡ Some k → ⊥
unfolding count_of
no_count k o e f = absurd (cc)

pub count_back : (k : ℕ) → IsCount k → count_of (digits_of k) ≡ Some k
count_back k h = count_from_digits (digits_of k) k (refl, h)

pub count_is : (word : List ℕ) (k : ℕ) → count_of word ≡ Some k → (word ≡ digits_of k) × IsCount k
count_is word k e = digits_from_count word k e

count_not_dash : (k : ℕ) → IsCount k → bytes_eq (digits_of k) (codes "-") ≡ false
count_not_dash k h = go (bytes_eq (digits_of k) (codes "-")) refl
  where
    go : (b : Bool) → bytes_eq (digits_of k) (codes "-") ≡ b → b ≡ false
    go true e = absurd (no_count k (count_of (digits_of k)) (ap count_of (sym (same_names (digits_of k) (codes "-") e))) (count_back k h))
    go false e = refl

pub place_back : (place : Option ℕ) → IsCountOrNone place → place_in (count_word place) ≡ Some place
place_back None h = refl
place_back (Some k) h =
    ap (λ (b : Bool). if b then Some None else some_place (count_of (digits_of k))) (count_not_dash k h)
    ∙ ap some_place (count_back k h)

pub place_is : (word : List ℕ) (place : Option ℕ) → place_in word ≡ Some place → (word ≡ count_word place) × IsCountOrNone place
place_is word place e = go (bytes_eq word (codes "-")) refl e
  where
    count : (o : Option ℕ) → count_of word ≡ o → some_place o ≡ Some place → (word ≡ count_word place) × IsCountOrNone place
    count None k f = absurd (cc)
    count (Some c) k f =
        let same : Some c ≡ place = same_Some (Some c) place f in
        subst (λ (p : Option ℕ). (word ≡ count_word p) × IsCountOrNone p) same (count_is word c k)

    go : (b : Bool) → bytes_eq word (codes "-") ≡ b → (if b then Some None else some_place (count_of word)) ≡ Some place → (word ≡ count_word place) × IsCountOrNone place
    go true k f =
        let same : None ≡ place = same_Some None place f in
        subst (λ (p : Option ℕ). (word ≡ count_word p) × IsCountOrNone p) same (same_names word (codes "-") k, tt)
    go false k f = count (count_of word) refl f

-- ---- the numbers of a line
pub numbers_back : (p : Point) → IsFractionPoint p → point_numbers (printed p.0) (printed p.1) ≡ Ok p
numbers_back p h =
    ap (λ (o : Option ℚ). or_rule P8 o >>= λ t. (or_rule P8 (printed_number (printed p.1)) >>= λ y. Ok (t, y))) (number_back p.0 h.0)
    ∙ ap (λ (o : Option ℚ). or_rule P8 o >>= λ y. Ok (p.0, y)) (number_back p.1 h.1)

pub record ArePrinted (time value : List ℕ) (p : Point) : Type 0 where
  pub time_is : time ≡ printed p.0
  pub value_is : value ≡ printed p.1
  pub fractions : IsFractionPoint p

pub numbers_are : (time value : List ℕ) (p : Point) → point_numbers time value ≡ Ok p → ArePrinted time value p
numbers_are time value p e =
    let t = both_ok (or_rule P8 (printed_number time)) _ p e in
    let y = both_ok (or_rule P8 (printed_number value)) _ p t.next in
    let a = number_is time t.between (or_ok P8 (printed_number time) t.between t.first) in
    let b = number_is value y.between (or_ok P8 (printed_number value) y.between y.first) in
    subst (ArePrinted time value) (same_Ok (t.between, y.between) p y.next) (record { time_is = a.0; value_is = b.0; fractions = (a.1, b.1) })

-- a rate, or `-`
abbrev pub rate_text : Option ℚ → List ℕ
rate_text None = codes "-"
rate_text (Some q) = printed q

pub rate_back : (rate : Option ℚ) → IsFractionOrNone rate → rate_word (rate_text rate) ≡ Ok rate
rate_back None h = refl
rate_back (Some q) h =
    ap (λ (b : Bool). if b then Ok None else (or_rule P8 (printed_number (printed q)) >>= some_rate)) (not_dash q h)
    ∙ ap (λ (o : Option ℚ). or_rule P8 o >>= some_rate) (number_back q h)

pub rate_is : (word : List ℕ) (rate : Option ℚ) → rate_word word ≡ Ok rate → (word ≡ rate_text rate) × IsFractionOrNone rate
rate_is word rate e = go (bytes_eq word (codes "-")) refl e
  where
    go : (b : Bool) → bytes_eq word (codes "-") ≡ b → (if b then Ok None else (or_rule P8 (printed_number word) >>= some_rate)) ≡ Ok rate → (word ≡ rate_text rate) × IsFractionOrNone rate
    go true k f = subst (λ (r : Option ℚ). (word ≡ rate_text r) × IsFractionOrNone r) (same_Ok None rate f) (same_names word (codes "-") k, tt)
    go false k f =
        let w = both_ok (or_rule P8 (printed_number word)) some_rate rate f in
        subst (λ (r : Option ℚ). (word ≡ rate_text r) × IsFractionOrNone r) (same_Ok (Some w.between) rate w.next)
        (number_is word w.between (or_ok P8 (printed_number word) w.between w.first))
