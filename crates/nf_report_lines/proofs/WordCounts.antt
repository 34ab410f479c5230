-- The words of a line, by their number.
use Rattle.std.proofs.Common.{◌≡◌, ℕ, ◌<◌, Bool, true, false, cond, List, [], ◌∷◌, length, drop, Option, Some, None, refl, sym, ◌∙◌, ap, arith, bytes_eq}
use Rattle.std.proofs.Common.{codes, Err}
use Rattle.nf_report_lines.proofs.Common.{◌>>=◌, word_at, P9, or_rule, CauseKind, IsDone, IsPhases, IsPatterns, IsPassed, IsNoPattern, cause_kind}
use Rattle.nf_report_lines.proofs.Common.{cause_of_kind, cause_in}
use Rattle.nf_side.proofs.WordCounts.{one_word, two_words, three_words, four_words}

abbrev pub Words : Type 0
Words = List (List ℕ)

-- the words, one by one
pub first_word : (words : Words) → 0 < length words → words ≡ word_at words 0 ∷ drop 1 words
first_word [] lt = absurd (omega arith)
first_word (w ∷ ws) lt = refl

pub second_word : (words : Words) → 1 < length words → drop 1 words ≡ word_at words 1 ∷ drop 2 words
second_word [] lt = absurd (omega arith)
second_word (a ∷ []) lt = absurd (omega arith)
second_word (a ∷ b ∷ ws) lt = refl

pub one_behind : (words : Words) → length words ≡ 2 → drop 1 words ≡ word_at words 1 ∷ []
one_behind [] e = absurd (omega arith)
one_behind (w ∷ ws) e = one_word ws (omega arith)

six_words : (words : Words) → length words ≡ 6 → words ≡ word_at words 0 ∷ word_at words 1 ∷ word_at words 2 ∷ word_at words 3 ∷ word_at words 4 ∷ word_at words 5 ∷ []
six_words [] e = absurd (omega arith)
six_words (a ∷ []) e = absurd (omega arith)
six_words (a ∷ b ∷ ws) e = ap (λ (l : Words). a ∷ b ∷ l) (four_words ws (omega arith))

pub two_behind : (words : Words) → length words ≡ 3 → drop 1 words ≡ word_at words 1 ∷ word_at words 2 ∷ []
two_behind [] e = absurd (omega arith)
two_behind (w ∷ ws) e = two_words ws (omega arith)

pub three_behind : (words : Words) → length words ≡ 4 → drop 1 words ≡ word_at words 1 ∷ word_at words 2 ∷ word_at words 3 ∷ []
three_behind [] e = absurd (omega arith)
three_behind (w ∷ ws) e = three_words ws (omega arith)

pub four_behind : (words : Words) → length words ≡ 5 → drop 1 words ≡ word_at words 1 ∷ word_at words 2 ∷ word_at words 3 ∷ word_at words 4 ∷ []
four_behind [] e = absurd (omega arith)
four_behind (w ∷ ws) e = four_words ws (omega arith)

pub six_behind : (words : Words) → length words ≡ 8 → drop 2 words ≡ word_at words 2 ∷ word_at words 3 ∷ word_at words 4 ∷ word_at words 5 ∷ word_at words 6 ∷ word_at words 7 ∷ []
six_behind [] e = absurd (omega arith)
six_behind (a ∷ []) e = absurd (omega arith)
six_behind (a ∷ b ∷ ws) e = six_words ws (omega arith)

-- ---- a cause, by the word of its kind
abbrev of_kind : List ℕ → Words → Bool → Bool → Bool → Bool → Bool → Option CauseKind
of_kind word words done phases patterns passed nopattern =
    cond done (Some IsDone) (cond phases (Some IsPhases) (cond patterns (Some IsPatterns) (cond passed (Some IsPassed) (cond nopattern (Some IsNoPattern) None))))

kind_is : (word : List ℕ) (a b d e f : Bool)
    → bytes_eq word (codes "done") ≡ a → bytes_eq word (codes "phases") ≡ b → bytes_eq word (codes "patterns") ≡ d → bytes_eq word (codes "passed") ≡ e → bytes_eq word (codes "nopattern") ≡ f
    → cause_kind word ≡ of_kind word [] a b d e f
kind_is word a b d e f p q r s t = λ i. of_kind word [] (p i) (q i) (r i) (s i) (t i)

module _ (words : Words) (lt : 1 < length words) (word : List ℕ) (is : word ≡ word_at words 1) where
  by_kind : (kind : Option CauseKind) → cause_kind word ≡ kind → cause_in (drop 1 words) ≡ (or_rule P9 kind >>= cause_of_kind (drop 2 words))
  by_kind kind e = ap cause_in (second_word words lt) ∙ ap (λ (k : Option CauseKind). or_rule P9 k >>= cause_of_kind (drop 2 words)) (ap cause_kind (sym is) ∙ e)

  module _ (a : bytes_eq word (codes "done") ≡ false) (b : bytes_eq word (codes "phases") ≡ false) where
    pub is_patterns : bytes_eq word (codes "patterns") ≡ true → cause_in (drop 1 words) ≡ cause_of_kind (drop 2 words) IsPatterns
    is_patterns d = by_kind (Some IsPatterns) (kind_is word false false true (bytes_eq word (codes "passed")) (bytes_eq word (codes "nopattern")) a b d refl refl)

    module _ (d : bytes_eq word (codes "patterns") ≡ false) where
      pub is_passed : bytes_eq word (codes "passed") ≡ true → cause_in (drop 1 words) ≡ cause_of_kind (drop 2 words) IsPassed
      is_passed e = by_kind (Some IsPassed) (kind_is word false false false true (bytes_eq word (codes "nopattern")) a b d e refl)

      pub is_no_pattern : bytes_eq word (codes "passed") ≡ false → bytes_eq word (codes "nopattern") ≡ true → cause_in (drop 1 words) ≡ cause_of_kind (drop 2 words) IsNoPattern
      is_no_pattern e f = by_kind (Some IsNoPattern) (kind_is word false false false false true a b d e f)

      pub is_other : bytes_eq word (codes "passed") ≡ false → bytes_eq word (codes "nopattern") ≡ false → cause_in (drop 1 words) ≡ Err P9
      is_other e f = by_kind None (kind_is word false false false false false a b d e f)
