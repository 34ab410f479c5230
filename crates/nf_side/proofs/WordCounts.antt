-- Words of a line, by their number.
use Rattle.std.proofs.Common.{◌≡◌, ◌≢◌, ℕ, ◌<◌, List, [], ◌∷◌, length, refl, arith}
use Rattle.nf_text.specs.Within.{word_at}

-- ---- so many words are those at their places
pub one_word : (words : List (List ℕ)) → length words ≡ 1 → words ≡ word_at words 0 ∷ []
one_word [] n = absurd (omega arith)
one_word (a ∷ []) n = refl
one_word (a ∷ b ∷ rest) n = absurd (omega arith)

pub two_words : (words : List (List ℕ)) → length words ≡ 2 → words ≡ word_at words 0 ∷ word_at words 1 ∷ []
two_words [] n = absurd (omega arith)
two_words (a ∷ []) n = absurd (omega arith)
two_words (a ∷ b ∷ []) n = refl
two_words (a ∷ b ∷ c ∷ rest) n = absurd (omega arith)

pub three_words : (words : List (List ℕ)) → length words ≡ 3 → words ≡ word_at words 0 ∷ word_at words 1 ∷ word_at words 2 ∷ []
three_words [] n = absurd (omega arith)
three_words (a ∷ []) n = absurd (omega arith)
three_words (a ∷ b ∷ []) n = absurd (omega arith)
three_words (a ∷ b ∷ c ∷ []) n = refl
three_words (a ∷ b ∷ c ∷ d ∷ rest) n = absurd (omega arith)

pub four_words : (words : List (List ℕ)) → length words ≡ 4 → words ≡ word_at words 0 ∷ word_at words 1 ∷ word_at words 2 ∷ word_at words 3 ∷ []
four_words [] n = absurd (omega arith)
four_words (a ∷ []) n = absurd (omega arith)
four_words (a ∷ b ∷ []) n = absurd (omega arith)
four_words (a ∷ b ∷ c ∷ []) n = absurd (omega arith)
four_words (a ∷ b ∷ c ∷ d ∷ []) n = refl
four_words (a ∷ b ∷ c ∷ d ∷ e ∷ rest) n = absurd (omega arith)

-- ---- what comes of another number of words, where all others come to the same
module _ {A : Type 0} (f : List (List ℕ) → A) (other : A) where
  pub unless_one : ((a b : List ℕ) (rest : List (List ℕ)) → f (a ∷ b ∷ rest) ≡ other) → (words : List (List ℕ)) → 0 < length words → length words ≢ 1 → f words ≡ other
  unless_one more [] some n = absurd (omega arith)
  unless_one more (a ∷ []) some n = absurd (n refl)
  unless_one more (a ∷ b ∷ rest) some n = more a b rest

  module _ (none : f [] ≡ other) (one : (a : List ℕ) → f (a ∷ []) ≡ other) where
    pub unless_two : ((a b c : List ℕ) (rest : List (List ℕ)) → f (a ∷ b ∷ c ∷ rest) ≡ other) → (words : List (List ℕ)) → length words ≢ 2 → f words ≡ other
    unless_two more [] n = none
    unless_two more (a ∷ []) n = one a
    unless_two more (a ∷ b ∷ []) n = absurd (n refl)
    unless_two more (a ∷ b ∷ c ∷ rest) n = more a b c rest

    module _ (two : (a b : List ℕ) → f (a ∷ b ∷ []) ≡ other) where
      pub unless_three : ((a b c d : List ℕ) (rest : List (List ℕ)) → f (a ∷ b ∷ c ∷ d ∷ rest) ≡ other) → (words : List (List ℕ)) → length words ≢ 3 → f words ≡ other
      unless_three more [] n = none
      unless_three more (a ∷ []) n = one a
      unless_three more (a ∷ b ∷ []) n = two a b
      unless_three more (a ∷ b ∷ c ∷ []) n = absurd (n refl)
      unless_three more (a ∷ b ∷ c ∷ d ∷ rest) n = more a b c d rest

      pub unless_four : ((a b c : List ℕ) → f (a ∷ b ∷ c ∷ []) ≡ other) → ((a b c d e : List ℕ) (rest : List (List ℕ)) → f (a ∷ b ∷ c ∷ d ∷ e ∷ rest) ≡ other)
          → (words : List (List ℕ)) → length words ≢ 4 → f words ≡ other
      unless_four three more [] n = none
      unless_four three more (a ∷ []) n = one a
      unless_four three more (a ∷ b ∷ []) n = two a b
      unless_four three more (a ∷ b ∷ c ∷ []) n = three a b c
      unless_four three more (a ∷ b ∷ c ∷ d ∷ []) n = absurd (n refl)
      unless_four three more (a ∷ b ∷ c ∷ d ∷ e ∷ rest) n = more a b c d e rest
