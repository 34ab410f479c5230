-- The words of a first line, by their number.
use Rattle.std.proofs.Common.{◌≡◌, ◌≢◌, ℕ, false, List, length, refl, ap, ◌&&◌, bytes_eq, codes}
use Rattle.nf_text.specs.Within.{word_at}
use Rattle.nf_side_def.specs.Lines.{is_head}
use Rattle.nf_side.proofs.WordCounts.{two_words, unless_two}

pub head_count_wrong : (keyword : List ℕ) (words : List (List ℕ)) → length words ≢ 2 → is_head keyword words ≡ false
head_count_wrong keyword words n = unless_two (is_head keyword) false refl (λ _. refl) (λ _ _ _ _. refl) words n

pub head_is : (keyword : List ℕ) (words : List (List ℕ)) → length words ≡ 2 → is_head keyword words ≡ (bytes_eq (word_at words 0) keyword && bytes_eq (word_at words 1) (codes "1"))
head_is keyword words n = ap (is_head keyword) (two_words words n)
