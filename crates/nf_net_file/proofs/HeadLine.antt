-- The words of the first line.
use Rattle.std.proofs.Common.{◌≡◌, ◌≢◌, ℕ, cond, ◌&&◌, List, [], ◌∷◌, length, Some, None, refl, arith, codes, bytes_eq}
use Rattle.nf_net_file.proofs.Common.{version_of, word_at}

pub head_count_wrong : (words : List (List ℕ)) → length words ≢ 2 → version_of words ≡ None
head_count_wrong [] n = refl
head_count_wrong (a ∷ []) n = refl
head_count_wrong (a ∷ b ∷ []) n = absurd (n refl)
head_count_wrong (a ∷ b ∷ c ∷ rest) n = refl

pub head_is : (words : List (List ℕ)) → length words ≡ 2 → version_of words ≡
    cond (bytes_eq (word_at words 0) (codes "nfot") && bytes_eq (word_at words 1) (codes "1")) (Some 1)
    (cond (bytes_eq (word_at words 0) (codes "nfot") && bytes_eq (word_at words 1) (codes "2")) (Some 2) None)
head_is [] n = absurd (omega arith)
head_is (a ∷ []) n = absurd (omega arith)
head_is (a ∷ b ∷ []) n = refl
head_is (a ∷ b ∷ c ∷ rest) n = absurd (omega arith)
