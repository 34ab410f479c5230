-- The words of versions.
use Rattle.std.proofs.Common.{◌≡◌, ◌⊎◌, inl, inr, ◌≢◌, ℕ, refl, sym, ◌∙◌, ap, codes}
use Rattle.nf_frac_words.specs.Digits.{digits_of}

pub one_digit : digits_of 1 ≡ codes "1"
unfolding digits_of
one_digit = refl

two_digit : digits_of 2 ≡ codes "2"
unfolding digits_of
two_digit = refl

pub first_version : (n : ℕ) → n ≡ 1 → codes "1" ≡ digits_of n
first_version n e = sym one_digit ∙ ap digits_of (sym e)

pub second_version : (n : ℕ) → (n ≡ 1) ⊎ (n ≡ 2) → n ≢ 1 → codes "2" ≡ digits_of n
second_version n (inl e) f = absurd (f e)
second_version n (inr e) f = sym two_digit ∙ ap digits_of (sym e)
