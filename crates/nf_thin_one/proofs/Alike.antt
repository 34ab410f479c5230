-- Patterns are compared link by link.
use Rattle.std.proofs.Common.{◌≡◌, ◌⊎◌, inl, inr, ℕ, ◌+◌, ◌<◌, sym, subst, arith, slice_get}
use Rattle.nf_thin_one.proofs.Common.{Pattern, before_or_at}

-- the first links have the same states
abbrev pub AreAlikeBelow : Pattern → Pattern → ℕ → Type 0
AreAlikeBelow one other n = (e : ℕ) → e < n → slice_get one e ≡ slice_get other e

pub alike_more : (one other : Pattern) (e : ℕ) → AreAlikeBelow one other e → slice_get one e ≡ slice_get other e → AreAlikeBelow one other (e + 1)
alike_more one other e so here k less = go (before_or_at k e (omega arith))
  where
    go : (k < e) ⊎ (k ≡ e) → slice_get one k ≡ slice_get other k
    go (inl b) = so k b
    go (inr s) = subst (λ (n : ℕ). slice_get one n ≡ slice_get other n) (sym s) here
