-- The row of a link, number by number.
use Rattle.std.proofs.Common.{◌≡◌, ℕ, ◌<◌, [], ◌∷◌, List, length, set, Bool, true, not, eqb, sym, ap, subst, ◌∙◌, if◌then◌else◌, unwrap_or}
use Rattle.nf_thin_one.proofs.Common.{not-true, ℚ, 0ℚ, 1ℚ, neg_ℚ, Link, Row, row_at, ChangesRow, with_entries, tight_entries, full_entries}
use Rattle.nf_thin_one.proofs.Cells.{none_changes, number_changes, two_changes}

module _ (old once twice : List Row) (i : ℕ) (link : Link) where
  pub full_changes : (j : ℕ) (x y : ℚ) → i < length old → once ≡ set old i (set (row_at old i) j x) → twice ≡ set once i (set (row_at once i) i y)
      → x ≡ neg_ℚ (unwrap_or link.capacity 0ℚ) → y ≡ 1ℚ → j ≡ link.head → ChangesRow old twice i (with_entries (row_at old i) (full_entries i link))
  full_changes j x y h a b negative one head =
      two_changes old once twice i link.head i (neg_ℚ (unwrap_or link.capacity 0ℚ)) 1ℚ h
      (a ∙ (λ k. set old i (set (row_at old i) (head k) (negative k)))) (b ∙ (λ k. set once i (set (row_at once i) i (one k))))

  pub tight_changes : (j k : ℕ) (x y : ℚ) → i < length old → not (eqb link.head link.tail) ≡ true → j ≡ link.head → k ≡ link.tail → x ≡ 1ℚ → y ≡ neg_ℚ 1ℚ
      → once ≡ set old i (set (row_at old i) j x) → twice ≡ set once i (set (row_at once i) k y)
      → ChangesRow old twice i (with_entries (row_at old i) (tight_entries link))
  tight_changes j k x y h other head tail one negative a b =
      subst (λ (b : Bool). ChangesRow old twice i (with_entries (row_at old i) (if b then [] else (link.head, 1ℚ) ∷ (link.tail, neg_ℚ 1ℚ) ∷ [])))
      (sym (not-true (eqb link.head link.tail) other))
      (two_changes old once twice i link.head link.tail 1ℚ (neg_ℚ 1ℚ) h
      (a ∙ (λ n. set old i (set (row_at old i) (head n) (one n)))) (b ∙ (λ n. set once i (set (row_at once i) (tail n) (negative n)))))

pub zero_changes : (old new : List Row) (i : ℕ) (y : ℚ) → i < length old → y ≡ 1ℚ → new ≡ set old i (set (row_at old i) i y) → ChangesRow old new i (set (row_at old i) i 1ℚ)
zero_changes old new i y h one a = number_changes old old new i i (row_at old i) 1ℚ h (none_changes old i) (a ∙ ap (λ (z : ℚ). set old i (set (row_at old i) i z)) one)
