-- Lines of a text built in memory.
use Rattle.std.proofs.Common.{◌≡◌, ℕ, suc, ◌+◌, ◌≤◌, List, [], ◌∷◌, ◌++◌, length, take, drop, map, refl, sym, ap, ◌∙◌, append_assoc, append-nil, zero-add}
use Rattle.std.proofs.Common.{add-one, Some, slice_get, flat_map, codes}
use Rattle.nf_app_answers.proofs.Common.{enumerate_from, drop_all, length-enumerate_from, line_of_words, after_words, line_joined, next_part, all_parts}
use Rattle.nf_thin_laws.proofs.Ending.{enumerated}
use Rattle.nf_rational_laws.proofs.Entries.{drop_entry}

-- a line, in pieces
pub line_put : (o o1 o2 o3 o4 key number : List ℕ) (words : List (List ℕ)) → o1 ≡ o ++ key → o2 ≡ o1 ++ 32 ∷ number → o3 ≡ o2 ++ after_words words → o4 ≡ o3 ++ 10 ∷ []
    → o4 ≡ o ++ line_of_words (key ∷ number ∷ words)
line_put o o1 o2 o3 o4 key number words h1 h2 h3 h4 =
    h4 ∙ ap (λ (l : List ℕ). l ++ 10 ∷ []) (h3 ∙ ap (λ (l : List ℕ). l ++ after_words words) (h2 ∙ ap (λ (l : List ℕ). l ++ 32 ∷ number) h1))
    ∙ ap (λ (l : List ℕ). (l ++ after_words words) ++ 10 ∷ []) (append_assoc o key (32 ∷ number))
    ∙ ap (λ (l : List ℕ). l ++ 10 ∷ []) (append_assoc o (key ++ 32 ∷ number) (after_words words))
    ∙ append_assoc o ((key ++ 32 ∷ number) ++ after_words words) (10 ∷ [])
    ∙ ap (λ (l : List ℕ). o ++ (l ++ 10 ∷ [])) (append_assoc key (32 ∷ number) (after_words words))
    ∙ ap (λ (l : List ℕ). o ++ l) (line_joined key (number ∷ words) ∙ append-nil (line_of_words (key ∷ number ∷ words)))

-- the line of a run that stopped, with its first two words as one
pub stopped_put : (words : List (List ℕ)) → flat_map line_of_words ((codes "equilibrium stopped" ∷ words) ∷ []) ≡ line_of_words (codes "equilibrium" ∷ codes "stopped" ∷ words)
stopped_put [] = refl
stopped_put (word ∷ words) = append-nil (line_of_words (codes "equilibrium stopped" ∷ word ∷ words))

-- ---- a text for each element of a list, with its number
module _ {A : Type 0} (f : ℕ × A → List ℕ) (xs : List A) (old : List ℕ) where
  pub numbered_more : (i : ℕ) (x : A) (now next : List ℕ) → slice_get xs i ≡ Some x → now ≡ old ++ flat_map f (take i (enumerate_from 0 xs)) → next ≡ now ++ f (i, x)
      → next ≡ old ++ flat_map f (take (i + 1) (enumerate_from 0 xs))
  numbered_more i x now next is h k =
      k ∙ ap (λ (l : List ℕ). l ++ f (i, x)) h ∙ append_assoc old (flat_map f (take i (enumerate_from 0 xs))) (f (i, x))
      ∙ ap (λ (l : List ℕ). old ++ l) (next_part f (enumerate_from 0 xs) i (i, x) (enumerated 0 xs i x is ∙ ap (λ (n : ℕ). Some (n, x)) (zero-add i)))

  pub numbered_all : (i : ℕ) (now : List ℕ) → i ≡ length xs → now ≡ old ++ flat_map f (take i (enumerate_from 0 xs)) → now ≡ old ++ flat_map f (enumerate_from 0 xs)
  numbered_all i now end h = h ∙ ap (λ (l : List ℕ). old ++ l) (all_parts f (enumerate_from 0 xs) i (end ∙ sym (length-enumerate_from 0 xs)))

-- ---- a text for each element of a list, and what is left of it
module _ {A : Type 0} (f : A → List ℕ) (xs : List A) where
  part_suc : (i : ℕ) (x : A) (now next all : List ℕ) → slice_get xs i ≡ Some x → now ++ flat_map f (drop i xs) ≡ all → next ≡ now ++ f x → next ++ flat_map f (drop (suc i) xs) ≡ all
  part_suc i x now next all at h k =
      ap (λ (l : List ℕ). l ++ flat_map f (drop (suc i) xs)) k ∙ append_assoc now (f x) (flat_map f (drop (suc i) xs))
      ∙ ap (λ (l : List A). now ++ flat_map f l) (sym (drop_entry xs i x at)) ∙ h

  pub part_more : (i : ℕ) (x : A) (now next all : List ℕ) → slice_get xs i ≡ Some x → now ++ flat_map f (drop i xs) ≡ all → next ≡ now ++ f x → next ++ flat_map f (drop (i + 1) xs) ≡ all
  part_more i x now next all at h k = ap (λ (n : ℕ). next ++ flat_map f (drop n xs)) (add-one i) ∙ part_suc i x now next all at h k

  pub part_ends : (i : ℕ) (now all : List ℕ) → length xs ≤ i → now ++ flat_map f (drop i xs) ≡ all → now ≡ all
  part_ends i now all end h = sym (append-nil now) ∙ ap (λ (l : List A). now ++ flat_map f l) (sym (drop_all i xs end)) ∙ h

  word_suc : (i : ℕ) (x : A) (now next all : List ℕ) → slice_get xs i ≡ Some x → now ++ after_words (map f (drop i xs)) ≡ all → next ≡ now ++ 32 ∷ f x
      → next ++ after_words (map f (drop (suc i) xs)) ≡ all
  word_suc i x now next all at h k =
      ap (λ (l : List ℕ). l ++ after_words (map f (drop (suc i) xs))) k ∙ append_assoc now (32 ∷ f x) (after_words (map f (drop (suc i) xs)))
      ∙ ap (λ (l : List A). now ++ after_words (map f l)) (sym (drop_entry xs i x at)) ∙ h

  pub word_more : (i : ℕ) (x : A) (now next all : List ℕ) → slice_get xs i ≡ Some x → now ++ after_words (map f (drop i xs)) ≡ all → next ≡ now ++ 32 ∷ f x
      → next ++ after_words (map f (drop (i + 1) xs)) ≡ all
  word_more i x now next all at h k = ap (λ (n : ℕ). next ++ after_words (map f (drop n xs))) (add-one i) ∙ word_suc i x now next all at h k

  pub word_ends : (i : ℕ) (now all : List ℕ) → length xs ≤ i → now ++ after_words (map f (drop i xs)) ≡ all → now ≡ all
  word_ends i now all end h = sym (append-nil now) ∙ ap (λ (l : List A). now ++ after_words (map f l)) (sym (drop_all i xs end)) ∙ h
