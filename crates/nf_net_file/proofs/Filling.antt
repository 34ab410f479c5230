-- Loops that fill a list from another, entry by entry.
use Rattle.std.proofs.Common.{◌≡◌, ℕ, suc, ◌+◌, ◌<◌, ◌≤◌, List, [], ◌∷◌, ◌++◌, length, get_or, drop, sym, ◌∙◌, ap, append_assoc, add-one, drop-cons}
use Rattle.nf_net_file.proofs.Common.{append-nil, at_drop_all}

-- from this entry on
pub at_entry : {A : Type 0} (xs : List A) (i : ℕ) (x : A) → i < length xs → x ≡ get_or xs i x → drop i xs ≡ x ∷ drop (i + 1) xs
at_entry {A} xs i x below is = rw add-one (drop-cons xs i x below ∙ ap (λ (y : A). y ∷ drop (suc i) xs) (sym is))

-- where what is filled has grown by what this entry gives
pub filled : {A B : Type 0} (given : List A → List B) (xs : List A) (i : ℕ) (x : A) (front more new whole : List B) → new ≡ front ++ more → i < length xs → x ≡ get_or xs i x
    → given (x ∷ drop (i + 1) xs) ≡ more ++ given (drop (i + 1) xs) → front ++ given (drop i xs) ≡ whole → new ++ given (drop (i + 1) xs) ≡ whole
filled {B = B} given xs i x front more new whole grown below is step h =
    ap (λ (l : List B). l ++ given (drop (i + 1) xs)) grown ∙ append_assoc front more (given (drop (i + 1) xs))
    ∙ ap (λ (l : List B). front ++ l) (sym step ∙ ap given (sym (at_entry xs i x below is))) ∙ h

-- and at the end, where nothing is left
pub filled_all : {A B : Type 0} (given : List A → List B) (xs : List A) (i : ℕ) (front whole : List B) → length xs ≤ i → given [] ≡ []
    → front ++ given (drop i xs) ≡ whole → front ≡ whole
filled_all given xs i front whole past none h = sym (append-nil front) ∙ ap (λ (l : List _). front ++ l) (sym (at_drop_all given xs i past ∙ none)) ∙ h
