-- Lemmas of rows: the test for 0, entries other than 0, and what the entries of a pivot row take off.
use Rattle.std.proofs.Common.{◌≡◌, ℕ, zero, suc, ◌+◌, ◌<◌, ◌≤◌, List, [], ◌∷◌, ◌++◌, length, set, take, drop, get_or, replicate, Bool, true, false, refl}
use Rattle.std.proofs.Common.{sym, ap, subst, ◌∙◌, add-one, append_assoc, length-set, IsTrue, if◌then◌else◌, Ok, Err}
use Rattle.nf_linear.proofs.Common.{AllByRecursion, drop_of_length-le, length-map, drop_more, append-nil, map-append, take_more_set, ℚ, 0ℚ, Passing, Part}
use Rattle.nf_linear.proofs.Common.{PassedAt, Checked, at_part, fold_checked, ◌>>=◌, fold_ok, part_ok, less_unless, number_at, is_zero, is_zero-at, meant}
use Rattle.nf_linear.proofs.Common.{some_from, entry_less}
use Rattle.nf_rational_laws.proofs.SignTests.{zero_of_test}
use Rattle.nf_linear.proofs.Fronts.{stopped}

by_cases : (b t : Bool) (x : ℚ) → is_zero x ≡ t → (IsTrue b → x ≡ 0ℚ) → (x ≡ 0ℚ → IsTrue b) → b ≡ t
by_cases true true x e h k = refl
by_cases false false x e h k = refl
by_cases true false x e h k = let f = is_zero-at x (h refl) in absurd (cc)
by_cases false true x e h k = let f = k (zero_of_test x e) in absurd (cc)

pub tests_zero : (b : Bool) (x : ℚ) → (IsTrue b → x ≡ 0ℚ) → (x ≡ 0ℚ → IsTrue b) → b ≡ is_zero x
tests_zero b x h k = by_cases b (is_zero x) x refl h k

pub replicate_more : {A : Type 0} (n : ℕ) (x : A) → replicate n x ++ x ∷ [] ≡ replicate (suc n) x
replicate_more zero x = refl
replicate_more (suc n) x = ap (λ l. x ∷ l) (replicate_more n x)

-- a number inside a list
number_at-get_or : (xs : List ℚ) (i : ℕ) → number_at xs i ≡ get_or xs i 0ℚ
number_at-get_or [] i = refl
number_at-get_or (x ∷ xs) zero = refl
number_at-get_or (x ∷ xs) (suc i) = number_at-get_or xs i

pub drop_number : (xs : List ℚ) (i : ℕ) → i < length xs → drop i xs ≡ number_at xs i ∷ drop (i + 1) xs
drop_number xs i b = drop_more xs i 0ℚ b ∙ ap (λ x. x ∷ drop (i + 1) xs) (sym (number_at-get_or xs i))

some_at : (b : Bool) (i : ℕ) (x : ℚ) (rest : List (ℕ × ℚ)) → (if b then [] else (i, x) ∷ []) ++ rest ≡ (if b then rest else (i, x) ∷ rest)
some_at true i x rest = refl
some_at false i x rest = refl

pub some_more : (items : List (ℕ × ℚ)) (xs : List ℚ) (i : ℕ) (x : ℚ) → i < length xs → x ≡ number_at xs i
    → (items ++ (if is_zero x then [] else (i, x) ∷ [])) ++ some_from (i + 1) (drop (i + 1) xs) ≡ items ++ some_from i (drop i xs)
some_more items xs i x b e =
    append_assoc items (if is_zero x then [] else (i, x) ∷ []) (some_from (i + 1) (drop (i + 1) xs))
    ∙ ap (λ (l : List (ℕ × ℚ)). items ++ l)
    (some_at (is_zero x) i x (some_from (i + 1) (drop (i + 1) xs))
    ∙ ap (λ (k : ℕ). if is_zero x then some_from k (drop (i + 1) xs) else (i, x) ∷ some_from k (drop (i + 1) xs)) (add-one i)
    ∙ ap (λ (y : ℚ). some_from i (y ∷ drop (i + 1) xs)) e
    ∙ ap (some_from i) (sym (drop_number xs i b)))

pub all_some : (items : List (ℕ × ℚ)) (xs : List ℚ) (i : ℕ) (all : List (ℕ × ℚ)) → length xs ≤ i → items ++ some_from i (drop i xs) ≡ all → items ≡ all
all_some items xs i all end e = sym (append-nil items) ∙ ap (λ (l : List ℚ). items ++ some_from i l) (sym (drop_of_length-le xs end)) ∙ e

-- ---- entries by what their numbers mean
module _ {S : Type 0} (means : S → ℚ) where
  pub meant_below : (entries : List (ℕ × S)) (k : ℕ) → k < length entries → k < length (meant means entries)
  meant_below entries k b = subst (λ (n : ℕ). k < n) (sym (length-map entries (λ (e : ℕ × S). (e.0, means e.1)))) b

  pub meant_past : (entries : List (ℕ × S)) (k : ℕ) → length entries ≤ k → length (meant means entries) ≤ k
  meant_past entries k b = subst (λ (n : ℕ). n ≤ k) (sym (length-map entries (λ (e : ℕ × S). (e.0, means e.1)))) b

  pub meant_read : (entries : List (ℕ × S)) (k : ℕ) (entry : ℕ × S) → entry ≡ get_or entries k entry → (entry.0, means entry.1) ≡ get_or (meant means entries) k (entry.0, means entry.1)
  meant_read [] k entry e = refl
  meant_read (other ∷ entries) zero entry e = ap (λ (w : ℕ × S). (w.0, means w.1)) e
  meant_read (other ∷ entries) (suc k) entry e = meant_read entries k entry e

  -- one more entry, unless it is 0
  pub entry_pushed : (entries : List (ℕ × S)) (count column : ℕ) (x : S) (y : ℚ) (zero_so : Bool) → count < length entries → means x ≡ y → zero_so ≡ is_zero y → zero_so ≡ false
      → meant means (take (count + 1) (set entries count (column, x))) ≡ meant means (take count entries) ++ (if is_zero y then [] else (column, y) ∷ [])
  entry_pushed entries count column x y zero_so room same tested other =
      ap (meant means) (take_more_set entries count (column, x) room)
      ∙ map-append (λ (e : ℕ × S). (e.0, means e.1)) (take count entries) ((column, x) ∷ [])
      ∙ ap (λ (z : ℚ). meant means (take count entries) ++ (column, z) ∷ []) same
      ∙ ap (λ (b : Bool). meant means (take count entries) ++ (if b then [] else (column, y) ∷ [])) (sym other ∙ tested)

-- ---- what the entries of a pivot row take off, so far
pub record TakesOff (passes : Passing) (factor : ℚ) (others : List (ℕ × ℚ)) (before row : List ℚ) (k : ℕ) : Type 0 where
  pub fits : AllByRecursion (λ (other : ℕ × ℚ). other.0 < length row) (drop k others)
  pub same : at_part Part.Table (fold_checked (entry_less passes factor) row (drop k others)) ≡ at_part Part.Table (fold_checked (entry_less passes factor) before others)

pub takes_first : (passes : Passing) (factor : ℚ) (others : List (ℕ × ℚ)) (before : List ℚ)
    → AllByRecursion (λ (other : ℕ × ℚ). other.0 < length before) others → TakesOff passes factor others before before 0
takes_first passes factor others before fits = record { fits = fits; same = refl }

pub takes_all : (passes : Passing) (factor : ℚ) (others : List (ℕ × ℚ)) (before row : List ℚ) (k : ℕ) → length others ≤ k → TakesOff passes factor others before row k
    → Ok row ≡ at_part Part.Table (fold_checked (entry_less passes factor) before others)
takes_all passes factor others before row k end h =
    ap (λ (l : List (ℕ × ℚ)). at_part Part.Table (fold_checked (entry_less passes factor) row l)) (sym (drop_of_length-le others end)) ∙ h.same

pub next_other : (others : List (ℕ × ℚ)) (k : ℕ) (e : ℕ × ℚ) (column : ℕ) (p : ℚ) → k < length others → e ≡ get_or others k e → (column, p) ≡ e
    → drop k others ≡ (column, p) ∷ drop (k + 1) others
next_other others k e column p b is seen = drop_more others k e b ∙ ap (λ (w : ℕ × ℚ). w ∷ drop (k + 1) others) (sym is ∙ sym seen)

pub fits_next : (passes : Passing) (factor : ℚ) (others : List (ℕ × ℚ)) (before row : List ℚ) (k : ℕ) (e : ℕ × ℚ) (column : ℕ) (p : ℚ)
    → k < length others → e ≡ get_or others k e → (column, p) ≡ e → TakesOff passes factor others before row k → column < length row
fits_next passes factor others before row k e column p b is seen h =
    (subst (λ (l : List (ℕ × ℚ)). AllByRecursion (λ (other : ℕ × ℚ). other.0 < length row) l) (next_other others k e column p b is seen) h.fits).0

pub takes_stops : (passes : Passing) (factor : ℚ) (others : List (ℕ × ℚ)) (before row : List ℚ) (k : ℕ) (e : ℕ × ℚ) (column : ℕ) (p x : ℚ) (q : PassedAt ℚ)
    → k < length others → e ≡ get_or others k e → (column, p) ≡ e → x ≡ number_at row column → Err q ≡ at_part Part.Table (less_unless passes false factor p x)
    → TakesOff passes factor others before row k → Err q ≡ at_part Part.Table (fold_checked (entry_less passes factor) before others)
takes_stops passes factor others before row k e column p x q b is seen value stop h =
    let first : at_part Part.Table (less_unless passes false factor p (number_at row column)) ≡ Err q =
    ap (λ (w : ℚ). at_part Part.Table (less_unless passes false factor p w)) (sym value) ∙ sym stop in
    let here : at_part Part.Table (entry_less passes factor row (column, p)) ≡ Err q =
    stopped Part.Table (less_unless passes false factor p (number_at row column)) (λ y. Ok (set row column y)) q first in
    sym (sym h.same ∙ ap (λ (l : List (ℕ × ℚ)). at_part Part.Table (fold_checked (entry_less passes factor) row l)) (next_other others k e column p b is seen)
    ∙ stopped Part.Table (entry_less passes factor row (column, p)) (λ next. fold_checked (entry_less passes factor) next (drop (k + 1) others)) q here)

pub takes_more : (passes : Passing) (factor : ℚ) (others : List (ℕ × ℚ)) (before row : List ℚ) (k : ℕ) (e : ℕ × ℚ) (column : ℕ) (p x y : ℚ) (after : List ℚ)
    → k < length others → e ≡ get_or others k e → (column, p) ≡ e → x ≡ number_at row column → Ok y ≡ at_part Part.Table (less_unless passes false factor p x) → after ≡ set row column y
    → TakesOff passes factor others before row k → TakesOff passes factor others before after (k + 1)
takes_more passes factor others before row k e column p x y after b is seen value gives made h =
    let split : drop k others ≡ (column, p) ∷ drop (k + 1) others = next_other others k e column p b is seen in
    let long : length after ≡ length row = ap (length {A = ℚ}) made ∙ length-set row column y in
    let given : less_unless passes false factor p (number_at row column) ≡ Ok y = ap (λ (w : ℚ). less_unless passes false factor p w) (sym value)
    ∙ part_ok Part.Table (less_unless passes false factor p x) y gives in
    let step : entry_less passes factor row (column, p) ≡ Ok after = ap (λ (r : Checked ℚ). r >>= λ y. Ok (set row column y)) given ∙ ap Ok (sym made) in
    record {
      fits = subst (λ (n : ℕ). AllByRecursion (λ (other : ℕ × ℚ). other.0 < n) (drop (k + 1) others)) (sym long)
          (subst (λ (l : List (ℕ × ℚ)). AllByRecursion (λ (other : ℕ × ℚ). other.0 < length row) l) split h.fits).1;
      same = ap (at_part Part.Table) (sym (ap (λ (l : List (ℕ × ℚ)). fold_checked (entry_less passes factor) row l) split
          ∙ fold_ok (entry_less passes factor) row (column, p) (drop (k + 1) others) after step)) ∙ h.same;
    }
