-- Properties of each row of a table, and the number of rows.
use Rattle.std.proofs.Common.{◌≡◌, ◌≢◌, ℕ, zero, suc, ◌+◌, ◌<◌, ◌≤◌, List, [], ◌∷◌, ◌++◌, length, map, filter, ⊎_elim, Bool, true, false, not, cond, if◌then◌else◌, eqb, refl, sym, ap, subst, ◌∙◌, arith}
use Rattle.std.specs.Prelude.{Some, slice_get, unwrap_or}
use Rattle.std.specs.List.{range_with_len, flat_map, enumerate_from}
use Rattle.std.proofs.lemmas.Bool.Decides.{eqb_tells}
use Rattle.std.proofs.lemmas.Option.{none-some, same_Some}
use Rattle.nf_model.specs.Network.{Link}
use Rattle.nf_linear_def.specs.Table.{Row, row_at}
use Rattle.nf_thin_def.specs.Equations.{active_from}

module _ (P : Row → Type 0) where
  abbrev pub Each : List Row → Type 0
  Each [] = Unit {0}
  Each (row ∷ rows) = P row × Each rows

  pub each_at : (rows : List Row) → Each rows → (i : ℕ) → i < length rows → P (row_at rows i)
  each_at [] h i b = absurd (omega arith)
  each_at (row ∷ rows) h zero b = h.0
  each_at (row ∷ rows) h (suc i) b = each_at rows h.1 i (omega arith)

  pub each_of : (rows : List Row) → ((i : ℕ) → i < length rows → P (row_at rows i)) → Each rows
  each_of [] f = tt
  each_of (row ∷ rows) f = (f 0 (omega arith), each_of rows (λ i b. f (suc i) (omega arith)))

  pub each-append : (rows others : List Row) → Each rows → Each others → Each (rows ++ others)
  each-append [] others h k = k
  each-append (row ∷ rows) others h k = (h.0, each-append rows others h.1 k)

  pub each-first : (rows others : List Row) → Each (rows ++ others) → Each rows
  each-first [] others h = tt
  each-first (row ∷ rows) others h = (h.0, each-first rows others h.1)

  pub each-second : (rows others : List Row) → Each (rows ++ others) → Each others
  each-second [] others h = h
  each-second (row ∷ rows) others h = each-second rows others h.1

  -- ---- a row for each number except one
  module _ (f : ℕ → Row) (left_out : ℕ) where
    abbrev pub is_kept : ℕ → Bool
    is_kept v = not (eqb v left_out)

    picked : (b : Bool) (v : ℕ) (rest : List ℕ) → (b ≡ true → P (f v)) → Each (map f rest) → Each (map f (cond b (v ∷ rest) rest))
    picked true v rest h k = (h refl, k)
    picked false v rest h k = k

    picked_first : (b : Bool) (v : ℕ) (rest : List ℕ) → b ≡ true → Each (map f (cond b (v ∷ rest) rest)) → P (f v)
    picked_first true v rest e h = h.0
    picked_first false v rest e h = absurd (cc)

    picked_rest : (b : Bool) (v : ℕ) (rest : List ℕ) → Each (map f (cond b (v ∷ rest) rest)) → Each (map f rest)
    picked_rest true v rest h = h.1
    picked_rest false v rest h = h

    kept_apart : (v : ℕ) → is_kept v ≡ true → v ≢ left_out
    kept_apart v e = ⊎_elim
        (λ (h : (eqb v left_out ≡ true) × (v ≡ left_out)). absurd (no (sym (ap not h.0) ∙ e)))
        (λ (h : (eqb v left_out ≡ false) × (v ≢ left_out)). h.1) (eqb_tells v left_out)
      where
        no : false ≡ true → ⊥
        no e = cc

    apart_kept : (v : ℕ) → v ≢ left_out → is_kept v ≡ true
    apart_kept v n = ⊎_elim
        (λ (h : (eqb v left_out ≡ true) × (v ≡ left_out)). absurd (n h.1))
        (λ (h : (eqb v left_out ≡ false) × (v ≢ left_out)). ap not h.0) (eqb_tells v left_out)

    pub numbers_each : (n k : ℕ) → ((v : ℕ) → k ≤ v → v < k + n → v ≢ left_out → P (f v)) → Each (map f (filter is_kept (range_with_len k n)))
    numbers_each zero k h = tt
    numbers_each (suc n) k h = picked (is_kept k) k (filter is_kept (range_with_len (k + 1) n)) (λ e. h k (omega arith) (omega arith) (kept_apart k e))
        (numbers_each n (k + 1) (λ v low high apart. h v (omega arith) (omega arith) apart))

    pub numbers_at : (n k : ℕ) → Each (map f (filter is_kept (range_with_len k n))) → (v : ℕ) → k ≤ v → v < k + n → v ≢ left_out → P (f v)
    numbers_at zero k h v low high apart = absurd (omega arith)
    numbers_at (suc n) k h v low high apart = ⊎_elim
        (λ (e : (eqb v k ≡ true) × (v ≡ k)). picked_here e.1)
        (λ (e : (eqb v k ≡ false) × (v ≢ k)). (let other = e.1 in numbers_at n (k + 1)
        (picked_rest (is_kept k) k (filter is_kept (range_with_len (k + 1) n)) h) v (later other) (omega arith) apart))
        (eqb_tells v k)
      where
        later : v ≢ k → k + 1 ≤ v
        later other = omega arith

        picked_here : v ≡ k → P (f v)
        picked_here same = subst (λ (w : ℕ). P (f w)) (sym same) (picked_first (is_kept k) k (filter is_kept (range_with_len (k + 1) n)) (apart_kept k (λ e. apart (same ∙ e))) h)

  -- ---- a row for each link with a set flag
  module _ (set : ℕ → Bool) (f : ℕ → Link → Row) where
    abbrev pub rows_if : ℕ × Link → List Row
    rows_if (e, link) = if set e then f e link ∷ [] else []

    if_each : (b : Bool) (row : Row) → (b ≡ true → P row) → Each (if b then row ∷ [] else [])
    if_each true row h = (h refl, tt)
    if_each false row h = tt

    if_at : (b : Bool) (row : Row) → b ≡ true → Each (if b then row ∷ [] else []) → P row
    if_at true row e h = h.0
    if_at false row e h = absurd (cc)

    pub links_each : (links : List Link) (k : ℕ) → ((i e : ℕ) (link : Link) → e ≡ k + i → slice_get links i ≡ Some link → set e ≡ true → P (f e link))
        → Each (flat_map rows_if (enumerate_from k links))
    links_each [] k h = tt
    links_each (link ∷ links) k h = each-append (rows_if (k, link)) (flat_map rows_if (enumerate_from (k + 1) links)) (if_each (set k) (f k link) (λ s. h 0 k link (omega arith) refl s))
        (links_each links (k + 1) (λ i e l same at s. h (suc i) e l (omega arith) at s))

    pub links_at : (links : List Link) (k : ℕ) → Each (flat_map rows_if (enumerate_from k links)) → (i e : ℕ) (link : Link) → e ≡ k + i
        → slice_get links i ≡ Some link → set e ≡ true → P (f e link)
    links_at [] k h i e link same at s = absurd (none-some link at)
    links_at (l ∷ links) k h zero e link same at s =
        let here : k ≡ e = omega arith in
        subst (λ (j : ℕ). P (f j link)) here (subst (λ (m : Link). P (f k m)) (same_Some l link at)
        (if_at (set k) (f k l) (ap set here ∙ s) (each-first (rows_if (k, l)) (flat_map rows_if (enumerate_from (k + 1) links)) h)))
    links_at (l ∷ links) k h (suc i) e link same at s = links_at links (k + 1)
        (each-second (rows_if (k, l)) (flat_map rows_if (enumerate_from (k + 1) links)) h) i e link (omega arith) at s

-- ---- the number of rows
-- The numbers below a bound, without one of them.
filtered_before : (n k w : ℕ) → w < k → length (filter (λ v. not (eqb v w)) (range_with_len k n)) ≡ n
filtered_before zero k w h = refl
filtered_before (suc n) k w h = ⊎_elim
    (λ (e : (eqb k w ≡ true) × (k ≡ w)). (let s = e.1 in absurd (same s)))
    (λ (e : (eqb k w ≡ false) × (k ≢ w)). ap (λ (b : Bool). length (cond (not b) (k ∷ filter (λ v. not (eqb v w)) (range_with_len (k + 1) n))
    (filter (λ v. not (eqb v w)) (range_with_len (k + 1) n)))) e.0
    ∙ ap suc (filtered_before n (k + 1) w (omega arith)))
    (eqb_tells k w)
  where
    same : k ≡ w → ⊥
    same s = absurd (omega arith)

pub filtered-length : (n k w : ℕ) → k ≤ w → w < k + n → suc (length (filter (λ v. not (eqb v w)) (range_with_len k n))) ≡ n
filtered-length zero k w low high = absurd (omega arith)
filtered-length (suc n) k w low high = ⊎_elim
    (λ (e : (eqb k w ≡ true) × (k ≡ w)). ap (λ (b : Bool). suc (length (cond (not b) (k ∷ filter (λ v. not (eqb v w)) (range_with_len (k + 1) n))
    (filter (λ v. not (eqb v w)) (range_with_len (k + 1) n))))) e.0
    ∙ ap suc (filtered_before n (k + 1) w (after e.1)))
    (λ (e : (eqb k w ≡ false) × (k ≢ w)). ap (λ (b : Bool). suc (length (cond (not b) (k ∷ filter (λ v. not (eqb v w)) (range_with_len (k + 1) n))
    (filter (λ v. not (eqb v w)) (range_with_len (k + 1) n))))) e.0
    ∙ ap suc (filtered-length n (k + 1) w (later e.1) (omega arith)))
    (eqb_tells k w)
  where
    after : k ≡ w → w < k + 1
    after s = omega arith

    later : k ≢ w → k + 1 ≤ w
    later n = omega arith

-- The rows for links with a set flag are as many as the active links.
module _ (set : ℕ → Bool) (f : ℕ → Link → Row) where
  abbrev set_rows : ℕ → List Link → List Row
  set_rows k links = flat_map (λ (p : ℕ × Link). if set p.0 then f p.0 p.1 ∷ [] else []) (enumerate_from k links)

  one_more : (b : Bool) (j : ℕ) (active : List Bool) (row : Row) (rows : List Row) → length rows ≡ length (active_from (suc j) active)
      → length ((if b then row ∷ [] else []) ++ rows) ≡ length (active_from j (b ∷ active))
  one_more true j active row rows e = ap suc e
  one_more false j active row rows e = e

  pub set_rows-length : (links : List Link) (active : List Bool) (k j : ℕ) → length active ≡ length links → ((i e : ℕ) → e ≡ k + i → set e ≡ unwrap_or (slice_get active i) false)
      → length (set_rows k links) ≡ length (active_from j active)
  set_rows-length [] [] k j same h = refl
  set_rows-length [] (b ∷ active) k j same h = absurd (cc)
  set_rows-length (link ∷ links) [] k j same h = absurd (cc)
  set_rows-length (link ∷ links) (b ∷ active) k j same h =
      ap (λ (c : Bool). length ((if c then f k link ∷ [] else []) ++ set_rows (k + 1) links)) (h 0 k (omega arith))
      ∙ one_more b j active (f k link) (set_rows (k + 1) links) (set_rows-length links active (k + 1) (suc j) (cc) (λ i e s. h (suc i) e (omega arith)))
