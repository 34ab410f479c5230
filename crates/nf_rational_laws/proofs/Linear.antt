-- Linear arithmetic of rational numbers, with the multipliers found by computation (Gauss for equations, Fourier and Motzkin for orders) and then checked.
--     linear_le ρ facts (search reading_of) tt : x ≤ y, and likewise linear_lt, linear_eq and linear_false
-- ρ lists the atoms; `facts` is a list of `le h`, `lt h`, `eq h` and `le_times nonneg h`.
-- The search's default depth of 5 finds nearly every term; a few need `(search reading_of depth 12)`.
use Rattle.std.proofs.Common.{◌≡◌, ℕ, zero, suc, ◌+◌, ◌*◌, ltb, List, [], ◌∷◌, ◌++◌, ⊎_elim, Bool, true, false, not, cond, ◌&&◌, ◌||◌, T, refl, sym, ◌∙◌}
use Rattle.std.proofs.Common.{ap}
use Rattle.nf_rational_laws.proofs.Common.{ℚ, 0ℚ, whole, ◌+ℚ◌, ◌-ℚ◌, ◌*ℚ◌, ◌≤ℚ◌, ◌<ℚ◌}
use mathlib.Core.Path.{ap₂}
use lib.IntN.{ℤ, pos, negsuc, ◌+ℤ◌, ◌*ℤ◌, neg_ℤ}
use Rattle.nf_rational_laws.proofs.Polynomial.{sub, mul, Poly, none, term, norm, norm-is, value, is_nil, Reads, code, code-is, ring, reading, r_of, join}
use Rattle.nf_rational_laws.proofs.Polynomial.{scale, join-is, scale-is, same_list}
use Rattle.nf_rational_laws.proofs.Field.{rationals}
use Rattle.nf_rational_laws.proofs.Order.{less_nn, less_ps, nn_plus, ps_plus, nn_times, ps_times, lt_or_le_ℚ, <ℚ_irrefl, ≤ℚ_of_lt, ≤ℚ_of_same, ≤ℚ_antisymm}
use Rattle.nf_rational_laws.proofs.Signs.{no_less, more, no_less-is, more-is, not_negative, above, and_left, and_right, or_cases, along_nn, along_ps}
use Rattle.nf_rational_laws.proofs.Signs.{nn_plus_ps, not_negative-is, above-is, times_one, read_less, zero_from_same, times_zero}

-- ---- rows: a polynomial that is at least 0, above 0, or 0
pub data Kind : Type 0 where
  k_le : Kind
  k_lt : Kind
  k_eq : Kind

pub data Row : Type 0 where
  row : Kind → Poly → Row

abbrev pub Sound : List ℚ → Row → Type 0
Sound ρ (row k_le p) = 0ℚ ≤ℚ value rationals ρ p
Sound ρ (row k_lt p) = 0ℚ <ℚ value rationals ρ p
Sound ρ (row k_eq p) = value rationals ρ p ≡ 0ℚ

abbrev pub Holds : List ℚ → List Row → Type 0
Holds ρ [] = Unit {0}
Holds ρ (r ∷ rs) = Sound ρ r × Holds ρ rs

abbrev pub total : List Row → List ℤ → Poly
total [] ms = none
total (r ∷ rs) [] = none
total (row k p ∷ rs) (m ∷ ms) = join (scale m [] p) (total rs ms)

abbrev pub allowed : Kind → ℤ → Bool
allowed k_le m = not_negative m
allowed k_lt m = not_negative m
allowed k_eq m = true

abbrev pub valid : List Row → List ℤ → Bool
valid [] ms = true
valid (r ∷ rs) [] = true
valid (row k p ∷ rs) (m ∷ ms) = allowed k m && valid rs ms

abbrev pub sharp : Kind → ℤ → Bool
sharp k_le m = false
sharp k_lt m = above m
sharp k_eq m = false

abbrev pub strict : List Row → List ℤ → Bool
strict [] ms = false
strict (r ∷ rs) [] = false
strict (row k p ∷ rs) (m ∷ ms) = sharp k m || strict rs ms

abbrev pub minus : Poly → Poly
minus p = scale (negsuc 0) [] p

abbrev pub contradicts : List Row → List ℤ → Bool
contradicts rs ms = valid rs ms && (no_less (minus (total rs ms)) && (strict rs ms || more (minus (total rs ms))))

-- ---- a sum of rows keeps the sign
scaled : (ρ : List ℚ) (m : ℤ) (p : Poly) → value rationals ρ (scale m [] p) ≡ whole m *ℚ value rationals ρ p
scaled ρ m p = scale-is rationals ρ m [] p ∙ ap (λ (t : ℚ). t *ℚ value rationals ρ p) (times_one (whole m))

joined_nn : (ρ : List ℚ) (m : ℤ) (p q : Poly) → 0ℚ ≤ℚ whole m *ℚ value rationals ρ p → 0ℚ ≤ℚ value rationals ρ q → 0ℚ ≤ℚ value rationals ρ (join (scale m [] p) q)
joined_nn ρ m p q h k = along_nn _ _ (sym (join-is rationals ρ (scale m [] p) q)) (nn_plus _ _ (along_nn _ _ (sym (scaled ρ m p)) h) k)

one_nn : (ρ : List ℚ) (k : Kind) (m : ℤ) (p : Poly) → Sound ρ (row k p) → T (allowed k m) → 0ℚ ≤ℚ whole m *ℚ value rationals ρ p
one_nn ρ k_le m p h t = nn_times _ _ (not_negative-is m t) h
one_nn ρ k_lt m p h t = nn_times _ _ (not_negative-is m t) (≤ℚ_of_lt _ _ h)
one_nn ρ k_eq m p h t = ≤ℚ_of_same 0ℚ _ (sym (ap (λ (t : ℚ). whole m *ℚ t) h ∙ times_zero (whole m)))

one_ps : (ρ : List ℚ) (k : Kind) (m : ℤ) (p : Poly) → Sound ρ (row k p) → T (sharp k m) → 0ℚ <ℚ whole m *ℚ value rationals ρ p
one_ps ρ k_le m p h t = absurd t
one_ps ρ k_lt m p h t = ps_times _ _ (above-is m t) h
one_ps ρ k_eq m p h t = absurd t

total_nn : (ρ : List ℚ) (rs : List Row) (ms : List ℤ) → Holds ρ rs → T (valid rs ms) → 0ℚ ≤ℚ value rationals ρ (total rs ms)
total_nn ρ [] ms h t = ≤ℚ_of_same 0ℚ 0ℚ refl
total_nn ρ (r ∷ rs) [] h t = ≤ℚ_of_same 0ℚ 0ℚ refl
total_nn ρ (row k p ∷ rs) (m ∷ ms) h t =
    joined_nn ρ m p (total rs ms) (one_nn ρ k m p h.0 (and_left (allowed k m) (valid rs ms) t))
    (total_nn ρ rs ms h.1 (and_right (allowed k m) (valid rs ms) t))

total_ps : (ρ : List ℚ) (rs : List Row) (ms : List ℤ) → Holds ρ rs → T (valid rs ms) → T (strict rs ms) → 0ℚ <ℚ value rationals ρ (total rs ms)
total_ps ρ [] ms h t u = absurd u
total_ps ρ (r ∷ rs) [] h t u = absurd u
total_ps ρ (row k p ∷ rs) (m ∷ ms) h t u =
    along_ps _ _ (sym (join-is rationals ρ (scale m [] p) (total rs ms)))
    (⊎_elim
    (λ (v : T (sharp k m)). ps_plus _ _ (along_ps _ _ (sym (scaled ρ m p)) (one_ps ρ k m p h.0 v)) (total_nn ρ rs ms h.1 (and_right (allowed k m) (valid rs ms) t)))
    (λ (v : T (strict rs ms)). nn_plus_ps _ _ (along_nn _ _ (sym (scaled ρ m p)) (one_nn ρ k m p h.0 (and_left (allowed k m) (valid rs ms) t)))
    (total_ps ρ rs ms h.1 (and_right (allowed k m) (valid rs ms) t) v))
    (or_cases (sharp k m) (strict rs ms) u))

minus_plus : (x : ℚ) → whole (negsuc 0) *ℚ x +ℚ x ≡ 0ℚ
minus_plus x = ring rationals (x ∷ []) {x = whole (negsuc 0) *ℚ x +ℚ x} {y = 0ℚ} (search (reading, r_of) depth 10) tt

apart : (ρ : List ℚ) (p : Poly) → 0ℚ <ℚ value rationals ρ (minus p) +ℚ value rationals ρ p → ⊥
apart ρ p h = <ℚ_irrefl 0ℚ (along_ps _ _ (ap (λ (t : ℚ). t +ℚ value rationals ρ p) (scaled ρ (negsuc 0) p) ∙ minus_plus (value rationals ρ p)) h)

pub refute : (ρ : List ℚ) (rs : List Row) (ms : List ℤ) → Holds ρ rs → T (contradicts rs ms) → ⊥
refute ρ rs ms h t =
    let ok : T (valid rs ms) = and_left _ (no_less (minus (total rs ms)) && (strict rs ms || more (minus (total rs ms)))) t in
    let u : T (no_less (minus (total rs ms)) && (strict rs ms || more (minus (total rs ms)))) = and_right (valid rs ms) _ t in
    let flat : T (no_less (minus (total rs ms))) = and_left _ (strict rs ms || more (minus (total rs ms))) u in
    ⊎_elim
    (λ (v : T (strict rs ms)). apart ρ (total rs ms) (nn_plus_ps _ _ (no_less-is ρ (minus (total rs ms)) flat) (total_ps ρ rs ms h ok v)))
    (λ (v : T (more (minus (total rs ms)))). apart ρ (total rs ms) (ps_plus _ _ (more-is ρ (minus (total rs ms)) flat v) (total_nn ρ rs ms h ok)))
    (or_cases (strict rs ms) (more (minus (total rs ms))) (and_right (no_less (minus (total rs ms))) _ u))

-- ---- facts, and what their rows are
pub data Fact : Type 0 where
  le : {l r : ℚ} → l ≤ℚ r → Fact
  lt : {l r : ℚ} → l <ℚ r → Fact
  eq : {l r : ℚ} → l ≡ r → Fact
  le_times : {c l r : ℚ} → 0ℚ ≤ℚ c → l ≤ℚ r → Fact
  eq_times : (c : ℚ) {l r : ℚ} → l ≡ r → Fact

abbrev pub ReadFact : List ℚ → Fact → Type 0
ReadFact ρ (le {l = l} {r = r} h) = Reads rationals ρ l × Reads rationals ρ r
ReadFact ρ (lt {l = l} {r = r} h) = Reads rationals ρ l × Reads rationals ρ r
ReadFact ρ (eq {l = l} {r = r} h) = Reads rationals ρ l × Reads rationals ρ r
ReadFact ρ (le_times {c = c} {l = l} {r = r} n h) = Reads rationals ρ c × Reads rationals ρ l × Reads rationals ρ r
ReadFact ρ (eq_times c {l = l} {r = r} h) = Reads rationals ρ c × Reads rationals ρ l × Reads rationals ρ r

abbrev pub ReadFacts : List ℚ → List Fact → Type 0
ReadFacts ρ [] = Unit {0}
ReadFacts ρ (f ∷ fs) = ReadFact ρ f × ReadFacts ρ fs

abbrev pub gap : {ρ : List ℚ} {l r : ℚ} → Reads rationals ρ l → Reads rationals ρ r → Poly
gap p q = norm (sub (code rationals q) (code rationals p))

abbrev pub gap_times : {ρ : List ℚ} {c l r : ℚ} → Reads rationals ρ c → Reads rationals ρ l → Reads rationals ρ r → Poly
gap_times n p q = norm (mul (code rationals n) (sub (code rationals q) (code rationals p)))

abbrev pub row_of : (ρ : List ℚ) (f : Fact) → ReadFact ρ f → Row
row_of ρ (le h) w = row k_le (gap w.0 w.1)
row_of ρ (lt h) w = row k_lt (gap w.0 w.1)
row_of ρ (eq h) w = row k_eq (gap w.0 w.1)
row_of ρ (le_times n h) w = row k_le (gap_times w.0 w.1 w.2)
row_of ρ (eq_times c h) w = row k_eq (gap_times w.0 w.1 w.2)

abbrev pub rows_of : (ρ : List ℚ) (fs : List Fact) → ReadFacts ρ fs → List Row
rows_of ρ [] w = []
rows_of ρ (f ∷ fs) w = row_of ρ f w.0 ∷ rows_of ρ fs w.1

gap-is : {ρ : List ℚ} {l r : ℚ} (p : Reads rationals ρ l) (q : Reads rationals ρ r) → r -ℚ l ≡ value rationals ρ (gap p q)
gap-is {ρ} p q = sym (norm-is rationals ρ (sub (code rationals q) (code rationals p)) ∙ read_less p q)

gap_times-is : {ρ : List ℚ} {c l r : ℚ} (n : Reads rationals ρ c) (p : Reads rationals ρ l) (q : Reads rationals ρ r) → c *ℚ (r -ℚ l) ≡ value rationals ρ (gap_times n p q)
gap_times-is {ρ} n p q = sym (norm-is rationals ρ (mul (code rationals n) (sub (code rationals q) (code rationals p))) ∙ ap₂ ◌*ℚ◌ (code-is rationals n) (read_less p q))

row_sound : (ρ : List ℚ) (f : Fact) (w : ReadFact ρ f) → Sound ρ (row_of ρ f w)
row_sound ρ (le {l = l} {r = r} h) w = along_nn _ _ (gap-is w.0 w.1) (less_nn l r h)
row_sound ρ (lt {l = l} {r = r} h) w = along_ps _ _ (gap-is w.0 w.1) (less_ps l r h)
row_sound ρ (eq {l = l} {r = r} h) w = sym (gap-is w.0 w.1) ∙ zero_from_same l r h
row_sound ρ (le_times {c = c} {l = l} {r = r} n h) w = along_nn _ _ (gap_times-is w.0 w.1 w.2) (nn_times c (r -ℚ l) n (less_nn l r h))
row_sound ρ (eq_times c {l = l} {r = r} h) w = sym (gap_times-is w.0 w.1 w.2) ∙ ap (λ (t : ℚ). c *ℚ t) (zero_from_same l r h) ∙ times_zero c

rows_hold : (ρ : List ℚ) (fs : List Fact) (w : ReadFacts ρ fs) → Holds ρ (rows_of ρ fs w)
rows_hold ρ [] w = tt
rows_hold ρ (f ∷ fs) w = (row_sound ρ f w.0, rows_hold ρ fs w.1)

-- ---- finding the multipliers. Nothing is proved of this part: `contradicts` checks what it finds
pub data Line : Type 0 where
  line : Kind → Poly → List ℤ → Line

abbrev pub coefficient : List ℕ → Poly → ℤ
coefficient m none = pos 0
coefficient m (term c n p) = cond (same_list m n) c (coefficient m p)

abbrev pub is_one : List ℕ → Bool
is_one [] = true
is_one (i ∷ m) = false

-- the first product of atoms that stands in a line
pub data FoundProduct : Type 0 where
  nothing : FoundProduct
  found : List ℕ → FoundProduct

abbrev pub times_all : ℤ → List ℤ → List ℤ
times_all a [] = []
times_all a (m ∷ ms) = (a *ℤ m) ∷ times_all a ms

abbrev pub plus_all : List ℤ → List ℤ → List ℤ
plus_all [] ns = ns
plus_all (m ∷ ms) [] = m ∷ ms
plus_all (m ∷ ms) (n ∷ ns) = (m +ℤ n) ∷ plus_all ms ns

abbrev pub weaker : Kind → Kind → Kind
weaker k_le k_le = k_le
weaker k_le k_lt = k_lt
weaker k_le k_eq = k_le
weaker k_lt k = k_lt
weaker k_eq k = k

-- a times one line and b times another
abbrev pub mixed : ℤ → Line → ℤ → Line → Line
mixed a (line k p ms) b (line j q ns) = line (weaker k j) (join (scale a [] p) (scale b [] q)) (plus_all (times_all a ms) (times_all b ns))

abbrev pub size : ℤ → ℤ
size (pos n) = pos n
size (negsuc n) = pos (suc n)

abbrev pub sign_times : ℤ → ℤ → ℤ
sign_times (pos n) c = neg_ℤ c
sign_times (negsuc n) c = c

abbrev pub poly_of : Line → Poly
poly_of (line k p ms) = p

-- ---- an equation takes m out of a line
abbrev pub clear : List ℕ → Line → Line → Line
clear m e l =
    let a = coefficient m (poly_of e) in
    let c = coefficient m (poly_of l) in
    cond (is_nil c) l (mixed (size a) l (sign_times a c) e)

abbrev pub clear_all : List ℕ → Line → List Line → List Line
clear_all m e [] = []
clear_all m e (l ∷ ls) = clear m e l ∷ clear_all m e ls

abbrev pub is_eq_with : List ℕ → Line → Bool
is_eq_with m (line k_le p ms) = false
is_eq_with m (line k_lt p ms) = false
is_eq_with m (line k_eq p ms) = not (is_nil (coefficient m p))

pub data Pick : Type 0 where
  no_pick : Pick
  pick : Line → Pick

abbrev pub pick_eq : List ℕ → List Line → Pick
pick_eq m [] = no_pick
pick_eq m (l ∷ ls) = cond (is_eq_with m l) (pick l) (pick_eq m ls)

-- ---- or each line with m above 0 meets each with m below 0
abbrev pub meet : List ℕ → Line → List Line → List Line → List Line
meet m l [] rest = rest
meet m l (n ∷ ns) rest =
    let a = coefficient m (poly_of l) in
    let b = coefficient m (poly_of n) in
    cond (above (neg_ℤ b)) (mixed (neg_ℤ b) l a n ∷ meet m l ns rest) (meet m l ns rest)

abbrev pub meet_all : List ℕ → List Line → List Line → List Line
meet_all m [] ns = []
meet_all m (l ∷ ls) ns = cond (above (coefficient m (poly_of l))) (meet m l ns (meet_all m ls ns)) (cond (is_nil (coefficient m (poly_of l))) (l ∷ meet_all m ls ns) (meet_all m ls ns))

abbrev pub step_by : List ℕ → Pick → List Line → List Line
step_by m no_pick ls = meet_all m ls ls
step_by m (pick e) ls = clear_all m e ls

-- the product of atoms whose elimination makes the fewest lines
abbrev pub known : List ℕ → List (List ℕ) → Bool
known m [] = false
known m (n ∷ ns) = same_list m n || known m ns

abbrev pub collect_poly : Poly → List (List ℕ) → List (List ℕ)
collect_poly none o = o
collect_poly (term c m p) o = cond (is_one m || (is_nil c || known m o)) (collect_poly p o) (collect_poly p (m ∷ o))

abbrev pub collect : List Line → List (List ℕ) → List (List ℕ)
collect [] o = o
collect (l ∷ ls) o = collect ls (collect_poly (poly_of l) o)

abbrev pub count_above : List ℕ → List Line → ℕ
count_above m [] = 0
count_above m (l ∷ ls) = cond (above (coefficient m (poly_of l))) 1 0 + count_above m ls

abbrev pub count_below : List ℕ → List Line → ℕ
count_below m [] = 0
count_below m (l ∷ ls) = cond (above (neg_ℤ (coefficient m (poly_of l)))) 1 0 + count_below m ls

abbrev pub has_eq : List ℕ → List Line → Bool
has_eq m [] = false
has_eq m (l ∷ ls) = is_eq_with m l || has_eq m ls

abbrev pub score : List Line → List ℕ → ℕ
score ls m = cond (has_eq m ls) 0 (count_above m ls * count_below m ls)

abbrev pub best : List Line → List (List ℕ) → ℕ → FoundProduct → FoundProduct
best ls [] k o = o
best ls (m ∷ ms) k o = let s = score ls m in cond (ltb s k) (best ls ms s (found m)) (best ls ms k o)

abbrev pub chosen : List Line → FoundProduct
chosen ls = best ls (collect ls []) 1000000 nothing

abbrev pub eliminate : ℕ → List Line → List Line
eliminate zero ls = ls
eliminate (suc f) ls = elim (chosen ls) [ nothing ↦ ls | found m ↦ eliminate f (step_by m (pick_eq m ls) ls) ]

abbrev pub const_of : Poly → ℤ
const_of p = coefficient [] p

abbrev pub answer_of : Line → List ℤ → List ℤ
answer_of (line k_le p ms) o = cond (above (neg_ℤ (const_of p))) ms o
answer_of (line k_lt p ms) o = cond (above (const_of p)) o ms
answer_of (line k_eq p ms) o = cond (above (const_of p)) (times_all (negsuc 0) ms) (cond (is_nil (const_of p)) o ms)

abbrev pub answer : List Line → List ℤ
answer [] = []
answer (l ∷ ls) = answer_of l (answer ls)

abbrev pub starts : List ℤ → List Row → List Line
starts before [] = []
starts before (row k p ∷ rs) = line k p (before ++ pos 1 ∷ []) ∷ starts (before ++ pos 0 ∷ []) rs

abbrev pub multipliers : List Row → List ℤ
multipliers rs = answer (eliminate 40 (starts [] rs))

abbrev pub refuted : List Row → Bool
refuted rs = contradicts rs (multipliers rs)

-- ---- THE CALLS
pub linear_false : (ρ : List ℚ) (fs : List Fact) (w : ReadFacts ρ fs) → T (refuted (rows_of ρ fs w)) → ⊥
linear_false ρ fs w t = refute ρ (rows_of ρ fs w) (multipliers (rows_of ρ fs w)) (rows_hold ρ fs w) t

pub linear_le : (ρ : List ℚ) (fs : List Fact) {x y : ℚ} (w : (Reads rationals ρ x × Reads rationals ρ y) × ReadFacts ρ fs)
    → T (refuted (row k_lt (gap w.0.1 w.0.0) ∷ rows_of ρ fs w.1)) → x ≤ℚ y
linear_le ρ fs {x} {y} w t = ⊎_elim
    (λ (h : y <ℚ x). absurd (refute ρ (row k_lt (gap w.0.1 w.0.0) ∷ rows_of ρ fs w.1) (multipliers (row k_lt (gap w.0.1 w.0.0) ∷ rows_of ρ fs w.1))
    (along_ps _ _ (gap-is w.0.1 w.0.0) (less_ps y x h), rows_hold ρ fs w.1) t))
    (λ (h : x ≤ℚ y). h) (lt_or_le_ℚ y x)

pub linear_lt : (ρ : List ℚ) (fs : List Fact) {x y : ℚ} (w : (Reads rationals ρ x × Reads rationals ρ y) × ReadFacts ρ fs)
    → T (refuted (row k_le (gap w.0.1 w.0.0) ∷ rows_of ρ fs w.1)) → x <ℚ y
linear_lt ρ fs {x} {y} w t = ⊎_elim
    (λ (h : x <ℚ y). h)
    (λ (h : y ≤ℚ x). absurd (refute ρ (row k_le (gap w.0.1 w.0.0) ∷ rows_of ρ fs w.1) (multipliers (row k_le (gap w.0.1 w.0.0) ∷ rows_of ρ fs w.1))
    (along_nn _ _ (gap-is w.0.1 w.0.0) (less_nn y x h), rows_hold ρ fs w.1) t))
    (lt_or_le_ℚ x y)

pub linear_eq : (ρ : List ℚ) (fs : List Fact) {x y : ℚ} (w : (Reads rationals ρ x × Reads rationals ρ y) × ReadFacts ρ fs)
    → T (refuted (row k_lt (gap w.0.1 w.0.0) ∷ rows_of ρ fs w.1)) → T (refuted (row k_lt (gap w.0.0 w.0.1) ∷ rows_of ρ fs w.1)) → x ≡ y
linear_eq ρ fs {x} {y} w t u = ≤ℚ_antisymm x y (linear_le ρ fs w t) (linear_le ρ fs {x = y} {y = x} ((w.0.1, w.0.0), w.1) u)
