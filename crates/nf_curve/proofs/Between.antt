-- The points of a curve whose times lie between two others, by the places of these.
use Rattle.std.proofs.Common.{◌≡◌, ℕ, zero, suc, ◌≤◌, List, [], ◌∷◌, ◌++◌, take, drop, reverse, ⊎_elim, Bool, true, false, ◌&&◌, cond, refl, sym, ap, subst}
use Rattle.std.proofs.Common.{◌∙◌, append-nil, Some, slice_get, slice_range, Ok, Err}
use Rattle.nf_curve.proofs.Common.{filter, reverse-append, ℚ, ◌≤ℚ◌, ◌<ℚ◌, lt_ℚ, ≤ℚ_of_lt, lt_ℚ_cases, test_of_less, test_of_not_less, Part, PassedAt}
use Rattle.nf_curve.proofs.Common.{Checked, at_part, each, ◌>>=◌, Point, TimesRise, <_≤_trans, points_between, points_along, rise_rest, count_until, behind}
use Rattle.std.proofs.lemmas.List.Elements.{filter-append}
use Rattle.std.proofs.lemmas.List.Folds.{drop_split}
use Rattle.nf_curve.proofs.Placing.{place-behind, place-past, place-rises}
use Rattle.nf_curve.proofs.Composing.{point_first}
use Rattle.nf_curve.proofs.Exits.{after_err, was_ok}

-- all are later
AllLater : ℚ → List Point → Type 0
AllLater time [] = Unit {0}
AllLater time (p ∷ rest) = (time <ℚ p.0) × AllLater time rest

abbrev lies_between : ℚ → ℚ → Point → Bool
lies_between low high p = lt_ℚ low p.0 && lt_ℚ p.0 high

second_false : (a b : Bool) → b ≡ false → (a && b) ≡ false
second_false true b e = e
second_false false b e = refl

-- ---- before the lower place, between, and behind the upper one
none-before : (low high : ℚ) (points : List Point) → filter (lies_between low high) (take (count_until low points) points) ≡ []
none-before low high [] = refl
none-before low high (p ∷ rest) = ⊎_elim
    (λ (w : (lt_ℚ low p.0 ≡ true) × (low <ℚ p.0)). ap (λ (k : ℕ). filter (lies_between low high) (take k (p ∷ rest))) (place-behind low p rest w.1))
    (λ (w : (lt_ℚ low p.0 ≡ false) × (p.0 ≤ℚ low)).
    ap (λ (k : ℕ). filter (lies_between low high) (take k (p ∷ rest))) (place-past low p rest w.1)
    ∙ ap (λ (b : Bool). cond (b && lt_ℚ p.0 high) (p ∷ filter (lies_between low high) (take (count_until low rest) rest))
    (filter (lies_between low high) (take (count_until low rest) rest))) w.0
    ∙ none-before low high rest)
    (lt_ℚ_cases low p.0)

first-later : (time : ℚ) (p : Point) (rest : List Point) → TimesRise (p ∷ rest) → time <ℚ p.0 → AllLater time (p ∷ rest)
unfolding AllLater
first-later time p [] r h = (h, tt)
first-later time p (q ∷ rest) r h = (h, first-later time q rest r.1 (<_≤_trans _ _ _ h (≤ℚ_of_lt _ _ r.0)))

later-from-place : (time : ℚ) (points : List Point) → TimesRise points → AllLater time (drop (count_until time points) points)
unfolding AllLater
later-from-place time [] r = tt
later-from-place time (p ∷ rest) r = ⊎_elim
    (λ (w : (lt_ℚ time p.0 ≡ true) × (time <ℚ p.0)). subst (λ (k : ℕ). AllLater time (drop k (p ∷ rest))) (sym (place-behind time p rest w.1)) (first-later time p rest r w.1))
    (λ (w : (lt_ℚ time p.0 ≡ false) × (p.0 ≤ℚ time)). subst (λ (k : ℕ). AllLater time (drop k (p ∷ rest))) (sym (place-past time p rest w.1))
    (later-from-place time rest (rise_rest p rest r)))
    (lt_ℚ_cases time p.0)

later-front : (time : ℚ) (front back : List Point) → AllLater time (front ++ back) → AllLater time front
unfolding AllLater
later-front time [] back a = tt
later-front time (p ∷ front) back a = (a.0, later-front time front back a.1)

none-behind : (low high : ℚ) (points : List Point) → AllLater high points → filter (lies_between low high) points ≡ []
unfolding AllLater
none-behind low high [] a = refl
none-behind low high (p ∷ rest) a =
    ap (λ (b : Bool). cond b (p ∷ filter (lies_between low high) rest) (filter (lies_between low high) rest))
    (second_false (lt_ℚ low p.0) (lt_ℚ p.0 high) (test_of_not_less p.0 high (≤ℚ_of_lt _ _ a.0)))
    ∙ none-behind low high rest a.1

one-test : (low high : ℚ) (points : List Point) → AllLater low points → filter (lies_between low high) points ≡ filter (λ (p : Point). lt_ℚ p.0 high) points
unfolding AllLater
one-test low high [] a = refl
one-test low high (p ∷ rest) a =
    ap (λ (b : Bool). cond (b && lt_ℚ p.0 high) (p ∷ filter (lies_between low high) rest) (filter (lies_between low high) rest)) (test_of_less low p.0 a.0)
    ∙ ap (λ (l : List Point). cond (lt_ℚ p.0 high) (p ∷ l) l) (one-test low high rest a.1)

take-drop : {A : Type 0} (k : ℕ) (xs : List A) → xs ≡ take k xs ++ drop k xs
take-drop zero xs = refl
take-drop (suc k) [] = refl
take-drop (suc k) (x ∷ xs) = ap (λ (l : List _). x ∷ l) (take-drop k xs)

pub between-places : (low high : ℚ) (points : List Point) (i j : ℕ) → TimesRise points → low ≤ℚ high → i ≡ count_until low points → j ≡ count_until high points
    → points_between low high points ≡ filter (λ (p : Point). lt_ℚ p.0 high) (slice_range points i j)
between-places low high points i j r h e f =
    let order : i ≤ j = subst (λ (k : ℕ). k ≤ j) (sym e) (subst (λ (k : ℕ). count_until low points ≤ k) (sym f) (place-rises low high points h)) in
    let split : drop i points ≡ slice_range points i j ++ drop j points = drop_split points i j order in
    let all : AllLater low (slice_range points i j ++ drop j points) = subst (AllLater low) split
    (subst (λ (k : ℕ). AllLater low (drop k points)) (sym e) (later-from-place low points r)) in
    let behind_all : AllLater high (drop j points) = subst (λ (k : ℕ). AllLater high (drop k points)) (sym f) (later-from-place high points r) in
    ap (filter (lies_between low high)) (take-drop i points) ∙ filter-append (lies_between low high) (take i points) (drop i points)
    ∙ ap (λ (l : List Point). l ++ filter (lies_between low high) (drop i points)) (ap (λ (k : ℕ). filter (lies_between low high) (take k points)) e ∙ none-before low high points)
    ∙ ap (filter (lies_between low high)) split ∙ filter-append (lies_between low high) (slice_range points i j) (drop j points)
    ∙ ap (λ (l : List Point). filter (lies_between low high) (slice_range points i j) ++ l) (none-behind low high (drop j points) behind_all)
    ∙ append-nil (filter (lies_between low high) (slice_range points i j))
    ∙ one-test low high (slice_range points i j) (later-front low (slice_range points i j) (drop j points) all)

-- ---- along them
filter-reverse : (t : Point → Bool) (xs : List Point) → filter t (reverse xs) ≡ reverse (filter t xs)
filter-reverse t [] = refl
filter-reverse t (x ∷ xs) =
    ap (filter t) (reverse-append (x ∷ []) xs) ∙ filter-append t (reverse xs) (x ∷ [])
    ∙ ap (λ (l : List Point). l ++ filter t (x ∷ [])) (filter-reverse t xs) ∙ by_test (t x)
  where
    by_test : (b : Bool) → reverse (filter t xs) ++ cond b (x ∷ []) [] ≡ reverse (cond b (x ∷ filter t xs) (filter t xs))
    by_test true = sym (reverse-append (x ∷ []) (filter t xs))
    by_test false = append-nil (reverse (filter t xs))

pub along-up : (first last : ℚ) (points : List Point) (i j : ℕ) → TimesRise points → first <ℚ last → i ≡ count_until first points → j ≡ count_until last points
    → points_along (lt_ℚ first last) first last points ≡ filter (λ (p : Point). lt_ℚ p.0 last) (slice_range points i j)
along-up first last points i j r h e f = ap (λ (b : Bool). points_along b first last points) (test_of_less first last h) ∙ between-places first last points i j r (≤ℚ_of_lt _ _ h) e f

pub along-down : (first last : ℚ) (points : List Point) (i j : ℕ) → TimesRise points → last <ℚ first → i ≡ count_until first points → j ≡ count_until last points
    → points_along (lt_ℚ first last) first last points ≡ filter (λ (p : Point). lt_ℚ p.0 first) (reverse (slice_range points j i))
along-down first last points i j r h e f = ap (λ (b : Bool). points_along b first last points) (test_of_not_less first last (≤ℚ_of_lt _ _ h))
    ∙ ap reverse (between-places last first points j i r (≤ℚ_of_lt _ _ h) f e) ∙ sym (filter-reverse (λ (p : Point). lt_ℚ p.0 first) (slice_range points j i))

-- none lies between equal ones
pub along-level : (first last : ℚ) (points : List Point) → lt_ℚ first last ≡ false → lt_ℚ last first ≡ false → points_along (lt_ℚ first last) first last points ≡ []
along-level first last points s t = ap (λ (b : Bool). points_along b first last points) s ∙ ap reverse (none points)
  where
    none : (points : List Point) → filter (lies_between last first) points ≡ []
    none [] = refl
    none (p ∷ rest) = ⊎_elim
        (λ (w : (lt_ℚ p.0 first ≡ true) × (p.0 <ℚ first)).
        ap (λ (b : Bool). cond (b && lt_ℚ p.0 first) (p ∷ filter (lies_between last first) rest) (filter (lies_between last first) rest))
        (test_of_not_less last p.0 (below w.1)) ∙ none rest)
        (λ (w : (lt_ℚ p.0 first ≡ false) × (first ≤ℚ p.0)).
        ap (λ (b : Bool). cond b (p ∷ filter (lies_between last first) rest) (filter (lies_between last first) rest)) (second_false (lt_ℚ last p.0) (lt_ℚ p.0 first) w.0) ∙ none rest)
        (lt_ℚ_cases p.0 first)
      where
        below : p.0 <ℚ first → p.0 ≤ℚ last
        below h = ≤ℚ_of_lt _ _ (<_≤_trans _ _ _ h (⊎_elim (λ (w : (lt_ℚ last first ≡ true) × (last <ℚ first)). absurd (cc))
            (λ (w : (lt_ℚ last first ≡ false) × (first ≤ℚ last)). w.1) (lt_ℚ_cases last first)))

-- ---- a corner, if it passes a test
module _ {A : Type 0} (f : A → Checked Point) (part : Part) (front : List Point) (t : A → Bool) (x : A) where
  of_test : Bool → Checked (List Point)
  of_test b = behind front (each f (cond b (x ∷ []) []))

  pub corner_fails : t x ≡ false → at_part part (behind front (each f (filter t (x ∷ [])))) ≡ Ok front
  unfolding of_test
  corner_fails h = ap (λ (b : Bool). at_part part (of_test b)) h ∙ ap Ok (append-nil front)

  pub corner_added : t x ≡ true → (y : Point) → at_part part (f x) ≡ Ok y → at_part part (behind front (each f (filter t (x ∷ [])))) ≡ Ok (front ++ y ∷ [])
  unfolding of_test
  corner_added h y e = ap (λ (b : Bool). at_part part (of_test b)) h ∙ ap (λ (r : Checked Point). at_part part (behind front (r >>= λ y. Ok (y ∷ [])))) (was_ok part (f x) y e)

  pub corner_passes : t x ≡ true → (p : PassedAt ℚ) → at_part part (f x) ≡ Err p → at_part part (behind front (each f (filter t (x ∷ [])))) ≡ Err p
  unfolding of_test
  corner_passes h p e = ap (λ (b : Bool). at_part part (of_test b)) h ∙ after_err part (each f (x ∷ [])) _ p (after_err part (f x) _ p e)

-- ---- a step along them
module _ {A : Type 0} (f : A → Checked Point) (part : Part) (front : List Point) (all : Checked (List Point)) (t : A → Bool) (x : A) (rest : List A)
    (so_far : behind front (each f (filter t (x ∷ rest))) ≡ all) where
  by_value : (later : Checked (List Point)) (r : Checked Point) → behind front
      (r >>= λ y. later >>= λ ys. Ok (y ∷ ys)) ≡ (behind front (r >>= λ y. Ok (y ∷ [])) >>= λ points. behind points later)
  by_value later (Ok y) = point_first front y later
  by_value later (Err p) = refl

  by_test : (b : Bool) → behind front (each f (cond b (x ∷ filter t rest) (filter t rest)))
      ≡ (behind front (each f (cond b (x ∷ []) [])) >>= λ points. behind points (each f (filter t rest)))
  by_test true = by_value (each f (filter t rest)) (f x)
  by_test false = ap (λ (l : List Point). behind l (each f (filter t rest))) (sym (append-nil front))

  pub corner_goes : (points : List Point) → at_part part (behind front (each f (filter t (x ∷ [])))) ≡ Ok points → behind points (each f (filter t rest)) ≡ all
  corner_goes points e =
      sym (ap (λ (r : Checked (List Point)). r >>= λ points. behind points (each f (filter t rest))) (was_ok part (behind front (each f (filter t (x ∷ [])))) points e))
      ∙ sym (by_test (t x)) ∙ so_far

  pub corner_stops : (p : PassedAt ℚ) → at_part part (behind front (each f (filter t (x ∷ [])))) ≡ Err p → at_part part all ≡ Err p
  corner_stops p e = ap (at_part part) (sym so_far ∙ by_test (t x)) ∙ after_err part (behind front (each f (filter t (x ∷ [])))) _ p e

-- from the last one down
take-more : {A : Type 0} (xs : List A) (i : ℕ) (x : A) → slice_get xs i ≡ Some x → take (suc i) xs ≡ take i xs ++ x ∷ []
take-more [] i x e = absurd (cc)
take-more (y ∷ xs) zero x e = let same : y ≡ x = cc in ap (λ (z : _). z ∷ []) same
take-more (y ∷ xs) (suc i) x e = ap (λ (l : List _). y ∷ l) (take-more xs i x e)

pub take-last : {A : Type 0} (xs : List A) (i j : ℕ) (x : A) → slice_get xs i ≡ Some x → j ≡ suc i → reverse (take j xs) ≡ x ∷ reverse (take i xs)
take-last xs i j x e h = ap (λ (k : ℕ). reverse (take k xs)) h ∙ ap reverse (take-more xs i x e) ∙ reverse-append (take i xs) (x ∷ [])
