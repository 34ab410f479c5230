-- Names among others: whether one is there, its place, and names put behind others.
use Rattle.std.proofs.Common.{◌≡◌, ℕ, zero, suc, ◌+◌, ◌<◌, ◌≤◌, Bool, true, false, cond, not, ◌||◌, List, [], ◌∷◌, ◌++◌, length, filter, refl, sym, ◌∙◌, ap}
use Rattle.std.proofs.Common.{subst, arith, append_assoc, append-nil, bytes_eq}
use Rattle.nf_net_laws.proofs.Common.{AllByRecursion, or_left, or_right, Name, has_name, place_of, name_at, with_name, with_names, without, filter-append}
use Rattle.std.specs.List.{IsDistinct}
use Rattle.std.proofs.lemmas.Slice.Eq.{bytes_eq-Decides}
use Rattle.std.proofs.lemmas.List.Folds.{list_any-append}

-- ---- equal names
pub same_names : (a b : Name) → bytes_eq a b ≡ true → a ≡ b
same_names a b e = (bytes_eq-Decides a b).0 e

pub bytes_eq-self : (a : Name) → bytes_eq a a ≡ true
bytes_eq-self a = (bytes_eq-Decides a a).1 refl

apart : (a b : Name) → bytes_eq a b ≡ false → a ≡ b → ⊥
apart a b e same = let h : bytes_eq a b ≡ true = (bytes_eq-Decides a b).1 same in cc

turned : (a b : Name) (t : Bool) → bytes_eq b a ≡ t → bytes_eq a b ≡ false → t ≡ false
turned a b true h e = absurd (apart a b e (sym (same_names b a h)))
turned a b false h e = refl

pub bytes_eq-turned : (a b : Name) → bytes_eq a b ≡ false → bytes_eq b a ≡ false
bytes_eq-turned a b e = turned a b (bytes_eq b a) refl e

-- ---- a property of each name
pub all_at : (P : Name → Type 0) (names : List Name) (i : ℕ) → AllByRecursion P names → i < length names → P (name_at names i)
all_at P [] i h lt = absurd (omega arith)
all_at P (x ∷ xs) zero h lt = h.0
all_at P (x ∷ xs) (suc i) h lt = all_at P xs i h.1 (omega arith)

-- ---- whether a name is there
pub has_name-append : (xs ys : List Name) (name : Name) → has_name (xs ++ ys) name ≡ (has_name xs name || has_name ys name)
has_name-append xs ys name = list_any-append (bytes_eq name) xs ys

pub has_at : (names : List Name) (i : ℕ) → i < length names → has_name names (name_at names i) ≡ true
has_at [] i lt = absurd (omega arith)
has_at (x ∷ xs) zero lt = or_left (bytes_eq x x) (has_name xs x) (bytes_eq-self x)
has_at (x ∷ xs) (suc i) lt = or_right (bytes_eq (name_at xs i) x) (has_name xs (name_at xs i)) (has_at xs i (omega arith))

-- a name that differs from each isn't there
pub has_none : (names : List Name) (name : Name) → AllByRecursion (λ y. bytes_eq name y ≡ false) names → has_name names name ≡ false
has_none [] name h = refl
has_none (x ∷ xs) name h = both (bytes_eq name x) (has_name xs name) h.0 (has_none xs name h.1)
  where
    both : (a b : Bool) → a ≡ false → b ≡ false → (a || b) ≡ false
    both a b e f = subst (λ (t : Bool). (t || b) ≡ false) (sym e) f

-- ---- its place
pub place_below : (names : List Name) (name : Name) → has_name names name ≡ true → place_of names name < length names
place_below [] name h = absurd (cc)
place_below (x ∷ xs) name h = step (bytes_eq name x) (has_name xs name) (place_of xs name) (place_below xs name) h
  where
    step : (b r : Bool) (p : ℕ) → (r ≡ true → p < length xs) → (b || r) ≡ true → cond (not b) (1 + p) 0 < length (x ∷ xs)
    step true r p f h = omega arith
    step false r p f h = let k : p < length xs = f h in omega arith

pub name_at-place : (names : List Name) (name : Name) → has_name names name ≡ true → name_at names (place_of names name) ≡ name
name_at-place [] name h = absurd (cc)
name_at-place (x ∷ xs) name h = step (bytes_eq name x) (has_name xs name) (place_of xs name) refl (name_at-place xs name) h
  where
    step : (b r : Bool) (p : ℕ) → bytes_eq name x ≡ b → (r ≡ true → name_at xs p ≡ name) → (b || r) ≡ true → name_at (x ∷ xs) (cond (not b) (1 + p) 0) ≡ name
    step true r p e f h = sym (same_names name x e)
    step false r p e f h = let on : 1 + p ≡ suc p = omega arith in ap (λ k. name_at (x ∷ xs) k) on ∙ f h

pub place_at : (names : List Name) (i : ℕ) → IsDistinct bytes_eq names → i < length names → place_of names (name_at names i) ≡ i
unfolding IsDistinct
place_at [] i d lt = absurd (omega arith)
place_at (x ∷ xs) zero d lt = ap (λ (b : Bool). cond (not b) (1 + place_of xs x) 0) (bytes_eq-self x)
place_at (x ∷ xs) (suc i) d lt =
    ap (λ (b : Bool). cond (not b) (1 + place_of xs (name_at xs i)) 0)
    (bytes_eq-turned x (name_at xs i) (all_at (λ y. bytes_eq x y ≡ false) xs i d.0 (omega arith)))
    ∙ (ap (λ k. 1 + k) (place_at xs i d.1 (omega arith)) ∙ omega arith)

pub place_left : (xs ys : List Name) (name : Name) → has_name xs name ≡ true → place_of (xs ++ ys) name ≡ place_of xs name
place_left [] ys name h = absurd (cc)
place_left (x ∷ xs) ys name h = step (bytes_eq name x) (has_name xs name) (place_left xs ys name) h
  where
    step : (b r : Bool) → (r ≡ true → place_of (xs ++ ys) name ≡ place_of xs name) → (b || r) ≡ true
        → cond (not b) (1 + place_of (xs ++ ys) name) 0 ≡ cond (not b) (1 + place_of xs name) 0
    step true r f h = refl
    step false r f h = ap (λ k. 1 + k) (f h)

pub place_right : (xs ys : List Name) (name : Name) → has_name xs name ≡ false → length xs ≤ place_of (xs ++ ys) name
place_right [] ys name h = omega arith
place_right (x ∷ xs) ys name h = step (bytes_eq name x) (has_name xs name) (place_of (xs ++ ys) name) (place_right xs ys name) h
  where
    step : (b r : Bool) (p : ℕ) → (r ≡ false → length xs ≤ p) → (b || r) ≡ false → length (x ∷ xs) ≤ cond (not b) (1 + p) 0
    step true r p f h = absurd (cc)
    step false r p f h = let k : length xs ≤ p = f h in omega arith

-- ---- those of some names that aren't among others
-- among the names left, one that isn't in the others is as among all
left : (these xs : List Name) (x name : Name) (b c : Bool) → has_name these name ≡ false → has_name these x ≡ b → bytes_eq name x ≡ c
    → has_name (without these xs) name ≡ has_name xs name
    → has_name (cond (not b) (x ∷ without these xs) (without these xs)) name ≡ (c || has_name xs name)
left these xs x name true true h e f same = let k : has_name these name ≡ true = ap (has_name these) (same_names name x f) ∙ e in absurd (cc)
left these xs x name true false h e f same = same
left these xs x name false c h e f same =
    ap (λ (t : Bool). t || has_name (without these xs) name) f ∙ ap (λ (t : Bool). c || t) same

pub has_without : (these names : List Name) (name : Name) → has_name these name ≡ false → has_name (without these names) name ≡ has_name names name
has_without these [] name h = refl
has_without these (x ∷ xs) name h =
    left these xs x name (has_name these x) (bytes_eq name x) h refl refl (has_without these xs name h)
    ∙ refl

-- ---- names put behind others
pub with_name_there : (names : List Name) (x : Name) → has_name names x ≡ true → with_name names x ≡ names
with_name_there names x e = ap (λ (t : Bool). cond t names (names ++ x ∷ [])) e

pub with_name_new : (names : List Name) (x : Name) → has_name names x ≡ false → with_name names x ≡ names ++ x ∷ []
with_name_new names x e = ap (λ (t : Bool). cond t names (names ++ x ∷ [])) e

without_one : (these : List Name) (x : Name) (b : Bool) → has_name these x ≡ b → without these (x ∷ []) ≡ cond b [] (x ∷ [])
without_one these x true e = ap (λ (t : Bool). cond (not t) (x ∷ []) []) e
without_one these x false e = ap (λ (t : Bool). cond (not t) (x ∷ []) []) e

module _ (names found : List Name) (x : Name) where
  in_front : (b c : Bool) → has_name names x ≡ b → has_name (without names found) x ≡ c → has_name (names ++ without names found) x ≡ (b || c)
  in_front b c e f = has_name-append names (without names found) x ∙ (λ i. e i || f i)

  put_behind : (b c : Bool) → has_name names x ≡ b → has_name found x ≡ c → with_name (names ++ without names found) x ≡ names ++ without names (with_name found x)
  put_behind true true e f = with_name_there (names ++ without names found) x (in_front true (has_name (without names found) x) e refl)
      ∙ ap (λ l. names ++ without names l) (sym (with_name_there found x f))
  put_behind true false e f = with_name_there (names ++ without names found) x (in_front true (has_name (without names found) x) e refl)
      ∙ ap (λ l. names ++ l) (sym (append-nil (without names found))
      ∙ (ap (λ l. without names found ++ l) (sym (without_one names x true e)) ∙ sym (filter-append (λ name. not (has_name names name)) found (x ∷ []))))
      ∙ ap (λ l. names ++ without names l) (sym (with_name_new found x f))
  put_behind false true e f = with_name_there (names ++ without names found) x (in_front false true e (has_without names found x e ∙ f))
      ∙ ap (λ l. names ++ without names l) (sym (with_name_there found x f))
  put_behind false false e f = with_name_new (names ++ without names found) x (in_front false false e (has_without names found x e ∙ f))
      ∙ append_assoc names (without names found) (x ∷ [])
      ∙ ap (λ l. names ++ l) (ap (λ l. without names found ++ l) (sym (without_one names x false e)) ∙ sym (filter-append (λ name. not (has_name names name)) found (x ∷ [])))
      ∙ ap (λ l. names ++ without names l) (sym (with_name_new found x f))

-- put behind some names and what is left of others, as behind the others
pub with_names-without : (names found more : List Name) → with_names (names ++ without names found) more ≡ names ++ without names (with_names found more)
with_names-without names found [] = refl
with_names-without names found (x ∷ more) =
    ap (λ l. with_names l more) (put_behind names found x (has_name names x) (has_name found x) refl refl)
    ∙ with_names-without names (with_name found x) more

-- names put behind others: those, and what of them isn't there
pub with_names-split : (names more : List Name) → with_names names more ≡ names ++ without names (with_names [] more)
with_names-split names more = ap (λ l. with_names l more) (sym (append-nil names)) ∙ with_names-without names [] more

pub with_names-append : (names xs ys : List Name) → with_names names (xs ++ ys) ≡ with_names (with_names names xs) ys
with_names-append names [] ys = refl
with_names-append names (x ∷ xs) ys = with_names-append (with_name names x) xs ys
