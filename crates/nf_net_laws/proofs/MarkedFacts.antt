-- Links that flags mark, and the others.
use Rattle.std.proofs.Common.{◌≡◌, ℕ, zero, suc, ◌+◌, ◌≤◌, ◌||◌, ◌&&◌, Bool, true, false, not, if◌then◌else◌, List, [], ◌∷◌, ◌++◌, length, map, slice_get}
use Rattle.std.proofs.Common.{Some, refl, sym, ◌∙◌, ap, subst, arith, bytes_eq}
use Rattle.nf_net_laws.proofs.Common.{Decides, and_parts, or_left, or_right, Name, has_name, with_name, with_names, NamedLink, names_of, marked}
use Rattle.nf_net_laws.proofs.Common.{AllByRecursion, AllZip, list_all}
use Rattle.std.specs.List.{IsDistinct}
use Rattle.nf_net_laws.proofs.NameFacts.{same_names, bytes_eq-self, bytes_eq-turned, with_name_there, with_name_new}

-- ---- entries
module _ {X : Type 0} where
  abbrev pub Entry : List X → X → Type 0
  Entry xs x = (e : ℕ) × (slice_get xs e ≡ Some x)

-- a link that flags mark is one of the links
pub from_marked : (flags : List Bool) (links : List NamedLink) (e : ℕ) (l : NamedLink) → slice_get (marked flags links) e ≡ Some l → (i : ℕ) × (slice_get links i ≡ Some l)
from_marked [] links e l h = absurd (cc)
from_marked (true ∷ flags) [] e l h = absurd (cc)
from_marked (false ∷ flags) [] e l h = absurd (cc)
from_marked (true ∷ flags) (k ∷ links) zero l h = (0, h)
from_marked (true ∷ flags) (k ∷ links) (suc e) l h = let r = from_marked flags links e l h in (suc r.0, r.1)
from_marked (false ∷ flags) (k ∷ links) e l h = let r = from_marked flags links e l h in (suc r.0, r.1)

module _ (Q : NamedLink → Type 0) where
  -- the marked links are those with the property
  pub in_marked : (flags : List Bool) (links : List NamedLink) (i : ℕ) (l : NamedLink) → AllZip (λ flag l. Decides flag (Q l)) flags links → slice_get links i ≡ Some l → Q l
      → (e : ℕ) × (slice_get (marked flags links) e ≡ Some l)
  in_marked [] [] i l h is q = absurd (cc)
  in_marked [] (k ∷ links) i l h is q = absurd h
  in_marked (b ∷ flags) [] i l h is q = absurd h
  in_marked (true ∷ flags) (k ∷ links) zero l h is q = (0, is)
  in_marked (false ∷ flags) (k ∷ links) zero l h is q = let same : k ≡ l = cc in absurd (let no : false ≡ true = h.0.1 (subst Q (sym same) q) in cc)
  in_marked (true ∷ flags) (k ∷ links) (suc i) l h is q = let r = in_marked flags links i l h.1 is q in (suc r.0, r.1)
  in_marked (false ∷ flags) (k ∷ links) (suc i) l h is q = in_marked flags links i l h.1 is q

  pub marked_have : (flags : List Bool) (links : List NamedLink) → AllZip (λ flag l. Decides flag (Q l)) flags links → AllByRecursion Q (marked flags links)
  marked_have [] links h = tt
  marked_have (true ∷ flags) [] h = tt
  marked_have (false ∷ flags) [] h = tt
  marked_have (true ∷ flags) (l ∷ links) h = (h.0.0 refl, marked_have flags links h.1)
  marked_have (false ∷ flags) (l ∷ links) h = marked_have flags links h.1

  pub others_lack : (flags : List Bool) (links : List NamedLink) → AllZip (λ flag l. Decides flag (Q l)) flags links → AllByRecursion (λ l. ¬ Q l) (marked (map not flags) links)
  others_lack [] links h = tt
  others_lack (true ∷ flags) [] h = tt
  others_lack (false ∷ flags) [] h = tt
  others_lack (true ∷ flags) (l ∷ links) h = others_lack flags links h.1
  others_lack (false ∷ flags) (l ∷ links) h = ((λ q. let no : false ≡ true = h.0.1 q in absurd (cc)), others_lack flags links h.1)

  pub length_split : (flags : List Bool) (links : List NamedLink) → AllZip (λ flag l. Decides flag (Q l)) flags links
      → length (marked flags links) + length (marked (map not flags) links) ≡ length links
  length_split [] [] h = refl
  length_split [] (l ∷ links) h = absurd h
  length_split (b ∷ flags) [] h = absurd h
  length_split (true ∷ flags) (l ∷ links) h = let r : length (marked flags links) + length (marked (map not flags) links) ≡ length links = length_split flags links h.1 in omega arith
  length_split (false ∷ flags) (l ∷ links) h = let r : length (marked flags links) + length (marked (map not flags) links) ≡ length links = length_split flags links h.1 in omega arith

-- a property of all links holds for the selected ones
pub marked_all : (P : NamedLink → Type 0) (flags : List Bool) (links : List NamedLink) → AllByRecursion P links → AllByRecursion P (marked flags links)
marked_all P [] links h = tt
marked_all P (true ∷ flags) [] h = tt
marked_all P (false ∷ flags) [] h = tt
marked_all P (true ∷ flags) (l ∷ links) h = (h.0, marked_all P flags links h.1)
marked_all P (false ∷ flags) (l ∷ links) h = marked_all P flags links h.1

-- ---- distinct names stay so when the links are parted
abbrev Differs : Name → List Name → Type 0
Differs name names = AllByRecursion (λ y. bytes_eq name y ≡ false) names

differs_marked : (name : Name) (flags : List Bool) (links : List NamedLink) → Differs name (names_of links) → Differs name (names_of (marked flags links))
differs_marked name [] links h = tt
differs_marked name (true ∷ flags) [] h = tt
differs_marked name (false ∷ flags) [] h = tt
differs_marked name (true ∷ flags) (l ∷ links) h = (h.0, differs_marked name flags links h.1)
differs_marked name (false ∷ flags) (l ∷ links) h = differs_marked name flags links h.1

differs_append : (name : Name) (xs ys : List Name) → Differs name xs → Differs name ys → Differs name (xs ++ ys)
differs_append name [] ys h k = k
differs_append name (x ∷ xs) ys h k = (h.0, differs_append name xs ys h.1 k)

differs_insert : (name z : Name) (xs ys : List Name) → bytes_eq name z ≡ false → Differs name (xs ++ ys) → Differs name (xs ++ z ∷ ys)
differs_insert name z [] ys e h = (e, h)
differs_insert name z (x ∷ xs) ys e h = (h.0, differs_insert name z xs ys e h.1)

distinct_insert : (z : Name) (xs ys : List Name) → IsDistinct bytes_eq (xs ++ ys) → Differs z xs → Differs z ys → IsDistinct bytes_eq (xs ++ z ∷ ys)
unfolding IsDistinct
distinct_insert z [] ys h p q = (q, h)
distinct_insert z (x ∷ xs) ys h p q = (differs_insert x z xs ys (bytes_eq-turned z x p.0) h.0, distinct_insert z xs ys h.1 p.1 q)

pub distinct_split : (Q : NamedLink → Type 0) (flags : List Bool) (links : List NamedLink) → AllZip (λ flag l. Decides flag (Q l)) flags links → IsDistinct bytes_eq (names_of links)
    → IsDistinct bytes_eq (names_of (marked flags links) ++ names_of (marked (map not flags) links))
unfolding IsDistinct
distinct_split Q [] links h d = tt
distinct_split Q (b ∷ flags) [] h d = absurd h
distinct_split Q (true ∷ flags) (l ∷ links) h d = (
  differs_append l.name (names_of (marked flags links)) (names_of (marked (map not flags) links)) (differs_marked l.name flags links d.0)
      (differs_marked l.name (map not flags) links d.0),
  distinct_split Q flags links h.1 d.1,
)
distinct_split Q (false ∷ flags) (l ∷ links) h d =
    distinct_insert l.name (names_of (marked flags links)) (names_of (marked (map not flags) links)) (distinct_split Q flags links h.1 d.1)
    (differs_marked l.name flags links d.0) (differs_marked l.name (map not flags) links d.0)

-- ---- distinct names among others are no more than those
without_first : Name → List Name → List Name
without_first x [] = []
without_first x (y ∷ ys) = if bytes_eq x y then ys else y ∷ without_first x ys

one_less : (x : Name) (ys : List Name) → has_name ys x ≡ true → suc (length (without_first x ys)) ≡ length ys
unfolding without_first
one_less x [] h = absurd (cc)
one_less x (y ∷ ys) h = step (bytes_eq x y) (has_name ys x) h (one_less x ys)
  where
    step : (b r : Bool) → (b || r) ≡ true → (r ≡ true → suc (length (without_first x ys)) ≡ length ys) → suc (length (if b then ys else y ∷ without_first x ys)) ≡ length (y ∷ ys)
    step true r h f = refl
    step false r h f = ap (λ k. suc k) (f h)

still_among : (x z : Name) (ys : List Name) → bytes_eq x z ≡ false → has_name ys z ≡ true → has_name (without_first x ys) z ≡ true
unfolding without_first
still_among x z [] e h = absurd (cc)
still_among x z (y ∷ ys) e h = step (bytes_eq x y) (bytes_eq z y) refl refl h (still_among x z ys e)
  where
    step : (b c : Bool) → bytes_eq x y ≡ b → bytes_eq z y ≡ c → (c || has_name ys z) ≡ true → (has_name ys z ≡ true → has_name (without_first x ys) z ≡ true)
        → has_name (if b then ys else y ∷ without_first x ys) z ≡ true
    step true true f g h k = let same : x ≡ z = same_names x y f ∙ sym (same_names z y g) in
        let yes : bytes_eq x z ≡ true = subst (λ w. bytes_eq x w ≡ true) same (bytes_eq-self x) in absurd (cc)
    step true false f g h k = h
    step false true f g h k = or_left (bytes_eq z y) (has_name (without_first x ys) z) g
    step false false f g h k = or_right (bytes_eq z y) (has_name (without_first x ys) z) (k h)

all_among : (x : Name) (xs ys : List Name) → AllByRecursion (λ y. bytes_eq x y ≡ false) xs → list_all (has_name ys) xs ≡ true → list_all (has_name (without_first x ys)) xs ≡ true
all_among x [] ys d h = refl
all_among x (z ∷ xs) ys d h = let p = and_parts (has_name ys z) (list_all (has_name ys) xs) h in λ i. still_among x z ys d.0 p.0 i && all_among x xs ys d.1 p.1 i

pub no_more : (xs ys : List Name) → IsDistinct bytes_eq xs → list_all (has_name ys) xs ≡ true → length xs ≤ length ys
unfolding IsDistinct
no_more [] ys d h = omega arith
no_more (x ∷ xs) ys d h =
    let p = and_parts (has_name ys x) (list_all (has_name ys) xs) h in
    let less : suc (length (without_first x ys)) ≡ length ys = one_less x ys p.0 in
    let rest : length xs ≤ length (without_first x ys) = no_more xs (without_first x ys) d.1 (all_among x xs ys d.0 p.1) in
    omega arith

-- ---- each name of some, with others behind
every_push : (P : Name → Type 0) (xs ys : List Name) → AllByRecursion P xs → AllByRecursion P ys → AllByRecursion P (xs ++ ys)
every_push P [] ys h k = k
every_push P (x ∷ xs) ys h k = (h.0, every_push P xs ys h.1 k)

every_with : (P : Name → Type 0) (names : List Name) (x : Name) (b : Bool) → has_name names x ≡ b → AllByRecursion P names → P x → AllByRecursion P (with_name names x)
every_with P names x true e h k = subst (AllByRecursion P) (sym (with_name_there names x e)) h
every_with P names x false e h k = subst (AllByRecursion P) (sym (with_name_new names x e)) (every_push P names (x ∷ []) h (k, tt))

pub every_with_names : (P : Name → Type 0) (names more : List Name) → AllByRecursion P names → AllByRecursion P more → AllByRecursion P (with_names names more)
every_with_names P names [] h k = h
every_with_names P names (x ∷ more) h k = every_with_names P (with_name names x) more (every_with P names x (has_name names x) refl h k.0) k.1

-- a name that is there has what all have
pub has_all : (test : Name → Bool) (names : List Name) (name : Name) → list_all test names ≡ true → has_name names name ≡ true → test name ≡ true
has_all test [] name h e = absurd (cc)
has_all test (x ∷ names) name h e = let p = and_parts (test x) (list_all test names) h in step (bytes_eq name x) refl e p.0 (has_all test names name p.1)
  where
    step : (b : Bool) → bytes_eq name x ≡ b → (b || has_name names name) ≡ true → test x ≡ true → (has_name names name ≡ true → test name ≡ true) → test name ≡ true
    step true f e here later = ap test (same_names name x f) ∙ here
    step false f e here later = later e

pub has_every : (P : Name → Type 0) (names : List Name) (name : Name) → AllByRecursion P names → has_name names name ≡ true → P name
has_every P [] name h e = absurd (cc)
has_every P (x ∷ names) name h e = step (bytes_eq name x) refl e (has_every P names name h.1)
  where
    step : (b : Bool) → bytes_eq name x ≡ b → (b || has_name names name) ≡ true → (has_name names name ≡ true → P name) → P name
    step true f e later = subst P (sym (same_names name x f)) h.0
    step false f e later = later e
