-- Links by names and by numbers.
use Rattle.std.proofs.Common.{◌≡◌, ℕ, suc, ◌<◌, Bool, true, false, not, List, [], ◌∷◌, ◌++◌, length, map, slice_get, Some, refl, ◌∙◌, ap, arith, bytes_eq}
use Rattle.nf_net_laws.proofs.Common.{AllByRecursion, AllZip, Link, Name, place_of, name_at, NamedLink, numbered, link_by_name, links_by_name, ends}
use Rattle.nf_net_laws.proofs.Common.{names_of, marked}
use Rattle.std.specs.List.{IsDistinct}
use Rattle.nf_net_laws.proofs.NameFacts.{has_at, place_at, place_left}

-- ---- distinct names
pub all_left : {A : Type 0} (P : A → Type 0) (xs ys : List A) → AllByRecursion P (xs ++ ys) → AllByRecursion P xs
all_left P [] ys h = tt
all_left P (x ∷ xs) ys h = (h.0, all_left P xs ys h.1)

pub distinct_left : (xs ys : List Name) → IsDistinct bytes_eq (xs ++ ys) → IsDistinct bytes_eq xs
unfolding IsDistinct
distinct_left [] ys h = tt
distinct_left (x ∷ xs) ys h = (all_left (λ y. bytes_eq x y ≡ false) xs ys h.0, distinct_left xs ys h.1)

-- ---- the ends of links, and the names
pub ends-append : (xs ys : List NamedLink) → ends (xs ++ ys) ≡ ends xs ++ ends ys
ends-append [] ys = refl
ends-append (l ∷ xs) ys = ap (λ r. l.tail ∷ l.head ∷ r) (ends-append xs ys)

pub map-append : {X Y : Type 0} (f : X → Y) (xs ys : List X) → map f (xs ++ ys) ≡ map f xs ++ map f ys
map-append f [] ys = refl
map-append f (x ∷ xs) ys = ap (λ r. f x ∷ r) (map-append f xs ys)

pub names_of-links_by_name : (nodes names : List Name) (links : List Link) → length names ≡ length links → names_of (links_by_name nodes names links) ≡ names
names_of-links_by_name nodes [] [] e = refl
names_of-links_by_name nodes [] (l ∷ links) e = absurd (omega arith)
names_of-links_by_name nodes (name ∷ names) [] e = absurd (omega arith)
names_of-links_by_name nodes (name ∷ names) (l ∷ links) e = ap (λ r. name ∷ r) (names_of-links_by_name nodes names links (omega arith))

pub named_all : (P : NamedLink → Type 0) (nodes names : List Name) (links : List Link)
    → ((e : ℕ) (name : Name) (link : Link) → slice_get links e ≡ Some link → P (link_by_name nodes name link)) → AllByRecursion P (links_by_name nodes names links)
named_all P nodes [] [] each = tt
named_all P nodes [] (l ∷ links) each = tt
named_all P nodes (name ∷ names) [] each = tt
named_all P nodes (name ∷ names) (l ∷ links) each = (each 0 name l refl, named_all P nodes names links (λ e name link h. each (suc e) name link h))

-- ---- from numbers to names and back
-- the ends of a link are among the first so many nodes
pub record EndsBelow (count : ℕ) (link : Link) : Type 0 where
  pub tail : link.tail < count
  pub head : link.head < count

module _ (nodes extra : List Name) (distinct : IsDistinct bytes_eq (nodes ++ extra)) where
  pub place_again : (v : ℕ) → v < length nodes → place_of (nodes ++ extra) (name_at nodes v) ≡ v
  place_again v lt = place_left nodes extra (name_at nodes v) (has_at nodes v lt) ∙ place_at nodes v (distinct_left nodes extra distinct) lt

  pub numbered-link_by_name : (name : Name) (link : Link) → EndsBelow (length nodes) link → numbered (nodes ++ extra) (link_by_name nodes name link) ≡ link
  numbered-link_by_name name link h = λ i. record {
    tail = place_again link.tail h.tail i;
    head = place_again link.head h.head i;
    transit = link.transit;
    capacity = link.capacity;
  }

  pub map_numbered : {Y : Type 0} (F : Link → Y) (names : List Name) (links : List Link) → length names ≡ length links
      → ((e : ℕ) (link : Link) → slice_get links e ≡ Some link → EndsBelow (length nodes) link)
      → map (λ l. F (numbered (nodes ++ extra) l)) (links_by_name nodes names links) ≡ map F links
  map_numbered F [] [] e below = refl
  map_numbered F [] (l ∷ links) e below = absurd (omega arith)
  map_numbered F (name ∷ names) [] e below = absurd (omega arith)
  map_numbered F (name ∷ names) (l ∷ links) e below =
      λ i. F (numbered-link_by_name name l (below 0 l refl) i) ∷ map_numbered F names links (omega arith) (λ e link h. below (suc e) link h) i

-- ---- links that flags mark: the first ones, and not the others
abbrev pub first_marked : List NamedLink → List NamedLink → List Bool
first_marked first others = map (λ l. true) first ++ map (λ l. false) others

pub marked-first : (first others : List NamedLink) → marked (first_marked first others) (first ++ others) ≡ first
marked-first [] [] = refl
marked-first [] (l ∷ others) = marked-first [] others
marked-first (l ∷ first) others = ap (λ r. l ∷ r) (marked-first first others)

pub marked-others : (first others : List NamedLink) → marked (map not (first_marked first others)) (first ++ others) ≡ others
marked-others [] [] = refl
marked-others [] (l ∷ others) = ap (λ r. l ∷ r) (marked-others [] others)
marked-others (l ∷ first) others = marked-others first others

pub flags_hold : (R : Bool → NamedLink → Type 0) (first others : List NamedLink) → AllByRecursion (R true) first → AllByRecursion (R false) others
    → AllZip R (first_marked first others) (first ++ others)
flags_hold R [] [] h k = tt
flags_hold R [] (l ∷ others) h k = (k.0, flags_hold R [] others h k.1)
flags_hold R (l ∷ first) others h k = (h.0, flags_hold R first others h.1 k)
