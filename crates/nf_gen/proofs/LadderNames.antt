-- The names of a ladder: they are names, and no two nodes and no two links have the same.
use Rattle.std.proofs.Common.{◌≡◌, ℕ, zero, suc, ◌+◌, ◌-◌, ◌<◌, ◌≤◌, ◌==◌, ◌||◌, ◌&&◌, Bool, true, false, List, [], ◌∷◌, ◌++◌, length, map, flat_map}
use Rattle.std.proofs.Common.{nat_le, codes, bytes_eq, inl, inr, refl, sym, ◌∙◌, ap, subst, arith}
use Rattle.nf_gen.proofs.Common.{AllByRecursion, list_all, range_with_len, and_parts, and_from, or_left, or_right, le-leb, cases_eq, are_digits, digits_of}
use Rattle.nf_gen.proofs.Common.{Name, is_name_byte, is_name, has_name, same_names, bytes_eq-self, has_none, map-append, upper, lower, rung, Ends, rails_on}
use Rattle.nf_gen.proofs.Common.{rung_at, links_in, links_along, links_down, links_out, ladder_ends, rung_nodes, every_append}
use Rattle.std.specs.List.{IsDistinct}
use Rattle.std.specs.Char.{is_ascii_digit, is_ascii_alphanumeric}
use Rattle.std.specs.Int.{is_in_range}
use Rattle.nf_frac_words.proofs.Digits.{digits_injective, are_digits-digits_of}
use Rattle.nf_net_laws.proofs.ShortWords.{length_digits}
use Rattle.nf_gen.proofs.Ranges.{all_flat, all_map}

-- ---- names that differ
differ : (a b : Name) → (a ≡ b → ⊥) → bytes_eq a b ≡ false
differ a b n = go (bytes_eq a b) refl
  where
    go : (t : Bool) → bytes_eq a b ≡ t → t ≡ false
    go true e = absurd (n (same_names a b e))
    go false e = refl

-- all but the first byte
rest : List ℕ → List ℕ
rest [] = []
rest (x ∷ xs) = xs

pub numbers_differ : (c i j : ℕ) → (i ≡ j → ⊥) → bytes_eq (c ∷ digits_of i) (c ∷ digits_of j) ≡ false
unfolding rest
numbers_differ c i j n = differ (c ∷ digits_of i) (c ∷ digits_of j) (λ e. n (digits_injective i j (ap rest e)))

-- a number's last byte is no `t`
end_differs : (c i : ℕ) → bytes_eq (c ∷ digits_of i) (c ∷ 116 ∷ []) ≡ false
unfolding rest
end_differs c i = differ (c ∷ digits_of i) (c ∷ 116 ∷ []) (λ e. let h : true ≡ false = sym (are_digits-digits_of i) ∙ ap (λ l. are_digits (rest l)) e in absurd (cc))

-- ---- they are names
digit_of_name : (c : ℕ) → is_ascii_digit c ≡ true → is_name_byte c ≡ true
digit_of_name c e = or_left (is_ascii_alphanumeric c) (c == 95 || (c == 45 || c == 46))
    (or_left (is_in_range 48 57 c || is_in_range 65 90 c) (is_in_range 97 122 c) (or_left (is_in_range 48 57 c) (is_in_range 65 90 c) e))

digits_of_names : (ds : List ℕ) → are_digits ds ≡ true → list_all is_name_byte ds ≡ true
digits_of_names [] e = refl
digits_of_names (c ∷ ds) e =
    let p = and_parts (is_ascii_digit c) (are_digits ds) e in
    and_from (is_name_byte c) (list_all is_name_byte ds) (digit_of_name c p.0) (digits_of_names ds p.1)

pub lettered_is_name : (c i : ℕ) → is_name_byte c ≡ true → i < 100 → is_name (c ∷ digits_of i) ≡ true
lettered_is_name c i ok h =
    let short : length (digits_of i) ≤ 2 = length_digits i 1 h in
    and_from (nat_le 1 (length (c ∷ digits_of i))) (nat_le (length (c ∷ digits_of i)) 24 && list_all is_name_byte (c ∷ digits_of i))
    (le-leb 1 (length (c ∷ digits_of i)) (omega arith))
    (and_from (nat_le (length (c ∷ digits_of i)) 24) (list_all is_name_byte (c ∷ digits_of i))
    (le-leb (length (c ∷ digits_of i)) 24 (omega arith))
    (and_from (is_name_byte c) (list_all is_name_byte (digits_of i)) ok (digits_of_names (digits_of i) (are_digits-digits_of i))))

-- ---- the nodes of rungs
pub no_upper : (a n j : ℕ) → a + n ≤ j → has_name (flat_map rung_nodes (range_with_len a n)) (upper j) ≡ false
no_upper a n j h = has_none (flat_map rung_nodes (range_with_len a n)) (upper j)
    (all_flat (λ y. bytes_eq (upper j) y ≡ false) rung_nodes a n (λ k low high. (numbers_differ 117 j k (λ e. absurd (omega arith)), (refl, tt))))

pub no_lower : (a n j : ℕ) → a + n ≤ j → has_name (flat_map rung_nodes (range_with_len a n)) (lower j) ≡ false
no_lower a n j h = has_none (flat_map rung_nodes (range_with_len a n)) (lower j)
    (all_flat (λ y. bytes_eq (lower j) y ≡ false) rung_nodes a n (λ k low high. (refl, (numbers_differ 108 j k (λ e. absurd (omega arith)), tt))))

pub has_upper : (a n j : ℕ) → a ≤ j → j < a + n → has_name (flat_map rung_nodes (range_with_len a n)) (upper j) ≡ true
has_upper a zero j low high = absurd (omega arith)
has_upper a (suc n) j low high = elim (cases_eq j a) [
  | inl same ↦ or_left (bytes_eq (upper j) (upper a)) (bytes_eq (upper j) (lower a) || has_name (flat_map rung_nodes (range_with_len (a + 1) n)) (upper j))
      (subst (λ (k : ℕ). bytes_eq (upper j) (upper k) ≡ true) same (bytes_eq-self (upper j)))
  | inr other ↦ or_right (bytes_eq (upper j) (upper a)) (bytes_eq (upper j) (lower a) || has_name (flat_map rung_nodes (range_with_len (a + 1) n)) (upper j))
      (has_upper (a + 1) n j (omega arith) (omega arith))
]

pub has_lower : (a n j : ℕ) → a ≤ j → j < a + n → has_name (flat_map rung_nodes (range_with_len a n)) (lower j) ≡ true
has_lower a zero j low high = absurd (omega arith)
has_lower a (suc n) j low high = elim (cases_eq j a) [
  | inl same ↦ or_left (bytes_eq (lower j) (lower a)) (has_name (flat_map rung_nodes (range_with_len (a + 1) n)) (lower j))
      (subst (λ (k : ℕ). bytes_eq (lower j) (lower k) ≡ true) same (bytes_eq-self (lower j)))
  | inr other ↦ or_right (bytes_eq (lower j) (lower a)) (has_name (flat_map rung_nodes (range_with_len (a + 1) n)) (lower j))
      (has_lower (a + 1) n j (omega arith) (omega arith))
]

-- ---- no two are the same
abbrev Differs : List Name → Name → Type 0
Differs ys x = AllByRecursion (λ y. bytes_eq x y ≡ false) ys

distinct_append : (xs ys : List Name) → IsDistinct bytes_eq xs → IsDistinct bytes_eq ys → AllByRecursion (Differs ys) xs → IsDistinct bytes_eq (xs ++ ys)
unfolding IsDistinct
distinct_append [] ys h k f = k
distinct_append (x ∷ xs) ys h k f = (every_append (λ y. bytes_eq x y ≡ false) xs ys h.0 f.0, distinct_append xs ys h.1 k f.1)

distinct_rails : (a n : ℕ) → IsDistinct bytes_eq (flat_map rung_nodes (range_with_len a n))
unfolding IsDistinct
distinct_rails a zero = tt
distinct_rails a (suc n) = (
  (refl, all_flat (λ y. bytes_eq (upper a) y ≡ false) rung_nodes (a + 1) n (λ k low high. (numbers_differ 117 a k (λ e. absurd (omega arith)), (refl, tt)))),
  (all_flat (λ y. bytes_eq (lower a) y ≡ false) rung_nodes (a + 1) n (λ k low high. (refl, (numbers_differ 108 a k (λ e. absurd (omega arith)), tt))), distinct_rails (a + 1) n),
)

distinct_rungs : (a n : ℕ) → IsDistinct bytes_eq (map rung (range_with_len a n))
unfolding IsDistinct
distinct_rungs a zero = tt
distinct_rungs a (suc n) = (all_map (λ y. bytes_eq (rung a) y ≡ false) rung (a + 1) n (λ k low high. numbers_differ 114 a k (λ e. absurd (omega arith))), distinct_rungs (a + 1) n)

two_distinct : (a b : Name) → bytes_eq a b ≡ false → IsDistinct bytes_eq (a ∷ b ∷ [])
unfolding IsDistinct
two_distinct a b e = ((e, tt), (tt, tt))

-- the nodes
pub distinct_nodes : (rungs : ℕ) → IsDistinct bytes_eq (codes "s" ∷ codes "t" ∷ [] ++ flat_map rung_nodes (range_with_len 1 rungs))
distinct_nodes rungs = distinct_append (codes "s" ∷ codes "t" ∷ []) (flat_map rung_nodes (range_with_len 1 rungs)) (two_distinct (codes "s") (codes "t") refl) (distinct_rails 1 rungs) (
  all_flat (λ y. bytes_eq (codes "s") y ≡ false) rung_nodes 1 rungs (λ k low high. (refl, (refl, tt))),
  (all_flat (λ y. bytes_eq (codes "t") y ≡ false) rung_nodes 1 rungs (λ k low high. (refl, (refl, tt))), tt),
)

-- ---- the links
names_along : (a n : ℕ) → map (λ (l : Ends). l.name) (flat_map rails_on (range_with_len a n)) ≡ flat_map rung_nodes (range_with_len a n)
names_along a zero = refl
names_along a (suc n) = ap (λ r. upper a ∷ lower a ∷ r) (names_along (a + 1) n)

names_down : (a n : ℕ) → map (λ (l : Ends). l.name) (map rung_at (range_with_len a n)) ≡ map rung (range_with_len a n)
names_down a zero = refl
names_down a (suc n) = ap (λ r. rung a ∷ r) (names_down (a + 1) n)

module _ (rungs : ℕ) where
  abbrev first : List Name
  first = codes "su" ∷ codes "sl" ∷ []

  abbrev along : List Name
  along = flat_map rung_nodes (range_with_len 1 (rungs - 1))

  abbrev down : List Name
  down = map rung (range_with_len 1 rungs)

  abbrev last : List Name
  last = codes "ut" ∷ codes "lt" ∷ []

  abbrev f : Ends → Name
  f l = l.name

  pub link_names : map (λ (l : Ends). l.name) (ladder_ends rungs) ≡ first ++ along ++ down ++ last
  link_names =
      map-append f (links_in ++ links_along rungs ++ links_down rungs) (links_out rungs)
      ∙ ap (λ r. r ++ last)
      (map-append f (links_in ++ links_along rungs) (links_down rungs)
      ∙ (λ i. (map-append f links_in (links_along rungs) ∙ ap (λ r. first ++ r) (names_along 1 (rungs - 1))) i ++ names_down 1 rungs i))

  pub distinct_links : IsDistinct bytes_eq (first ++ along ++ down ++ last)
  distinct_links = distinct_append (first ++ along ++ down) last
      (distinct_append (first ++ along) down
      (distinct_append first along (two_distinct (codes "su") (codes "sl") refl) (distinct_rails 1 (rungs - 1)) (
        all_flat (λ y. bytes_eq (codes "su") y ≡ false) rung_nodes 1 (rungs - 1) (λ k low high. (refl, (refl, tt))),
        (all_flat (λ y. bytes_eq (codes "sl") y ≡ false) rung_nodes 1 (rungs - 1) (λ k low high. (refl, (refl, tt))), tt),
      ))
      (distinct_rungs 1 rungs)
      (every_append (Differs down) first along (
        all_map (λ y. bytes_eq (codes "su") y ≡ false) rung 1 rungs (λ k low high. refl),
        (all_map (λ y. bytes_eq (codes "sl") y ≡ false) rung 1 rungs (λ k low high. refl), tt),
      )
      (all_flat (Differs down) rung_nodes 1 (rungs - 1) (λ j low high. (
        all_map (λ y. bytes_eq (upper j) y ≡ false) rung 1 rungs (λ k low high. refl),
        (all_map (λ y. bytes_eq (lower j) y ≡ false) rung 1 rungs (λ k low high. refl), tt),
      )))))
      (two_distinct (codes "ut") (codes "lt") refl)
      (every_append (Differs last) (first ++ along) down
      (every_append (Differs last) first along ((refl, (refl, tt)), ((refl, (refl, tt)), tt))
      (all_flat (Differs last) rung_nodes 1 (rungs - 1) (λ j low high. ((end_differs 117 j, (refl, tt)), ((refl, (end_differs 108 j, tt)), tt)))))
      (all_map (Differs last) rung 1 rungs (λ j low high. (refl, (refl, tt)))))
