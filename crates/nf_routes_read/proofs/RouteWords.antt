-- The words of a line, by their number.
use Rattle.std.proofs.Common.{◌≡◌, ℕ, ◌<◌, ◌≤◌, Bool, true, false, not, cond, List, [], ◌∷◌, length, drop, map, Result, Ok, Err, refl, sym, ◌∙◌, ap, arith}
use Rattle.std.proofs.Common.{bytes_eq, codes}
use Rattle.nf_routes_read.proofs.Common.{list_all, cond-true, cond-false, Name, is_name, has_name, place_of, word_at, RoutesRule, G6, G7, G8, RoutesEntry}
use Rattle.nf_routes_read.proofs.Common.{RouteLine, route_line, rate_line, end_line, routes_entry, AreLinksOf}

-- ---- `route`
module _ (names : List Name) where
  pub route_count_wrong : (words : List (List ℕ)) → 0 < length words → length words < 3 → route_line names (drop 1 words) ≡ Err G6
  route_count_wrong [] some few = absurd (omega arith)
  route_count_wrong (key ∷ []) some few = refl
  route_count_wrong (key ∷ name ∷ []) some few = refl
  route_count_wrong (key ∷ name ∷ first ∷ rest) some few = absurd (omega arith)

  abbrev by_names : List (List ℕ) → Bool → Bool → Result RoutesEntry RoutesRule
  by_names words named all = cond (not named) (Err G7) (cond all (Ok (RouteLine (word_at words 1) (map (place_of names) (drop 2 words)))) (Err G8))

  route_is : (words : List (List ℕ)) → 3 ≤ length words → route_line names (drop 1 words) ≡ by_names words (is_name (word_at words 1)) (list_all (has_name names) (drop 2 words))
  route_is [] n = absurd (omega arith)
  route_is (key ∷ []) n = absurd (omega arith)
  route_is (key ∷ name ∷ []) n = absurd (omega arith)
  route_is (key ∷ name ∷ first ∷ rest) n = refl

  pub route_bad_name : (words : List (List ℕ)) → 3 ≤ length words → is_name (word_at words 1) ≡ false → route_line names (drop 1 words) ≡ Err G7
  route_bad_name words n e = route_is words n ∙ ap (λ (b : Bool). by_names words b (list_all (has_name names) (drop 2 words))) e

  module _ (words : List (List ℕ)) (n : 3 ≤ length words) (named : is_name (word_at words 1) ≡ true) where
    by_links : (all : Bool) → list_all (has_name names) (drop 2 words) ≡ all → route_line names (drop 1 words) ≡ by_names words true all
    by_links all e = route_is words n
        ∙ ap (λ (b : Bool). by_names words b (list_all (has_name names) (drop 2 words))) named
        ∙ ap (λ (b : Bool). by_names words true b) e

    pub route_known : (name : Name) (links : List ℕ) → name ≡ word_at words 1 → AreLinksOf names (drop 2 words) links → route_line names (drop 1 words) ≡ Ok (RouteLine name links)
    route_known name links same are =
        let name_is = sym same in
        let links_are = sym are.places in
        by_links true are.there ∙ λ i. Ok (RouteLine (name_is i) (links_are i))

-- ---- a line by its key
module _ (links routes : List Name) (words : List (List ℕ)) (key : List ℕ) (some : length words ≡ 0 → ⊥) (is_key : key ≡ word_at words 0) where
  by_key : routes_entry links routes words ≡ routes_entry links routes (key ∷ drop 1 words)
  by_key = at words some is_key
    where
      at : (words : List (List ℕ)) → (length words ≡ 0 → ⊥) → key ≡ word_at words 0 → routes_entry links routes words ≡ routes_entry links routes (key ∷ drop 1 words)
      at [] some e = absurd (some refl)
      at (word ∷ rest) some e = ap (λ (word : List ℕ). routes_entry links routes (word ∷ rest)) (sym e)

  pub route_line_is : bytes_eq key (codes "route") ≡ true → routes_entry links routes words ≡ route_line links (drop 1 words)
  route_line_is t = by_key ∙ cond-true (bytes_eq key (codes "route")) _ _ t

  module _ (no_route : bytes_eq key (codes "route") ≡ false) where
    pub rate_line_is : bytes_eq key (codes "rate") ≡ true → routes_entry links routes words ≡ rate_line routes (drop 1 words)
    rate_line_is t = by_key ∙ cond-false (bytes_eq key (codes "route")) _ _ no_route ∙ cond-true (bytes_eq key (codes "rate")) _ _ t

    pub end_line_is : bytes_eq key (codes "rate") ≡ false → bytes_eq key (codes "end") ≡ true → routes_entry links routes words ≡ end_line (drop 1 words)
    end_line_is no_rate t =
        by_key ∙ cond-false (bytes_eq key (codes "route")) _ _ no_route ∙ cond-false (bytes_eq key (codes "rate")) _ _ no_rate ∙ cond-true (bytes_eq key (codes "end")) _ _ t
