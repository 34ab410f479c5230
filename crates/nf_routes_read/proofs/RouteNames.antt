-- Routes by their names.
use Rattle.std.proofs.Common.{◌≡◌, ℕ, zero, suc, ◌+◌, ◌<◌, Bool, true, false, not, ◌||◌, cond, List, [], ◌∷◌, length, get_or, Option, Some, None, slice_get}
use Rattle.std.proofs.Common.{unwrap_or, position, refl, sym, ap, ◌∙◌, arith, bytes_eq}
use Rattle.nf_routes_read.proofs.Common.{position_or_len, length-map, slice_get-get_or, slice_get-image, Name, is_name, has_name, place_of, name_at}
use Rattle.nf_routes_read.proofs.Common.{IsNameAt, NamedRoute, route_names}
use Rattle.std.specs.Str.{IsUtf8}
use Rattle.std.proofs.lemmas.List.Quantifiers.{position-Some}
use Rattle.nf_text.proofs.Positions.{unwrap_or_position}
use Rattle.nf_net_laws.proofs.NameFacts.{same_names, has_at}
use Rattle.nf_net_file.proofs.NameText.{name_is_text}

-- what isn't text is no name
pub no_name_text : (word : List ℕ) → (IsUtf8 word → ⊥) → is_name word ≡ false
no_name_text word f = step (is_name word) refl
  where
    step : (b : Bool) → is_name word ≡ b → is_name word ≡ false
    step true e = absurd (f (name_is_text word e))
    step false e = e

-- ---- the first route of a name
module _ (name : Name) where
  abbrev has_it : NamedRoute → Bool
  has_it route = bytes_eq name route.name

  same_place : (routes : List NamedRoute) → place_of (route_names routes) name ≡ position_or_len has_it routes
  same_place [] = refl
  same_place (r ∷ routes) = ap (λ (k : ℕ). cond (not (has_it r)) (1 + k) zero) (same_place routes)

  none_has : (routes : List NamedRoute) → position_or_len has_it routes ≡ length routes → has_name (route_names routes) name ≡ false
  none_has [] e = refl
  none_has (r ∷ routes) e = step (has_it r) e (none_has routes)
    where
      step : (b : Bool) → cond (not b) (1 + position_or_len has_it routes) zero ≡ suc (length routes)
          → (position_or_len has_it routes ≡ length routes → has_name (route_names routes) name ≡ false) → (b || has_name (route_names routes) name) ≡ false
      step true e rest = absurd (omega arith)
      step false e rest = rest (omega arith)

  pub not_found : (routes : List NamedRoute) → position has_it routes ≡ None → has_name (route_names routes) name ≡ false
  not_found routes e = none_has routes (sym (unwrap_or_position has_it routes) ∙ ap (λ (o : Option ℕ). unwrap_or o (length routes)) e)

  pub found : (routes : List NamedRoute) (place : ℕ) → position has_it routes ≡ Some place → IsNameAt (route_names routes) name place
  found routes place e =
      let none : NamedRoute = record { name = []; route = record { links = []; pieces = [] } } in
      let first = position-Some has_it routes place none e in
      let many = length-map routes (λ (r : NamedRoute). r.name) in
      let lt : place < length (route_names routes) = omega (arith, first.0, many) in
      let there : slice_get (route_names routes) place ≡ Some (get_or routes place none).name =
      slice_get-image (λ (r : NamedRoute). r.name) routes place (get_or routes place none) (slice_get-get_or routes place none first.0) in
      let at : name_at (route_names routes) place ≡ name =
      ap (λ (o : Option Name). unwrap_or o []) there ∙ sym (same_names name (get_or routes place none).name first.1) in
      record {
        there = ap (has_name (route_names routes)) (sym at) ∙ has_at (route_names routes) place lt;
        is_place = same_place routes ∙ sym (unwrap_or_position has_it routes) ∙ ap (λ (o : Option ℕ). unwrap_or o (length routes)) e;
        within = lt;
      }
