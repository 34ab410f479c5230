-- Links that words name, one after the other, and walks along them.
use Rattle.std.proofs.Common.{◌≡◌, ℕ, ◌+◌, ◌<◌, ◌≤◌, Bool, true, false, not, ◌&&◌, eqb, List, [], ◌∷◌, ◌++◌, length, drop, map, get_or, Option, Some, All}
use Rattle.std.proofs.Common.{slice_get, refl, sym, ap, ◌∙◌}
use Rattle.nf_routes_read.proofs.Common.{list_all, drop_more, at_drop_all, at_drop_more, append_assoc, append-nil, unwrap_or-slice_get, Link, Name}
use Rattle.nf_routes_read.proofs.Common.{has_name, place_of, word_at, IsNameAt, is_walk, tail_is, head_of, AreLinksOf}
use Rattle.std.proofs.lemmas.List.Elements.{All-push}

drop_word : (words : List (List ℕ)) (place : ℕ) → place < length words → drop place words ≡ word_at words place ∷ drop (place + 1) words
drop_word words place lt = drop_more words place [] lt ∙ ap (λ (w : List ℕ). w ∷ drop (place + 1) words) (sym (unwrap_or-slice_get words place []))

-- the first words are read, and the others remain
pub record AreRead (names : List Name) (words : List (List ℕ)) (place : ℕ) (links : List ℕ) : Type 0 where
  pub there : list_all (has_name names) (drop place words) ≡ list_all (has_name names) (drop 2 words)
  pub places : links ++ map (place_of names) (drop place words) ≡ map (place_of names) (drop 2 words)
  pub within : All (λ e. e < length names) links

module _ (names : List Name) (words : List (List ℕ)) (place : ℕ) (links : List ℕ) (are : AreRead names words place links) where
  pub all_read : length words ≤ place → AreLinksOf names (drop 2 words) links
  all_read past = record {
    there = sym are.there ∙ at_drop_all (list_all (has_name names)) words place past;
    places = sym (append-nil links) ∙ sym (at_drop_all (λ (ws : List (List ℕ)). links ++ map (place_of names) ws) words place past) ∙ are.places;
    within = are.within;
  }

  module _ (lt : place < length words) where
    pub none_there : has_name names (word_at words place) ≡ false → list_all (has_name names) (drop 2 words) ≡ false
    none_there e = sym are.there ∙ ap (list_all (has_name names)) (drop_word words place lt) ∙ ap (λ (b : Bool). b && list_all (has_name names) (drop (place + 1) words)) e

    pub one_more : (link next : ℕ) → IsNameAt names (word_at words place) link → next ≡ place + 1 → AreRead names words next (links ++ link ∷ [])
    one_more link next is e = record {
      there = ap (λ (k : ℕ). list_all (has_name names) (drop k words)) e
          ∙ sym (ap (list_all (has_name names)) (drop_word words place lt) ∙ ap (λ (b : Bool). b && list_all (has_name names) (drop (place + 1) words)) is.there)
          ∙ are.there;
      places = ap (λ (k : ℕ). (links ++ link ∷ []) ++ map (place_of names) (drop k words)) e
          ∙ append_assoc links (link ∷ []) (map (place_of names) (drop (place + 1) words))
          ∙ ap (λ (k : ℕ). links ++ k ∷ map (place_of names) (drop (place + 1) words)) (sym is.is_place)
          ∙ ap (λ (ws : List (List ℕ)). links ++ map (place_of names) ws) (sym (drop_word words place lt))
          ∙ are.places;
      within = All-push (λ e. e < length names) links link are.within is.within;
    }

-- ---- walks
module _ (links : List Link) (walk : List ℕ) (sink : ℕ) where
  pub walk_more : (i v e : ℕ) (link : Link) → i < length walk → e ≡ get_or walk i e → slice_get links e ≡ Some link
      → is_walk links (drop i walk) v sink ≡ (eqb link.tail v && is_walk links (drop (i + 1) walk) link.head sink)
  walk_more i v e link lt is there =
      at_drop_more (λ (w : List ℕ). is_walk links w v sink) walk i e lt
      ∙ ap (λ (k : ℕ). is_walk links (k ∷ drop (i + 1) walk) v sink) (sym is)
      ∙ ap (λ (o : Option Link). tail_is o v && is_walk links (drop (i + 1) walk) (head_of o) sink) there

  -- from the test of a link that was read
  not_not : (b : Bool) → not b ≡ false → b ≡ true
  not_not true e = refl
  not_not false e = sym e

  not_it : (b : Bool) → not b ≡ true → b ≡ false
  not_it true e = sym e
  not_it false e = refl

  module _ (i v e tail head : ℕ) (link : Link) (lt : i < length walk) (is : e ≡ get_or walk i e) (there : slice_get links e ≡ Some link) (leaves : tail ≡ link.tail) where
    pub walk_goes : head ≡ link.head → not (eqb tail v) ≡ false → is_walk links (drop (i + 1) walk) head sink ≡ is_walk links (drop i walk) v sink
    walk_goes leads t =
        ap (λ (u : ℕ). is_walk links (drop (i + 1) walk) u sink) leads
        ∙ sym (walk_more i v e link lt is there
        ∙ ap (λ (b : Bool). b && is_walk links (drop (i + 1) walk) link.head sink) (ap (λ (u : ℕ). eqb u v) (sym leaves) ∙ not_not (eqb tail v) t))

    pub walk_breaks : not (eqb tail v) ≡ true → false ≡ is_walk links (drop i walk) v sink
    walk_breaks t = sym (walk_more i v e link lt is there
        ∙ ap (λ (b : Bool). b && is_walk links (drop (i + 1) walk) link.head sink) (ap (λ (u : ℕ). eqb u v) (sym leaves) ∙ not_it (eqb tail v) t))
