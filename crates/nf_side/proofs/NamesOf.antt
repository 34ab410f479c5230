-- Links and nodes by their names.
use Rattle.std.proofs.Common.{◌≡◌, ℕ, ◌<◌, Bool, true, false, cond, List, [], length, slice_get, unwrap_or, Some, sym, ◌∙◌, ap, arith}
use Rattle.std.proofs.lemmas.Option.{slice_get_within}
use Rattle.std.proofs.lemmas.Slice.Eq.{bytes_eq-Decides}
use Rattle.std.specs.List.{IsDistinct}
use Rattle.std.specs.Str.{IsUtf8, bytes_eq}
use Rattle.nf_net_def.specs.Names.{Name, has_name, place_of, name_at}
use Rattle.nf_net_def.specs.Named.{Named, names_of}
use Rattle.nf_net_def.specs.WellNamed.{IsNamed}
use Rattle.nf_net_laws.proofs.NameFacts.{has_at, place_at}
use Rattle.nf_net_laws.proofs.LinkFacts.{distinct_left}
use Rattle.nf_net_file.proofs.NameText.{name_is_text}
use Rattle.nf_net.proofs.Limits.{named_links, named_nodes, not_there, as_many_names}
use Rattle.nf_side.specs.NameAt.{IsNameAt}

is_there : (names : List Name) (name : Name) (place : ℕ) → IsDistinct bytes_eq names → slice_get names place ≡ Some name → IsNameAt names name place
is_there names name place distinct e =
    let lt = slice_get_within names place name e in
    let at : name_at names place ≡ name = ap (λ o. unwrap_or o []) e in
    record {
      there = ap (has_name names) (sym at) ∙ has_at names place lt;
      is_place = ap (place_of names) (sym at) ∙ place_at names place distinct lt;
      within = lt;
    }

pub link_is_there : (n : Named) (name : Name) (link : ℕ) → IsNamed n → slice_get n.link_names link ≡ Some name → IsNameAt n.link_names name link
link_is_there n name link h e = is_there n.link_names name link (distinct_left n.link_names (names_of n.idle_links) h.link_names.distinct) e

pub node_is_there : (n : Named) (name : Name) (node : ℕ) → IsNamed n → slice_get n.node_names node ≡ Some name → IsNameAt n.node_names name node
node_is_there n name node h e = is_there n.node_names name node (distinct_left n.node_names n.idle_nodes h.node_names.distinct) e

-- a link whose name a word is
pub near_is_there : (n : Named) (name word : Name) (near : ℕ) → IsNamed n → near < length n.net.links → name ≡ name_at n.link_names near → bytes_eq name word ≡ true
    → IsNameAt n.link_names word near
near_is_there n name word near h lt is same =
    let at : name_at n.link_names near ≡ word = sym is ∙ (bytes_eq-Decides name word).0 same in
    let within : near < length n.link_names = omega (arith, lt, as_many_names n h) in
    record {
      there = ap (has_name n.link_names) (sym at) ∙ has_at n.link_names near within;
      is_place = ap (place_of n.link_names) (sym at) ∙ place_at n.link_names near (distinct_left n.link_names (names_of n.idle_links) h.link_names.distinct) within;
      within = within;
    }

-- what isn't text is no name
pub no_link_text : (n : Named) (name : Name) → IsNamed n → (IsUtf8 name → ⊥) → has_name n.link_names name ≡ false
no_link_text n name h f = not_there n.link_names name (named_links n h) (λ e. f (name_is_text name e))

pub no_node_text : (n : Named) (name : Name) → IsNamed n → (IsUtf8 name → ⊥) → has_name n.node_names name ≡ false
no_node_text n name h f = not_there n.node_names name (named_nodes n h) (λ e. f (name_is_text name e))

-- ---- a choice by whether a name is there
module _ {A : Type 0} (names : List Name) (name : Name) (at : ℕ → A) (none : A) where
  abbrev by_name : Bool → ℕ → A
  by_name there place = cond there (at place) none

  pub where_named : (place : ℕ) → IsNameAt names name place → cond (has_name names name) (at (place_of names name)) none ≡ at place
  where_named place is = ap (λ (b : Bool). by_name b (place_of names name)) is.there ∙ ap (λ (k : ℕ). by_name true k) is.is_place

  pub where_not_named : has_name names name ≡ false → cond (has_name names name) (at (place_of names name)) none ≡ none
  where_not_named e = ap (λ (b : Bool). by_name b (place_of names name)) e
