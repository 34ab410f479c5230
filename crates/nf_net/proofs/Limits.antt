-- How many nodes, links and names a network has.
use Rattle.std.proofs.Common.{◌≡◌, ℕ, ◌+◌, ◌^◌, ◌<◌, ◌≤◌, suc, List, [], ◌∷◌, length, refl, sym, ◌∙◌, ap, arith, ◌&&◌, ◌||◌, Bool, true, false, not, cond}
use Rattle.std.proofs.Common.{nat_lt, is_some, None, Some, slice_get, get_or, length-append}
use Rattle.nf_net.proofs.Common.{list_all, position, position_or_len, bytes_eq, slice_get-get_or, same_names, Link, hops, Name, is_name, has_name, Named}
use Rattle.nf_net.proofs.Common.{links_by_name, active_links, names_of, IsNamed}
use Rattle.std.proofs.lemmas.List.Quantifiers.{position-Some}
use Rattle.std.proofs.lemmas.Bool.{lt-ltb}
use Rattle.nf_net_laws.proofs.LinesBack.{list_all-left}
use Rattle.nf_graph.proofs.NetworkHops.{hops_length}

pub few_nodes : (n : Named) → IsNamed n → length n.node_names ≤ 64
few_nodes n h = omega (arith, h.limits.nodes, length-append n.node_names n.idle_nodes)

pub few_idle_nodes : (n : Named) → IsNamed n → length n.idle_nodes ≤ 64
few_idle_nodes n h = omega (arith, h.limits.nodes, length-append n.node_names n.idle_nodes)

pub length-links_by_name : (nodes names : List Name) (links : List Link) → length names ≡ length links → length (links_by_name nodes names links) ≡ length links
length-links_by_name nodes [] [] e = refl
length-links_by_name nodes [] (l ∷ links) e = absurd (omega arith)
length-links_by_name nodes (name ∷ names) [] e = absurd (omega arith)
length-links_by_name nodes (name ∷ names) (l ∷ links) e = ap (λ (n : ℕ). suc n) (length-links_by_name nodes names links (omega arith))

pub few_links : (n : Named) → IsNamed n → length n.net.links ≤ 200
few_links n h = omega (arith, h.limits.links, length-append (active_links n) n.idle_links, length-links_by_name n.node_names n.link_names n.net.links h.numbered.links)

pub few_hops : (n : Named) → IsNamed n → length (hops n.net) < 2 ^ 32
few_hops n h = let f = few_links n h in let c = hops_length n.net in omega arith

pub as_many_names : (n : Named) → IsNamed n → length n.link_names ≡ length n.net.links
as_many_names n h = h.numbered.links

pub some_nodes : (n : Named) → IsNamed n → n.net.sink < n.net.nodes
some_nodes n h = h.network.sink

-- ---- all names are names
pub named_nodes : (n : Named) → IsNamed n → list_all is_name n.node_names ≡ true
named_nodes n h = list_all-left n.node_names n.idle_nodes h.node_names.each

pub named_links : (n : Named) → IsNamed n → list_all is_name n.link_names ≡ true
named_links n h = list_all-left n.link_names (names_of n.idle_links) h.link_names.each

-- what isn't a name isn't there
pub not_there : (names : List Name) (name : Name) → list_all is_name names ≡ true → (is_name name ≡ true → ⊥) → has_name names name ≡ false
not_there [] name e f = refl
not_there (x ∷ xs) name e f = step (is_name x) refl (bytes_eq name x) refl e (λ h. not_there xs name h f)
  where
    step : (b : Bool) → is_name x ≡ b → (t : Bool) → bytes_eq name x ≡ t → (b && list_all is_name xs) ≡ true
        → (list_all is_name xs ≡ true → has_name xs name ≡ false) → (t || has_name xs name) ≡ false
    step true is true same e rest = absurd (f (ap is_name (same_names name x same) ∙ is))
    step true is false same e rest = rest e
    step false is t same e rest = absurd (cc)

-- a name is there just where it has a place
next : (k n : ℕ) → nat_lt (1 + k) (suc n) ≡ nat_lt k n
next k n = grind arith

below : (names : List Name) (name : Name) → nat_lt (position_or_len (bytes_eq name) names) (length names) ≡ has_name names name
below [] name = refl
below (x ∷ names) name = step (bytes_eq name x) (below names name)
  where
    step : (b : Bool) → nat_lt (position_or_len (bytes_eq name) names) (length names) ≡ has_name names name
        → nat_lt (cond (not b) (1 + position_or_len (bytes_eq name) names) 0) (suc (length names)) ≡ (b || has_name names name)
    step true h = lt-ltb 0 (suc (length names)) (omega arith)
    step false h = next (position_or_len (bytes_eq name) names) (length names) ∙ h

has_place : (names : List Name) (name : Name) → is_some (position (bytes_eq name) names) ≡ has_name names name
has_place names name = some_if (nat_lt (position_or_len (bytes_eq name) names) (length names)) (position_or_len (bytes_eq name) names) ∙ below names name
  where
    some_if : (b : Bool) (k : ℕ) → is_some (cond b (Some k) None) ≡ b
    some_if true k = refl
    some_if false k = refl

-- and so isn't there where it has none
pub no_place : (names : List Name) (name : Name) → position (bytes_eq name) names ≡ None → has_name names name ≡ false
no_place names name e = sym (has_place names name) ∙ ap is_some e

-- the place that is found
pub position_there : (names : List Name) (name : Name) (place : ℕ) → position (bytes_eq name) names ≡ Some place → slice_get names place ≡ Some name
position_there names name place e =
    let found = position-Some (bytes_eq name) names place name e in
    slice_get-get_or names place name found.0 ∙ ap (λ x. Some x) (sym (same_names name (get_or names place name) found.1))

pub few_link_names : (n : Named) → IsNamed n → length n.link_names ≤ 200
few_link_names n h = omega (arith, few_links n h, h.numbered.links)
