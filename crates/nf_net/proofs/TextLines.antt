-- Lines of a text, piece by piece.
use Rattle.std.proofs.Common.{◌≡◌, ℕ, zero, suc, ◌+◌, ◌≤◌, List, [], ◌∷◌, ◌++◌, length, append-nil, map, drop, slice_get, Option, Some, sym, ◌∙◌, ap, arith}
use Rattle.std.proofs.Common.{append_assoc}
use Rattle.nf_net.proofs.Common.{line_of_words, flat_map, drop_all, Link, IsLink, Name, name_at, NamedLink, Named, link_by_name, links_by_name}
use Rattle.nf_net.proofs.Common.{active_links, link_words, IsNamed, PushesLink}
use Rattle.nf_net.proofs.Limits.{length-links_by_name}

-- ---- texts put behind each other
-- with one word more
pub more_words : (o p q x y : List ℕ) → p ≡ o ++ x → q ≡ p ++ y → q ≡ o ++ (x ++ y)
more_words o p q x y h k = k ∙ ap (λ (l : List ℕ). l ++ y) h ∙ append_assoc o x y

pub three_pushes : (o o1 o2 o3 a b c : List ℕ) → o1 ≡ o ++ a → o2 ≡ o1 ++ b → o3 ≡ o2 ++ c → o3 ≡ o ++ (a ++ b ++ c)
three_pushes o o1 o2 o3 a b c h1 h2 h3 = more_words o o2 o3 (a ++ b) c (more_words o o1 o2 a b h1 h2) h3

-- the links that aren't idle, from a place on
pub drop-links_by_name : (nodes names : List Name) (links : List Link) (i : ℕ) (link : Link) → length names ≡ length links → slice_get links i ≡ Some link
    → drop i (links_by_name nodes names links) ≡ link_by_name nodes (name_at names i) link ∷ drop (i + 1) (links_by_name nodes names links)
drop-links_by_name nodes [] [] i link e h = absurd (cc)
drop-links_by_name nodes [] (l ∷ links) i link e h = absurd (omega arith)
drop-links_by_name nodes (name ∷ names) [] i link e h = absurd (omega arith)
drop-links_by_name nodes (name ∷ names) (l ∷ links) zero link e h = ap (λ (k : Link). link_by_name nodes name k ∷ links_by_name nodes names links) (same_Some l link h)
  where
    same_Some : (a b : Link) → ◌≡◌ {A = Option Link} (Some a) (Some b) → a ≡ b
    same_Some a b e = cc
drop-links_by_name nodes (name ∷ names) (l ∷ links) (suc i) link e h =
    drop-links_by_name nodes names links i link (omega arith) h
    ∙ ap (λ (k : ℕ). link_by_name nodes (name_at names i) link ∷ drop k (link_by_name nodes name l ∷ links_by_name nodes names links)) (later i)
  where
    later : (i : ℕ) → suc (i + 1) ≡ suc i + 1
    later i = omega arith

-- a link by its number, with the names that are found

pub link_pushed : (n : Named) (id : ℕ) (v : Link) (name tail head : Name) (old new : List ℕ) → IsNamed n → IsLink n.net id v
    → name ≡ name_at n.link_names id → tail ≡ name_at n.node_names v.tail → head ≡ name_at n.node_names v.head
    → new ≡ old ++ line_of_words (link_words (record { name = name; tail = tail; head = head; transit = v.transit; capacity = v.capacity }))
    → PushesLink n id old new
link_pushed n id v name tail head old new h is e f g text = record {
  link = link_by_name n.node_names (name_at n.link_names id) v;
  is_link = drop-links_by_name n.node_names n.link_names n.net.links id v h.numbered.links is;
  text = text ∙ (λ i. old ++ line_of_words (link_words (record { name = e i; tail = f i; head = g i; transit = v.transit; capacity = v.capacity })));
}

pub link_more : (n : Named) (id : ℕ) (old new : List ℕ) → PushesLink n id old new
    → new ++ flat_map line_of_words (map link_words (drop (id + 1) (active_links n))) ≡ old ++ flat_map line_of_words (map link_words (drop id (active_links n)))
link_more n id old new p =
    ap (λ (l : List ℕ). l ++ flat_map line_of_words (map link_words (drop (id + 1) (active_links n)))) p.text
    ∙ append_assoc old (line_of_words (link_words p.link)) (flat_map line_of_words (map link_words (drop (id + 1) (active_links n))))
    ∙ ap (λ (ls : List NamedLink). old ++ flat_map line_of_words (map link_words ls)) (sym p.is_link)

pub links_done : (n : Named) (id : ℕ) (old : List ℕ) → IsNamed n → length n.net.links ≤ id → old ++ flat_map line_of_words (map link_words (drop id (active_links n))) ≡ old
links_done n id old h le =
    ap (λ (ls : List NamedLink). old ++ flat_map line_of_words (map link_words ls))
    (drop_all id (active_links n) (omega (arith, length-links_by_name n.node_names n.link_names n.net.links h.numbered.links)))
    ∙ append-nil old
