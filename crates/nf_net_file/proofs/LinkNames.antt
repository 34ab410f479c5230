-- Whether a link has a name, link by link.
use Rattle.std.proofs.Common.{◌≡◌, ℕ, ◌+◌, ◌<◌, Bool, true, false, ◌||◌, List, length, get_or, drop, sym, ◌∙◌, ap, bytes_eq}
use Rattle.nf_net_file.proofs.Common.{at_drop_more, Name, has_name, NamedLink, names_of}

module _ (links : List NamedLink) (name : Name) (i : ℕ) (link : NamedLink) (lt : i < length links) (is : link ≡ get_or links i link) where
  at_link : has_name (names_of (drop i links)) name ≡ (bytes_eq name link.name || has_name (names_of (drop (i + 1) links)) name)
  at_link = at_drop_more (λ ls. has_name (names_of ls) name) links i link lt
      ∙ ap (λ (l : NamedLink). bytes_eq name l.name || has_name (names_of (drop (i + 1) links)) name) (sym is)

  pub name_later : bytes_eq name link.name ≡ false → has_name (names_of (drop i links)) name ≡ has_name (names_of (drop (i + 1) links)) name
  name_later e = at_link ∙ ap (λ (b : Bool). b || has_name (names_of (drop (i + 1) links)) name) e

  pub name_here : bytes_eq name link.name ≡ true → has_name (names_of (drop i links)) name ≡ true
  name_here e = at_link ∙ ap (λ (b : Bool). b || has_name (names_of (drop (i + 1) links)) name) e
