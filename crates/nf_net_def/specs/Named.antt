-- A network with the names of its file.
use Rattle.std.specs.Prelude.{ℕ, List, [], ◌∷◌, ◌++◌, map, flat_map, Option, refl}
use Rattle.std.specs.Coded.{Coded, code_by, coded×, coded_ℕ, coded_list, coded_option}
use Rattle.nf_rational.specs.Rational.{ℚ, coded_ℚ}
use Rattle.nf_model.specs.Walk.{Hop}
use Rattle.nf_model.specs.Network.{Link, Network, hop_of}
use Rattle.nf_model.specs.Codes.{coded_network}
use Rattle.nf_net_def.specs.Names.{Name, place_of, name_at}

-- a link with its name and the names of its ends; without capacity it is unbounded
pub record NamedLink : Type 0 where
  pub name : Name
  pub tail : Name
  pub head : Name
  pub transit : ℚ
  pub capacity : Option ℚ

-- A network with its names, in order. `idle_nodes` are nodes that no walk from the source reaches, and `idle_links` are links whose tails
-- are unreached. No flow ever enters them.
pub record Named : Type 0 where
  pub version : ℕ
  pub net : Network
  pub node_names : List Name
  pub link_names : List Name
  pub idle_nodes : List Name
  pub idle_links : List NamedLink

-- ---- conversion between names and numbers
-- replaces the names of the ends of a link by their indices in `nodes`
abbrev pub numbered : List Name → NamedLink → Link
numbered nodes l = record { tail = place_of nodes l.tail; head = place_of nodes l.head; transit = l.transit; capacity = l.capacity }

abbrev pub hops_among : List Name → List NamedLink → List Hop
hops_among nodes links = map (λ l. hop_of (numbered nodes l)) links

-- replaces the numbers of the ends of a link by their names
abbrev pub link_by_name : List Name → Name → Link → NamedLink
link_by_name nodes name l =
    record { name = name; tail = name_at nodes l.tail; head = name_at nodes l.head; transit = l.transit; capacity = l.capacity }

abbrev pub links_by_name : List Name → List Name → List Link → List NamedLink
links_by_name nodes (name ∷ names) (l ∷ links) = link_by_name nodes name l ∷ links_by_name nodes names links
links_by_name nodes names links = []

-- lists the links whose tails are reached, by names
abbrev pub active_links : Named → List NamedLink
active_links n = links_by_name n.node_names n.link_names n.net.links

-- lists the names of the ends of the links, in order
abbrev pub ends : List NamedLink → List Name
ends links = flat_map (λ l. l.tail ∷ l.head ∷ []) links

abbrev pub names_of : List NamedLink → List Name
names_of links = map (λ l. l.name) links

-- ---- all nodes and links, followed by the unreached ones
abbrev pub all_nodes : Named → List Name
all_nodes n = n.node_names ++ n.idle_nodes

abbrev pub all_links : Named → List NamedLink
all_links n = active_links n ++ n.idle_links

abbrev pub all_hops : Named → List Hop
all_hops n = hops_among (all_nodes n) (all_links n)

-- ---- injective codes for contracts
abbrev pub coded_name : Coded Name
coded_name = coded_list coded_ℕ

abbrev pub coded_named_link : Coded NamedLink
coded_named_link = code_by (Name × (Name × (Name × (ℚ × Option ℚ))))
    (coded× coded_name (coded× coded_name (coded× coded_name (coded× coded_ℚ (coded_option coded_ℚ)))))
    (λ l. (l.name, (l.tail, (l.head, (l.transit, l.capacity)))))
    (λ p. record { name = p.0; tail = p.1.0; head = p.1.1.0; transit = p.1.1.1.0; capacity = p.1.1.1.1 }) (λ _. refl)

abbrev pub coded_named : Coded Named
coded_named = code_by (ℕ × (Network × (List Name × (List Name × (List Name × List NamedLink)))))
    (coded× coded_ℕ (coded× coded_network
    (coded× (coded_list coded_name) (coded× (coded_list coded_name) (coded× (coded_list coded_name) (coded_list coded_named_link))))))
    (λ n. (n.version, (n.net, (n.node_names, (n.link_names, (n.idle_nodes, n.idle_links))))))
    (λ p. record {
      version = p.0;
      net = p.1.0;
      node_names = p.1.1.0;
      link_names = p.1.1.1.0;
      idle_nodes = p.1.1.1.1.0;
      idle_links = p.1.1.1.1.1;
    }) (λ _. refl)
