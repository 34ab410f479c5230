-- The ladder of a number has two rails between the source and the sink, and rungs from the upper rail to the lower one. A linear
-- congruential generator, started from the number, gives the transit times, the capacities and the rates.
use Rattle.std.specs.Prelude.{ℕ, zero, suc, ◌+◌, ◌-◌, ◌*◌, ◌%◌, List, [], ◌∷◌, ◌++◌, map, flat_map, Some, pos, codes}
use Rattle.std.specs.List.{range_with_len}
use Rattle.nf_rational.specs.Operations.{whole}
use Rattle.nf_model.specs.Network.{Piece}
use Rattle.nf_frac_words.specs.Digits.{digits_of}
use Rattle.nf_net_def.specs.Names.{Name}
use Rattle.nf_net_def.specs.Named.{NamedLink, Named, numbered, names_of}

-- ---- the generator
unfoldable pub next_value : ℕ → ℕ
next_value x = (75 * x + 74) % 65537

-- the value of the generator after this number of draws
unfoldable pub drawn : ℕ → ℕ → ℕ
drawn number zero = number % 65537
drawn number (suc draws) = next_value (drawn number draws)

-- the greatest number of rungs
abbrev pub most_rungs : ℕ
most_rungs = 30

-- ---- names: nodes `u1`, `u2` .. of the upper rail, nodes `l1`, `l2` .. of the lower rail, and rungs `r1`, `r2` ..
abbrev pub upper : ℕ → Name
upper i = 117 ∷ digits_of i

abbrev pub lower : ℕ → Name
lower i = 108 ∷ digits_of i

abbrev pub rung : ℕ → Name
rung i = 114 ∷ digits_of i

-- ---- the links without their draws
pub record Ends : Type 0 where
  pub name : Name
  pub tail : Name
  pub head : Name

abbrev pub link_from : Name → Name → Name → Ends
link_from name tail head = record { name = name; tail = tail; head = head }

-- the links along both rails from rung i to the next; each has the name of its tail
abbrev pub rails_on : ℕ → List Ends
rails_on i = link_from (upper i) (upper i) (upper (i + 1)) ∷ link_from (lower i) (lower i) (lower (i + 1)) ∷ []

abbrev pub rung_at : ℕ → Ends
rung_at i = link_from (rung i) (upper i) (lower i)

abbrev pub links_in : List Ends
links_in = link_from (codes "su") (codes "s") (upper 1) ∷ link_from (codes "sl") (codes "s") (lower 1) ∷ []

abbrev pub links_along : ℕ → List Ends
links_along rungs = flat_map rails_on (range_with_len 1 (rungs - 1))

abbrev pub links_down : ℕ → List Ends
links_down rungs = map rung_at (range_with_len 1 rungs)

abbrev pub links_out : ℕ → List Ends
links_out rungs = link_from (codes "ut") (upper rungs) (codes "t") ∷ link_from (codes "lt") (lower rungs) (codes "t") ∷ []

-- lists the links into both rails, along them from each rung to the next, down each rung, and out of both rails
abbrev pub ladder_ends : ℕ → List Ends
ladder_ends rungs = links_in ++ links_along rungs ++ links_down rungs ++ links_out rungs

-- ---- the draws
-- each link uses the next two values: the first gives its transit time, 1 to 5, the second its capacity, 1 to 4
abbrev pub drawn_link : ℕ → ℕ → Ends → NamedLink
drawn_link number place l = record {
  name = l.name;
  tail = l.tail;
  head = l.head;
  transit = whole (pos (1 + drawn number (2 * place + 1) % 5));
  capacity = Some (whole (pos (1 + drawn number (2 * place + 2) % 4)));
}

-- draws the links in order; `place` is the index of the first one among all links
abbrev pub drawn_links : ℕ → ℕ → List Ends → List NamedLink
drawn_links number place [] = []
drawn_links number place (l ∷ links) = drawn_link number place l ∷ drawn_links number (place + 1) links

-- the two values after those of all links give the rates, 1 to 6, from time 0 and from time 10 on; from time 20 on the rate is 0
abbrev pub drawn_pieces : ℕ → ℕ → List Piece
drawn_pieces number links =
    record { start = whole (pos 0); rate = whole (pos (1 + drawn number (2 * links + 1) % 6)) }
    ∷ record { start = whole (pos 10); rate = whole (pos (1 + drawn number (2 * links + 2) % 6)) }
    ∷ record { start = whole (pos 20); rate = whole (pos 0) } ∷ []

-- ---- the network
-- the nodes of the ladder are the source, the sink, and both nodes of each rung, in order of first appearance in the links
abbrev pub rung_nodes : ℕ → List Name
rung_nodes i = upper i ∷ lower i ∷ []

abbrev pub ladder_nodes : ℕ → List Name
ladder_nodes rungs = codes "s" ∷ codes "t" ∷ [] ++ flat_map rung_nodes (range_with_len 1 rungs)

abbrev pub ladder_links : ℕ → ℕ → List NamedLink
ladder_links number rungs = drawn_links number 0 (ladder_ends rungs)

-- the ladder with K rungs has 2 K + 2 nodes and 3 K + 2 links
unfoldable pub ladder : ℕ → ℕ → Named
ladder number rungs = record {
  version = 1;
  net = record {
    nodes = 2 * rungs + 2;
    source = 0;
    sink = 1;
    links = map (numbered (ladder_nodes rungs)) (ladder_links number rungs);
    pieces = drawn_pieces number (3 * rungs + 2);
  };
  node_names = ladder_nodes rungs;
  link_names = names_of (ladder_links number rungs);
  idle_nodes = [];
  idle_links = [];
}
