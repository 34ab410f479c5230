-- Examples of routes files and of the printed loading, by computation. Links p and q lead from s to u, and z leads from u to t.
use Rattle.std.specs.Prelude.{◌≡◌, ℕ, List, [], ◌∷◌, ◌++◌, flat_map, map, Some, None, Result, Ok, Err, codes, pos, refl}
use Rattle.std.proofs.Common.{inr}
use Rattle.std.specs.List.{range_with_len}
use Rattle.nf_rational.specs.Gcd.{gcd}
use Rattle.nf_rational.specs.Rational.{ratio}
use Rattle.nf_rational.specs.Operations.{whole, neg_ℚ, inv_ℚ, ◌+ℚ◌, ◌-ℚ◌, ◌*ℚ◌, ◌/ℚ◌}
use Rattle.nf_rational.specs.Order.{le_ℚ, lt_ℚ, min_ℚ, max_ℚ}
use Rattle.nf_frac_words.specs.Digits.{digits_of}
use Rattle.nf_frac_words.specs.Numbers.{parts_of as number_parts, number_of}
use Rattle.nf_frac_words.specs.Printed.{printed, printed_parts}
use Rattle.nf_frac_def.specs.Passing.{beyond}
use Rattle.nf_frac_def.specs.Checked.{checked, Checked}
use Rattle.nf_net_def.specs.Names.{Name}
use Rattle.nf_net_def.specs.Named.{Named}
use Rattle.nf_frac_def.proofs.Examples.{n, in_127_bits, Parts, parts_of}
use Rattle.nf_thin_def.proofs.Examples.{link, i}
use Rattle.nf_curve_def.specs.Lines.{checked_slope, checked_line, checked_inverse}
use Rattle.nf_curve_def.specs.Values.{checked_value, checked_cut}
use Rattle.nf_curve_def.specs.Times.{both_times}
use Rattle.nf_curve_def.specs.Sums.{checked_sum}
use Rattle.nf_curve_def.specs.Composed.{checked_composed}
use Rattle.nf_curve_def.specs.Short.{checked_short}
use Rattle.nf_load_def.specs.Cumulative.{checked_cumulative}
use Rattle.nf_load_def.specs.Loading.{grown, drained, exit_after, checked_loading}
use Rattle.nf_routes_def.specs.Routes.{HoldCircle, loading_order, takes_all}
use Rattle.nf_routes_def.specs.RoutesFile.{RoutesBroken, NamedRoute, routes_of, routes_of_lines, circle_broken, ReadsRoutes, routes_in}
use Rattle.nf_routes_def.specs.RoutesList.{Routed, next_entry, routes_list}
use Rattle.nf_routes_def.specs.RoutesText.{routed_text}
use Rattle.nf_routes_def.specs.RuleWords.{routes_rule_word}
use Rattle.nf_routes_def.proofs.Examples.{net, routes}

abbrev text_of : List (List ℕ) → List ℕ
text_of lines = flat_map (λ line. line ++ 10 ∷ []) lines

abbrev named : Named
named = record {
  version = 1;
  net = net;
  node_names = codes "s" ∷ codes "t" ∷ codes "u" ∷ [];
  link_names = codes "p" ∷ codes "q" ∷ codes "z" ∷ [];
  idle_nodes = codes "x" ∷ [];
  idle_links = record { name = codes "w"; tail = codes "x"; head = codes "u"; transit = n 1; capacity = None } ∷ [];
}

-- the name, the links, and the starts and rates of the pieces of each route; or the rule and its line
abbrev seen : Result (List NamedRoute) RoutesBroken → Result (List (Name × List ℕ × List (Parts × Parts))) (List ℕ × ℕ)
seen (Ok routes) = Ok (map (λ r. (r.name, r.route.links, map (λ p. (parts_of p.start, parts_of p.rate)) r.route.pieces)) routes)
seen (Err broken) = Err (routes_rule_word broken.rule, broken.line)

abbrev read : List (List ℕ) → Result (List (Name × List ℕ × List (Parts × Parts))) (List ℕ × ℕ)
read lines = seen (routes_in named (text_of lines))

-- rate lines of several routes may be mixed, and a route may have none
two : read (codes "routes 1" ∷ codes "route one p z" ∷ codes "rate one 0 1" ∷ codes "route two q z" ∷ codes "rate two 0 2/4" ∷ codes "rate one 2 0" ∷ codes "route none p z" ∷ codes "end" ∷ [])
    ≡ Ok ((codes "one", 0 ∷ 2 ∷ [], (i 0, i 1) ∷ (i 2, i 0) ∷ []) ∷ (codes "two", 1 ∷ 2 ∷ [], (i 0, (pos 1, 2)) ∷ []) ∷ (codes "none", 0 ∷ 2 ∷ [], []) ∷ [])
unfolding routes_in routes_of_lines takes_all loading_order number_of number_parts whole ratio gcd le_ℚ lt_ℚ
two = refl

-- For each rule files that break it first, with the line.
abbrev Refused : Type 0
Refused = List (List ℕ) × List ℕ × ℕ

abbrev refused_files : List Refused
refused_files =
    (codes "routes 1" ∷ codes "rate a 1" ∷ (127 ∷ []) ∷ [], codes "G1", 3)
    ∷ ([], codes "G3", 1)
    ∷ (codes "# a comment" ∷ codes "routes 2" ∷ codes "end" ∷ [], codes "G3", 2)
    ∷ (codes "routes 1" ∷ codes "end" ∷ codes "route" ∷ [], codes "G4", 3)
    ∷ (codes "routes 1" ∷ codes "inflow 0 1" ∷ codes "end" ∷ [], codes "G5", 2)
    ∷ (codes "routes 1" ∷ codes "route one" ∷ codes "end" ∷ [], codes "G6", 2)
    ∷ (codes "routes 1" ∷ codes "route o/e x" ∷ codes "end" ∷ [], codes "G7", 2)
    -- a route cannot name an unreached link
    ∷ (codes "routes 1" ∷ codes "route one w" ∷ codes "end" ∷ [], codes "G8", 2)
    -- a rate needs the line of its route above it
    ∷ (codes "routes 1" ∷ codes "rate one 0 x" ∷ codes "route one p z" ∷ codes "end" ∷ [], codes "G8", 2)
    ∷ (codes "routes 1" ∷ codes "route one p z" ∷ codes "rate one 0 1.5" ∷ codes "end" ∷ [], codes "G9", 3)
    -- a second route with a name already used is not tested for a walk
    ∷ (codes "routes 1" ∷ codes "route one p z" ∷ codes "route one z p" ∷ codes "end" ∷ [], codes "G10", 3)
    ∷ (codes "routes 1" ∷ map (λ k. codes "route r" ++ digits_of k ++ codes " p z") (range_with_len 0 101) ++ codes "end" ∷ [], codes "G11", 102)
    ∷ (codes "routes 1" ∷ codes "route one p q" ∷ codes "end" ∷ [], codes "G12", 2)
    ∷ (codes "routes 1" ∷ codes "route one p z" ∷ codes "rate one 1 0" ∷ codes "rate one 0 -1" ∷ codes "end" ∷ [], codes "G13", 4)
    ∷ (codes "routes 1" ∷ codes "route one p z" ∷ codes "route two q z" ∷ codes "rate one 1 0" ∷ codes "rate two 1 2" ∷ codes "rate one 1 2" ∷ codes "end" ∷ [], codes "G14", 6)
    ∷ (codes "routes 1" ∷ codes "route one p z" ∷ [], codes "G16", 0)
    ∷ []

abbrev refusal : Refused → Result (List (Name × List ℕ × List (Parts × Parts))) (List ℕ × ℕ)
refusal file = Err (file.1, file.2)

all_refused : map (λ (file : Refused). read file.0) refused_files ≡ map refusal refused_files
unfolding routes_in routes_of_lines takes_all loading_order number_of number_parts digits_of whole ratio gcd le_ℚ lt_ℚ
all_refused = refl

-- ---- links b from u to v and c back: one route takes c after b, the other b after c
abbrev crossing : Named
crossing = record named {
  net = record net {
    nodes = 4;
    links = link 0 2 (n 1) (Some (n 1)) ∷ link 2 3 (n 1) (Some (n 1)) ∷ link 3 2 (n 1) (Some (n 1)) ∷ link 3 1 (n 1) (Some (n 1)) ∷ link 2 1 (n 1)
        (Some (n 1)) ∷ link 0 3 (n 1) (Some (n 1)) ∷ [];
  };
  node_names = codes "s" ∷ codes "t" ∷ codes "u" ∷ codes "v" ∷ [];
  link_names = codes "a" ∷ codes "b" ∷ codes "c" ∷ codes "d" ∷ codes "e" ∷ codes "f" ∷ [];
  idle_nodes = [];
  idle_links = [];
}

circle : seen (routes_in crossing (text_of (codes "routes 1" ∷ codes "route one a b c e" ∷ codes "route two f c b d" ∷ codes "end" ∷ []))) ≡ Err (codes "G17", 0)
unfolding routes_in routes_of_lines takes_all loading_order number_of number_parts whole ratio gcd le_ℚ lt_ℚ
circle = refl

-- the circle: b is directly before c on the first route, and c directly before b on the second
abbrev crossing_routes : List NamedRoute
crossing_routes =
    record { name = codes "one"; route = record { links = 0 ∷ 1 ∷ 2 ∷ 4 ∷ []; pieces = [] } }
    ∷ record { name = codes "two"; route = record { links = 5 ∷ 2 ∷ 1 ∷ 3 ∷ []; pieces = [] } } ∷ []

they_hold : HoldCircle (routes_of crossing_routes)
they_hold = (
  1,
  2 ∷ [],
  (
    record { number = 0; place = 1; route = record { links = 0 ∷ 1 ∷ 2 ∷ 4 ∷ []; pieces = [] }; is_route = refl; here = refl; next = refl },
    record { number = 1; place = 1; route = record { links = 5 ∷ 2 ∷ 1 ∷ 3 ∷ []; pieces = [] }; is_route = refl; here = refl; next = refl },
  ),
)

refused : ReadsRoutes crossing (text_of (codes "routes 1" ∷ codes "route one a b c e" ∷ codes "route two f c b d" ∷ codes "end" ∷ [])) (Err circle_broken)
unfolding routes_of_lines number_of number_parts whole ratio gcd le_ℚ lt_ℚ
refused = inr (refl, record { routes = crossing_routes; read = refl; circle = they_hold })

-- one route that goes over a link twice
again : seen (routes_in crossing (text_of (codes "routes 1" ∷ codes "route one a b c b d" ∷ codes "end" ∷ []))) ≡ Err (codes "G17", 0)
unfolding routes_in routes_of_lines takes_all loading_order number_of number_parts whole ratio gcd le_ℚ lt_ℚ
again = refl

-- the first of the two by itself is no circle
alone : seen (routes_in crossing (text_of (codes "routes 1" ∷ codes "route one a b c e" ∷ codes "end" ∷ []))) ≡ Ok ((codes "one", 0 ∷ 1 ∷ 2 ∷ 4 ∷ [], []) ∷ [])
unfolding routes_in routes_of_lines takes_all loading_order number_of number_parts whole ratio gcd le_ℚ lt_ℚ
alone = refl

-- ---- the printed loading
abbrev text : Checked Routed → List ℕ
text (Ok routed) = routed_text named (record { name = codes "one"; route = record { links = []; pieces = [] } } ∷ record { name = codes "two"; route = record { links = []; pieces = [] } } ∷ []) (n 2) routed
text (Err p) = []

written : text (routes_list in_127_bits net routes (n 2)) ≡ text_of (codes "routed 1" ∷ codes "horizon 2"
    ∷ codes "queue p 0 0" ∷ codes "queue p 2 0" ∷ codes "outflow p 0 0" ∷ codes "outflow p 1 0" ∷ codes "outflow p 3 2" ∷ codes "exit p 0 1" ∷ codes "exit p 2 3"
    ∷ codes "queue q 0 0" ∷ codes "queue q 2 0" ∷ codes "outflow q 0 0" ∷ codes "outflow q 2 0" ∷ codes "outflow q 4 2" ∷ codes "exit q 0 2" ∷ codes "exit q 2 4"
    ∷ codes "queue z 0 0" ∷ codes "queue z 2 0" ∷ codes "queue z 3 1" ∷ codes "queue z 4 1" ∷ codes "outflow z 0 0" ∷ codes "outflow z 2 0" ∷ codes "outflow z 5 3"
    ∷ codes "exit z 0 1" ∷ codes "exit z 2 3" ∷ codes "exit z 3 5" ∷ codes "exit z 4 6"
    ∷ codes "arrival one 0 0" ∷ codes "arrival one 2 0" ∷ codes "arrival one 3 1" ∷ codes "arrival one 5 2" ∷ codes "arrival one 6 2"
    ∷ codes "travel one 0 2" ∷ codes "travel one 1 3" ∷ codes "travel one 2 5"
    ∷ codes "arrival two 0 0" ∷ codes "arrival two 3 0" ∷ codes "arrival two 5 1" ∷ codes "arrival two 6 2"
    ∷ codes "travel two 0 3" ∷ codes "travel two 1 5" ∷ codes "travel two 2 6" ∷ codes "end" ∷ [])
unfolding routes_list loading_order next_entry checked_cumulative checked_loading checked_cut checked_value checked_short checked_slope checked_line
    checked_inverse checked_sum checked_composed both_times grown drained exit_after checked beyond printed printed_parts digits_of whole ratio gcd neg_ℚ
    inv_ℚ ◌+ℚ◌ ◌-ℚ◌ ◌*ℚ◌ ◌/ℚ◌ le_ℚ lt_ℚ min_ℚ max_ℚ
written = refl
