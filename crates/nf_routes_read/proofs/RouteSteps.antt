-- The change of the parser state by a line.
use Rattle.std.proofs.Common.{◌≡◌, ℕ, Bool, false, cond, List, [], Result, Err, sym, ap, ◌∙◌}
use Rattle.nf_routes_read.proofs.Common.{◌>>=◌, Named, RoutesRule, G4, NamedRoute, RoutesEntry, RoutesDraft, route_names, routes_entry, routes_rule_of}
use Rattle.nf_routes_read.proofs.Common.{routes_after, add_route_line}
use Rattle.nf_side_def.specs.Lines.{unless_rule}
use Rattle.nf_text.specs.declared.fault.LineFault.{LineFault}
use Rattle.nf_text.specs.Faults.{IfRule}

-- ---- a line that changes nothing
module _ (n : Named) (draft : RoutesDraft) (words : List (List ℕ)) (routes : List NamedRoute) where
  abbrev after_entry : Result RoutesEntry RoutesRule → Result RoutesDraft RoutesRule
  after_entry r = r >>= λ entry. unless_rule (routes_rule_of n.net draft entry) (routes_after draft entry)

  pub entry_breaks : (fault : LineFault RoutesRule) → draft.ended ≡ false → routes ≡ draft.routes → IfRule fault (λ rule. routes_entry n.link_names (route_names routes) words ≡ Err rule)
      → IfRule fault (λ rule. add_route_line n draft words ≡ Err rule)
  entry_breaks (LineFault.Broken rule) open_ same e =
      ap (λ (b : Bool). cond b (Err G4) (after_entry (routes_entry n.link_names (route_names draft.routes) words))) open_
      ∙ ap (λ (r : List NamedRoute). after_entry (routes_entry n.link_names (route_names r) words)) (sym same)
      ∙ ap after_entry e
  entry_breaks LineFault.Memory open_ same e = tt
