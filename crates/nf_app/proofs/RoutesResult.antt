-- What a request to load a network by route gives, from what was read of its routes file and what its list computes.
use Rattle.std.proofs.Common.{◌≡◌, ◌⊎◌, ℕ, List, length, refl, sym, ◌∙◌, inl, inr, Ok, Err}
use Rattle.nf_app.proofs.Common.{length-map, ℚ, Halt, Stops, Network, Named, loaded_of, NamedRoute, routes_of, ReadsRoutes, carried_of, FileFault, Refusal}
use Rattle.nf_app.proofs.Common.{Routes, Distributed, refused_answer, refusal_of_routes, refusal_of_halt, by_route_list, IsResultOf}
use Rattle.nf_routes_def.specs.RoutesList.{Routed}
use Rattle.nf_routes_def.specs.Meanings.{IsRouted, RoutesArrive}
use Rattle.nf_routes.specs.declared.carried.Carried.{Carried}
use Rattle.nf_side.specs.Faults.{IfBroken}
use Rattle.nf_routes_def.specs.declared.RoutesRule.{RoutesRule}

module _ (n : Named) (file name : List ℕ) (horizon : ℚ) (text : List ℕ) where
  abbrev Answers : Refusal → Type 0
  Answers refusal = (refusal ≡ Refusal.NoMemory) ⊎ IsResultOf n text (Routes file name horizon) (refused_answer refusal)

  pub routes_refused : (fault : FileFault RoutesRule) → IfBroken fault (λ broken. ReadsRoutes n text (Err broken)) → Answers (refusal_of_routes fault)
  routes_refused (FileFault.Broken rule line) e = inr (inr (inl (record { rule = rule; line = line }, refl, e)))
  routes_refused FileFault.Memory e = inl refl

  module _ (routes : List NamedRoute) (read : ReadsRoutes n text (Ok routes)) where
    pub distributing_stopped : (halt : Halt ℚ) → Stops (λ (q : ℚ). q) halt (by_route_list n routes horizon) → Answers (refusal_of_halt halt)
    distributing_stopped (Halt.Passed at) e = inr (inr (inr (at, refl, record { routes = routes; read = read; passes = e })))
    distributing_stopped Halt.Memory e = inl refl

    pub distributed_given : (routed : Routed) → by_route_list n routes horizon ≡ Ok routed → IsRouted n.net (routes_of routes) horizon routed
        → RoutesArrive n.net (routes_of routes) horizon routed
        → IsResultOf n text (Routes file name horizon) (Distributed n routes horizon routed)
    distributed_given routed e is arrives =
        inl (record { routes = routes; read = read; routed = routed; is = refl; loadings = is; arrives = arrives; computed = e })

-- there are curves for each link and each route
pub routed_counts : (net : Network) (routes : List NamedRoute) (horizon : ℚ) (r : Carried) → IsRouted net (routes_of routes) horizon (carried_of net (routes_of routes) horizon r)
    → (length r.links.items ≡ length net.links) × (length r.arrivals.items ≡ length routes) × (length r.travels.items ≡ length routes)
routed_counts net routes horizon r h = (
  sym (length-map r.links.items loaded_of) ∙ h.link_count,
  sym (length-map r.arrivals.items (λ c. c.points)) ∙ h.arrival_count ∙ length-map routes (λ s. s.route),
  sym (length-map r.travels.items (λ c. c.points)) ∙ h.travel_count ∙ length-map routes (λ s. s.route),
)
