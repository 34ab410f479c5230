-- Loading by route as a whole, as the list has it.
use Rattle.std.proofs.Common.{◌≡◌, List, [], ◌∷◌, refl, sym, ap, ◌∙◌, Ok, Err, map}
use Rattle.nf_routes.proofs.Common.{ℚ, PassedAt, Load, Passing, Checked, at_part, each, ◌>>=◌, departures, after_err, after_ok, Route, SoFar, Routed}
use Rattle.nf_routes.proofs.Common.{end_or, loaded_or, but_last, last_entry, travel_on, last_alone, kept_after, Every, Last, travel_along, travel_on-is}
use Rattle.nf_routes.proofs.Common.{each_same, kept_result}
use Rattle.nf_model.specs.Curve.{Point}
use Rattle.nf_model.specs.Network.{Network}
use Rattle.nf_load_def.specs.Loading.{Loaded}
use Rattle.nf_routes_def.specs.RoutesList.{routes_list}
use Rattle.nf_routes_links.specs.Beginning.{all_loaded}
use Rattle.nf_routes_links.specs.declared.keeping.Kept.{Kept}
use Rattle.nf_routes_links.proofs.Alone.{last_of_all}

module _ (passes : Passing) (net : Network) (routes : List Route) (horizon : ℚ) where
  abbrev pub ended_as : SoFar → List (List Point) → Routed
  ended_as s travels =
      record {
        ends = map (end_or passes) s.links;
        links = map (loaded_or passes) s.links;
        entries = map (but_last passes) s.entries;
        arrivals =
            map last_entry s.entries;
        travels = travels;
      }

  abbrev after_loads : SoFar → Checked Routed
  after_loads s = each (λ (route : Route). travel_on passes horizon s.links route.links (departures horizon)) routes >>= λ travels. Ok (ended_as s travels)

  pub load_stops : (p : PassedAt ℚ) → at_part Load (all_loaded passes net routes horizon) ≡ Err p → at_part Load (routes_list passes net routes horizon) ≡ Err p
  unfolding routes_list
  load_stops p h = after_err Load (all_loaded passes net routes horizon) after_loads p h

  module _ (s : SoFar) (l : at_part Load (all_loaded passes net routes horizon) ≡ Ok s) where
    loads : at_part Load (routes_list passes net routes horizon) ≡ at_part Load (after_loads s)
    unfolding routes_list
    loads = after_ok Load (all_loaded passes net routes horizon) after_loads s l

    module _ (links : List Loaded) (e : links ≡ map (loaded_or passes) s.links) where
      travels-are : each (λ (route : Route). travel_on passes horizon s.links route.links (departures horizon)) routes ≡ each
          (λ (route : Route). travel_along passes horizon links route.links (departures horizon)) routes
      travels-are = each_same (λ (route : Route). travel_on passes horizon s.links route.links (departures horizon))
          (λ (route : Route). travel_along passes horizon links route.links (departures horizon))
          (λ route. travel_on-is passes horizon s.links route.links (departures horizon)
          ∙ ap (λ (ls : List Loaded). travel_along passes horizon ls route.links (departures horizon)) (sym e)) routes

      pub travel_stops : (p : PassedAt ℚ) → at_part Load (each (λ (route : Route). travel_along passes horizon links route.links (departures horizon))
          routes) ≡ Err p → at_part Load (routes_list passes net routes horizon) ≡ Err p
      travel_stops p h = loads ∙ after_err Load (each (λ (route : Route). travel_on passes horizon s.links route.links (departures horizon)) routes)
          (λ travels. Ok (ended_as s travels)) p (ap (at_part Load) travels-are ∙ h)

      pub list_comes : (travels : List (List Point)) → at_part Load (each (λ (route : Route). travel_along passes horizon links route.links (departures horizon)) routes) ≡ Ok travels
          → at_part Load (routes_list passes net routes horizon) ≡ Ok (ended_as s travels)
      list_comes travels h = loads ∙ after_ok Load (each (λ (route : Route). travel_on passes horizon s.links route.links (departures horizon)) routes)
          (λ travels. Ok (ended_as s travels)) travels (ap (at_part Load) travels-are ∙ h)

-- a value of its parts
pub same_parts : {ends ends' : List ℚ} {links links' : List Loaded} {entries entries' : List (List (List Point))} {arrivals arrivals' travels : List (List Point)}
    → ends ≡ ends' → links ≡ links' → entries ≡ entries' → arrivals ≡ arrivals'
    → ◌≡◌ {A = Routed} (record { ends = ends; links = links; entries = entries; arrivals = arrivals; travels = travels })
    (record { ends = ends'; links = links'; entries = entries'; arrivals = arrivals'; travels = travels })
same_parts {travels = travels} a b c d = λ i. record { ends = a i; links = b i; entries = c i; arrivals = d i; travels = travels }

-- ---- what is kept of the result
none_left : (passes : Passing) (entries : List (List (List Point))) → map (λ _. []) (map (but_last passes) entries) ≡ map (but_last passes) (map last_alone entries)
none_left passes [] = refl
none_left passes ([] ∷ rest) = ap (λ (l : List (List (List Point))). [] ∷ l) (none_left passes rest)
none_left passes ((entry ∷ more) ∷ rest) = ap (λ (l : List (List (List Point))). [] ∷ l) (none_left passes rest)

pub kept_ended : (passes : Passing) (net : Network) (routes : List Route) (horizon : ℚ) (kept : Kept) (s : SoFar) (travels : List (List Point))
    → kept_result kept (ended_as passes net routes horizon s travels) ≡ ended_as passes net routes horizon (kept_after kept s) travels
kept_ended passes net routes horizon Every s travels = refl
kept_ended passes net routes horizon Last s travels = same_parts refl refl (none_left passes s.entries) (sym (last_of_all s.entries))

pub kept_links : (kept : Kept) (s : SoFar) → (kept_after kept s).links ≡ s.links
kept_links Every s = refl
kept_links Last s = refl

-- a result, by what is kept of it
abbrev pub entries_in : Routed → List (List (List Point)) → Routed
entries_in r entries = record { ends = r.ends; links = r.links; entries = entries; arrivals = r.arrivals; travels = r.travels }

pub with_all : (all kept : Routed) → kept_result Last all ≡ kept → all ≡ entries_in kept all.entries
with_all all kept e = ap (λ (r : Routed). entries_in r all.entries) e
