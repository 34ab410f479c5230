-- Theorems on the reading of routes files.
use Rattle.std.specs.Prelude.{◌≡◌, ℕ, List, Result, Ok, Err}
use Rattle.nf_net_def.specs.Named.{Named}
use Rattle.nf_routes_def.specs.declared.RoutesRule.TheVariants.{G17}
use Rattle.nf_routes_def.specs.Routes.{AreWalks}
use Rattle.nf_routes_def.specs.RoutesFile.{NamedRoute, RoutesBroken, routes_of, HoldsCircleIn, circle_broken, ReadsRoutes, routes_in}
use Rattle.nf_routes_def.specs.Kept.{KeepRules}

-- each text has exactly one reading, which the loading order decides
pub record RoutesHaveOneReading : Type 0 where
  pub decided : (n : Named) (text : List ℕ) → ReadsRoutes n text (routes_in n text)
  pub one : (n : Named) (text : List ℕ) (read : Result (List NamedRoute) RoutesBroken) → ReadsRoutes n text read → routes_in n text ≡ read

-- a text is refused with G17 exactly if it breaks no other rule and its routes hold a circle
pub record LastRuleIsCircle : Type 0 where
  pub circle : (n : Named) (text : List ℕ) (broken : RoutesBroken) → ReadsRoutes n text (Err broken) → broken.rule ≡ G17
      → HoldsCircleIn n text
  pub refused : (n : Named) (text : List ℕ) → HoldsCircleIn n text → ReadsRoutes n text (Err circle_broken)

-- the routes read satisfy the rules that need no network, and are walks from source to sink
pub record ReadRoutesAreKept : Type 0 where
  pub kept : (n : Named) (text : List ℕ) (routes : List NamedRoute) → ReadsRoutes n text (Ok routes) → KeepRules routes
  pub walks : (n : Named) (text : List ℕ) (routes : List NamedRoute) → ReadsRoutes n text (Ok routes) → AreWalks n.net (routes_of routes)
