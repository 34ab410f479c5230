-- The meaning of reading a text by the loading order.
use Rattle.std.proofs.Common.{◌≡◌, ℕ, List, Result, Ok, Err, MatchResult, IfOk, IfErr, subst}
use Rattle.nf_routes_read.proofs.Common.{Named, broken_more, RoutesRule, G17, AreWalks, RoutesBroken, NamedRoute, routes_of, HoldsCircleIn, ReadsRoutes}
use Rattle.nf_routes_read.proofs.Common.{routes_in, KeepRules, decided, circle_there, read_kept, read_walks}
use Rattle.nf_text.specs.declared.fault.FileFault.{FileFault}
use Rattle.nf_side.specs.Faults.{IfBroken}
use Rattle.nf_routes_read.specs.declared.routes.Routes.{Routes}

abbrev Gives : Named → List ℕ → Result Routes (FileFault RoutesRule) → Type 0
Gives n text result = MatchResult result (λ routes. routes_in n text ≡ Ok routes) (λ fault. IfBroken fault (λ broken. routes_in n text ≡ Err broken))

read_as : (n : Named) (text : List ℕ) (read : Result (List NamedRoute) RoutesBroken) → routes_in n text ≡ read → ReadsRoutes n text read
read_as n text read e = subst (ReadsRoutes n text) e (decided n text)

pub reads_so : (n : Named) (text : List ℕ) (result : Result Routes (FileFault RoutesRule)) → Gives n text result
    → MatchResult result (λ routes. ReadsRoutes n text (Ok routes)) (λ fault. IfBroken fault (λ broken. ReadsRoutes n text (Err broken)))
reads_so n text (Ok routes) h = read_as n text (Ok routes) h
reads_so n text (Err fault) h =
    broken_more fault (λ broken. routes_in n text ≡ Err broken) (λ broken. ReadsRoutes n text (Err broken)) (λ broken e. read_as n text (Err broken) e) h

pub kept_so : (n : Named) (text : List ℕ) (result : Result Routes (FileFault RoutesRule)) → Gives n text result → IfOk result (λ routes. KeepRules routes)
kept_so n text (Ok routes) h = read_kept n text routes (read_as n text (Ok routes) h)
kept_so n text (Err fault) h = tt

pub walks_so : (n : Named) (text : List ℕ) (result : Result Routes (FileFault RoutesRule)) → Gives n text result → IfOk result (λ routes. AreWalks n.net (routes_of routes))
walks_so n text (Ok routes) h = (read_walks n text routes (read_as n text (Ok routes) h)).walks
walks_so n text (Err fault) h = tt

pub circle_so : (n : Named) (text : List ℕ) (result : Result Routes (FileFault RoutesRule)) → Gives n text result
    → IfErr result (λ fault. IfBroken fault (λ broken. broken.rule ≡ G17 → HoldsCircleIn n text))
circle_so n text (Ok routes) h = tt
circle_so n text (Err fault) h =
    broken_more fault (λ broken. routes_in n text ≡ Err broken) (λ broken. broken.rule ≡ G17 → HoldsCircleIn n text)
    (λ broken e is. circle_there n text broken (read_as n text (Err broken) e) is) h
