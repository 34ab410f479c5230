-- Entries, as values of the definitions.
use Rattle.std.specs.Prelude.{◌≡◌, ℕ, ◌<◌, true, false, List, [], length, map, All, Result, Ok, Err, MatchResult}
use Rattle.std.specs.List.{list_all}
use Rattle.nf_net_def.specs.Names.{Name, has_name, place_of}
use Rattle.nf_routes_def.specs.declared.RoutesRule.{RoutesRule}
use Rattle.nf_routes_def.specs.declared.RoutesRule.TheVariants.{G8}
use Rattle.nf_routes_def.specs.RoutesFile as file
use Rattle.nf_text.specs.declared.fault.LineFault.{LineFault}
use Rattle.nf_text.specs.Faults.{IfRule}
use Rattle.nf_routes_read.specs.declared.entry.Entry.{Entry}
use Rattle.nf_routes_read.specs.declared.entry.Entry.TheVariants.{Route, Rate, End}

abbrev pub seen_entry : Entry → file.RoutesEntry
seen_entry (Route route) = file.RouteLine route.name route.route.links
seen_entry (Rate place piece) = file.RateLine place piece
seen_entry End = file.End

-- the result is the entry of the line or the rule that it breaks, or an allocation failed
abbrev pub Says : Result file.RoutesEntry RoutesRule → Result Entry (LineFault RoutesRule) → Type 0
Says said result = MatchResult result (λ entry. said ≡ Ok (seen_entry entry)) (λ fault. IfRule fault (λ rule. said ≡ Err rule))

-- a new route has no pieces, and the route of a piece is one of the first `routes`
abbrev pub FitsRoutes : ℕ → Entry → Type 0
FitsRoutes routes (Route route) = route.route.pieces ≡ []
FitsRoutes routes (Rate place piece) = place < routes
FitsRoutes routes End = Unit {0}

-- the links of a new route are among the first `links`
abbrev pub HasLinksBelow : ℕ → Entry → Type 0
HasLinksBelow links (Route route) = All (λ e. e < links) route.route.links
HasLinksBelow links (Rate place piece) = Unit {0}
HasLinksBelow links End = Unit {0}

-- the words name exactly these links
pub record AreLinksOf (names : List Name) (words : List (List ℕ)) (links : List ℕ) : Type 0 where
  pub there : list_all (has_name names) words ≡ true
  pub places : links ≡ map (place_of names) words
  pub within : All (λ e. e < length names) links

-- one of the words names no link, or an allocation failed
abbrev pub NoLinks : LineFault RoutesRule → List Name → List (List ℕ) → Type 0
NoLinks fault names words = IfRule fault (λ rule. (rule ≡ G8) × (list_all (has_name names) words ≡ false))
