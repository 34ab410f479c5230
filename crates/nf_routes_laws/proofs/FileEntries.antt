-- Entries of single lines. A new route has an accepted name and a link, and no line breaks G17.
use Rattle.std.proofs.Common.{◌≡◌, ◌≢◌, ℕ, suc, ◌<◌, Bool, true, false, not, List, [], ◌∷◌, length, map, Option, Some, None, Result, Ok, Err, refl, arith}
use Rattle.std.proofs.Common.{codes, bytes_eq, if◌then◌else◌}
use Rattle.nf_routes_laws.proofs.Common.{list_all, ℚ, Name, is_name, has_name, place_of, piece_entry, G5, G7, G8, G9, G17, RoutesEntry, RouteLine, RateLine}
use Rattle.nf_routes_laws.proofs.Common.{End, route_line, rate_line, end_line, routes_entry, RoutesRule}
use Rattle.std.specs.Result.{result_ok}
use Rattle.nf_frac_words.specs.Numbers.{number_of}
use Rattle.nf_net_def.specs.Numbers.{greatest}

abbrev pub IsNew : RoutesEntry → Type 0
IsNew (RouteLine name links) = (is_name name ≡ true) × (0 < length links)
IsNew (RateLine r piece) = Unit {0}
IsNew End = Unit {0}

abbrev pub Entered : Result RoutesEntry RoutesRule → Type 0
Entered (Ok entry) = IsNew entry
Entered (Err rule) = rule ≢ G17

either : (b : Bool) (x y : Result RoutesEntry RoutesRule) → Entered x → Entered y → Entered (if b then x else y)
either true x y h k = h
either false x y h k = k

of_route : (links : List Name) (words : List (List ℕ)) → Entered (route_line links words)
of_route links [] = λ e. cc
of_route links (name ∷ []) = λ e. cc
of_route links (name ∷ one ∷ rest) = by (is_name name) refl
  where
    some : 0 < length (map (place_of links) (one ∷ rest))
    some = let n : 0 < suc (length (map (place_of links) rest)) = omega arith in n

    by : (b : Bool) → is_name name ≡ b → Entered (if not b then Err G7 else
        (if list_all (has_name links) (one ∷ rest) then Ok (RouteLine name (map (place_of links) (one ∷ rest))) else Err G8))
    by true e = either (list_all (has_name links) (one ∷ rest)) (Ok (RouteLine name (map (place_of links) (one ∷ rest)))) (Err G8) (e, some) (λ e. cc)
    by false e = λ e. cc

of_piece : (r : ℕ) (start rate : Option ℚ) → Entered (piece_entry (λ piece. RateLine r piece) G9 start rate)
of_piece r (Some start) (Some rate) = tt
of_piece r (Some start) None = λ e. cc
of_piece r None (Some rate) = λ e. cc
of_piece r None None = λ e. cc

of_rate : (routes : List Name) (words : List (List ℕ)) → Entered (rate_line routes words)
of_rate routes [] = λ e. cc
of_rate routes (a ∷ []) = λ e. cc
of_rate routes (a ∷ b ∷ []) = λ e. cc
of_rate routes (name ∷ start ∷ rate ∷ []) =
    let piece = piece_entry (λ piece. RateLine (place_of routes name) piece) G9 (result_ok (number_of greatest start)) (result_ok (number_of greatest rate)) in
    either (has_name routes name) piece (Err G8) (of_piece (place_of routes name) (result_ok (number_of greatest start)) (result_ok (number_of greatest rate))) (λ e. cc)
of_rate routes (a ∷ b ∷ d ∷ e ∷ rest) = λ x. cc

of_end : (words : List (List ℕ)) → Entered (end_line words)
of_end [] = tt
of_end (word ∷ words) = λ e. cc

pub entered : (links routes : List Name) (words : List (List ℕ)) → Entered (routes_entry links routes words)
entered links routes [] = λ e. cc
entered links routes (key ∷ words) =
    let ends = if bytes_eq key (codes "end") then end_line words else Err G5 in
    let rates = if bytes_eq key (codes "rate") then rate_line routes words else ends in
    either (bytes_eq key (codes "route")) (route_line links words) rates (of_route links words)
    (either (bytes_eq key (codes "rate")) (rate_line routes words) ends (of_rate routes words)
    (either (bytes_eq key (codes "end")) (end_line words) (Err G5) (of_end words) (λ e. cc)))
