-- The last entry of each route alone: the loading goes on as with all entries.
use Rattle.std.proofs.Common.{◌≡◌, ℕ, zero, suc, ◌+◌, ◌<◌, ◌≤◌, List, [], ◌∷◌, ◌++◌, length, map, take, drop, set, Bool, true, false, refl, sym, ap, ◌∙◌}
use Rattle.std.proofs.Common.{append-nil, arith, Option, Some, None, Ok, Err, slice_get}
use Rattle.nf_routes_links.proofs.Common.{AllByRecursion, drop_all, take_all, ℚ, 0ℚ, Passing, Checked, ◌>>=◌, Point, Link, Network, Loaded, checked_loading}
use Rattle.nf_routes_links.proofs.Common.{Route, all_pairs, loading_order, SoFar, begins_at, goes_over, last_entry, end_by, next_entry, begin_if, begin_all}
use Rattle.nf_routes_links.proofs.Common.{add_if, sum_from, next_if, next_all, load_here, load_all, IsAmountCurve, nothing_loaded, nothing_sent, all_loaded}
use Rattle.nf_routes_links.proofs.Common.{ForEachRoute, last_alone, keeping_last, kept_after, load_kept, all_kept, Kept}
use Rattle.nf_frac_def.proofs.Binding.{bind_same}
use Rattle.nf_routes_links.specs.declared.keeping.Kept.TheVariants.{Every, Last}
use Rattle.nf_routes_links.proofs.Lists.{last_push}
use Rattle.nf_routes_links.proofs.Passed.{chain}
use Rattle.nf_routes_links.proofs.Folds.{Sent, step_all, begin_all-is, next_all-is}
use Rattle.nf_routes_links.proofs.Sound.{IsSound, last_amount}
use Rattle.nf_routes_links.proofs.Stands.{Stands}

-- ---- the entries of one route
pub last_of_alone : (sent : Sent) → last_entry (last_alone sent) ≡ last_entry sent
last_of_alone [] = refl
last_of_alone (x ∷ rest) = refl

alone_twice : (sent : Sent) → last_alone (last_alone sent) ≡ last_alone sent
alone_twice [] = refl
alone_twice (x ∷ rest) = refl

pub alone_push : (sent : Sent) (x : List Point) → last_alone (sent ++ x ∷ []) ≡ x ∷ []
alone_push [] x = refl
alone_push (y ∷ rest) x = ap (λ (l : List Point). l ∷ []) (last_push (y ∷ rest) x)

-- ---- the entries of all routes
all_twice : (entries : List Sent) → map last_alone (map last_alone entries) ≡ map last_alone entries
all_twice [] = refl
all_twice (sent ∷ rest) =
    ap (λ (s : Sent). s ∷ map last_alone (map last_alone rest)) (alone_twice sent) ∙ ap (λ (l : List Sent). last_alone sent ∷ l) (all_twice rest)

pub last_of_all : (entries : List Sent) → map last_entry (map last_alone entries) ≡ map last_entry entries
last_of_all [] = refl
last_of_all (sent ∷ rest) =
    ap (λ (p : List Point). p ∷ map last_entry (map last_alone rest)) (last_of_alone sent) ∙ ap (λ (l : List (List Point)). last_entry sent ∷ l) (last_of_all rest)

none_alone : (routes : List Route) → map last_alone (nothing_sent routes) ≡ nothing_sent routes
none_alone [] = refl
none_alone (route ∷ routes) = ap (λ (l : List Sent). [] ∷ l) (none_alone routes)

-- ---- the entries of the first routes alone
none_there : (l : List Sent) (i : ℕ) (x : Sent) → length l ≡ 0 → slice_get l i ≡ Some x → ⊥
none_there [] i x e h = absurd (cc)
none_there (y ∷ l) i x e h = absurd (omega arith)

first_is : (y : Sent) (rest : List Sent) (x : Sent) → slice_get (y ∷ rest) zero ≡ Some x → y ≡ x
first_is y rest x h = cc

turned_more : (entries : List Sent) (i : ℕ) (x : Sent) → slice_get (map last_alone (take i entries) ++ drop i entries) i ≡ Some x
    → set (map last_alone (take i entries) ++ drop i entries) i (last_alone x) ≡ map last_alone (take (suc i) entries) ++ drop (suc i) entries
turned_more [] zero x h = absurd (none_there [] zero x refl h)
turned_more [] (suc i) x h = absurd (none_there [] (suc i) x refl h)
turned_more (y ∷ rest) zero x h = ap (λ (z : Sent). last_alone z ∷ rest) (sym (first_is y rest x h))
turned_more (y ∷ rest) (suc i) x h = ap (λ (l : List Sent). last_alone y ∷ l) (turned_more rest i x h)

pub turned_next : (entries now : List Sent) (i : ℕ) (x : Sent) → now ≡ map last_alone (take i entries) ++ drop i entries → slice_get now i ≡ Some x
    → set now i (last_alone x) ≡ map last_alone (take (i + 1) entries) ++ drop (i + 1) entries
turned_next entries now i x e h =
    ap (λ (l : List Sent). set l i (last_alone x)) e
    ∙ turned_more entries i x (ap (λ (l : List Sent). slice_get l i) (sym e) ∙ h)
    ∙ ap (λ (k : ℕ). map last_alone (take k entries) ++ drop k entries) (let same : suc i ≡ i + 1 = omega arith in same)

pub turned_all : (entries now : List Sent) (i : ℕ) → now ≡ map last_alone (take i entries) ++ drop i entries → length entries ≤ i → now ≡ map last_alone entries
turned_all entries now i e h =
    e ∙ ap (λ (l : List Sent). map last_alone l ++ drop i entries) (take_all i entries h)
    ∙ ap (λ (l : List Sent). map last_alone entries ++ l) (drop_all i entries h)
    ∙ append-nil (map last_alone entries)

-- ---- what is loaded so far stands
alone_amounts : (sent : Sent) → AllByRecursion IsAmountCurve sent → AllByRecursion IsAmountCurve (last_alone sent)
alone_amounts [] all = tt
alone_amounts (x ∷ rest) all = (last_amount (x ∷ rest) all (omega arith), tt)

alone_some : (sent : Sent) → 0 < length sent → 0 < length (last_alone sent)
alone_some [] h = h
alone_some (x ∷ rest) h = omega arith

alone_sound : (taken : List ℕ) (route : Route) (sent : Sent) → IsSound taken route sent → IsSound taken route (last_alone sent)
alone_sound taken route sent s = record { pieces = s.pieces; amounts = alone_amounts sent s.amounts; some = λ f t over. alone_some sent (s.some f t over) }

along_alone : (taken : List ℕ) (routes : List Route) (entries : List Sent) → ForEachRoute (IsSound taken) routes entries → ForEachRoute (IsSound taken) routes (map last_alone entries)
along_alone taken [] [] along = tt
along_alone taken [] (sent ∷ rest) along = absurd along
along_alone taken (route ∷ routes) [] along = absurd along
along_alone taken (route ∷ routes) (sent ∷ rest) along = (alone_sound taken route sent along.0, along_alone taken routes rest along.1)

stands_alone : (net : Network) (routes : List Route) (taken : List ℕ) (so_far : SoFar) → Stands net routes taken so_far → Stands net routes taken (keeping_last so_far)
stands_alone net routes taken so_far s = record { count = s.count; loaded = s.loaded; exits = s.exits; entries = along_alone taken routes so_far.entries s.entries }

pub stands_kept : (net : Network) (routes : List Route) (taken : List ℕ) (kept : Kept) (so_far : SoFar) → Stands net routes taken so_far
    → Stands net routes taken (kept_after kept so_far)
stands_kept net routes taken Every so_far s = s
stands_kept net routes taken Last so_far s = stands_alone net routes taken so_far s

first_kept : (kept : Kept) (s : SoFar) → map last_alone s.entries ≡ s.entries → kept_after kept s ≡ s
first_kept Every s e = refl
first_kept Last s e = ap (λ (l : List Sent). record { links = s.links; entries = l }) e

-- ---- computations, one after the other
abbrev alone : Checked Sent → Checked Sent
alone r = r >>= λ sent. Ok (last_alone sent)

abbrev all_alone : Checked (List Sent) → Checked (List Sent)
all_alone r = r >>= λ entries. Ok (map last_alone entries)

abbrev both : Checked Sent → Checked (List Sent) → Checked (List Sent)
both here later = here >>= λ sent. later >>= λ rest. Ok (sent ∷ rest)

both_alone : (here : Checked Sent) (later : Checked (List Sent)) → all_alone (both here later) ≡ both (alone here) (all_alone later)
both_alone (Ok sent) (Ok rest) = refl
both_alone (Ok sent) (Err p) = refl
both_alone (Err p) later = refl

steps_alone : (f : Route → Sent → Checked Sent) → ((route : Route) (sent : Sent) → alone (f route (last_alone sent)) ≡ alone (f route sent))
    → (routes : List Route) (entries : List Sent) → all_alone (step_all f routes (map last_alone entries)) ≡ all_alone (step_all f routes entries)
steps_alone f same [] entries = refl
steps_alone f same (route ∷ routes) [] = refl
steps_alone f same (route ∷ routes) (sent ∷ rest) =
    both_alone (f route (last_alone sent)) (step_all f routes (map last_alone rest))
    ∙ ap (λ (r : Checked Sent). both r (all_alone (step_all f routes (map last_alone rest)))) (same route sent)
    ∙ ap (λ (r : Checked (List Sent)). both (alone (f route sent)) r) (steps_alone f same routes rest)
    ∙ sym (both_alone (f route sent) (step_all f routes rest))

module _ (passes : Passing) where
  begin_alone : (b : Bool) (horizon : ℚ) (route : Route) (sent : Sent) → alone (begin_if passes b horizon route (last_alone sent)) ≡ alone (begin_if passes b horizon route sent)
  begin_alone true horizon route sent = refl
  begin_alone false horizon route sent = ap Ok (alone_twice sent)

  begins_alone : (horizon : ℚ) (e : ℕ) (routes : List Route) (entries : List Sent)
      → all_alone (begin_all passes horizon e routes (map last_alone entries)) ≡ all_alone (begin_all passes horizon e routes entries)
  begins_alone horizon e routes entries =
      ap all_alone (begin_all-is passes horizon e routes (map last_alone entries))
      ∙ steps_alone (λ (route : Route) (sent : Sent). begin_if passes (begins_at route.links e) horizon route sent)
      (λ route sent. begin_alone (begins_at route.links e) horizon route sent) routes entries
      ∙ ap all_alone (sym (begin_all-is passes horizon e routes entries))

  sum_alone : (e : ℕ) (total : List Point) (routes : List Route) (entries : List Sent) → sum_from passes e total routes (map last_alone entries) ≡ sum_from passes e total routes entries
  sum_alone e total [] entries = refl
  sum_alone e total (route ∷ routes) [] = refl
  sum_alone e total (route ∷ routes) (sent ∷ rest) =
      ap (λ (entry : List Point). add_if passes (goes_over route.links e) total entry >>= λ next. sum_from passes e next routes (map last_alone rest)) (last_of_alone sent)
      ∙ bind_same (add_if passes (goes_over route.links e) total (last_entry sent))
      (λ (next : List Point). sum_from passes e next routes (map last_alone rest)) (λ (next : List Point). sum_from passes e next routes rest)
      (λ next. sum_alone e next routes rest)

  pushed_alone : (front : Sent) (r : Checked (List Point)) → alone (r >>= λ next. Ok (front ++ next ∷ [])) ≡ (r >>= λ next. Ok (next ∷ []))
  pushed_alone front (Ok next) = ap Ok (alone_push front next)
  pushed_alone front (Err p) = refl

  next_alone : (b : Bool) (exit : List Point) (sent : Sent) → alone (next_if passes b exit (last_alone sent)) ≡ alone (next_if passes b exit sent)
  next_alone true exit sent =
      pushed_alone (last_alone sent) (next_entry passes exit (last_entry (last_alone sent)))
      ∙ ap (λ (entry : List Point). next_entry passes exit entry >>= λ next. Ok (next ∷ [])) (last_of_alone sent)
      ∙ sym (pushed_alone sent (next_entry passes exit (last_entry sent)))
  next_alone false exit sent = ap Ok (alone_twice sent)

  nexts_alone : (e : ℕ) (exit : List Point) (routes : List Route) (entries : List Sent)
      → all_alone (next_all passes e exit routes (map last_alone entries)) ≡ all_alone (next_all passes e exit routes entries)
  nexts_alone e exit routes entries =
      ap all_alone (next_all-is passes e exit routes (map last_alone entries))
      ∙ steps_alone (λ (route : Route) (sent : Sent). next_if passes (goes_over route.links e) exit sent) (λ route sent. next_alone (goes_over route.links e) exit sent) routes entries
      ∙ ap all_alone (sym (next_all-is passes e exit routes entries))

  -- ---- the loading of a link
  module _ (horizon : ℚ) (routes : List Route) (s : SoFar) (e : ℕ) where
    abbrev ended : Checked SoFar → Checked SoFar
    ended r = r >>= λ next. Ok (keeping_last next)

    module _ (link : Link) where
      abbrev comes : Loaded → List Sent → Checked SoFar
      comes loaded entries = Ok (record { links = set s.links e (Some (record { end = end_by horizon (all_pairs routes) s.links e; loaded = loaded })); entries = entries })

      abbrev after_load : List Sent → Loaded → Checked SoFar
      after_load begun loaded = next_all passes e loaded.exit routes begun >>= comes loaded

      abbrev load : List Point → Checked Loaded
      load inflow = checked_loading passes link.transit link.capacity inflow (end_by horizon (all_pairs routes) s.links e)

      abbrev after_sum : List Sent → List Point → Checked SoFar
      after_sum begun inflow = load inflow >>= after_load begun

      abbrev after_begin : List Sent → Checked SoFar
      after_begin begun = sum_from passes e ((0ℚ, 0ℚ) ∷ []) routes begun >>= after_sum begun

      comes_alone : (loaded : Loaded) (r : Checked (List Sent)) → ended (r >>= comes loaded) ≡ (all_alone r >>= comes loaded)
      comes_alone loaded (Ok entries) = refl
      comes_alone loaded (Err p) = refl

      sends_alone : (begun : List Sent) (loaded : Loaded) → ended (after_load (map last_alone begun) loaded) ≡ ended (after_load begun loaded)
      sends_alone begun loaded =
          comes_alone loaded (next_all passes e loaded.exit routes (map last_alone begun))
          ∙ ap (λ (r : Checked (List Sent)). r >>= comes loaded) (nexts_alone e loaded.exit routes begun)
          ∙ sym (comes_alone loaded (next_all passes e loaded.exit routes begun))

      loads_alone : (begun : List Sent) (inflow : List Point) → ended (after_sum (map last_alone begun) inflow) ≡ ended (after_sum begun inflow)
      loads_alone begun inflow =
          chain (load inflow) (after_load (map last_alone begun)) (λ next. Ok (keeping_last next))
          ∙ bind_same (load inflow) (λ loaded. ended (after_load (map last_alone begun) loaded)) (λ loaded. ended (after_load begun loaded)) (λ loaded. sends_alone begun loaded)
          ∙ sym (chain (load inflow) (after_load begun) (λ next. Ok (keeping_last next)))

      sums_alone : (begun : List Sent) → ended (after_begin (map last_alone begun)) ≡ ended (after_begin begun)
      sums_alone begun =
          let sum = sum_from passes e ((0ℚ, 0ℚ) ∷ []) routes begun in
          ap (λ (r : Checked (List Point)). ended (r >>= after_sum (map last_alone begun))) (sum_alone e ((0ℚ, 0ℚ) ∷ []) routes begun)
          ∙ chain sum (after_sum (map last_alone begun)) (λ next. Ok (keeping_last next))
          ∙ bind_same sum (λ inflow. ended (after_sum (map last_alone begun) inflow)) (λ inflow. ended (after_sum begun inflow)) (λ inflow. loads_alone begun inflow)
          ∙ sym (chain sum (after_sum begun) (λ next. Ok (keeping_last next)))

      begun_alone : (r : Checked (List Sent)) → ended (all_alone r >>= after_begin) ≡ ended (r >>= after_begin)
      begun_alone (Ok begun) = sums_alone begun
      begun_alone (Err p) = refl

      link_alone : ended (load_here passes horizon routes (keeping_last s) e (Some link)) ≡ ended (load_here passes horizon routes s e (Some link))
      link_alone =
          sym (begun_alone (begin_all passes horizon e routes (map last_alone s.entries)))
          ∙ ap (λ (r : Checked (List Sent)). ended (r >>= after_begin)) (begins_alone horizon e routes s.entries)
          ∙ begun_alone (begin_all passes horizon e routes s.entries)

    here_alone : (link : Option Link) → ended (load_here passes horizon routes (keeping_last s) e link) ≡ ended (load_here passes horizon routes s e link)
    here_alone None = ap (λ (l : List Sent). Ok (record { links = s.links; entries = l })) (all_twice s.entries)
    here_alone (Some link) = link_alone link

  here_kept : (kept : Kept) (horizon : ℚ) (routes : List Route) (s : SoFar) (e : ℕ) (link : Option Link)
      → (load_here passes horizon routes (kept_after kept s) e link >>= λ next. Ok (kept_after kept next))
      ≡ (load_here passes horizon routes s e link >>= λ next. Ok (kept_after kept next))
  here_kept Every horizon routes s e link = refl
  here_kept Last horizon routes s e link = here_alone horizon routes s e link

  -- ---- the loading of all links
  kept_is : (kept : Kept) (net : Network) (routes : List Route) (horizon : ℚ) (order : List ℕ) (s : SoFar)
      → load_kept passes kept net routes horizon order (kept_after kept s) ≡ (load_all passes net routes horizon order s >>= λ all. Ok (kept_after kept all))
  kept_is kept net routes horizon [] s = refl
  kept_is kept net routes horizon (e ∷ order) s =
      sym (chain (load_here passes horizon routes (kept_after kept s) e (slice_get net.links e)) (λ next. Ok (kept_after kept next))
      (λ next. load_kept passes kept net routes horizon order next))
      ∙ ap (λ (r : Checked SoFar). r >>= λ next. load_kept passes kept net routes horizon order next) (here_kept kept horizon routes s e (slice_get net.links e))
      ∙ later (load_here passes horizon routes s e (slice_get net.links e)) (λ next. kept_is kept net routes horizon order next)
    where
      later : (r : Checked SoFar) → ((next : SoFar) → load_kept passes kept net routes horizon order
          (kept_after kept next) ≡ (load_all passes net routes horizon order next >>= λ all. Ok (kept_after kept all)))
          → ((r >>= λ next. Ok (kept_after kept next)) >>= λ next. load_kept passes kept net routes horizon order next)
          ≡ ((r >>= λ next. load_all passes net routes horizon order next) >>= λ all. Ok (kept_after kept all))
      later (Ok next) same = same next
      later (Err p) same = refl

  pub all_kept-is : (kept : Kept) (net : Network) (routes : List Route) (horizon : ℚ)
      → all_kept passes kept net routes horizon ≡ (all_loaded passes net routes horizon >>= λ all. Ok (kept_after kept all))
  all_kept-is kept net routes horizon =
      ap (λ (s : SoFar). load_kept passes kept net routes horizon (loading_order (length net.links) routes) s)
      (sym (first_kept kept (record { links = nothing_loaded net.links; entries = nothing_sent routes }) (none_alone routes)))
      ∙ kept_is kept net routes horizon (loading_order (length net.links) routes) (record { links = nothing_loaded net.links; entries = nothing_sent routes })
