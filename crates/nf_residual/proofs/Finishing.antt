-- The shortest walk and the least lengths, from the result of the rounds.
use Rattle.std.proofs.Common.{◌≡◌, ℕ, ◌<◌, true, List, length, map, option_map, Option, Some, None, refl, sym, ap, subst, ◌∙◌, Ok, Err, is_some}
use Rattle.nf_residual.proofs.Common.{AllByRecursion, ℚ, Passing, Halt, PassedAt, Checked, Stops, at_part, fold_checked, ◌>>=◌, Network, IsNetwork, Step}
use Rattle.nf_residual.proofs.Common.{IsResidualWalk, IsLimited, Reach, IsSound, Known, Walk, known_at, room_after, reaches_list, with_room, IsShortest}
use Rattle.nf_residual.proofs.Common.{AreLeastLengths, IsFoundAt, links_within}
use Rattle.nf_frac_def.specs.declared.Part.TheVariants as Part
use Rattle.nf_quick_def.specs.Rounds.{shortest_list, distances_list}
use Rattle.nf_quick_laws.proofs.Found.{IsFoundAt-list}
use Rattle.nf_quick_laws.proofs.Lists.{IsShortest-list, AreLeastLengths-list}
use Rattle.nf_quick_laws.proofs.PushList.{RoomFound, RoomFound-fold, can_go_each, unbounded_walk}
use Rattle.nf_residual.proofs.Fits.{all_of}
use Rattle.nf_residual.proofs.Stopping.{ok_of_part, stops, goes_on, stops_as}

-- The steps of a residual walk are along links.
pub steps_within : (net : Network) (flows : List ℚ) (walk : List Step) → IsResidualWalk net flows walk net.source net.sink
    → AllByRecursion (λ (step : Step). step.link < length net.links) walk
steps_within net flows walk p = all_of (length net.links) walk (links_within net flows (length net.links) walk net.source net.sink refl p)

-- A residual walk from source to sink has a room, since one of its links has a capacity.
pub has_room : (passes : Passing) (net : Network) (flows : List ℚ) (walk : List Step) (room : Option ℚ) → IsLimited net → IsResidualWalk net flows walk net.source net.sink
    → fold_checked (room_after passes net flows) None walk ≡ Ok room → is_some room ≡ true
has_room passes net flows walk room limited p e =
    by_room room (RoomFound-fold passes net flows walk None room tt (can_go_each net flows walk net.source net.sink p) e)
  where
    by_room : (room : Option ℚ) → RoomFound passes net flows walk None room → is_some room ≡ true
    by_room None r = let u = unbounded_walk net flows walk net.source net.sink p r.1 in absurd (limited u.0 u.1)
    by_room (Some least) r = refl

-- `seen` are the borrowed flows.
module _ (passes : Passing) (net : Network) (flows seen : List ℚ) (lent : seen ≡ flows) where
  -- ---- the shortest walk
  abbrev finished : Known → Checked (Option Walk)
  finished known = with_room passes net flows (known_at known net.sink)

  opened : shortest_list passes net flows ≡ (reaches_list passes net flows net.source >>= finished)
  unfolding shortest_list
  opened = refl

  module _ (source : ℕ) (at : source ≡ net.source) where
    same_reaches : reaches_list passes net flows net.source ≡ reaches_list passes net seen source
    same_reaches = ap (λ (l : List ℚ). reaches_list passes net l net.source) (sym lent) ∙ ap (λ (v : ℕ). reaches_list passes net seen v) (sym at)

    joined : shortest_list passes net flows ≡ (reaches_list passes net seen source >>= finished)
    joined = opened ∙ ap (λ (r : Checked Known). r >>= finished) same_reaches

    pub shortest_stops : (h : Halt ℚ) → Stops (λ (q : ℚ). q) h (at_part Part.Quick (reaches_list passes net seen source))
        → Stops (λ (q : ℚ). q) h (at_part Part.Quick (shortest_list passes net flows))
    shortest_stops h s = stops_as _ _ h joined (stops (reaches_list passes net seen source) finished h s)

    module _ (known : Known) (came : at_part Part.Quick (reaches_list passes net seen source) ≡ Ok known) (way : Option Reach) (sink : ℕ)
        (at_sink : sink ≡ net.sink) (is : way ≡ known_at known sink) where
      there : way ≡ known_at known net.sink
      there = is ∙ ap (λ (v : ℕ). known_at known v) at_sink

      then : shortest_list passes net flows ≡ with_room passes net seen way
      then = joined ∙ goes_on (reaches_list passes net seen source) finished known came ∙ ap (λ (o : Option Reach). with_room passes net flows o) (sym there)
          ∙ ap (λ (l : List ℚ). with_room passes net l way) (sym lent)

      pub room_passes : (p : PassedAt ℚ) → Err p ≡ at_part Part.Quick (with_room passes net seen way) → at_part Part.Quick (shortest_list passes net flows) ≡ Err p
      room_passes p e = ap (at_part Part.Quick) then ∙ sym e

      pub walk_listed : (walk : Option Walk) → Ok walk ≡ at_part Part.Quick (with_room passes net seen way) → at_part Part.Quick (shortest_list passes net flows) ≡ Ok walk
      walk_listed walk e = ap (at_part Part.Quick) then ∙ sym e

      pub walk_first : IsNetwork net → IsSound net flows → IsLimited net → (walk : Option Walk) → Ok walk ≡ at_part Part.Quick (with_room passes net seen way) → IsShortest net flows walk
      walk_first good sound limited walk e = IsShortest-list passes net flows good sound.closed limited walk (ok_of_part (shortest_list passes net flows) walk (walk_listed walk e))

      pub walk_there : IsNetwork net → IsSound net flows → (reach : Reach) → way ≡ Some reach → IsResidualWalk net seen reach.steps net.source net.sink
      walk_there good sound reach e =
          let all : IsFoundAt net flows net.source net.sink (known_at known net.sink) =
          IsFoundAt-list net flows net.source good good.source sound.closed passes known (same_reaches ∙ ok_of_part (reaches_list passes net seen source) known came) net.sink in
          let here : IsFoundAt net flows net.source net.sink (Some reach) = subst (λ (o : Option Reach). IsFoundAt net flows net.source net.sink o) (sym there ∙ e) all in
          subst (λ (l : List ℚ). IsResidualWalk net l reach.steps net.source net.sink) (sym lent) here.0.is_walk

  -- ---- least lengths
  abbrev lengths : Known → List (Option ℚ)
  lengths known = map (option_map (λ (reach : Reach). reach.distance)) known

  module _ (from : ℕ) where
    opened_lengths : distances_list passes net flows from ≡ (reaches_list passes net seen from >>= λ known. Ok (lengths known))
    unfolding distances_list
    opened_lengths = ap (λ (l : List ℚ). reaches_list passes net l from >>= λ known. Ok (lengths known)) (sym lent)

    pub distances_stop : (h : Halt ℚ) → Stops (λ (q : ℚ). q) h (at_part Part.Quick (reaches_list passes net seen from))
        → Stops (λ (q : ℚ). q) h (at_part Part.Quick (distances_list passes net flows from))
    distances_stop h s = stops_as _ _ h opened_lengths (stops (reaches_list passes net seen from) (λ known. Ok (lengths known)) h s)

    module _ (known : Known) (came : at_part Part.Quick (reaches_list passes net seen from) ≡ Ok known) (distances : List (Option ℚ)) (is : distances ≡ lengths known) where
      pub distances_listed : at_part Part.Quick (distances_list passes net flows from) ≡ Ok distances
      distances_listed = ap (at_part Part.Quick) (opened_lengths ∙ goes_on (reaches_list passes net seen from) (λ known. Ok (lengths known)) known came) ∙ ap Ok (sym is)

      pub distances_least : IsNetwork net → IsSound net flows → from < net.nodes → AreLeastLengths net flows from distances
      distances_least good sound inside = AreLeastLengths-list passes net flows good sound.closed from inside distances
          (ok_of_part (distances_list passes net flows from) distances distances_listed)
