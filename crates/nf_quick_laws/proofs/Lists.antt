-- The results of the operation sequences, if no operation passes: the first residual walk with its room, and the least lengths.
use Rattle.std.proofs.Common.{◌≡◌, ℕ, ◌<◌, List, Option, Some, None, slice_get, unwrap_or, option_map, map, Ok, sym, subst, ◌∙◌}
use Rattle.nf_quick_laws.proofs.Common.{length-map, slice_get-map, same_Some, ℚ, 0ℚ, Passing, Checked, fold_checked, Network, IsNetwork, Step}
use Rattle.nf_quick_laws.proofs.Common.{IsResidualWalk, IsLimited, Reach, IsLeastLength, IsRoom, IsShortest, AreLeastLengths, NoneNegative, IsFoundAt}
use Rattle.nf_quick_laws.proofs.Common.{same_Ok, Known, known_at, Walk, room_after, reaches_list, with_room}
use Rattle.nf_quick_def.specs.Rounds.{distances_list, shortest_list}
use Rattle.nf_quick_laws.proofs.Offers.{bind-ok}
use Rattle.nf_quick_laws.proofs.Found.{IsFoundAt-list, reaches-count, IsLeastLength-first}
use Rattle.nf_quick_laws.proofs.PushList.{RoomFound, RoomFound-fold, can_go_each, unbounded_walk}

module _ (passes : Passing) (net : Network) (flows : List ℚ) (good : IsNetwork net) (closed : NoneNegative net flows) where
  room_of : (limited : IsLimited net) (walk : List Step) (room : Option ℚ) → IsResidualWalk net flows walk net.source net.sink
      → RoomFound passes net flows walk None room → IsRoom net flows walk (unwrap_or room 0ℚ)
  room_of limited walk None p r = let u = unbounded_walk net flows walk net.source net.sink p r.1 in absurd (limited u.0 u.1)
  room_of limited walk (Some m) p r = record { some = r.some; has_room = r.has_room; greatest = λ other h. r.greatest other tt h }

  by_known : IsLimited net → (o : Option Reach) (found : Option Walk) → IsFoundAt net flows net.source net.sink o → with_room passes net flows o ≡ Ok found → IsShortest net flows found
  by_known limited None found f e = subst (λ (x : Option Walk). IsShortest net flows x) (same_Ok None found e) f
  by_known limited (Some q) found f e =
      let w : (room : Option ℚ) × (fold_checked (room_after passes net flows) None q.steps ≡ Ok room)
      × (◌≡◌ {A = Checked (Option Walk)} (Ok (Some (record { steps = q.steps; length = q.distance; room = unwrap_or room 0ℚ }))) (Ok found)) =
      bind-ok (fold_checked (room_after passes net flows) None q.steps) (λ room. Ok (Some (record { steps = q.steps; length = q.distance; room = unwrap_or room 0ℚ }))) found e in
      subst (λ (x : Option Walk). IsShortest net flows x) (same_Ok _ found w.2) (record {
        first = f.0;
        length_is = f.1;
        room_is = room_of limited q.steps w.0 f.0.is_walk
            (RoomFound-fold passes net flows q.steps None w.0 tt (can_go_each net flows q.steps net.source net.sink f.0.is_walk) w.1);
      })

  pub IsShortest-list : IsLimited net → (found : Option Walk) → shortest_list passes net flows ≡ Ok found → IsShortest net flows found
  unfolding shortest_list
  IsShortest-list limited found e =
      let w : (known : Known) × (reaches_list passes net flows net.source ≡ Ok known) × (with_room passes net flows (known_at known net.sink) ≡ Ok found) =
      bind-ok (reaches_list passes net flows net.source) (λ known. with_room passes net flows (known_at known net.sink)) found e in
      by_known limited (known_at w.0 net.sink) found (IsFoundAt-list net flows net.source good good.source closed passes w.0 w.1 net.sink) w.2

  -- An entry of the distances is the length of the known path.
  entry_of : (known : Known) (v : ℕ) (o : Option ℚ) → slice_get (map (option_map (λ (r : Reach). r.distance)) known) v ≡ Some o
      → option_map (λ (r : Reach). r.distance) (known_at known v) ≡ o
  entry_of known v o e = by_entry (slice_get known v) (sym (slice_get-map (option_map (λ (r : Reach). r.distance)) known v) ∙ e)
    where
      by_entry : (x : Option (Option Reach)) → option_map (option_map (λ (r : Reach). r.distance)) x ≡ Some o → option_map (λ (r : Reach). r.distance) (unwrap_or x None) ≡ o
      by_entry None e = absurd (cc)
      by_entry (Some x) e = cc

  least_at : (from v : ℕ) (o : Option Reach) (d : ℚ) → IsFoundAt net flows from v o → option_map (λ (r : Reach). r.distance) o ≡ Some d → IsLeastLength net flows from v d
  least_at from v None d f e = absurd (cc)
  least_at from v (Some q) d f e = subst (λ (x : ℚ). IsLeastLength net flows from v x) (sym f.1 ∙ same_Some q.distance d e) (IsLeastLength-first net flows from v q.steps f.0)

  none_at : (from v : ℕ) (o : Option Reach) → IsFoundAt net flows from v o → option_map (λ (r : Reach). r.distance) o ≡ None → (walk : List Step)
      → IsResidualWalk net flows walk from v → ⊥
  none_at from v None f e = f
  none_at from v (Some q) f e = absurd (cc)

  pub AreLeastLengths-list : (from : ℕ) → from < net.nodes → (distances : List (Option ℚ)) → distances_list passes net flows from ≡ Ok distances
      → AreLeastLengths net flows from distances
  unfolding distances_list
  AreLeastLengths-list from inside distances e =
      let w : (known : Known) × (reaches_list passes net flows from ≡ Ok known)
      × (◌≡◌ {A = Checked (List (Option ℚ))} (Ok (map (option_map (λ (r : Reach). r.distance)) known)) (Ok distances)) =
      bind-ok (reaches_list passes net flows from) (λ known. Ok (map (option_map (λ (r : Reach). r.distance)) known)) distances e in
      let found : (v : ℕ) → IsFoundAt net flows from v (known_at w.0 v) = IsFoundAt-list net flows from good inside closed passes w.0 w.1 in
      subst (λ (x : List (Option ℚ)). AreLeastLengths net flows from x) (same_Ok _ distances w.2) (record {
        count = length-map w.0 (option_map (λ (r : Reach). r.distance)) ∙ reaches-count net flows from good inside closed passes w.0 w.1;
        least = λ v d p. least_at from v (known_at w.0 v) d (found v) (entry_of w.0 v (Some d) p);
        none = λ v p. none_at from v (known_at w.0 v) (found v) (entry_of w.0 v None p);
      })
