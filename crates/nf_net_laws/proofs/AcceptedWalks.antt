-- Walks of an accepted file, by the numbers of the file and of its network.
use Rattle.std.proofs.Common.{◌≡◌, ℕ, ◌⊎◌, true, List, ◌∷◌, length, slice_get, Some, refl, sym, ap, subst, inl, inr}
use Rattle.nf_net_laws.proofs.Common.{0ℚ, ◌≤ℚ◌, ◌<ℚ◌, lt_or_le_ℚ, Hop, IsHop, IsWalk, transit_sum, hop_of, Name, has_name, place_of, name_at, NamedLink}
use Rattle.nf_net_laws.proofs.Common.{numbered, hops_among, Draft, draft_hops, HasZeroCycle, IsNamedLink, slice_get-image}
use Rattle.nf_net_laws.proofs.NameFacts.{name_at-place}
use Rattle.nf_net_laws.proofs.WalkFacts.{entry_all, CameFrom, came_from, Corresponds, Carried, carried, starts_with_one, all_zero}
use Rattle.nf_net_laws.proofs.DraftKept.{IsGoodDraft}

-- transits of a file's hops aren't negative
pub file_transits : (draft : Draft) → IsGoodDraft draft → (i : ℕ) (hop : Hop) → IsHop (draft_hops draft) i hop → 0ℚ ≤ℚ hop.transit
file_transits draft g i hop is =
    let c : CameFrom (λ l. hop_of (numbered draft.nodes l)) draft.links i hop = came_from (λ l. hop_of (numbered draft.nodes l)) draft.links i hop is in
    let k : IsNamedLink draft.version c.entry = entry_all (IsNamedLink draft.version) draft.links i c.entry g.links c.is_entry in
    subst (λ (x : Hop). 0ℚ ≤ℚ x.transit) c.is_image k.transit

-- some of the file's links, with other numbers of nodes
pub record AreOfFile (draft : Draft) (names : List Name) (links : List NamedLink) : Type 0 where
  pub entry : (e : ℕ) (l : NamedLink) → slice_get links e ≡ Some l → (i : ℕ) × (slice_get draft.links i ≡ Some l)
  pub ends : (e : ℕ) (l : NamedLink) → slice_get links e ≡ Some l → (has_name names l.tail ≡ true) × (has_name names l.head ≡ true)

module _ (draft : Draft) (g : IsGoodDraft draft) (names : List Name) (links : List NamedLink) (of : AreOfFile draft names links) where
  -- the file's number of a node
  abbrev pub file_place : ℕ → ℕ
  file_place v = place_of draft.nodes (name_at names v)

  as_file_hop : (e : ℕ) (l : NamedLink) → slice_get links e ≡ Some l → Corresponds (draft_hops draft) (λ v. place_of draft.nodes (name_at names v))
      (λ v. Unit {0}) (hop_of (numbered names l))
  as_file_hop e l is = record {
    number = (of.entry e l is).0;
    image = hop_of (numbered draft.nodes l);
    is_hop = slice_get-image (λ l. hop_of (numbered draft.nodes l)) draft.links (of.entry e l is).0 l (of.entry e l is).1;
    tail = ap (place_of draft.nodes) (sym (name_at-place names l.tail (of.ends e l is).0));
    head = ap (place_of draft.nodes) (sym (name_at-place names l.head (of.ends e l is).1));
    transit = refl;
    after = tt;
  }

  to_file : (e : ℕ) (hop : Hop) → IsHop (hops_among names links) e hop → Unit {0} → Corresponds (draft_hops draft) (λ v. place_of draft.nodes (name_at names v)) (λ v. Unit {0}) hop
  to_file e hop is _ =
      let c : CameFrom (λ l. hop_of (numbered names l)) links e hop = came_from (λ l. hop_of (numbered names l)) links e hop is in
      subst (Corresponds (draft_hops draft) (λ v. place_of draft.nodes (name_at names v)) (λ v. Unit {0})) c.is_image (as_file_hop e c.entry c.is_entry)

  pub walk_to_file : (walk : List ℕ) (v w : ℕ) → IsWalk (hops_among names links) walk v w
      → Carried (hops_among names links) (draft_hops draft) (λ v. place_of draft.nodes (name_at names v)) (λ v. Unit {0}) walk v w
  walk_to_file walk v w h = carried (hops_among names links) (draft_hops draft) (λ v. place_of draft.nodes (name_at names v)) (λ v. Unit {0}) to_file walk v w tt h

  -- going round in a circle takes time
  pub circles : (HasZeroCycle draft → ⊥) → (e : ℕ) (walk : List ℕ) (v : ℕ) → IsWalk (hops_among names links) (e ∷ walk) v v → 0ℚ <ℚ transit_sum (hops_among names links) (e ∷ walk)
  circles none e walk v h = takes (lt_or_le_ℚ 0ℚ (transit_sum (draft_hops draft) c.image))
    where
      c : Carried (hops_among names links) (draft_hops draft) (λ v. place_of draft.nodes (name_at names v)) (λ v. Unit {0}) (e ∷ walk) v v
      c = walk_to_file (e ∷ walk) v v h

      takes : (0ℚ <ℚ transit_sum (draft_hops draft) c.image) ⊎ (transit_sum (draft_hops draft) c.image ≤ℚ 0ℚ) → 0ℚ <ℚ transit_sum (hops_among names links) (e ∷ walk)
      takes (inl k) = subst (λ x. 0ℚ <ℚ x) c.sum k
      takes (inr k) =
          let one : (i : ℕ) × (rest : List ℕ) × (c.image ≡ i ∷ rest) = starts_with_one c.image (length walk) c.long in
          let round : IsWalk (draft_hops draft) (one.0 ∷ one.1) (file_place v) (file_place v) = subst (λ w. IsWalk (draft_hops draft) w (file_place v) (file_place v)) one.2 c.is_walk in
          let small : transit_sum (draft_hops draft) (one.0 ∷ one.1) ≤ℚ 0ℚ = subst (λ w. transit_sum (draft_hops draft) w ≤ℚ 0ℚ) one.2 k in
          absurd (none (record {
            first = one.0;
            walk = one.1;
            node = file_place v;
            closed = round;
            zero = all_zero (draft_hops draft) (file_transits draft g) (one.0 ∷ one.1) (file_place v) (file_place v) round small;
          }))
