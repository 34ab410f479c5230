-- Bellman-Ford rounds: arc by arc, and round by round.
use Rattle.std.proofs.Common.{◌≡◌, ℕ, zero, suc, ◌+◌, ◌-◌, ◌<◌, ◌≤◌, List, [], ◌∷◌, ◌++◌, length, length-append, drop, set, replicate, get_or, true, ◌⊎◌}
use Rattle.std.proofs.Common.{inl, inr, ⊎_elim, Option, Some, None, option_map, refl, sym, ap, subst, ◌∙◌, append_assoc, slice_get, arith, Ok}
use Rattle.nf_residual.proofs.Common.{drop_more, drop_all, length-set, length-replicate, length-map, slice_get_within, slice_get_read, ℚ, 0ℚ, Passing, Halt}
use Rattle.nf_residual.proofs.Common.{Checked, Stops, at_part, fold_checked, ◌>>=◌, Network, Reach, Known, known_at, first_known, along, round_list}
use Rattle.nf_residual.proofs.Common.{rounds_list, Twig, Leg, first_twig, way_at, IsPathTree, Places, place_at, first_places, ArePathsBelow, known_by}
use Rattle.nf_residual.proofs.Common.{Grows, legs_from, AreLegs, along_leg, AreSettled}
use Rattle.nf_frac_def.specs.declared.Part.TheVariants as Part
use Rattle.nf_quick_def.specs.Rounds.{reaches_list}
use Rattle.nf_residual.proofs.Stopping.{ok_of_part, stops, goes_on, stops_as}
use Rattle.nf_residual.proofs.Twigs.{IsTree-first, way_kept, known_at-by, known_kept, known_set}
use Rattle.nf_residual.proofs.Offering.{nothing_grows}
use Rattle.nf_residual.proofs.Settled.{settled_here, settled_then}
use Rattle.nf_residual.proofs.LegByLeg.{round_along}

pub lt_or_ge : (j k : ℕ) → (j < k) ⊎ (k ≤ j)
lt_or_ge zero zero = inr (omega arith)
lt_or_ge zero (suc k) = inl (omega arith)
lt_or_ge (suc j) zero = inr (omega arith)
lt_or_ge (suc j) (suc k) = ⊎_elim (λ (h : j < k). inl (omega arith)) (λ (h : k ≤ j). inr (omega arith)) (lt_or_ge j k)

-- ---- arc by arc: the remaining arcs give the result of the whole round, and processed arcs offer nothing new
abbrev pub IsOld : ℕ → Places → Leg → Type 0
IsOld fresh places leg = (way : ℕ) × (place_at places leg.begin ≡ Some way) × (way < fresh)

pub record RoundOn (passes : Passing) (legs : List Leg) (fresh : ℕ) (old : List Twig) (before : Places) (tree : List Twig) (places : Places) (k : ℕ) : Type 0 where
  pub same : fold_checked (along_leg passes (known_by old before)) (known_by tree places) (drop k legs) ≡ fold_checked (along_leg passes (known_by old before)) (known_by old before) legs
  pub grows : Grows old tree before places
  pub settled : (j : ℕ) (leg : Leg) → slice_get legs j ≡ Some leg → (j < k) ⊎ IsOld fresh before leg
      → along_leg passes (known_by old before) (known_by tree places) leg ≡ Ok (known_by tree places)

pub grows_on : (old mid new : List Twig) (before between after : Places) → Grows old mid before between → Grows mid new between after → Grows old new before after
grows_on old mid new before between after f g = record {
  added = f.added ++ g.added;
  grown = g.grown ∙ ap (λ (t : List Twig). t ++ g.added) f.grown ∙ append_assoc old f.added g.added;
  count = g.count ∙ f.count;
  places = λ v. by_place v (g.places v) (f.places v);
  same = λ e. let d : (length mid ≡ length old) × (length new ≡ length mid) = no_more e in g.same d.1 ∙ f.same d.0;
}
  where
    long : length mid ≡ length old + length f.added
    long = ap (λ (t : List Twig). length t) f.grown ∙ length-append old f.added

    longer : length new ≡ length mid + length g.added
    longer = ap (λ (t : List Twig). length t) g.grown ∙ length-append mid g.added

    no_more : length new ≡ length old → (length mid ≡ length old) × (length new ≡ length mid)
    no_more e = (omega (arith, long, longer, e), omega (arith, long, longer, e))

    by_place : (v : ℕ) → (place_at after v ≡ place_at between v) ⊎ ((way : ℕ) × (place_at after v ≡ Some way) × (length mid ≤ way) × (way < length new))
        → (place_at between v ≡ place_at before v) ⊎ ((way : ℕ) × (place_at between v ≡ Some way) × (length old ≤ way) × (way < length mid))
        → (place_at after v ≡ place_at before v) ⊎ ((way : ℕ) × (place_at after v ≡ Some way) × (length old ≤ way) × (way < length new))
    by_place v (inl a) (inl b) = inl (a ∙ b)
    by_place v (inl a) (inr b) = inr (b.0, a ∙ b.1, b.2, omega (arith, b.3, longer))
    by_place v (inr a) b = inr (a.0, a.1, omega (arith, a.2, long), a.3)

-- The index is that of an old path or of a new one.
pub within_grown : (old new : List Twig) (before after : Places) → Grows old new before after → ArePathsBelow (length old) before → ArePathsBelow (length new) after
within_grown old new before after g h = λ v way e. by_place v way e (g.places v)
  where
    long : length new ≡ length old + length g.added
    long = ap (λ (t : List Twig). length t) g.grown ∙ length-append old g.added

    same : (x y : ℕ) → Some x ≡ Some y → x ≡ y
    same x y e = cc

    by_place : (v way : ℕ) → place_at after v ≡ Some way → (place_at after v ≡ place_at before v) ⊎ ((other : ℕ) × (place_at after v ≡ Some other)
        × (length old ≤ other) × (other < length new)) → way < length new
    by_place v way e (inl a) = let b : way < length old = h v way (sym a ∙ e) in omega (arith, b, long)
    by_place v way e (inr a) = let b : a.0 ≡ way = same a.0 way (sym a.1 ∙ e) in omega (arith, b, a.3)

pub known_grown : (old new : List Twig) (before after : Places) → Grows old new before after → IsPathTree old → ArePathsBelow (length old) before
    → known_by new before ≡ known_by old before
known_grown old new before after g good h = ap (λ (t : List Twig). known_by t before) g.grown ∙ known_kept old g.added before good h

pub within_more : (old new : List Twig) (before after : Places) → Grows old new before after → ArePathsBelow (length old) before → ArePathsBelow (length new) before
within_more old new before after g h =
    λ v way e. let b : way < length old = h v way e in let long : length new ≡ length old + length g.added = ap (λ (t : List Twig). length t) g.grown
    ∙ length-append old g.added in omega arith

-- After a round, arcs whose path is not new in it offer nothing new.
module _ (passes : Passing) (legs : List Leg) (old : List Twig) (before : Places) (tree : List Twig) (places : Places) (grows : Grows old tree before places) (good : IsPathTree old)
    (done : (j : ℕ) (leg : Leg) → slice_get legs j ≡ Some leg → along_leg passes (known_by old before) (known_by tree places) leg ≡ Ok (known_by tree places)) where
  pub settled_next : AreSettled passes legs (length old) tree places
  settled_next j leg is way at h = by_place (grows.places leg.begin)
    where
      same : (x y : ℕ) → Some x ≡ Some y → x ≡ y
      same x y e = cc

      way_is : way_at tree way ≡ way_at old way
      way_is = ap (λ (t : List Twig). way_at t way) grows.grown ∙ way_kept old grows.added way good h

      by_place : (place_at places leg.begin ≡ place_at before leg.begin) ⊎ ((other : ℕ) × (place_at places leg.begin ≡ Some other) × (length old ≤ other) × (other < length tree))
          → along_leg passes (known_by tree places) (known_by tree places) leg ≡ Ok (known_by tree places)
      by_place (inl a) =
          let here : known_at (known_by tree places) leg.begin ≡ known_at (known_by old before) leg.begin =
          known_at-by tree places leg.begin ∙ ap (λ (o : Option ℕ). option_map (way_at tree) o) at ∙ ap (λ (r : Reach). Some r) way_is
          ∙ sym (ap (λ (o : Option ℕ). option_map (way_at old) o) (sym a ∙ at)) ∙ sym (known_at-by old before leg.begin) in
          ap (λ (o : Option Reach). along passes true o leg.step leg.transit leg.end (known_by tree places)) here ∙ done j leg is
      by_place (inr a) = let e : a.0 ≡ way = same a.0 way (sym a.1 ∙ at) in absurd (omega (arith, e, a.2, h))

module _ (passes : Passing) (legs : List Leg) (fresh : ℕ) (old : List Twig) (before : Places) where
  abbrev goes : Known → Leg → Checked Known
  goes = along_leg passes (known_by old before)

  pub round_first : (places : Places) → places ≡ before → AreSettled passes legs fresh old before → RoundOn passes legs fresh old before old places 0
  round_first places e settled = subst (λ (p : Places). RoundOn passes legs fresh old before old p 0) (sym e) (record {
    same = refl;
    grows = nothing_grows old before;
    settled = λ j leg is either. at_first j leg is either;
  })
    where
      at_first : (j : ℕ) (leg : Leg) → slice_get legs j ≡ Some leg → (j < 0) ⊎ IsOld fresh before leg
          → along_leg passes (known_by old before) (known_by old before) leg ≡ Ok (known_by old before)
      at_first j leg is (inl h) = absurd (omega arith)
      at_first j leg is (inr o) = settled j leg is o.0 o.1 o.2

  module _ (tree : List Twig) (places : Places) (k : ℕ) (on : RoundOn passes legs fresh old before tree places k) where
    pub count_is : length places ≡ length before
    count_is = on.grows.count

    pub round_all : length legs ≤ k → at_part Part.Quick (fold_checked (along_leg passes (known_by old before)) (known_by old before) legs) ≡ Ok (known_by tree places)
    round_all b = ap (at_part Part.Quick) (sym on.same ∙ ap (λ (l : List Leg). fold_checked goes (known_by tree places) l) (drop_all k legs b))

    pub settled_all : length legs ≤ k → IsPathTree old → AreSettled passes legs (length old) tree places
    settled_all b good = settled_next passes legs old before tree places on.grows good
        (λ j leg is. on.settled j leg is (inl (let i : j < length legs = slice_get_within legs j leg is in omega (arith, i, b))))

    module _ (leg : Leg) (b : k < length legs) (is : leg ≡ get_or legs k leg) where
      split : fold_checked goes (known_by tree places) (leg ∷ drop (k + 1) legs) ≡ fold_checked goes (known_by old before) legs
      split = ap (λ (l : List Leg). fold_checked goes (known_by tree places) l) (sym (drop_more legs k leg b ∙ ap (λ (y : Leg). y ∷ drop (k + 1) legs) (sym is))) ∙ on.same

      there : slice_get legs k ≡ Some leg
      there = slice_get_read legs (length legs) k leg refl b is

      -- The goal for one arc.
      pub leg_ends : AreLegs (length before) legs → (leg.begin < length before) × (leg.end < length before)
      leg_ends h = h k leg there

      pub leg_settled : IsPathTree old → ArePathsBelow (length old) before → (way : ℕ) → place_at before leg.begin ≡ Some way → way < fresh
          → along_leg passes (known_by tree before) (known_by tree places) leg ≡ Ok (known_by tree places)
      leg_settled good within way at h =
          ap (λ (x : Known). along_leg passes x (known_by tree places) leg) (known_grown old tree before places on.grows good within) ∙ on.settled k leg there (inr (way, at, h))

      module _ (good : IsPathTree old) (within : ArePathsBelow (length old) before) where
        as_before : along_leg passes (known_by tree before) (known_by tree places) leg ≡ goes (known_by tree places) leg
        as_before = ap (λ (x : Known). along_leg passes x (known_by tree places) leg) (known_grown old tree before places on.grows good within)

        pub round_stops : (h : Halt ℚ) → Stops (λ (q : ℚ). q) h (at_part Part.Quick (along_leg passes (known_by tree before) (known_by tree places) leg))
            → Stops (λ (q : ℚ). q) h (at_part Part.Quick (fold_checked (along_leg passes (known_by old before)) (known_by old before) legs))
        round_stops h s = stops_as _ _ h (sym split) (stops (goes (known_by tree places) leg) (λ next. fold_checked goes next (drop (k + 1) legs)) h (stops_as _ _ h (sym as_before) s))

        pub round_more : AreLegs (length before) legs → (new : List Twig) (next : Places)
            → at_part Part.Quick (along_leg passes (known_by tree before) (known_by tree places) leg) ≡ Ok (known_by new next)
            → Grows tree new places next → RoundOn passes legs fresh old before new next (k + 1)
        round_more ends new next came grows = record {
          same = sym (goes_on (goes (known_by tree places) leg) (λ next. fold_checked goes next (drop (k + 1) legs)) (known_by new next)
              (ap (at_part Part.Quick) (sym as_before) ∙ came)) ∙ split;
          grows = grows_on old tree new before places next on.grows grows;
          settled = λ j other at either. by_case j other at either;
        }
          where
            gone : goes (known_by tree places) leg ≡ Ok (known_by new next)
            gone = sym as_before ∙ ok_of_part _ _ came

            within_known : (other : Leg) (j : ℕ) → slice_get legs j ≡ Some other → other.end < length (known_by tree places)
            within_known other j at =
                let e : other.end < length before = (ends j other at).1 in
                let long : length (known_by tree places) ≡ length places = length-map places (option_map (way_at tree)) in
                let count : length places ≡ length before = on.grows.count in
                omega (arith, e, long, count)

            same : (x y : Leg) → Some x ≡ Some y → x ≡ y
            same x y e = cc

            here : (j : ℕ) (other : Leg) → slice_get legs j ≡ Some other → j ≡ k → along_leg passes (known_by old before) (known_by new next) other ≡ Ok (known_by new next)
            here j other at e =
                let one : leg ≡ other = same leg other (sym there ∙ ap (λ (i : ℕ). slice_get legs i) (sym e) ∙ at) in
                subst (λ (l : Leg). along_leg passes (known_by old before) (known_by new next) l ≡ Ok (known_by new next)) one
                (settled_here passes (known_by old before) leg (known_by tree places) (known_by new next) (within_known leg k there) gone)

            earlier : (j : ℕ) (other : Leg) → slice_get legs j ≡ Some other → (j < k) ⊎ IsOld fresh before other
                → along_leg passes (known_by old before) (known_by new next) other ≡ Ok (known_by new next)
            earlier j other at either =
                settled_then passes (known_by old before) other leg (known_by tree places) (known_by new next) (within_known other j at) (on.settled j other at either) gone

            by_number : (j : ℕ) (other : Leg) → slice_get legs j ≡ Some other → (j < k) ⊎ (k ≤ j) → j < k + 1
                → along_leg passes (known_by old before) (known_by new next) other ≡ Ok (known_by new next)
            by_number j other at (inl h) l = earlier j other at (inl h)
            by_number j other at (inr h) l = here j other at (omega arith)

            by_case : (j : ℕ) (other : Leg) → slice_get legs j ≡ Some other → (j < k + 1) ⊎ IsOld fresh before other
                → along_leg passes (known_by old before) (known_by new next) other ≡ Ok (known_by new next)
            by_case j other at (inl h) = by_number j other at (lt_or_ge j k) h
            by_case j other at (inr o) = earlier j other at (inr o)

        -- The path to the begin of the arc.
        after_way : (o : Option ℕ) → place_at before leg.begin ≡ o
            → along_leg passes (known_by tree before) (known_by tree places) leg ≡ along passes true (option_map (way_at tree) o) leg.step leg.transit leg.end (known_by tree places)
        after_way o at =
            ap (λ (r : Option Reach). along passes true r leg.step leg.transit leg.end (known_by tree places))
            (known_at-by tree before leg.begin ∙ ap (λ (p : Option ℕ). option_map (way_at tree) p) at)

        module _ (way : ℕ) (at : place_at before leg.begin ≡ Some way) where
          abbrev offers : Checked Known
          offers = along passes true (Some (way_at tree way)) leg.step leg.transit leg.end (known_by tree places)

          pub way_within : way < length tree
          way_within = within_more old tree before places on.grows within leg.begin way at

          pub offer_stops : (h : Halt ℚ) → Stops (λ (q : ℚ). q) h (at_part Part.Quick offers)
              → Stops (λ (q : ℚ). q) h (at_part Part.Quick (fold_checked (along_leg passes (known_by old before)) (known_by old before) legs))
          offer_stops h s = round_stops h (stops_as _ _ h (after_way (Some way) at) s)

          pub offer_more : AreLegs (length before) legs → (new : List Twig) (next : Places) → at_part Part.Quick offers ≡ Ok (known_by new next)
              → Grows tree new places next → RoundOn passes legs fresh old before new next (k + 1)
          offer_more ends new next came grows = round_more ends new next (ap (at_part Part.Quick) (after_way (Some way) at) ∙ came) grows

        -- The case that the path is not fresh.
        pub old_more : AreLegs (length before) legs → ((way : ℕ) → place_at before leg.begin ≡ Some way → way < fresh) → RoundOn passes legs fresh old before tree places (k + 1)
        old_more ends h = round_more ends tree places (ap (at_part Part.Quick) (nothing (place_at before leg.begin) refl)) (nothing_grows tree places)
          where
            nothing : (o : Option ℕ) → place_at before leg.begin ≡ o → along_leg passes (known_by tree before) (known_by tree places) leg ≡ Ok (known_by tree places)
            nothing None at = after_way None at
            nothing (Some way) at = leg_settled good within way at (h way at)

-- ---- round by round: the remaining rounds give the result of all rounds
pub record RoundsOn (passes : Passing) (net : Network) (flows : List ℚ) (from : ℕ) (known : Known) (k : ℕ) : Type 0 where
  pub same : rounds_list passes (net.nodes - k) net.links flows known ≡ reaches_list passes net flows from
  pub count : length known ≡ net.nodes

module _ (passes : Passing) (net : Network) (flows : List ℚ) (from : ℕ) where
  rounds_first : (known : Known) → known ≡ first_known net.nodes from → RoundsOn passes net flows from known 1
  unfolding reaches_list
  rounds_first known e = record {
    same = ap (λ (k : Known). rounds_list passes (net.nodes - 1) net.links flows k) e;
    count = ap (λ (k : Known). length k) e ∙ length-set (replicate net.nodes None) from _ ∙ length-replicate net.nodes None;
  }

  -- A round that changes nothing is followed only by such rounds.
  still : (known : Known) → round_list passes net.links flows known ≡ Ok known → (left : ℕ) → rounds_list passes left net.links flows known ≡ Ok known
  still known e zero = refl
  still known e (suc left) = ap (λ (r : Checked Known). r >>= λ next. rounds_list passes left net.links flows next) e ∙ still known e left

  module _ (known : Known) (k : ℕ) (on : RoundsOn passes net flows from known k) where
    pub rounds_all : net.nodes ≤ k → at_part Part.Quick (reaches_list passes net flows from) ≡ Ok known
    rounds_all b = let none : net.nodes - k ≡ 0 = omega arith in ap (at_part Part.Quick) (sym on.same ∙ ap (λ (i : ℕ). rounds_list passes i net.links flows known) none)

    -- `seen` is the known table that the round borrows.
    module _ (b : k < net.nodes) (seen : Known) (is : seen ≡ known) where
      abbrev one_round : Checked Known
      one_round = round_list passes net.links flows seen

      one : reaches_list passes net flows from ≡ (one_round >>= λ next. rounds_list passes (net.nodes - (k + 1)) net.links flows next)
      one =
          let more : net.nodes - k ≡ suc (net.nodes - (k + 1)) = omega arith in
          sym on.same ∙ ap (λ (i : ℕ). rounds_list passes i net.links flows known) more
          ∙ ap (λ (x : Known). round_list passes net.links flows x >>= λ next. rounds_list passes (net.nodes - (k + 1)) net.links flows next) (sym is)

      pub rounds_stop : (h : Halt ℚ) → Stops (λ (q : ℚ). q) h (at_part Part.Quick one_round) → Stops (λ (q : ℚ). q) h (at_part Part.Quick (reaches_list passes net flows from))
      rounds_stop h s = stops_as _ _ h one (stops one_round (λ next. rounds_list passes (net.nodes - (k + 1)) net.links flows next) h s)

      module _ (next : Known) (came : at_part Part.Quick one_round ≡ Ok next) where
        pub rounds_more : length next ≡ length seen → RoundsOn passes net flows from next (k + 1)
        rounds_more c = record {
          same = sym (one ∙ goes_on one_round (λ next. rounds_list passes (net.nodes - (k + 1)) net.links flows next) next came);
          count = c ∙ ap (λ (x : Known). length x) is ∙ on.count;
        }

        pub rounds_still : next ≡ seen → at_part Part.Quick (reaches_list passes net flows from) ≡ Ok known
        rounds_still e =
            let fixed : round_list passes net.links flows known ≡ Ok known = ap (λ (x : Known). round_list passes net.links flows x) (sym is)
            ∙ ok_of_part one_round next came ∙ ap Ok (e ∙ is) in
            ap (at_part Part.Quick) (sym on.same ∙ still known fixed (net.nodes - k))

-- ---- with the arcs and the known paths
pub record SearchOn (passes : Passing) (net : Network) (flows : List ℚ) (from : ℕ) (legs : List Leg) (fresh : ℕ) (tree : List Twig) (places : Places) (k : ℕ) : Type 0 where
  pub rounds : RoundsOn passes net flows from (known_by tree places) k
  pub good : IsPathTree tree
  pub within : ArePathsBelow (length tree) places
  pub settled : AreSettled passes legs fresh tree places

module _ (passes : Passing) (net : Network) (flows : List ℚ) (from : ℕ) (legs : List Leg) where
  pub search_first : (tree : List Twig) (places : Places) → tree ≡ first_twig ∷ [] → places ≡ first_places net.nodes from → SearchOn passes net flows from legs 0 tree places 1
  search_first tree places e f = record {
    rounds = rounds_first passes net flows from (known_by tree places) (ap (λ (t : List Twig). known_by t places) e ∙ ap (λ (p : Places). known_by (first_twig ∷ []) p) f ∙ none_known);
    good = subst (λ (t : List Twig). IsPathTree t) (sym e) IsTree-first;
    within = λ v way at. ap_length (only v way (sym (ap (λ (p : Places). place_at p v) f) ∙ at));
    settled = λ k leg is way at h. absurd (omega arith);
  }
    where
      ap_length : {way : ℕ} → way ≡ 0 → way < length tree
      ap_length {way} z = let one : length tree ≡ 1 = ap (λ (t : List Twig). length t) e in omega (arith, z, one)

      none_known : known_by (first_twig ∷ []) (first_places net.nodes from) ≡ first_known net.nodes from
      none_known = known_set (first_twig ∷ []) (replicate net.nodes None) from 0 ∙ ap (λ (k : Known). set k from (Some (record { distance = 0ℚ; steps = [] }))) (map-replicate net.nodes)
        where
          map-replicate : (n : ℕ) → known_by (first_twig ∷ []) (replicate n None) ≡ replicate n None
          map-replicate zero = refl
          map-replicate (suc n) = ap (λ (k : Known). None ∷ k) (map-replicate n)

      only : (v way : ℕ) → place_at (first_places net.nodes from) v ≡ Some way → way ≡ 0
      only v way at = by_node net.nodes from v at
        where
          same : (x y : ℕ) → Some x ≡ Some y → y ≡ x
          same x y e = cc

          by_node : (n u w : ℕ) → place_at (first_places n u) w ≡ Some way → way ≡ 0
          by_node zero u w e = absurd (cc)
          by_node (suc n) zero zero e = same 0 way e
          by_node (suc n) zero (suc w) e = none n w e
            where
              none : (n w : ℕ) → place_at (replicate n None) w ≡ Some way → way ≡ 0
              none zero w e = absurd (cc)
              none (suc n) zero e = absurd (cc)
              none (suc n) (suc w) e = none n w e
          by_node (suc n) (suc u) zero e = absurd (cc)
          by_node (suc n) (suc u) (suc w) e = by_node n u w e

  module _ (fresh : ℕ) (tree : List Twig) (places : Places) (k : ℕ) (on : SearchOn passes net flows from legs fresh tree places k) where
    pub places_are : length places ≡ net.nodes
    places_are = sym (length-map places (option_map (way_at tree))) ∙ on.rounds.count

    pub search_all : net.nodes ≤ k → (found : Known) → found ≡ known_by tree places → at_part Part.Quick (reaches_list passes net flows from) ≡ Ok found
    search_all b found e = rounds_all passes net flows from (known_by tree places) k on.rounds b ∙ ap Ok (sym e)

    pub search_count : (found : Known) → found ≡ known_by tree places → length found ≡ net.nodes
    search_count found e = ap (λ (x : Known). length x) e ∙ on.rounds.count

    -- The round borrows the arcs and the indices.
    module _ (b : k < net.nodes) (is : legs ≡ legs_from 0 net.links flows) (lent : List Leg) (borrowed : lent ≡ legs) (before : Places) (seen : before ≡ places) where
      whole : round_list passes net.links flows (known_by tree before) ≡ fold_checked (along_leg passes (known_by tree before)) (known_by tree before) lent
      whole = round_along passes flows (known_by tree before) net.links lent (borrowed ∙ is)

      known_seen : known_by tree before ≡ known_by tree places
      known_seen = ap (λ (p : Places). known_by tree p) seen

      pub search_stops : (h : Halt ℚ) → Stops (λ (q : ℚ). q) h (at_part Part.Quick (fold_checked (along_leg passes (known_by tree before)) (known_by tree before) lent))
          → Stops (λ (q : ℚ). q) h (at_part Part.Quick (reaches_list passes net flows from))
      search_stops h s = rounds_stop passes net flows from (known_by tree places) k on.rounds b (known_by tree before) known_seen h (stops_as _ _ h whole s)

      module _ (new : List Twig) (next : Places) (came : at_part Part.Quick
          (fold_checked (along_leg passes (known_by tree before)) (known_by tree before) lent) ≡ Ok (known_by new next))
          (grows : Grows tree new before next) where
        came_whole : at_part Part.Quick (round_list passes net.links flows (known_by tree before)) ≡ Ok (known_by new next)
        came_whole = ap (at_part Part.Quick) whole ∙ came

        within_before : ArePathsBelow (length tree) before
        within_before = subst (λ (p : Places). ArePathsBelow (length tree) p) (sym seen) on.within

        pub search_more : IsPathTree new → AreSettled passes lent (length tree) new next → (count : ℕ) → count ≡ length tree → SearchOn passes net flows from legs count new next (k + 1)
        search_more good settled count e = record {
          rounds = rounds_more passes net flows from (known_by tree places) k on.rounds b (known_by tree before) known_seen (known_by new next) came_whole
              (length-map next (option_map (way_at new)) ∙ grows.count ∙ sym (length-map before (option_map (way_at tree))));
          good = good;
          within = within_grown tree new before next grows within_before;
          settled = subst (λ (n : ℕ). AreSettled passes legs n new next) (sym e) (subst (λ (l : List Leg). AreSettled passes l (length tree) new next) borrowed settled);
        }

        pub search_still : length new ≡ length tree → (found : Known) → found ≡ known_by new places → at_part Part.Quick (reaches_list passes net flows from) ≡ Ok found
        search_still e found f =
            let same : next ≡ before = grows.same e in
            let kept : known_by new before ≡ known_by tree before = known_grown tree new before next grows on.good within_before in
            rounds_still passes net flows from (known_by tree places) k on.rounds b (known_by tree before) known_seen (known_by new next) came_whole
            (ap (λ (p : Places). known_by new p) same ∙ kept)
            ∙ ap Ok (sym (f ∙ ap (λ (p : Places). known_by new p) (sym seen) ∙ kept ∙ known_seen))

        pub within_still : ArePathsBelow (length new) places
        within_still = subst (λ (p : Places). ArePathsBelow (length new) p) seen (within_more tree new before next grows within_before)

        pub count_still : (found : Known) → found ≡ known_by new places → length found ≡ net.nodes
        count_still found f = ap (λ (x : Known). length x) f ∙ length-map places (option_map (way_at new)) ∙ places_are
