-- A round node by node: the offers along the arcs out of one node, and of one node after the other.
use Rattle.std.proofs.Common.{◌≡◌, ℕ, zero, suc, ◌+◌, ◌<◌, ◌≤◌, List, [], ◌∷◌, ◌++◌, length, length-append, drop, get_or, ◌⊎◌, inl, inr, Option, Some, None}
use Rattle.std.proofs.Common.{option_map, slice_get, refl, sym, ap, subst, ◌∙◌, Bool, true, false, arith, Result, Ok, Err, IfOk}
use Rattle.nf_residual.proofs.Common.{drop_all, length-map, slice_get_read, ℚ, Passing, Halt, PassedAt, Checked, Gives, Stops, at_part, fold_checked}
use Rattle.nf_residual.proofs.Common.{fold_ok, bind_ok, same_Ok, Reach, Known, known_at, along, Twig, Leg, way_at, IsPathTree, Places, place_at}
use Rattle.nf_residual.proofs.Common.{ArePathsBelow, known_by, Grows, AreLegs, along_leg, AreSettled, StopsBy, GivesBy, legs_out, IsNextOut, AreChains}
use Rattle.nf_frac_def.specs.declared.Part.TheVariants as Part
use Rattle.nf_residual.proofs.Stopping.{ok_of_part}
use Rattle.nf_residual.proofs.Twigs.{way_kept, known_at-by}
use Rattle.nf_residual.proofs.Offering.{nothing_grows}
use Rattle.nf_residual.proofs.AnyOrder.{fold_keeps, fold_settles, any_order}
use Rattle.nf_residual.proofs.Chaining.{out_here, out_among, out_holds, split_here, Holds}
use Rattle.nf_residual.proofs.Rounding.{IsOld, grows_on, settled_next, lt_or_ge}

-- ---- the arcs out of one node
pub record OffersOn (passes : Passing) (legs : List Leg) (node way : ℕ) (old : List Twig) (before : Places) (tree : List Twig) (places : Places) (arc : ℕ) : Type 0 where
  pub here : (leg : Leg) → slice_get legs arc ≡ Some leg → leg.begin ≡ node
  pub grows : Grows old tree before places
  pub kept : way_at tree way ≡ way_at old way
  pub same : (seen : Known) → known_at seen node ≡ Some (way_at old way)
      → fold_checked (along_leg passes seen) (known_by tree places) (legs_out node (drop arc legs)) ≡ fold_checked (along_leg passes seen) (known_by old before) (legs_out node legs)

module _ (passes : Passing) (legs : List Leg) (node way : ℕ) (old : List Twig) (before : Places) where
  pub offers_first : (arc : ℕ) → IsNextOut legs node 0 arc → OffersOn passes legs node way old before old before arc
  offers_first arc next = record {
    here = next.here;
    grows = nothing_grows old before;
    kept = refl;
    same = λ seen at. ap (λ (l : List Leg). fold_checked (along_leg passes seen) (known_by old before) l) (sym next.skipped);
  }

  module _ (tree : List Twig) (places : Places) (arc : ℕ) (on : OffersOn passes legs node way old before tree places arc) where
    pub offers_all : length legs ≤ arc → (seen : Known) → known_at seen node ≡ Some (way_at old way)
        → fold_checked (along_leg passes seen) (known_by old before) (legs_out node legs) ≡ Ok (known_by tree places)
    offers_all past seen at = sym (on.same seen at) ∙ ap (λ (l : List Leg). fold_checked (along_leg passes seen) (known_by tree places) (legs_out node l)) (drop_all arc legs past)

    module _ (leg : Leg) (b : arc < length legs) (is : leg ≡ get_or legs arc leg) where
      there : slice_get legs arc ≡ Some leg
      there = slice_get_read legs (length legs) arc leg refl b is

      pub arc_end : AreLegs (length before) legs → leg.end < length places
      arc_end ends = subst (λ (n : ℕ). leg.end < n) (sym on.grows.count) (ends arc leg there).1

      pub after_arc : {nodes : ℕ} {first next : List ℕ} → AreChains nodes legs first next → (after : ℕ) → after ≡ get_or next arc 0 → IsNextOut legs leg.begin (arc + 1) after
      after_arc chains after e = subst (λ (i : ℕ). IsNextOut legs leg.begin (arc + 1) i) (sym e) (chains.nexts arc leg there)

      pub way_there : way < length old → way < length tree
      way_there h = subst (λ (t : List Twig). way < length t) (sym on.grows.grown) (longer_than on.grows.added)
        where
          longer_than : (added : List Twig) → way < length (old ++ added)
          longer_than added = let e : length (old ++ added) ≡ length old + length added = length-append old added in omega arith

      pub offers_more : IsPathTree tree → way < length old → (new : List Twig) (next : Places)
          → at_part Part.Quick (along passes true (Some (way_at tree way)) leg.step leg.transit leg.end (known_by tree places)) ≡ Ok (known_by new next) → Grows tree new places next
          → (after : ℕ) → IsNextOut legs leg.begin (arc + 1) after → OffersOn passes legs node way old before new next after
      offers_more good h new next came grows after chained = record {
        here = λ other at. chained.here other at ∙ begins;
        grows = grows_on old tree new before places next on.grows grows;
        kept = ap (λ (t : List Twig). way_at t way) grows.grown ∙ way_kept tree grows.added way good (way_there h) ∙ on.kept;
        same = λ seen at. remaining seen at ∙ on.same seen at;
      }
        where
          begins : leg.begin ≡ node
          begins = on.here leg there

          gone : (seen : Known) → known_at seen node ≡ Some (way_at old way) → along_leg passes seen (known_by tree places) leg ≡ Ok (known_by new next)
          gone seen at =
              ap (λ (o : Option Reach). along passes true o leg.step leg.transit leg.end (known_by tree places))
              (ap (λ (v : ℕ). known_at seen v) begins ∙ at ∙ ap (λ (r : Reach). Some r) (sym on.kept))
              ∙ ok_of_part _ _ came

          out_is : legs_out node (drop arc legs) ≡ leg ∷ legs_out node (drop after legs)
          out_is = ap (λ (l : List Leg). legs_out node l) (split_here legs arc leg there) ∙ out_here node leg (drop (arc + 1) legs) begins
              ∙ ap (λ (l : List Leg). leg ∷ l) (subst (λ (v : ℕ). legs_out v (drop (arc + 1) legs) ≡ legs_out v (drop after legs)) begins chained.skipped)

          remaining : (seen : Known) → known_at seen node ≡ Some (way_at old way)
              → fold_checked (along_leg passes seen) (known_by new next) (legs_out node (drop after legs)) ≡ fold_checked (along_leg passes seen)
              (known_by tree places) (legs_out node (drop arc legs))
          remaining seen at =
              sym (ap (λ (l : List Leg). fold_checked (along_leg passes seen) (known_by tree places) l) out_is
              ∙ fold_ok (along_leg passes seen) (known_by tree places) leg (legs_out node (drop after legs)) (known_by new next) (gone seen at))

-- ---- one node after the other
pub record NodesOn (passes : Passing) (legs : List Leg) (fresh : ℕ) (old : List Twig) (before : Places) (tree : List Twig) (places : Places) (node : ℕ) : Type 0 where
  pub grows : Grows old tree before places
  pub tried : List Leg
  pub among : (j : ℕ) (leg : Leg) → slice_get tried j ≡ Some leg → Holds legs leg
  pub came : fold_checked (along_leg passes (known_by old before)) (known_by old before) tried ≡ Ok (known_by tree places)
  pub settled : (j : ℕ) (leg : Leg) → slice_get legs j ≡ Some leg → (leg.begin < node) ⊎ IsOld fresh before leg
      → along_leg passes (known_by old before) (known_by tree places) leg ≡ Ok (known_by tree places)

fold_both : {A B E : Type 0} (f : B → A → Result B E) (so_far mid : B) (xs ys : List A) → fold_checked f so_far xs ≡ Ok mid → fold_checked f so_far (xs ++ ys) ≡ fold_checked f mid ys
fold_both f so_far mid [] ys e = ap (λ b. fold_checked f b ys) (same_Ok so_far mid e)
fold_both f so_far mid (x ∷ xs) ys e =
    let b = bind_ok (f so_far x) (λ next. fold_checked f next xs) mid e in
    fold_ok f so_far x (xs ++ ys) b.0 b.1 ∙ fold_both f b.0 mid xs ys b.2

held_append : (legs xs ys : List Leg) → ((j : ℕ) (leg : Leg) → slice_get xs j ≡ Some leg → Holds legs leg) → ((j : ℕ) (leg : Leg) → slice_get ys j ≡ Some leg → Holds legs leg)
    → (j : ℕ) (leg : Leg) → slice_get (xs ++ ys) j ≡ Some leg → Holds legs leg
held_append legs [] ys f g j leg is = g j leg is
held_append legs (x ∷ xs) ys f g zero leg is = f zero leg is
held_append legs (x ∷ xs) ys f g (suc j) leg is = held_append legs xs ys (λ i other at. f (suc i) other at) g j leg is

module _ (passes : Passing) (legs : List Leg) (fresh : ℕ) (old : List Twig) (before : Places) where
  abbrev goes : Known → Leg → Checked Known
  goes = along_leg passes (known_by old before)

  pub nodes_first : (places : Places) → places ≡ before → AreSettled passes legs fresh old before → NodesOn passes legs fresh old before old places 0
  nodes_first places e settled = subst (λ (p : Places). NodesOn passes legs fresh old before old p 0) (sym e) (record {
    grows = nothing_grows old before;
    tried = [];
    among = λ j leg is. absurd (nothing j leg is);
    came = refl;
    settled = λ j leg is either. at_first j leg is either;
  })
    where
      nothing : (j : ℕ) (leg : Leg) → slice_get [] j ≡ Some leg → ⊥
      nothing j leg is = cc

      at_first : (j : ℕ) (leg : Leg) → slice_get legs j ≡ Some leg → (leg.begin < 0) ⊎ IsOld fresh before leg → goes (known_by old before) leg ≡ Ok (known_by old before)
      at_first j leg is (inl h) = absurd (omega arith)
      at_first j leg is (inr o) = settled j leg is o.0 o.1 o.2

  module _ (tree : List Twig) (places : Places) (node : ℕ) (on : NodesOn passes legs fresh old before tree places node) where
    count_same : length (known_by old before) ≡ length before
    count_same = length-map before (option_map (way_at old))

    ends_known : AreLegs (length before) legs → (known : Known) → length known ≡ length before → (j : ℕ) (leg : Leg) → slice_get legs j ≡ Some leg → leg.end < length known
    ends_known ends known count j leg is = subst (λ (n : ℕ). leg.end < n) (sym count) (ends j leg is).1

    pub places_count : length places ≡ length before
    places_count = on.grows.count

    count_now : length (known_by tree places) ≡ length before
    count_now = length-map places (option_map (way_at tree)) ∙ places_count

    module _ (ends : AreLegs (length before) legs) (past : length before ≤ node) where
      all_settled : (j : ℕ) (leg : Leg) → slice_get legs j ≡ Some leg → goes (known_by tree places) leg ≡ Ok (known_by tree places)
      all_settled j leg is = on.settled j leg is (inl (let b : leg.begin < length before = (ends j leg is).0 in omega arith))

      pub nodes_all : fold_checked (along_leg passes (known_by old before)) (known_by old before) legs ≡ Ok (known_by tree places)
      nodes_all = any_order passes (known_by old before) legs on.tried (known_by tree places) (ends_known ends (known_by old before) count_same) on.among on.came all_settled

      pub nodes_settled : IsPathTree old → AreSettled passes legs (length old) tree places
      nodes_settled good = settled_next passes legs old before tree places on.grows good all_settled

    -- The path to the node as the offers see it.
    module _ (good : IsPathTree old) (within : ArePathsBelow (length old) before) (way : ℕ) (at : place_at before node ≡ Some way) where
      pub known_here : known_at (known_by old before) node ≡ Some (way_at tree way)
      known_here =
          known_at-by old before node ∙ ap (λ (o : Option ℕ). option_map (way_at old) o) at
          ∙ ap (λ (r : Reach). Some r) (sym (ap (λ (t : List Twig). way_at t way) on.grows.grown ∙ way_kept old on.grows.added way good (within node way at)))

      pub nodes_more : AreLegs (length before) legs → (new : List Twig) (next : Places)
          → fold_checked (along_leg passes (known_by old before)) (known_by tree places) (legs_out node legs) ≡ Ok (known_by new next)
          → Grows tree new places next → NodesOn passes legs fresh old before new next (node + 1)
      nodes_more ends new next came grows = record {
        grows = grows_on old tree new before places next on.grows grows;
        tried = on.tried ++ legs_out node legs;
        among = held_append legs on.tried (legs_out node legs) on.among (λ j leg is. out_among node legs j leg is);
        came = fold_both goes (known_by old before) (known_by tree places) on.tried (legs_out node legs) on.came ∙ came;
        settled = λ j leg is either. by_case j leg is either;
      }
        where
          out_ends : (j : ℕ) (leg : Leg) → slice_get (legs_out node legs) j ≡ Some leg → leg.end < length (known_by tree places)
          out_ends j leg is = let h = out_among node legs j leg is in ends_known ends (known_by tree places) count_now h.0 leg h.1

          earlier : (j : ℕ) (leg : Leg) → slice_get legs j ≡ Some leg → (leg.begin < node) ⊎ IsOld fresh before leg → goes (known_by new next) leg ≡ Ok (known_by new next)
          earlier j leg is either = fold_keeps passes (known_by old before) (legs_out node legs) (known_by tree places) (known_by new next) out_ends came leg
              (ends_known ends (known_by tree places) count_now j leg is) (on.settled j leg is either)

          here : (j : ℕ) (leg : Leg) → slice_get legs j ≡ Some leg → leg.begin ≡ node → goes (known_by new next) leg ≡ Ok (known_by new next)
          here j leg is e =
              let h = out_holds node legs j leg is e in
              fold_settles passes (known_by old before) (legs_out node legs) (known_by tree places) (known_by new next) out_ends came h.0 leg h.1

          by_begin : (j : ℕ) (leg : Leg) → slice_get legs j ≡ Some leg → (leg.begin < node) ⊎ (node ≤ leg.begin) → leg.begin < node + 1
              → goes (known_by new next) leg ≡ Ok (known_by new next)
          by_begin j leg is (inl h) l = earlier j leg is (inl h)
          by_begin j leg is (inr h) l = here j leg is (omega arith)

          by_case : (j : ℕ) (leg : Leg) → slice_get legs j ≡ Some leg → (leg.begin < node + 1) ⊎ IsOld fresh before leg → goes (known_by new next) leg ≡ Ok (known_by new next)
          by_case j leg is (inl h) = by_begin j leg is (lt_or_ge leg.begin node) h
          by_case j leg is (inr o) = earlier j leg is (inr o)

    -- A node without a fresh path offers nothing new.
    pub nodes_skip : ((way : ℕ) → place_at before node ≡ Some way → way < fresh) → NodesOn passes legs fresh old before tree places (node + 1)
    nodes_skip h = record {
      grows = on.grows;
      tried = on.tried;
      among = on.among;
      came = on.came;
      settled = λ j leg is either. by_case j leg is either;
    }
      where
        here : (j : ℕ) (leg : Leg) → slice_get legs j ≡ Some leg → leg.begin ≡ node → (o : Option ℕ) → place_at before node ≡ o
            → goes (known_by tree places) leg ≡ Ok (known_by tree places)
        here j leg is e None at =
            ap (λ (o : Option Reach). along passes true o leg.step leg.transit leg.end (known_by tree places))
            (ap (λ (v : ℕ). known_at (known_by old before) v) e ∙ known_at-by old before node ∙ ap (λ (o : Option ℕ). option_map (way_at old) o) at)
        here j leg is e (Some way) at = on.settled j leg is (inr (way, ap (λ (v : ℕ). place_at before v) e ∙ at, h way at))

        by_begin : (j : ℕ) (leg : Leg) → slice_get legs j ≡ Some leg → (leg.begin < node) ⊎ (node ≤ leg.begin) → leg.begin < node + 1
            → goes (known_by tree places) leg ≡ Ok (known_by tree places)
        by_begin j leg is (inl b) l = on.settled j leg is (inl b)
        by_begin j leg is (inr b) l = here j leg is (omega arith) (place_at before node) refl

        by_case : (j : ℕ) (leg : Leg) → slice_get legs j ≡ Some leg → (leg.begin < node + 1) ⊎ IsOld fresh before leg → goes (known_by tree places) leg ≡ Ok (known_by tree places)
        by_case j leg is (inl b) = by_begin j leg is (lt_or_ge leg.begin node) b
        by_case j leg is (inr o) = on.settled j leg is (inr o)

-- ---- results by order
module _ {X A : Type 0} (value : X → A) where
  pub given_in_order : (in_order : Bool) → in_order ≡ true → (r : Result X (Halt ℚ)) (said : Result A (PassedAt ℚ)) → Gives value (λ (q : ℚ). q) r said → GivesBy in_order value r said
  given_in_order in_order e r said g = subst (λ (b : Bool). GivesBy b value r said) (sym e) (by_result r g)
    where
      by_result : (r : Result X (Halt ℚ)) → Gives value (λ (q : ℚ). q) r said → GivesBy true value r said
      by_result (Ok x) g = g
      by_result (Err Halt.Memory) g = tt
      by_result (Err (Halt.Passed p)) g = g

  pub given_in_any : (in_order : Bool) → in_order ≡ false → (r : Result X (Halt ℚ)) (said : Checked A) → IfOk r (λ x. said ≡ Ok (value x))
      → GivesBy in_order value r (at_part Part.Quick said)
  given_in_any in_order e r said g = subst (λ (b : Bool). GivesBy b value r (at_part Part.Quick said)) (sym e) (by_result r g)
    where
      by_result : (r : Result X (Halt ℚ)) → IfOk r (λ x. said ≡ Ok (value x)) → GivesBy false value r (at_part Part.Quick said)
      by_result (Ok x) g = ap (at_part Part.Quick) g
      by_result (Err Halt.Memory) g = tt
      by_result (Err (Halt.Passed p)) g = tt

-- A refusal of one computation is that of another.
pub stops_by : {A B : Type 0} (in_order : Bool) (h : Halt ℚ) (r : Result A (PassedAt ℚ)) (s : Result B (PassedAt ℚ))
    → (Stops (λ (q : ℚ). q) h r → Stops (λ (q : ℚ). q) h s) → StopsBy h in_order r → StopsBy h in_order s
stops_by in_order Halt.Memory r s f g = tt
stops_by true (Halt.Passed p) r s f g = f g
stops_by false (Halt.Passed p) r s f g = tt
