-- The remainder of an interrupted phase is the first phase of a resumed run. It has the result of the whole phase.
use Rattle.std.proofs.Common.{◌≡◌, ℕ, suc, List, [], ◌∷◌, length, inl, inr, ⊎_elim, Option, Some, None, slice_get, unwrap_or, map, sym, ap, subst, refl}
use Rattle.std.proofs.Common.{◌∙◌, arith, Ok}
use Rattle.nf_phase_run_laws.proofs.Common.{slice_get_within, ℚ, 0ℚ, ◌+ℚ◌, ◌-ℚ◌, ◌*ℚ◌, ◌≤ℚ◌, ◌<ℚ◌, min_ℚ, ≤ℚ_of_lt, nn_plus, min_ℚ_cases, reading_of, le}
use Rattle.nf_phase_run_laws.proofs.Common.{lt, eq, linear_lt, linear_eq, linear_false, min_right, <_≤_trans, entry, Passing, number_at, Link, Network}
use Rattle.nf_phase_run_laws.proofs.Common.{IsNetwork, IsLink, hops, hop_of, rate_at, slack, slacks_of, sets_at, Pattern, IsListedIn, IsBase, IsSolution}
use Rattle.nf_phase_run_laws.proofs.Common.{moved, Lasts, IsExtension, IsUnending, IsPhaseLength, IsPhaseLength-unique, is_filled, curve_list}
use Rattle.nf_phase_run_laws.proofs.Common.{label_curves_after, link_curves_after, amount_so_far, Standing, Bounds, Goes, standing_after, length-sets}
use Rattle.nf_phase_run_laws.proofs.Common.{PhaseParts, IsPhaseLength-some, WellRun, WellRun-counted, WellRun-goes, parts_of, IsOpen, with_last}
use Rattle.nf_phase_run_laws.proofs.Common.{NonePassesIn, with_made, State, IsAccepted, leaves_none, IsOpen-cut, IsExtension-left, Lasts-left, stays-below}
use Rattle.nf_phase_run_laws.proofs.Common.{stays-above, slack-moves}
use Rattle.nf_thin_def.specs.Listing.{IsListingIn}
use Rattle.nf_phase_laws.proofs.Goes.{thin}
use Rattle.nf_resume_laws.proofs.Restricted.{resets, filled-same, goes-on, IsSolution-restricted, IsListed-restricted}
use Rattle.nf_resume_laws.proofs.FirstPlace.{base-first, pattern-base, flows-same, slopes-same}
use Rattle.nf_resume_laws.proofs.Twice.{label_curves_after-twice}
use Rattle.nf_resume_laws.proofs.TwoParts.{moved-twice, curves-whole}
use Rattle.nf_phase_run_laws.proofs.Once.{Alike, alike, first_parts, other_parts, other_length, parts_alike, after_alike}
use Rattle.nf_phase_run_laws.proofs.Rates.{rate-within}
use Rattle.nf_phase_run_laws.proofs.Amounts.{amounts-on}

-- ---- numbers
min-left : (H t l x : ℚ) → l +ℚ min_ℚ (H -ℚ (t +ℚ l)) (x -ℚ l) ≡ min_ℚ (H -ℚ t) x
min-left H t l x = ⊎_elim
    (λ (v : (min_ℚ (H -ℚ (t +ℚ l)) (x -ℚ l) ≡ H -ℚ (t +ℚ l)) × (H -ℚ (t +ℚ l) ≤ℚ x -ℚ l)). ⊎_elim
    (λ (w : (min_ℚ (H -ℚ t) x ≡ H -ℚ t) × (H -ℚ t ≤ℚ x)). ap (λ (z : ℚ). l +ℚ z) v.0 ∙ to_horizon ∙ sym w.0)
    (λ (w : (min_ℚ (H -ℚ t) x ≡ x) × (x <ℚ H -ℚ t)). absurd (sooner v.1 w.1))
    (min_ℚ_cases (H -ℚ t) x))
    (λ (v : (min_ℚ (H -ℚ (t +ℚ l)) (x -ℚ l) ≡ x -ℚ l) × (x -ℚ l <ℚ H -ℚ (t +ℚ l))). ⊎_elim
    (λ (w : (min_ℚ (H -ℚ t) x ≡ H -ℚ t) × (H -ℚ t ≤ℚ x)). absurd (later v.1 w.1))
    (λ (w : (min_ℚ (H -ℚ t) x ≡ x) × (x <ℚ H -ℚ t)). ap (λ (z : ℚ). l +ℚ z) v.0 ∙ to_end ∙ sym w.0)
    (min_ℚ_cases (H -ℚ t) x))
    (min_ℚ_cases (H -ℚ (t +ℚ l)) (x -ℚ l))
  where
    to_horizon : l +ℚ (H -ℚ (t +ℚ l)) ≡ H -ℚ t
    to_horizon = linear_eq (H ∷ t ∷ l ∷ []) [] (search reading_of) tt tt

    to_end : l +ℚ (x -ℚ l) ≡ x
    to_end = linear_eq (x ∷ l ∷ []) [] (search reading_of) tt tt

    sooner : H -ℚ (t +ℚ l) ≤ℚ x -ℚ l → x <ℚ H -ℚ t → ⊥
    sooner h k = linear_false (H ∷ t ∷ l ∷ x ∷ []) (le h ∷ lt k ∷ []) (search reading_of) tt

    later : x -ℚ l <ℚ H -ℚ (t +ℚ l) → H -ℚ t ≤ℚ x → ⊥
    later h k = linear_false (H ∷ t ∷ l ∷ x ∷ []) (lt h ∷ le k ∷ []) (search reading_of) tt

below_min : (l a x m : ℚ) → l <ℚ m → m ≡ min_ℚ a x → l <ℚ x
below_min l a x m h e = <_≤_trans _ _ _ (subst (λ (z : ℚ). l <ℚ z) e h) (min_right a x)

-- ---- an interrupted phase, and a longer one from the same run state
module _ (passes : Passing) (net : Network) (good : IsNetwork net) (a b : Bounds) (s t u : Standing) (well : WellRun net s) (knows : length s.last ≡ length net.links)
    (g : Goes passes net a.horizon a.patterns s t) (h : Goes passes net b.horizon b.patterns s u) (short : g.step.length <ℚ h.step.length) where
  abbrev pattern : Pattern
  pattern = g.pattern

  abbrev flows : List ℚ
  flows = g.flows

  abbrev slopes : List ℚ
  slopes = g.slopes

  abbrev done : ℚ
  done = g.step.length

  abbrev slacks : List ℚ
  slacks = slacks_of (hops net) s.labels

  -- The run state at the interruption, and with it the restored one.
  abbrev pub cut : Standing
  cut = standing_after net s pattern slopes g.step

  abbrev pub restored : Standing
  restored = with_made 0 cut

  same : Alike g.pattern h.pattern g.flows h.flows g.slopes h.slopes
  same = alike passes net good a b s t u well knows g h

  first : PhaseParts passes net s pattern flows slopes g.step
  first = first_parts passes net good a b s t u well knows g h

  whole : PhaseParts passes net s pattern flows slopes h.step
  whole = other_parts passes net good a b s t u well knows g h

  long : IsPhaseLength net slacks slopes s.time b.horizon h.step.length
  long = other_length passes net good a b s t u well knows g h

  listed : IsListedIn net (sets_at net s.labels) pattern
  listed = g.finds.search.is_search.is_listing.listed g.place pattern g.finds.search.is_search.answers.has_place

  solution : IsSolution net (sets_at net s.labels) (rate_at net s.time) pattern flows slopes
  solution = g.finds.search.is_search.answers.solution

  some : 0ℚ <ℚ done
  some = IsPhaseLength-some net slacks slopes s.time a.horizon done g.finds.below g.is_length

  not_negative : 0ℚ ≤ℚ done
  not_negative = ≤ℚ_of_lt _ _ some

  count : length s.labels ≡ length slopes
  count = well.grow.stands.count ∙ sym solution.solves.slope_count

  -- The phase can be longer.
  record Longer : Type 0 where
    pub most : ℚ
    pub lasts : Lasts net slacks slopes s.time most
    pub beyond : done <ℚ most

  longer : Longer
  longer = ⊎_elim
      (λ (w : (x : ℚ) × IsExtension net slacks slopes s.time x × (h.step.length ≡ min_ℚ (b.horizon -ℚ s.time) x)).
      record { most = w.0; lasts = w.1.lasts; beyond = below_min done (b.horizon -ℚ s.time) w.0 h.step.length short w.2 })
      (λ (w : IsUnending net slacks slopes s.time × (h.step.length ≡ b.horizon -ℚ s.time)).
      record { most = h.step.length; lasts = w.0 h.step.length (≤ℚ_of_lt _ _ (over_0 done h.step.length some short)); beyond = short })
      long
    where
      over_0 : (d l : ℚ) → 0ℚ <ℚ d → d <ℚ l → 0ℚ <ℚ l
      over_0 d l h k = linear_lt (d ∷ l ∷ []) (lt h ∷ lt k ∷ []) (search reading_of) tt

  pub opened : IsOpen net restored
  opened = IsOpen-cut net good s.labels slopes s.time done pattern listed.states count not_negative restored first.labels refl refl longer.most longer.lasts some longer.beyond

  moves : (e : ℕ) (link : Link) → IsLink net e link → slack restored.labels (hop_of link) ≡ slack s.labels (hop_of link) +ℚ done *ℚ
      (number_at slopes link.head -ℚ number_at slopes link.tail)
  moves = slack-moves net good s.labels slopes s.time done pattern listed.states count not_negative restored first.labels refl refl

  below : (e : ℕ) (link : Link) → IsLink net e link → slack s.labels (hop_of link) <ℚ 0ℚ → slack restored.labels (hop_of link) <ℚ 0ℚ
  below = stays-below net good s.labels slopes s.time done pattern listed.states count not_negative restored first.labels refl refl longer.most longer.lasts longer.beyond

  above : (e : ℕ) (link : Link) → IsLink net e link → 0ℚ <ℚ slack s.labels (hop_of link) → 0ℚ <ℚ slack restored.labels (hop_of link)
  above = stays-above net good s.labels slopes s.time done pattern listed.states count not_negative restored first.labels refl refl longer.most longer.lasts longer.beyond

  same_rate : rate_at net restored.time ≡ rate_at net s.time
  same_rate = rate-within net slacks slopes s.time longer.most done longer.lasts not_negative longer.beyond

  same_count : length pattern ≡ length net.links
  same_count = listed.states.count ∙ length-sets net s.labels

  well_cut : WellRun net cut
  well_cut = subst (WellRun net) g.new_is (WellRun-goes passes net good a s t g well)

  pub well_restored : WellRun net restored
  well_restored = WellRun-counted net cut 0 cut.last well_cut

  -- ---- the phase of the resumed run
  module _ (r : Bounds) (w : Standing) (k : Goes passes net r.horizon r.patterns restored w)
      (none : NonePassesIn passes net r.horizon r.patterns restored w k) (to : r.horizon ≡ b.horizon) where
    abbrev base : Pattern
    base = k.finds.search.base

    abbrev listing : List Pattern
    listing = k.finds.search.is_search.listing

    is_listing : IsListingIn net (sets_at net restored.labels) base listing
    is_listing = k.finds.search.is_search.is_listing

    based : IsBase (hops net) (sets_at net restored.labels) pattern base
    based = k.finds.search.is_base

    base_count : length base ≡ length net.links
    base_count = based.count ∙ length-sets net restored.labels

    listed_base : IsListedIn net (sets_at net restored.labels) base
    listed_base = IsListed-restricted net good s.labels restored.labels slopes flows
        (rate_at net s.time) done pattern base some moves below above listed solution base_count same_count based

    solution_base : IsSolution net (sets_at net restored.labels) (rate_at net restored.time) base flows slopes
    solution_base = subst (λ (x : ℚ). IsSolution net (sets_at net restored.labels) x base flows slopes) (sym same_rate)
        (IsSolution-restricted net good s.labels restored.labels slopes flows (rate_at net s.time) done pattern base some moves below above listed solution base_count same_count based)

    accepted : IsAccepted passes net (sets_at net restored.labels) (rate_at net restored.time) base
    accepted = record {
      solvable = record { flows = flows; slopes = slopes; solution = solution_base };
      none_passes = none 1 base (let p = k.finds.search.is_search.answers.has_place.1 in omega arith) (base-first net (sets_at net restored.labels) base listing is_listing listed_base);
    }

    goes_alike : Alike base k.pattern flows k.flows slopes k.slopes
    goes_alike = record {
      pattern_is = sym (pattern-base net (sets_at net restored.labels) base listing is_listing listed_base passes
          (rate_at net restored.time) r.patterns k.place k.pattern flows slopes k.flows k.slopes
          k.finds.search.is_search.answers accepted solution_base);
      flows_are = sym (flows-same net (sets_at net restored.labels) base listing is_listing listed_base passes
          (rate_at net restored.time) r.patterns k.place k.pattern flows slopes k.flows k.slopes
          k.finds.search.is_search.answers accepted solution_base);
      slopes_are = sym (slopes-same net (sets_at net restored.labels) base listing is_listing listed_base passes
          (rate_at net restored.time) r.patterns k.place k.pattern flows slopes k.flows k.slopes
          k.finds.search.is_search.answers accepted solution_base);
    }

    rest : PhaseParts passes net restored base flows slopes k.step
    rest = parts_alike passes net restored base k.pattern flows k.flows slopes k.slopes k.step goes_alike (parts_of passes net good r restored w k well_restored)

    left : IsPhaseLength net (slacks_of (hops net) restored.labels) slopes restored.time b.horizon k.step.length
    left = subst (λ (x : List ℚ). IsPhaseLength net (slacks_of (hops net) restored.labels) x restored.time b.horizon k.step.length) (sym goes_alike.slopes_are)
        (subst (λ (x : ℚ). IsPhaseLength net (slacks_of (hops net) restored.labels) k.slopes restored.time x k.step.length) to k.is_length)

    lengths : done +ℚ k.step.length ≡ h.step.length
    lengths = ⊎_elim
        (λ (v : (x : ℚ) × IsExtension net slacks slopes s.time x × (h.step.length ≡ min_ℚ (b.horizon -ℚ s.time) x)).
        ap (λ (z : ℚ). done +ℚ z) (IsPhaseLength-unique net (slacks_of (hops net) restored.labels) slopes restored.time b.horizon k.step.length
        (min_ℚ (b.horizon -ℚ restored.time) (v.0 -ℚ done)) left
        (inl (
          v.0 -ℚ done,
          IsExtension-left net good s.labels slopes s.time done pattern listed.states count not_negative restored first.labels refl refl v.0 opened
              (≤ℚ_of_lt _ _ (below_min done (b.horizon -ℚ s.time) v.0 h.step.length short v.2)) v.1,
          refl,
        )))
        ∙ min-left b.horizon s.time done v.0 ∙ sym v.2)
        (λ (v : IsUnending net slacks slopes s.time × (h.step.length ≡ b.horizon -ℚ s.time)).
        ap (λ (z : ℚ). done +ℚ z) (IsPhaseLength-unique net (slacks_of (hops net) restored.labels) slopes restored.time b.horizon k.step.length (b.horizon -ℚ restored.time) left
        (inr (
          (λ more nn. Lasts-left net good s.labels slopes s.time done pattern listed.states count not_negative restored first.labels refl refl more nn
              (v.0 (done +ℚ more) (nn_plus done more not_negative nn))),
          refl,
        )))
        ∙ all_left done b.horizon s.time ∙ sym v.1)
        long
      where
        all_left : (d H t : ℚ) → d +ℚ (H -ℚ (t +ℚ d)) ≡ H -ℚ t
        all_left d H t = linear_eq (d ∷ H ∷ t ∷ []) [] (search reading_of) tt tt

    -- ---- the result
    labels_are : k.step.labels ≡ h.step.labels
    labels_are = rest.labels ∙ ap (λ (l : List ℚ). moved l slopes k.step.length) first.labels ∙ moved-twice s.labels slopes done k.step.length h.step.length lengths ∙ sym whole.labels

    time_is : restored.time +ℚ k.step.length ≡ s.time +ℚ h.step.length
    time_is = together s.time done k.step.length h.step.length lengths
      where
        together : (t d l w : ℚ) → d +ℚ l ≡ w → (t +ℚ d) +ℚ l ≡ t +ℚ w
        together t d l w e = linear_eq (t ∷ d ∷ l ∷ w ∷ []) (eq e ∷ []) (search reading_of) tt tt

    labels_long : length g.step.labels ≡ length h.step.labels
    labels_long = ap length first.labels ∙ moved-length s.labels slopes done h.step.length ∙ sym (ap length whole.labels)
      where
        moved-length : (labels rates : List ℚ) (l m : ℚ) → length (moved labels rates l) ≡ length (moved labels rates m)
        moved-length [] rates l m = refl
        moved-length (x ∷ labels) [] l m = refl
        moved-length (x ∷ labels) (y ∷ rates) l m = ap suc (moved-length labels rates l m)

    label_curves_are : label_curves_after (restored.time +ℚ k.step.length) k.step.labels slopes restored.label_curves ≡ label_curves_after
        (s.time +ℚ h.step.length) h.step.labels slopes s.label_curves
    label_curves_are =
        ap (λ (x : ℚ). label_curves_after x k.step.labels slopes restored.label_curves) time_is
        ∙ ap (λ (l : List ℚ). label_curves_after (s.time +ℚ h.step.length) l slopes restored.label_curves) labels_are
        ∙ label_curves_after-twice (s.time +ℚ done) (s.time +ℚ h.step.length) g.step.labels h.step.labels slopes s.label_curves labels_long

    filled : (e : ℕ) (link : Link) → IsLink net e link
        → is_filled (unwrap_or (slice_get pattern e) None) (resets (sets_at net s.labels) e) ≡ is_filled (unwrap_or (slice_get base e) None) (resets (sets_at net restored.labels) e)
    filled e link p =
        let o : (o : Option State) × (slice_get pattern e ≡ Some o) = entry pattern e (let n = slice_get_within net.links e link p in let c = same_count in omega arith) in
        let v : (v : Option State) × (slice_get base e ≡ Some v) = entry base e (let n = slice_get_within net.links e link p in let c = base_count in omega arith) in
        ap (λ (x : Option (Option State)). is_filled (unwrap_or x None) (resets (sets_at net s.labels) e)) o.1
        ∙ filled-same (resets (sets_at net s.labels) e) (resets (sets_at net restored.labels) e) o.0 v.0
        (goes-on net good s.labels restored.labels slopes flows (rate_at net s.time) done pattern base some moves below above listed solution base_count
        same_count based e link p o.0 v.0 o.1 v.1)
        ∙ sym (ap (λ (x : Option (Option State)). is_filled (unwrap_or x None) (resets (sets_at net restored.labels) e)) v.1)

    still : (e : ℕ) (link : Link) → IsLink net e link → number_at slopes link.tail ≡ 0ℚ → number_at flows e ≡ 0ℚ
    still = leaves_none net s.labels (rate_at net s.time) flows slopes good (Rattle.nf_model_laws.proofs.Supply.rate_from-not_negative net.pieces s.time good.pieces)
        (thin passes net good a.horizon s pattern flows slopes g.step well g.finds.below listed solution.solves solution.meets first g.is_length)

    rest_links : curve_list passes net (sets_at net restored.labels) base k.step.length flows slopes h.step.labels (map amount_so_far restored.link_curves) ≡ Ok k.step.links
    rest_links = ap (λ (l : List ℚ). curve_list passes net (sets_at net restored.labels) base k.step.length flows slopes l
        (map amount_so_far restored.link_curves)) (sym labels_are) ∙ rest.links

    link_curves_are : link_curves_after k.step.labels net.links restored.link_curves k.step.links ≡ link_curves_after h.step.labels net.links s.link_curves h.step.links
    link_curves_are =
        ap (λ (l : List ℚ). link_curves_after l net.links restored.link_curves k.step.links) labels_are
        ∙ curves-whole passes net (sets_at net s.labels) (sets_at net restored.labels) pattern base flows slopes g.step.labels h.step.labels done k.step.length h.step.length
        (map amount_so_far s.link_curves) (map amount_so_far restored.link_curves) g.step.links h.step.links k.step.links first.links whole.links rest_links lengths filled
        (amounts-on passes net good s pattern flows slopes g.step well solution.meets.no_negative_slope still first) s.link_curves

    -- With the unchanged last pattern, the run state is that at the end of the whole phase.
    pub rest-whole : with_last restored.last w ≡ with_made 1 u
    rest-whole =
        ap (with_last restored.last) (k.new_is ∙ sym (after_alike net restored base k.pattern slopes k.slopes k.step k.step goes_alike.pattern_is goes_alike.slopes_are refl))
        ∙ (λ i. record { time = time_is i; labels = labels_are i; label_curves = label_curves_are i; link_curves = link_curves_are i; made = 1; last = pattern })
        ∙ sym (ap (with_made 1) (h.new_is ∙ sym (after_alike net s g.pattern h.pattern g.slopes h.slopes h.step h.step same.pattern_is same.slopes_are refl)))
