-- The table of a pattern is square, and exactly the values that are flows and slopes of a solution of the pattern solve the table.
use Rattle.std.proofs.Common.{◌≡◌, ◌≢◌, ℕ, suc, ◌+◌, ◌<◌, List, [], ◌∷◌, ◌++◌, length, take, drop, map, filter, ⊎_elim, Bool, true, false, not, eqb, Option, Some, None, slice_get, unwrap_or, refl, sym, ap, subst, ◌∙◌, arith}
use Rattle.std.specs.Prelude.{is_none, Ok}
use Rattle.std.specs.Option.{option_map}
use Rattle.std.specs.List.{range_with_len, flat_map, enumerate_from}
use Rattle.std.proofs.lemmas.Bool.Decides.{eqb_tells}
use Rattle.std.proofs.lemmas.List.{length-map, length-append}
use Rattle.std.proofs.lemmas.Option.{slice_get-map, slice_get_within}
use Rattle.nf_rational.specs.Rational.{ℚ}
use Rattle.nf_rational.specs.Operations.{0ℚ, 1ℚ, neg_ℚ, ◌+ℚ◌, ◌*ℚ◌}
use Rattle.nf_rational_laws.proofs.Polynomial.{reading_of}
use Rattle.nf_rational_laws.proofs.Linear.{eq, linear_eq}
use Rattle.nf_frac_def.specs.Passing.{Passing}
use Rattle.nf_model.specs.declared.State.{State}
use Rattle.nf_model.specs.declared.State.TheVariants.{Tight, Full, Zero}
use Rattle.nf_model.specs.Entries.{number_at, Has}
use Rattle.nf_model.specs.Network.{Link, Network, IsNetwork, IsLink, unbounded}
use Rattle.nf_model.specs.ThinFlow.{Sets, surplus}
use Rattle.nf_model.specs.Pattern.{Pattern, HasState, Fills, Equation, Solves}
use Rattle.nf_linear_def.specs.Table.{Row, row_at, table_list}
use Rattle.nf_thin_def.specs.Equations.{Unknown, unknowns, row, source_factor, node_factor, node_row, link_factor, link_rows, equations, slopes_in, link_flows_in, onto_links}
use Rattle.nf_thin_laws.specs.ActiveLinks.{AreSets}
use Rattle.nf_thin_laws.proofs.Flags.{entry_beyond, number_at-beyond, flag-cases}
use Rattle.nf_linear_laws.specs.Solution.{IsSquare, left_side, SolvesRows as SolvesTable}
use Rattle.nf_linear_laws.proofs.Solutions.{one_solution, not_one_solution}
use Rattle.nf_thin_equation_laws.specs.Equations.{IsPatternIn, SolvesAlone}
use Rattle.nf_thin_equation_laws.proofs.Dots.{left_side-row, number_at-row, length-row, only, only-here, only-else}
use Rattle.nf_thin_equation_laws.proofs.Packed.{packed, packed-length, onto-length, onto-inactive, onto-packed, packed-onto, take-front, drop-front, both_parts, front-length, rest-length}
use Rattle.nf_thin_equation_laws.proofs.Rows.{Each, each_at, each_of, each-append, each-first, each-second, numbers_each, numbers_at, links_each, links_at, filtered-length, set_rows-length}
use Rattle.nf_thin_equation_laws.proofs.Equations.{flow_count, unknowns-length, total, source_total, node_total, tight_total, fills_total, zero_total}
use Rattle.nf_rational_laws.proofs.Field.{same_from-less}
use Rattle.nf_rational_laws.proofs.Entries.{entry}
use Rattle.nf_rational_laws.proofs.Signs.{zero_from_same}

-- ---- equations of rationals

filled : (c h f : ℚ) → neg_ℚ c *ℚ h +ℚ f ≡ 0ℚ → f ≡ c *ℚ h
filled c h f e = linear_eq (c ∷ h ∷ f ∷ []) (eq e ∷ []) (search reading_of) tt tt

fills : (c h f : ℚ) → f ≡ c *ℚ h → neg_ℚ c *ℚ h +ℚ f ≡ 0ℚ
fills c h f e = linear_eq (c ∷ h ∷ f ∷ []) (eq e ∷ []) (search reading_of) tt tt

flag_set : (flags : List Bool) (e : ℕ) → Has flags e → unwrap_or (slice_get flags e) false ≡ true
flag_set flags e h = ap (λ (o : Option Bool). unwrap_or o false) h

-- ---- the rows
module _ (net : Network) (sets : Sets) (rate : ℚ) (pattern : Pattern) where
  abbrev set : ℕ → Bool
  set e = unwrap_or (slice_get sets.active e) false

  abbrev link_row : ℕ → Link → Row
  link_row e link = row (unknowns net sets) (link_factor e link (unwrap_or (slice_get pattern e) None)) 0ℚ

  abbrev source_row : Row
  source_row = row (unknowns net sets) (source_factor net.source) 1ℚ

  abbrev node_rows : List Row
  node_rows = map (node_row net sets rate) (filter (λ v. not (eqb v net.sink)) (range_with_len 0 net.nodes))

  abbrev rows_of_links : List Row
  rows_of_links = flat_map (link_rows net sets pattern) (enumerate_from 0 net.links)

  module _ (good : IsNetwork net) (sets_are : AreSets net sets) where
    pub rows-length : length (equations net sets rate pattern) ≡ net.nodes + flow_count net sets
    unfolding equations
    rows-length =
        let a : length (node_rows ++ rows_of_links) ≡ length node_rows + length rows_of_links = length-append node_rows rows_of_links in
        let b : length node_rows ≡ length (filter (λ v. not (eqb v net.sink)) (range_with_len 0 net.nodes)) =
        length-map (filter (λ v. not (eqb v net.sink)) (range_with_len 0 net.nodes)) (node_row net sets rate) in
        let c : suc (length (filter (λ v. not (eqb v net.sink)) (range_with_len 0 net.nodes))) ≡ net.nodes =
        filtered-length net.nodes 0 net.sink (omega arith) (let s = good.sink in omega arith) in
        let d : length rows_of_links ≡ flow_count net sets = set_rows-length set link_row net.links sets.active 0 0 sets_are.count
        (λ i e same. ap (λ (j : ℕ). unwrap_or (slice_get sets.active j) false) (let s : e ≡ i = omega arith in s)) in
        omega arith

    abbrev IsWide : Row → Type 0
    IsWide r = length r ≡ suc (length (unknowns net sets))

    wide : Each IsWide (equations net sets rate pattern)
    unfolding equations
    wide = (
      length-row (source_factor net.source) (unknowns net sets) 1ℚ,
      each-append IsWide node_rows rows_of_links
          (numbers_each IsWide (node_row net sets rate) net.sink net.nodes 0 (λ v low high apart. length-row (node_factor net v) (unknowns net sets) _))
          (links_each IsWide set link_row net.links 0 (λ i e link same at s. length-row (link_factor e link (unwrap_or (slice_get pattern e) None)) (unknowns net sets) 0ℚ)),
    )

    same_count : length (unknowns net sets) ≡ length (equations net sets rate pattern)
    same_count = unknowns-length net sets ∙ sym rows-length

    pub is_square : IsSquare (equations net sets rate pattern)
    is_square i b = each_at IsWide (equations net sets rate pattern) wide i b ∙ ap suc same_count

    -- ---- the conditions of the rows on values
    module _ (xs : List ℚ) (count : length xs ≡ net.nodes + flow_count net sets) where
      abbrev HasRight : Row → Type 0
      HasRight r = left_side r xs ≡ number_at r (length (unknowns net sets))

      counts : length (unknowns net sets) ≡ length xs
      counts = unknowns-length net sets ∙ sym count

      says : (f : Unknown → ℚ) (right : ℚ) → total net sets good sets_are xs count f ≡ right → HasRight (row (unknowns net sets) f right)
      says f right e = left_side-row f (unknowns net sets) right xs counts ∙ e ∙ sym (number_at-row f (unknowns net sets) right)

      said : (f : Unknown → ℚ) (right : ℚ) → HasRight (row (unknowns net sets) f right) → total net sets good sets_are xs count f ≡ right
      said f right h = sym (left_side-row f (unknowns net sets) right xs counts) ∙ h ∙ number_at-row f (unknowns net sets) right

      of_table : SolvesTable (equations net sets rate pattern) xs → Each HasRight (equations net sets rate pattern)
      of_table t = each_of HasRight (equations net sets rate pattern)
          (λ i b. t.each i b ∙ ap (λ (n : ℕ). number_at (row_at (equations net sets rate pattern) i) n) (sym same_count))

      to_table : Each HasRight (equations net sets rate pattern) → SolvesTable (equations net sets rate pattern) xs
      to_table h = record {
        count = count ∙ sym rows-length;
        each = λ i b. each_at HasRight (equations net sets rate pattern) h i b ∙ ap (λ (n : ℕ). number_at (row_at (equations net sets rate pattern) i) n) same_count;
      }

-- ---- from the rows to the pattern's equations, and back
module _ (net : Network) (sets : Sets) (rate : ℚ) (pattern : Pattern) (p : IsPatternIn net sets pattern) where
  abbrev good : IsNetwork net
  good = p.network

  abbrev sets_are : AreSets net sets
  sets_are = p.sets_are

  bounded_rate : (e : ℕ) (link : Link) → IsLink net e link → (Has (unbounded net) e → ⊥) → (capacity : ℚ) × (link.capacity ≡ Some capacity)
  bounded_rate e link is_link not_unbounded = go link.capacity refl
    where
      go : (o : Option ℚ) → link.capacity ≡ o → (capacity : ℚ) × (o ≡ Some capacity)
      go None h = absurd (not_unbounded (slice_get-map (λ (l : Link). is_none l.capacity) net.links e
          ∙ ap (option_map (λ (l : Link). is_none l.capacity)) is_link ∙ ap (λ (o : Option ℚ). Some (is_none o)) h))
      go (Some capacity) h = (capacity, refl)

  filled_link : (e : ℕ) (link : Link) → IsLink net e link → (Has (unbounded net) e → ⊥) → (flow slope : ℚ)
      → neg_ℚ (unwrap_or link.capacity 0ℚ) *ℚ slope +ℚ flow ≡ 0ℚ → Fills link.capacity flow slope
  filled_link e link is_link not_unbounded flow slope h =
      let c = bounded_rate e link is_link not_unbounded in
      (c.0, c.1, filled c.0 slope flow (ap (λ (o : Option ℚ). neg_ℚ (unwrap_or o 0ℚ) *ℚ slope +ℚ flow) (sym c.1) ∙ h))

  fills_link : (capacity : Option ℚ) (flow slope : ℚ) → Fills capacity flow slope → neg_ℚ (unwrap_or capacity 0ℚ) *ℚ slope +ℚ flow ≡ 0ℚ
  fills_link capacity flow slope f = ap (λ (o : Option ℚ). neg_ℚ (unwrap_or o 0ℚ) *ℚ slope +ℚ flow) f.1 ∙ fills f.0 slope flow f.2

  active_with : (e : ℕ) (state : State) → HasState pattern e state → Has sets.active e
  active_with e state h = ((p.pattern_is.states e).1 (state, h)).0

  -- an active link without a state is resetting
  resets : (e : ℕ) → Has sets.active e → slice_get pattern e ≡ Some None → Has sets.resetting e
  resets e active none = ⊎_elim
      (λ (r : (unwrap_or (slice_get sets.resetting e) false ≡ true) × Has sets.resetting e). r.1)
      (λ (r : (unwrap_or (slice_get sets.resetting e) false ≡ false) × (Has sets.resetting e → ⊥)).
      (let s = (p.pattern_is.states e).0 (active, r.1) in absurd (two_states s.0 (sym none ∙ s.1))))
      (flag-cases sets.resetting e)
    where
      two_states : (s : State) → ◌≡◌ {A = Option (Option State)} (Some None) (Some (Some s)) → ⊥
      two_states s h = cc

  module _ (xs : List ℚ) (count : length xs ≡ net.nodes + flow_count net sets) where
    abbrev flows : List ℚ
    flows = link_flows_in net.nodes sets.active xs

    abbrev slopes : List ℚ
    slopes = slopes_in net.nodes xs

    abbrev Right : Row → Type 0
    Right = HasRight net sets rate pattern good sets_are xs count

    abbrev sum : (Unknown → ℚ) → ℚ
    sum = total net sets good sets_are xs count

    module _ (h : Each Right (equations net sets rate pattern)) where
      parts : Right (source_row net sets rate pattern) × Each Right (node_rows net sets rate pattern) × Each Right (rows_of_links net sets rate pattern)
      unfolding equations
      parts = (
        h.0,
        each-first Right (node_rows net sets rate pattern) (rows_of_links net sets rate pattern) h.1,
        each-second Right (node_rows net sets rate pattern) (rows_of_links net sets rate pattern) h.1,
      )

      node_is : (v : ℕ) → v < net.nodes → v ≢ net.sink → surplus net flows v ≡ only net.source rate v
      node_is v inside apart = sym (node_total net sets good sets_are xs count v)
          ∙ said net sets rate pattern good sets_are xs count (node_factor net v) (only net.source rate v)
          (numbers_at Right (node_row net sets rate) net.sink net.nodes 0 parts.1 v (omega arith) (omega arith) apart)

      link_is : (e : ℕ) (link : Link) (state : Option State) → IsLink net e link → Has sets.active e → slice_get pattern e ≡ Some state → sum (link_factor e link state) ≡ 0ℚ
      link_is e link state is_link active at =
          ap (λ (o : Option (Option State)). sum (link_factor e link (unwrap_or o None))) (sym at)
          ∙ said net sets rate pattern good sets_are xs count (link_factor e link (unwrap_or (slice_get pattern e) None)) 0ℚ
          (links_at Right (set net sets rate pattern) (link_row net sets rate pattern) net.links 0 parts.2 e e link (omega arith) is_link (flag_set sets.active e active))

      module _ (e : ℕ) (link : Link) (is_link : IsLink net e link) where
        abbrev Holds : Option State → Bool → Type 0
        Holds state resetting = Equation state resetting link.capacity (number_at flows e) (number_at slopes link.tail) (number_at slopes link.head)

        without : slice_get pattern e ≡ Some None → Holds None (unwrap_or (slice_get sets.resetting e) false)
        without at = ⊎_elim
            (λ (r : (unwrap_or (slice_get sets.resetting e) false ≡ true) × Has sets.resetting e). subst (Holds None) (sym r.0)
            (filled_link e link is_link (λ u. p.bounded e u r.1) (number_at flows e) (number_at slopes link.head)
            (sym (fills_total net sets good sets_are xs count e link is_link) ∙ link_is e link None is_link (sets_are.resetting e r.1) at)))
            (λ (r : (unwrap_or (slice_get sets.resetting e) false ≡ false) × (Has sets.resetting e → ⊥)). subst (Holds None) (sym r.0)
            (onto-inactive sets.active (drop net.nodes xs) e (λ active. r.1 (resets e active at))))
            (flag-cases sets.resetting e)

        equation_is : (state : Option State) → slice_get pattern e ≡ Some state → Holds state (unwrap_or (slice_get sets.resetting e) false)
        equation_is (Some Tight) at = same_from-less _ _ (sym (tight_total net sets good sets_are xs count e link is_link)
            ∙ link_is e link (Some Tight) is_link (active_with e Tight at) at)
        equation_is (Some Full) at = filled_link e link is_link (λ u. p.pattern_is.no_full e u at) (number_at flows e) (number_at slopes link.head)
            (sym (fills_total net sets good sets_are xs count e link is_link) ∙ link_is e link (Some Full) is_link (active_with e Full at) at)
        equation_is (Some Zero) at = sym (zero_total net sets good sets_are xs count e link is_link) ∙ link_is e link (Some Zero) is_link (active_with e Zero at) at
        equation_is None at = without at

      pub pattern_solved : Solves net sets rate pattern flows slopes
      pattern_solved = record {
        flow_count = onto-length sets.active (drop net.nodes xs) ∙ sets_are.count;
        slope_count = front-length xs net.nodes (flow_count net sets) count;
        starts = sym (source_total net sets good sets_are xs count) ∙ said net sets rate pattern good sets_are xs count (source_factor net.source) 1ℚ parts.0;
        source = node_is net.source good.source good.apart ∙ only-here net.source rate net.source refl;
        inner = λ v inside not_source not_sink. node_is v inside not_sink ∙ only-else net.source rate v not_source;
        links = λ e link state is_link at. equation_is e link is_link state at;
      }

    module _ (s : Solves net sets rate pattern flows slopes) where
      node_right : (v : ℕ) → v < net.nodes → v ≢ net.sink → Right (node_row net sets rate v)
      node_right v inside not_sink = says net sets rate pattern good sets_are xs count (node_factor net v) (only net.source rate v)
          (node_total net sets good sets_are xs count v ∙ ⊎_elim
          (λ (e : (eqb v net.source ≡ true) × (v ≡ net.source)). subst (λ (w : ℕ). surplus net flows w ≡ only net.source rate w) (sym e.1)
          (s.source ∙ sym (only-here net.source rate net.source refl)))
          (λ (e : (eqb v net.source ≡ false) × (v ≢ net.source)). s.inner v inside e.1 not_sink ∙ sym (only-else net.source rate v e.1))
          (eqb_tells v net.source))

      module _ (e : ℕ) (link : Link) (is_link : IsLink net e link) (active : Has sets.active e) where
        row_of : (state : Option State) → slice_get pattern e ≡ Some state → sum (link_factor e link state) ≡ 0ℚ
        row_of (Some Tight) at = tight_total net sets good sets_are xs count e link is_link ∙ zero_from_same _ _ (sym (s.links e link (Some Tight) is_link at))
        row_of (Some Full) at = fills_total net sets good sets_are xs count e link is_link
            ∙ fills_link link.capacity (number_at flows e) (number_at slopes link.head) (s.links e link (Some Full) is_link at)
        row_of (Some Zero) at = zero_total net sets good sets_are xs count e link is_link ∙ s.links e link (Some Zero) is_link at
        row_of None at = fills_total net sets good sets_are xs count e link is_link ∙ fills_link link.capacity (number_at flows e) (number_at slopes link.head)
            (subst (λ (b : Bool). Equation None b link.capacity (number_at flows e) (number_at slopes link.tail) (number_at slopes link.head))
            (flag_set sets.resetting e (resets e active at)) (s.links e link None is_link at))

        has_entry : (state : Option State) × (slice_get pattern e ≡ Some state)
        has_entry = entry pattern e (let c = p.pattern_is.count in let d = sets_are.count in let w = slice_get_within net.links e link is_link in omega arith)

        link_right : Right (link_row net sets rate pattern e link)
        link_right = says net sets rate pattern good sets_are xs count (link_factor e link (unwrap_or (slice_get pattern e) None)) 0ℚ
            (ap (λ (o : Option (Option State)). sum (link_factor e link (unwrap_or o None))) has_entry.1 ∙ row_of has_entry.0 has_entry.1)

      set_flag : (e : ℕ) → unwrap_or (slice_get sets.active e) false ≡ true → Has sets.active e
      set_flag e h = ⊎_elim
          (λ (r : (unwrap_or (slice_get sets.active e) false ≡ true) × Has sets.active e). r.1)
          (λ (r : (unwrap_or (slice_get sets.active e) false ≡ false) × (Has sets.active e → ⊥)). absurd (no (sym r.0 ∙ h)))
          (flag-cases sets.active e)
        where
          no : false ≡ true → ⊥
          no e = cc

      pub rows_right : Each Right (equations net sets rate pattern)
      unfolding equations
      rows_right = (
        says net sets rate pattern good sets_are xs count (source_factor net.source) 1ℚ (source_total net sets good sets_are xs count ∙ s.starts),
        each-append Right (node_rows net sets rate pattern) (rows_of_links net sets rate pattern)
            (numbers_each Right (node_row net sets rate) net.sink net.nodes 0 (λ v low high apart. node_right v (omega arith) apart))
            (links_each Right (set net sets rate pattern) (link_row net sets rate pattern) net.links 0
            (λ i e link same at h. link_right e link (subst (λ (j : ℕ). IsLink net j link) (omega arith) at) (set_flag e h))),
      )

  -- ---- values and their flows and slopes
  abbrev rows : List Row
  rows = equations net sets rate pattern

  pub solves_pattern : (xs : List ℚ) → SolvesTable rows xs → Solves net sets rate pattern (link_flows_in net.nodes sets.active xs) (slopes_in net.nodes xs)
  solves_pattern xs t = let count : length xs ≡ net.nodes + flow_count net sets = t.count ∙ rows-length net sets rate pattern good sets_are in
      pattern_solved xs count (of_table net sets rate pattern good sets_are xs count t)

  -- flows and slopes as values
  abbrev values : List ℚ → List ℚ → List ℚ
  values flows slopes = slopes ++ packed sets.active flows

  module _ (flows slopes : List ℚ) (s : Solves net sets rate pattern flows slopes) where
    flow_length : length flows ≡ length sets.active
    flow_length = s.flow_count ∙ sym sets_are.count

    values-length : length (values flows slopes) ≡ net.nodes + flow_count net sets
    values-length = let a : length (values flows slopes) ≡ length slopes + length (packed sets.active flows) = length-append slopes (packed sets.active flows) in
        let b = s.slope_count in let c : length (packed sets.active flows) ≡ flow_count net sets = packed-length sets.active 0 flows flow_length in omega arith

    idle : (e : ℕ) → (Has sets.active e → ⊥) → number_at flows e ≡ 0ℚ
    idle e not_active = cases (slice_get net.links e) refl
      where
        no_state : (state : Option State) → slice_get pattern e ≡ Some state → state ≡ None
        no_state None at = refl
        no_state (Some t) at = absurd (not_active (active_with e t at))

        not_reset : unwrap_or (slice_get sets.resetting e) false ≡ false
        not_reset = ⊎_elim
            (λ (r : (unwrap_or (slice_get sets.resetting e) false ≡ true) × Has sets.resetting e). absurd (not_active (sets_are.resetting e r.1)))
            (λ (r : (unwrap_or (slice_get sets.resetting e) false ≡ false) × (Has sets.resetting e → ⊥)). r.0)
            (flag-cases sets.resetting e)

        on_link : (link : Link) → IsLink net e link → number_at flows e ≡ 0ℚ
        on_link link is_link =
            let at = entry pattern e (let c = p.pattern_is.count in let d = sets_are.count in let w = slice_get_within net.links e link is_link in omega arith) in
            let none : slice_get pattern e ≡ Some None = at.1 ∙ ap (λ (o : Option State). Some o) (no_state at.0 at.1) in
            subst (λ (b : Bool). Equation None b link.capacity (number_at flows e) (number_at slopes link.tail) (number_at slopes link.head)) not_reset (s.links e link None is_link none)

        cases : (o : Option Link) → slice_get net.links e ≡ o → number_at flows e ≡ 0ℚ
        cases (Some link) h = on_link link h
        cases None h = number_at-beyond flows e (let b = entry_beyond net.links e h in let c = s.flow_count in omega arith)

    flows_back : link_flows_in net.nodes sets.active (values flows slopes) ≡ flows
    flows_back = ap (onto_links sets.active) (drop-front slopes (packed sets.active flows) net.nodes s.slope_count) ∙ onto-packed sets.active flows flow_length idle

    slopes_back : slopes_in net.nodes (values flows slopes) ≡ slopes
    slopes_back = take-front slopes (packed sets.active flows) net.nodes s.slope_count

    pub solves_table : SolvesTable rows (values flows slopes)
    solves_table = to_table net sets rate pattern good sets_are (values flows slopes) values-length
        (rows_right (values flows slopes) values-length
        (subst (λ (l : List ℚ). Solves net sets rate pattern (link_flows_in net.nodes sets.active (values flows slopes)) l) (sym slopes_back)
        (subst (λ (f : List ℚ). Solves net sets rate pattern f slopes) (sym flows_back) s)))

  values_of : (xs : List ℚ) → length xs ≡ net.nodes + flow_count net sets → values (link_flows_in net.nodes sets.active xs) (slopes_in net.nodes xs) ≡ xs
  values_of xs count =
      ap (λ (l : List ℚ). take net.nodes xs ++ l) (packed-onto sets.active 0 (drop net.nodes xs) (rest-length xs net.nodes (flow_count net sets) count))
      ∙ both_parts xs net.nodes

  pub solves_alone : (passes : Passing) (xs : List ℚ) → table_list passes rows ≡ Ok (Some xs)
      → SolvesAlone net sets rate pattern (link_flows_in net.nodes sets.active xs) (slopes_in net.nodes xs)
  solves_alone passes xs h =
      let one = one_solution passes rows xs (is_square net sets rate pattern good sets_are) h in
      record {
        solves = solves_pattern xs one.solves;
        only = λ flows slopes s. (let same = one.only (values flows slopes) (solves_table flows slopes s) in
            (sym (flows_back flows slopes s) ∙ ap (link_flows_in net.nodes sets.active) same, sym (slopes_back flows slopes s) ∙ ap (slopes_in net.nodes) same));
      }

  pub solves_not_alone : (passes : Passing) (flows slopes : List ℚ) → table_list passes rows ≡ Ok None → SolvesAlone net sets rate pattern flows slopes → ⊥
  solves_not_alone passes flows slopes h alone = not_one_solution passes rows (is_square net sets rate pattern good sets_are) h (values flows slopes)
      (record {
        solves = solves_table flows slopes alone.solves;
        only = λ ys t. (let same = alone.only (link_flows_in net.nodes sets.active ys) (slopes_in net.nodes ys) (solves_pattern ys t) in
            sym (values_of ys (t.count ∙ rows-length net sets rate pattern good sets_are)) ∙ ap (λ (f : List ℚ). values f (slopes_in net.nodes ys)) same.0 ∙ ap (values flows) same.1);
      })
