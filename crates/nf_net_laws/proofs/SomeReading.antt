-- Each text has a reading.
use Rattle.std.proofs.Common.{◌≡◌, ◌≢◌, ℕ, zero, suc, ◌<◌, ◌⊎◌, ◌==◌, ◌&&◌, ◌||◌, Bool, true, false, not, if◌then◌else◌, List, [], ◌∷◌, length, map, Option}
use Rattle.std.proofs.Common.{Some, None, Result, Ok, Err, is_none, unwrap_or, refl, sym, ◌∙◌, ap, subst, inl, inr, arith, bytes_eq}
use Rattle.nf_net_laws.proofs.Common.{MatchBool, Decides, AllByRecursion, AllZip, list_any, and_parts, eqb-true, eqb-false, not-true, ℚ, 0ℚ, ◌≤ℚ◌, le_ℚ}
use Rattle.nf_net_laws.proofs.Common.{≤ℚ_antisymm, ≤ℚ_of_same, le_of_test, test_of_le, is_wide, passes_Q, Sum, Hop, IsHop, IsWalk, transit_of}
use Rattle.nf_net_laws.proofs.Common.{IsLeastTransit, hop_of, read_lines, content_lines, LineFault, first_fault, NetRule, N17, N18, N19, N20, N21, N22}
use Rattle.nf_net_laws.proofs.Common.{Name, has_name, place_of, greatest, NamedLink, Named, numbered, Broken, Draft, draft_from, draft_hops, sink_name}
use Rattle.nf_net_laws.proofs.Common.{source_place, IsReached, LeavesUnreached, HasZeroCycle, HasPassingSum, BreaksRule, closing_rules, IsFirst, marked}
use Rattle.nf_net_laws.proofs.Common.{network_of, as_rule, ReadsAs, by_lines, by_bytes, Reads, slice_get-image, true_or_false, transit_of-hop}
use Rattle.nf_net_laws.proofs.Common.{any_passes_from_place}
use Rattle.nf_net_laws.proofs.NameFacts.{same_names, bytes_eq-self, place_below}
use Rattle.nf_net_laws.proofs.WalkFacts.{CameFrom, came_from, entry_all}
use Rattle.nf_net_laws.proofs.DraftKept.{IsGoodDraft, draft_kept}
use Rattle.nf_net_laws.proofs.AcceptedNodes.{ends_of_each}
use Rattle.nf_net_laws.proofs.AcceptedWalks.{file_transits}
use Rattle.nf_net_laws.proofs.Reaching.{FoundEntry, found, stays_closed, closure, reaching}
use Rattle.nf_net_laws.proofs.Settling.{AllSettled, all_settled}

-- ---- the first of some rules that are decided
decide_first : (P : NetRule → Type 0) → ((rule : NetRule) → P rule ⊎ (¬ P rule)) → (rules : List NetRule)
    → ((first : NetRule) × IsFirst P rules first) ⊎ AllByRecursion (λ rule. ¬ P rule) rules
decide_first P decide [] = inr tt
decide_first P decide (rule ∷ rules) = join (decide rule) (decide_first P decide rules)
  where
    join : P rule ⊎ (¬ P rule) → ((first : NetRule) × IsFirst P rules first) ⊎ AllByRecursion (λ rule. ¬ P rule) rules
        → ((first : NetRule) × IsFirst P (rule ∷ rules) first) ⊎ AllByRecursion (λ rule. ¬ P rule) (rule ∷ rules)
    join (inl h) later = inl (rule, inl (h, refl))
    join (inr h) (inl later) = inl (later.0, inr (h, later.1))
    join (inr h) (inr later) = inr (h, later)

-- ---- simple decisions
is_value : (b c : Bool) → (b ≡ c) ⊎ (¬ (b ≡ c))
is_value true true = inl refl
is_value true false = inr (λ e. absurd (cc))
is_value false true = inr (λ e. absurd (cc))
is_value false false = inl refl

same_option : (a b : Option Name) → (a ≡ b) ⊎ (¬ (a ≡ b))
same_option None None = inl refl
same_option None (Some y) = inr (λ e. absurd (cc))
same_option (Some x) None = inr (λ e. absurd (cc))
same_option (Some x) (Some y) = elim (true_or_false (bytes_eq x y)) [
  | inl e ↦ inl (ap (λ name. Some name) (same_names x y e))
  | inr e ↦ inr (λ same. (let same_name : x ≡ y = ap (λ o. unwrap_or o x) same in
      let equal : bytes_eq x y ≡ true = subst (λ z. bytes_eq x z ≡ true) same_name (bytes_eq-self x) in absurd (cc)))
]

-- a number below a bound at which a test says no, or none
below : (test : ℕ → Bool) (n : ℕ) → ((v : ℕ) × (v < n) × (test v ≡ false)) ⊎ ((v : ℕ) → v < n → test v ≡ true)
below test zero = inr (λ v h. absurd (omega arith))
below test (suc n) = join (below test n) (true_or_false (test n))
  where
    at_last : (test n ≡ true) → ((v : ℕ) → v < n → test v ≡ true) → (v : ℕ) → v < suc n → (v == n) ≡ true ⊎ ((v == n) ≡ false) → test v ≡ true
    at_last e all v h (inl w) = subst (λ k. test k ≡ true) (sym (eqb-true v n w)) e
    at_last e all v h (inr w) = let other : v ≢ n = eqb-false v n w in all v (omega arith)

    join : ((v : ℕ) × (v < n) × (test v ≡ false)) ⊎ ((v : ℕ) → v < n → test v ≡ true) → (test n ≡ true) ⊎ (test n ≡ false)
        → ((v : ℕ) × (v < suc n) × (test v ≡ false)) ⊎ ((v : ℕ) → v < suc n → test v ≡ true)
    join (inl r) e = inl (r.0, (let h : r.0 < n = r.1 in omega arith), r.2)
    join (inr all) (inl e) = inr (λ v h. at_last e all v h (true_or_false (v == n)))
    join (inr all) (inr e) = inl (n, omega arith, e)

module _ (draft : Draft) (g : IsGoodDraft draft) where
  -- ---- which nodes are reached
  is_reached : ℕ → Bool
  is_reached v = (closure (draft_hops draft) (source_place draft)).set v

  reach : (v : ℕ) → Decides (is_reached v) (IsReached draft v)
  unfolding is_reached
  reach v = reaching (draft_hops draft) (source_place draft) v

  lacks : (v : ℕ) → is_reached v ≡ false → ¬ IsReached draft v
  lacks v e r = let k : is_reached v ≡ true = (reach v).1 r in absurd (cc)

  decide_20 : LeavesUnreached draft ⊎ (¬ LeavesUnreached draft)
  decide_20 = by_version (draft.version == 1)
    where
      by_version : (first : Bool) → MatchBool first ((v : ℕ) × (v < length draft.nodes) × (¬ IsReached draft v)) (¬ IsReached draft (place_of draft.nodes (sink_name draft)))
          ⊎ (¬ MatchBool first ((v : ℕ) × (v < length draft.nodes) × (¬ IsReached draft v)) (¬ IsReached draft (place_of draft.nodes (sink_name draft))))
      by_version true = elim (below is_reached (length draft.nodes)) [
        | inl r ↦ inl (r.0, r.1, lacks r.0 r.2)
        | inr all ↦ inr (λ r. r.2 ((reach r.0).0 (all r.0 r.1)))
      ]
      by_version false = elim (true_or_false (is_reached (place_of draft.nodes (sink_name draft)))) [
        | inl e ↦ inr (λ missing. missing ((reach (place_of draft.nodes (sink_name draft))).0 e))
        | inr e ↦ inl (lacks (place_of draft.nodes (sink_name draft)) e)
      ]

  active_flags : (links : List NamedLink) → AllZip (λ flag l. Decides flag (IsReached draft (place_of draft.nodes l.tail)))
      (map (λ l. is_reached (place_of draft.nodes l.tail)) links) links
  active_flags [] = tt
  active_flags (l ∷ links) = (reach (place_of draft.nodes l.tail), active_flags links)

  -- ---- sums
  settled : AllSettled (draft_hops draft) (file_transits draft g) (source_place draft)
  settled = all_settled (draft_hops draft) (file_transits draft g) (source_place draft)

  least_once : (v : ℕ) (a b : ℚ) → IsLeastTransit (draft_hops draft) (source_place draft) v a → IsLeastTransit (draft_hops draft) (source_place draft) v b → a ≡ b
  least_once v a b h k = ≤ℚ_antisymm a b (subst (λ x. a ≤ℚ x) k.taken.2 (h.bound k.taken.0 k.taken.1)) (subst (λ x. b ≤ℚ x) h.taken.2 (k.bound h.taken.0 h.taken.1))

  sum_test : Hop → Bool
  sum_test h = settled.settled.set h.tail && (not (is_wide greatest (settled.settled.label h.tail)) && passes_Q Sum (settled.settled.label h.tail) h.transit)

  three : (a b c : Bool) → a ≡ true → b ≡ false → c ≡ true → (a && (not b && c)) ≡ true
  three a b c e f k = λ i. e i && (not (f i) && k i)

  decide_22 : HasPassingSum draft ⊎ (¬ HasPassingSum draft)
  unfolding sum_test
  decide_22 = elim (true_or_false (list_any sum_test (draft_hops draft))) [
    | inl e ↦ inl (
        let r : FoundEntry sum_test (draft_hops draft) = found sum_test (draft_hops draft) e in
        let p = and_parts (settled.settled.set r.entry.tail) (not (is_wide greatest (settled.settled.label r.entry.tail)) && passes_Q Sum
        (settled.settled.label r.entry.tail) r.entry.transit) r.passes in
        let q = and_parts (not (is_wide greatest (settled.settled.label r.entry.tail))) (passes_Q Sum (settled.settled.label r.entry.tail) r.entry.transit) p.1 in
        record {
          link = r.place;
          hop = r.entry;
          least = settled.settled.label r.entry.tail;
          is_hop = r.is_entry;
          is_least = settled.settled.least r.entry.tail p.0;
          is_fraction = not-true (is_wide greatest (settled.settled.label r.entry.tail)) q.0;
          passes = q.1;
        })
    | inr e ↦ inr (λ p.
        let inside : settled.settled.set p.hop.tail ≡ true = stays_closed (draft_hops draft) settled.settled.set settled.closed p.is_least.taken.0
        (source_place draft) p.hop.tail settled.settled.start p.is_least.taken.1 in
        let same : p.least ≡ settled.settled.label p.hop.tail = least_once p.hop.tail p.least (settled.settled.label p.hop.tail) p.is_least (settled.settled.least p.hop.tail inside) in
        let there : list_any sum_test (draft_hops draft) ≡ true = any_passes_from_place sum_test (draft_hops draft) p.link p.hop p.is_hop
        (three (settled.settled.set p.hop.tail) (is_wide greatest (settled.settled.label p.hop.tail)) (passes_Q Sum (settled.settled.label p.hop.tail) p.hop.transit) inside
        (ap (is_wide greatest) (sym same) ∙ p.is_fraction) (ap (λ x. passes_Q Sum x p.hop.transit) (sym same) ∙ p.passes)) in
        absurd (cc))
  ]

  -- ---- cycles of zero transit
  is_zero : Hop → Bool
  is_zero h = le_ℚ h.transit 0ℚ

  -- the other hops led away, to a node that isn't there
  zeroed : Hop → Hop
  zeroed h = if is_zero h then h else record { tail = length draft.nodes; head = length draft.nodes; transit = h.transit }

  zero_hops : List Hop
  zero_hops = map zeroed (draft_hops draft)

  zero_is : (e : ℕ) (h : Hop) → IsHop (draft_hops draft) e h → is_zero h ≡ true → transit_of (draft_hops draft) e ≡ 0ℚ
  unfolding is_zero
  zero_is e h is z = transit_of-hop (draft_hops draft) e h is ∙ ≤ℚ_antisymm h.transit 0ℚ (le_of_test h.transit 0ℚ z) (file_transits draft g e h is)

  zero_test : (e : ℕ) (h : Hop) → IsHop (draft_hops draft) e h → transit_of (draft_hops draft) e ≡ 0ℚ → is_zero h ≡ true
  unfolding is_zero
  zero_test e h is z = test_of_le h.transit 0ℚ (≤ℚ_of_same h.transit 0ℚ (sym (transit_of-hop (draft_hops draft) e h is) ∙ z))

  head_there : (e : ℕ) (h : Hop) → IsHop (draft_hops draft) e h → h.head < length draft.nodes
  head_there e h is =
      let c : CameFrom (λ l. hop_of (numbered draft.nodes l)) draft.links e h = came_from (λ l. hop_of (numbered draft.nodes l)) draft.links e h is in
      subst (λ (x : Hop). x.head < length draft.nodes) c.is_image (place_below draft.nodes c.entry.head
      (entry_all (λ l. (has_name draft.nodes l.tail ≡ true) × (has_name draft.nodes l.head ≡ true)) draft.links e c.entry
      (ends_of_each (has_name draft.nodes) draft.links g.ends_there) c.is_entry).1)

  -- a zeroed hop that leaves a node that is there is one of zero transit
  record IsZeroHop (e : ℕ) (k : Hop) : Type 0 where
    hop : IsHop (draft_hops draft) e k
    zero_ : is_zero k ≡ true

  zeroed_hop : (e : ℕ) (h k : Hop) (b : Bool) → IsHop (draft_hops draft) e h → is_zero h ≡ b
      → (if b then h else record { tail = length draft.nodes; head = length draft.nodes; transit = h.transit }) ≡ k → k.tail < length draft.nodes
      → IsZeroHop e k
  zeroed_hop e h k true is z same low = record { hop = subst (IsHop (draft_hops draft) e) same is; zero_ = subst (λ x. is_zero x ≡ true) same z }
  zeroed_hop e h k false is z same low = absurd (let at : length draft.nodes ≡ k.tail = ap (λ (x : Hop). x.tail) same in omega arith)

  from_zeroed : (e : ℕ) (k : Hop) → IsHop zero_hops e k → k.tail < length draft.nodes → IsZeroHop e k
  unfolding zero_hops zeroed
  from_zeroed e k is low =
      let c : CameFrom zeroed (draft_hops draft) e k = came_from zeroed (draft_hops draft) e k is in
      zeroed_hop e c.entry k (is_zero c.entry) c.is_entry refl c.is_image low

  to_zeroed : (e : ℕ) (h : Hop) → IsHop (draft_hops draft) e h → is_zero h ≡ true → IsHop zero_hops e h
  unfolding zero_hops zeroed
  to_zeroed e h is z =
      slice_get-image zeroed (draft_hops draft) e h is ∙ ap (λ (b : Bool). Some
      (if b then h else record { tail = length draft.nodes; head = length draft.nodes; transit = h.transit })) z

  walk_out : (walk : List ℕ) (a b : ℕ) → a < length draft.nodes → IsWalk zero_hops walk a b
      → IsWalk (draft_hops draft) walk a b × AllByRecursion (λ e. transit_of (draft_hops draft) e ≡ 0ℚ) walk
  walk_out [] a b low h = (h, tt)
  walk_out (e ∷ walk) a b low h =
      let z : IsZeroHop e h.0 = from_zeroed e h.0 h.1 (subst (λ x. x < length draft.nodes) (sym h.2) low) in
      let r = walk_out walk h.0.head b (head_there e h.0 z.hop) h.3 in
      ((h.0, z.hop, h.2, r.0), (zero_is e h.0 z.hop z.zero_, r.1))

  walk_in : (walk : List ℕ) (a b : ℕ) → IsWalk (draft_hops draft) walk a b → AllByRecursion (λ e. transit_of (draft_hops draft) e ≡ 0ℚ) walk → IsWalk zero_hops walk a b
  walk_in [] a b h z = h
  walk_in (e ∷ walk) a b h z = (h.0, to_zeroed e h.0 h.1 (zero_test e h.0 h.1 z.0), h.2, walk_in walk h.0.head b h.3 z.1)

  -- a hop of zero transit from whose head others lead back to its tail
  cycle_test : Hop → Bool
  cycle_test h = is_zero h && (closure zero_hops h.head).set h.tail

  decide_21 : HasZeroCycle draft ⊎ (¬ HasZeroCycle draft)
  unfolding cycle_test
  decide_21 = elim (true_or_false (list_any cycle_test (draft_hops draft))) [
    | inl e ↦ inl (
        let r : FoundEntry cycle_test (draft_hops draft) = found cycle_test (draft_hops draft) e in
        let p = and_parts (is_zero r.entry) ((closure zero_hops r.entry.head).set r.entry.tail) r.passes in
        let w = (reaching zero_hops r.entry.head r.entry.tail).0 p.1 in
        let back = walk_out w.0 r.entry.head r.entry.tail (head_there r.place r.entry r.is_entry) w.1 in
        record { first = r.place; walk = w.0; node = r.entry.tail; closed = (r.entry, r.is_entry, refl, back.0); zero = (zero_is r.place r.entry r.is_entry p.0, back.1) })
    | inr e ↦ inr (λ c.
        let back : IsWalk zero_hops c.walk c.closed.0.head c.closed.0.tail =
        subst (λ v. IsWalk zero_hops c.walk c.closed.0.head v) (sym c.closed.2) (walk_in c.walk c.closed.0.head c.node c.closed.3 c.zero.1) in
        let there : list_any cycle_test (draft_hops draft) ≡ true = any_passes_from_place cycle_test (draft_hops draft) c.first c.closed.0 c.closed.1
        (λ i. zero_test c.first c.closed.0 c.closed.1 c.zero.0 i && (reaching zero_hops c.closed.0.head c.closed.0.tail).1 (c.walk, back) i) in
        absurd (cc))
  ]

  decide : (rule : NetRule) → BreaksRule draft rule ⊎ (¬ BreaksRule draft rule)
  decide N17 = is_value draft.ended false
  decide N18 = is_value (is_none draft.source || is_none draft.sink) true
  decide N19 = same_option draft.source draft.sink
  decide N20 = decide_20
  decide N21 = decide_21
  decide N22 = decide_22
  decide rule = inr (λ h. h)

  closing : (result : Result Named Broken) × ReadsAs draft result
  closing = elim (decide_first (BreaksRule draft) decide closing_rules) [
    | inl broken ↦ (Err (record { rule = broken.0; line = 0 }), (broken.1, refl))
    | inr none ↦
        let flags : List Bool = map (λ l. is_reached (place_of draft.nodes l.tail)) draft.links in
        (Ok (network_of draft (marked flags draft.links) (marked (map not flags) draft.links)), (none, record { flags = flags; active = active_flags draft.links; network = refl }))
  ]

-- ---- of a text
by_lines_some : (lines : Result Draft Broken) → ((draft : Draft) → lines ≡ Ok draft → IsGoodDraft draft) → (result : Result Named Broken) × by_lines lines result
by_lines_some (Err broken) good = (Err broken, refl)
by_lines_some (Ok draft) good = closing draft (good draft refl)

by_bytes_some : (fault : Option LineFault) (lines : Result Draft Broken) → ((draft : Draft) → lines ≡ Ok draft → IsGoodDraft draft)
    → (result : Result Named Broken) × by_bytes fault lines result
by_bytes_some (Some fault) lines good = (Err (as_rule fault), refl)
by_bytes_some None lines good = by_lines_some lines good

pub some_reading : (text : List ℕ) → (result : Result Named Broken) × Reads text result
some_reading text = by_bytes_some (first_fault text) (draft_from (content_lines (read_lines text))) (λ draft e. draft_kept (content_lines (read_lines text)) draft e)
