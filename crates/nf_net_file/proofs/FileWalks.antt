-- Walks along the links of a file.
use Rattle.std.proofs.Common.{◌≡◌, ℕ, zero, suc, ◌<◌, ◌≤◌, Bool, true, false, not, ◌||◌, ◌&&◌, ◌==◌, cond, List, [], ◌∷◌, length, slice_get, unwrap_or}
use Rattle.std.proofs.Common.{Option, Some, None, MatchBool, refl, sym, ◌∙◌, ap, subst, arith, is_none, is_some, Result, Ok, Err, IfOk, IfSome, IsNone, Vec}
use Rattle.std.proofs.Common.{◌↔◌}
use Rattle.nf_net_file.proofs.Common.{length-map, AllByRecursion, list_all, list_any, ℚ, 0ℚ, Hop, IsHop, IsWalk, transit_of, hop_of, AreBelow, Name}
use Rattle.nf_net_file.proofs.Common.{has_name, place_of, greatest, NamedLink, numbered, ends, Draft, draft_hops, source_name, sink_name, source_place}
use Rattle.nf_net_file.proofs.Common.{IsReached, LeavesUnreached, HasZeroCycle, HasPassingSum, place_below, IsRead, HasEnds, flag_at, some_unreached}
use Rattle.nf_net_file.proofs.Common.{AreFlags, HasFraction, and_parts, not-false}
use Rattle.std.specs.declared.alloc.Global.{Global}
use Rattle.std.specs.declared.alloc.AllocError.{AllocError}
use Rattle.nf_graph.specs.declared.distance.DistanceFault.{DistanceFault}
use Rattle.nf_graph.specs.declared.distance.DistanceFault.TheVariants.{Passed, Memory}
use Rattle.nf_graph.specs.Steps.{ForPassed}
use Rattle.nf_frac_def.specs.Passing.{is_wide, passes_Q}
use Rattle.nf_frac_def.specs.declared.Op.TheVariants.{Sum}
use Rattle.nf_model.specs.Entries.{Has}
use Rattle.nf_graph.specs.Order.{IsZeroCycle}
use Rattle.nf_graph.specs.Distances.{NoNegativeTransit, PassesAt}
use Rattle.nf_graph.proofs.Flags.{Has-not_unset}
use Rattle.nf_net_laws.proofs.WalkFacts.{CameFrom, came_from, entry_all}
use Rattle.nf_net_laws.proofs.DraftKept.{IsGoodDraft, draft_kept}
use Rattle.nf_net_laws.proofs.AcceptedWalks.{file_transits}

pub good_of : (draft : Draft) → IsRead draft → IsGoodDraft draft
good_of draft h = draft_kept h.lines draft h.read

ends_at : (P : Name → Bool) (links : List NamedLink) (i : ℕ) (l : NamedLink) → list_all P (ends links) ≡ true → slice_get links i ≡ Some l → (P l.tail ≡ true) × (P l.head ≡ true)
ends_at P [] i l h e = absurd (cc)
ends_at P (k ∷ links) zero l h e =
    let p = and_parts (P k.tail) (P k.head && list_all P (ends links)) h in
    let q = and_parts (P k.head) (list_all P (ends links)) p.1 in
    let same : k ≡ l = cc in
    (subst (λ (x : NamedLink). P x.tail ≡ true) same p.0, subst (λ (x : NamedLink). P x.head ≡ true) same q.0)
ends_at P (k ∷ links) (suc i) l h e =
    let p = and_parts (P k.tail) (P k.head && list_all P (ends links)) h in
    let q = and_parts (P k.head) (list_all P (ends links)) p.1 in
    ends_at P links i l q.1 e

module _ (draft : Draft) (g : IsGoodDraft draft) where
  tail_below : (e : ℕ) (hop : Hop) → IsHop (draft_hops draft) e hop → hop.tail < length draft.nodes
  tail_below e hop is =
      let c : CameFrom (λ l. hop_of (numbered draft.nodes l)) draft.links e hop = came_from (λ l. hop_of (numbered draft.nodes l)) draft.links e hop is in
      subst (λ (x : Hop). x.tail < length draft.nodes) c.is_image (place_below draft.nodes c.entry.tail (ends_at (has_name draft.nodes) draft.links e c.entry g.ends_there c.is_entry).0)

  head_below : (e : ℕ) (hop : Hop) → IsHop (draft_hops draft) e hop → hop.head < length draft.nodes
  head_below e hop is =
      let c : CameFrom (λ l. hop_of (numbered draft.nodes l)) draft.links e hop = came_from (λ l. hop_of (numbered draft.nodes l)) draft.links e hop is in
      subst (λ (x : Hop). x.head < length draft.nodes) c.is_image (place_below draft.nodes c.entry.head (ends_at (has_name draft.nodes) draft.links e c.entry g.ends_there c.is_entry).1)

  hops_below : AreBelow (length draft.nodes) (draft_hops draft)
  hops_below = record { tails = tail_below; heads = head_below }

module _ (draft : Draft) (hops : List Hop) (read : IsRead draft) (are : hops ≡ draft_hops draft) where
  pub below_of : AreBelow (length draft.nodes) hops
  below_of = subst (λ (hs : List Hop). AreBelow (length draft.nodes) hs) (sym are) (hops_below draft (good_of draft read))

  pub transits_of : NoNegativeTransit hops
  transits_of = subst NoNegativeTransit (sym are) (file_transits draft (good_of draft read))

  pub few_hops : length hops ≤ 200
  few_hops = omega (arith, ap length are, length-map draft.links (λ (l : NamedLink). hop_of (numbered draft.nodes l)), (good_of draft read).few_links)

-- ---- the source and the sink
given_left : (a b : Option Name) → (is_none a || is_none b) ≡ false → is_some a ≡ true
given_left None b e = absurd (cc)
given_left (Some x) b e = refl

given_right : (a b : Option Name) → (is_none a || is_none b) ≡ false → is_some b ≡ true
given_right None b e = absurd (cc)
given_right (Some x) None e = absurd (cc)
given_right (Some x) (Some y) e = refl

pub source_given : (draft : Draft) → HasEnds draft → is_some draft.source ≡ true
source_given draft h = given_left draft.source draft.sink h.named

pub sink_given : (draft : Draft) → HasEnds draft → is_some draft.sink ≡ true
sink_given draft h = given_right draft.source draft.sink h.named

pub is_its_name : (o : Option Name) → is_some o ≡ true → o ≡ Some (unwrap_or o [])
is_its_name None e = absurd (cc)
is_its_name (Some x) e = refl

pub source_below : (draft : Draft) → IsRead draft → HasEnds draft → source_place draft < length draft.nodes
source_below draft r h = place_below draft.nodes (source_name draft) ((good_of draft r).source (source_name draft) (is_its_name draft.source (source_given draft h)))

pub sink_below : (draft : Draft) → IsRead draft → HasEnds draft → place_of draft.nodes (sink_name draft) < length draft.nodes
sink_below draft r h = place_below draft.nodes (sink_name draft) ((good_of draft r).sink (sink_name draft) (is_its_name draft.sink (sink_given draft h)))

-- ---- who isn't reached
any_not : (flags : List Bool) → list_any not flags ≡ true → (v : ℕ) × (v < length flags) × (slice_get flags v ≡ Some false)
any_not [] e = absurd (cc)
any_not (true ∷ flags) e = let found = any_not flags e in let lt : found.0 < length flags = found.1 in (suc found.0, (omega arith), found.2)
any_not (false ∷ flags) e = (zero, (omega arith), refl)

none_not : (flags : List Bool) (v : ℕ) → list_any not flags ≡ false → v < length flags → slice_get flags v ≡ Some true
none_not [] v e lt = absurd (omega arith)
none_not (true ∷ flags) zero e lt = refl
none_not (true ∷ flags) (suc v) e lt = none_not flags v e (omega arith)
none_not (false ∷ flags) v e lt = absurd (cc)

flag_is : (flags : List Bool) (v : ℕ) → flag_at flags v ≡ true → slice_get flags v ≡ Some true
flag_is [] v e = absurd (cc)
flag_is (b ∷ flags) zero e = ap (λ x. Some x) e
flag_is (b ∷ flags) (suc v) e = flag_is flags v e

not_flag : (flags : List Bool) (v : ℕ) → not (flag_at flags v) ≡ true → Has flags v → ⊥
not_flag flags v e h = let is : flag_at flags v ≡ true = ap (λ (o : Option Bool). unwrap_or o false) h in let k : not (flag_at flags v) ≡ false = ap not is in cc

module _ (draft : Draft) (flags : List Bool) (are : AreFlags draft flags) (sink : ℕ) (is_sink : sink ≡ place_of draft.nodes (sink_name draft)) where
  not_reached : (v : ℕ) → (Has flags v → ⊥) → IsReached draft v → ⊥
  not_reached v f r = f ((are.each v).1 r)

  by_version : (one : Bool) → (cond one (list_any not flags) (not (flag_at flags sink)) ≡ true)
      → MatchBool one ((v : ℕ) × (v < length draft.nodes) × (IsReached draft v → ⊥)) (IsReached draft (place_of draft.nodes (sink_name draft)) → ⊥)
  by_version true e = let found = any_not flags e in let lt : found.0 < length flags = found.1 in
      (found.0, (omega (arith, are.count)), not_reached found.0 (Has-not_unset flags found.0 found.2))
  by_version false e = subst (λ (v : ℕ). IsReached draft v → ⊥) is_sink (not_reached sink (not_flag flags sink e))

  not_by_version : (one : Bool) → (cond one (list_any not flags) (not (flag_at flags sink)) ≡ false)
      → MatchBool one ((v : ℕ) × (v < length draft.nodes) × (IsReached draft v → ⊥)) (IsReached draft (place_of draft.nodes (sink_name draft)) → ⊥) → ⊥
  not_by_version true e w = let lt : w.0 < length draft.nodes = w.1 in w.2 ((are.each w.0).0 (none_not flags w.0 e (omega (arith, are.count))))
  not_by_version false e w = subst (λ (v : ℕ). IsReached draft v → ⊥) (sym is_sink) w ((are.each sink).0 (flag_is flags sink (not-false (flag_at flags sink) e)))

  pub some_left : some_unreached draft.version flags sink ≡ true → LeavesUnreached draft
  some_left e = by_version (draft.version == 1) e

  pub none_left : some_unreached draft.version flags sink ≡ false → LeavesUnreached draft → ⊥
  none_left e = not_by_version (draft.version == 1) e

-- ---- cycles and sums
all_entries : (P : ℕ → Type 0) (walk : List ℕ) → ((i e : ℕ) → slice_get walk i ≡ Some e → P e) → AllByRecursion P walk
all_entries P [] f = tt
all_entries P (e ∷ walk) f = (f zero e refl, all_entries P walk (λ i e h. f (suc i) e h))

cycle_of : (draft : Draft) (walk : List ℕ) (node : ℕ) → 0 < length walk → IsWalk (draft_hops draft) walk node node
    → AllByRecursion (λ e. transit_of (draft_hops draft) e ≡ 0ℚ) walk → HasZeroCycle draft
cycle_of draft [] node some w z = absurd (omega arith)
cycle_of draft (e ∷ walk) node some w z = record { first = e; walk = walk; node = node; closed = w; zero = z }

module _ (draft : Draft) (hops : List Hop) (are : hops ≡ draft_hops draft) where
  pub has_cycle : (walk : List ℕ) → IsZeroCycle hops walk → HasZeroCycle draft
  has_cycle walk given =
      let c : IsZeroCycle (draft_hops draft) walk = subst (λ (hs : List Hop). IsZeroCycle hs walk) are given in
      cycle_of draft walk c.node c.some c.closed (all_entries (λ e. transit_of (draft_hops draft) e ≡ 0ℚ) walk c.allowed)

  pub has_no_cycle : ((walk : List ℕ) → IsZeroCycle hops walk → ⊥) → HasZeroCycle draft → ⊥
  has_no_cycle f c = f (c.first ∷ c.walk) (subst (λ (hs : List Hop). IsZeroCycle hs (c.first ∷ c.walk)) (sym are) (record {
    node = c.node;
    some = omega arith;
    closed = c.closed;
    allowed = λ i e h. entry_all (λ e. transit_of (draft_hops draft) e ≡ 0ℚ) (c.first ∷ c.walk) i e c.zero h;
  }))

  pub has_passing : (from e : ℕ) (left right : ℚ) → from ≡ source_place draft → PassesAt hops from e left right → is_wide greatest left ≡ false → HasPassingSum draft
  has_passing from e left right is given fraction =
      let p : PassesAt (draft_hops draft) (source_place draft) e left right =
      subst (λ (hs : List Hop). PassesAt hs (source_place draft) e left right) are (subst (λ (v : ℕ). PassesAt hops v e left right) is given) in
      record { link = e; hop = p.hop; least = left; is_hop = p.is_hop; is_least = p.least; is_fraction = fraction; passes = ap (λ (t : ℚ). passes_Q Sum left t) p.transit ∙ p.passes }

  pub has_no_passing : (from : ℕ) → from ≡ source_place draft → ((link : ℕ) (left right : ℚ) → PassesAt hops from link left right → ⊥) → HasPassingSum draft → ⊥
  has_no_passing from is f p =
      let given : PassesAt (draft_hops draft) (source_place draft) p.link p.least p.hop.transit =
      record { hop = p.hop; is_hop = p.is_hop; least = p.is_least; transit = refl; passes = p.passes } in
      f p.link p.least p.hop.transit (subst (λ (v : ℕ). PassesAt hops v p.link p.least p.hop.transit) (sym is)
      (subst (λ (hs : List Hop). PassesAt hs (source_place draft) p.link p.least p.hop.transit) (sym are) given))

  pub passing_by_fault : (from : ℕ) → from ≡ source_place draft → (fault : DistanceFault) (r : Result Bool AllocError) → ForPassed (PassesAt hops from) fault
      → IfOk r (λ passing. (passing ≡ true) × HasFraction fault) → IfOk r (λ passing. MatchBool passing (HasPassingSum draft) (HasPassingSum draft → ⊥))
  passing_by_fault from is (Passed link left right) (Ok true) p h = has_passing from link left right is p h.1
  passing_by_fault from is (Passed link left right) (Ok false) p h = let bad : false ≡ true = h.0 in absurd (cc)
  passing_by_fault from is (Passed link left right) (Err e) p h = tt
  passing_by_fault from is Memory (Ok b) p h = absurd h.1
  passing_by_fault from is Memory (Err e) p h = tt

  pub cycle_by_option : (found : Option (Vec ℕ Global)) → IfSome found (λ cycle. IsZeroCycle hops cycle.items)
      → (IsNone found ↔ ((walk : List ℕ) → IsZeroCycle hops walk → ⊥)) → (b : Bool) → b ≡ is_some found → MatchBool b (HasZeroCycle draft) (HasZeroCycle draft → ⊥)
  cycle_by_option (Some cycle) h k true e = has_cycle cycle.items h
  cycle_by_option (Some cycle) h k false e = absurd (cc)
  cycle_by_option None h k true e = absurd (cc)
  cycle_by_option None h k false e = has_no_cycle (k.0 refl)

-- ---- by tests
pub leaves_by_test : (draft : Draft) (flags : List Bool) → AreFlags draft flags → (sink : ℕ) → sink ≡ place_of draft.nodes (sink_name draft)
    → (b : Bool) → b ≡ some_unreached draft.version flags sink → MatchBool b (LeavesUnreached draft) (LeavesUnreached draft → ⊥)
leaves_by_test draft flags are sink is true e = some_left draft flags are sink is (sym e)
leaves_by_test draft flags are sink is false e = none_left draft flags are sink is (sym e)

pub when_true : (P Q : Type 0) (b : Bool) → b ≡ true → MatchBool b P Q → P
when_true P Q true e h = h
when_true P Q false e h = absurd (cc)

pub when_false : (P Q : Type 0) (b : Bool) → b ≡ false → MatchBool b P Q → Q
when_false P Q true e h = absurd (cc)
when_false P Q false e h = h
