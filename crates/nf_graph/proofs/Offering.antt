-- What links offer, and the least of it.
use Rattle.std.proofs.Common.{◌≡◌, ◌≢◌, ℕ, ◌+◌, ◌<◌, ◌≤◌, List, length, set, replicate, get_or, Bool, true, false, if◌then◌else◌, Option, Some, None}
use Rattle.std.proofs.Common.{Result, Ok, Err, slice_get, ◌⊎◌, inl, inr, ⊎_elim, eqb, sym, ap, subst, refl, ◌∙◌, arith}
use Rattle.nf_graph.proofs.Common.{length-set, slice_get_within, same_Some, eqb_tells, ℚ, ◌+ℚ◌, ◌≤ℚ◌, ◌<ℚ◌, min_ℚ, ≤ℚ_of_same, ≤ℚ_trans, set_cases}
use Rattle.nf_graph.proofs.Common.{set_same, Hop, IsHop, Step, HasSum, IsUnsettled, Offers, SumPasses, AreOffers, AnyLink, LinksBefore, PassesAlong}
use Rattle.nf_graph.proofs.Common.{StopsAt, ForPassed, lesser_offer, IsOffered, PassesFrom, IsStepTo, IsNearer, IsNearestBefore, IsNearest}
use Rattle.nf_rational_laws.proofs.Tests.{min_ℚ_cases}
use Rattle.nf_rational_laws.proofs.Extremes.{min_left, min_right}
use Rattle.nf_frac_def.specs.declared.Op.{Op}
use Rattle.nf_frac_def.specs.declared.Passed as Work
use Rattle.nf_frac_def.specs.Passing.{Passing, result_of}
use Rattle.nf_frac_def.specs.Checked.{checked}
use Rattle.nf_graph.specs.declared.distance.DistanceFault.{DistanceFault}
use Rattle.nf_graph.specs.declared.distance.DistanceFault.TheVariants.{Passed, Memory}
use Rattle.nf_graph.proofs.Walks.{IsHop-unique, IsHop-read}
use Rattle.nf_graph.proofs.Entries.{HasSum-unique, entry_cases, set_apart, set_other, replicate_open}

-- ---- an operation that passed, and one that did not
pub checked-ok : (passes : Passing) (op : Op) (x y r : ℚ) → Ok r ≡ checked passes op x y → (r ≡ result_of op x y) × (passes op x y ≡ true → ⊥)
unfolding checked
checked-ok passes op x y r e = go (passes op x y) e
  where
    go : (b : Bool) → ◌≡◌ {A = Result ℚ (Work.Passed ℚ)} (Ok r) (if b then Err (record { op = op; left = x; right = y }) else Ok (result_of op x y))
        → (r ≡ result_of op x y) × (b ≡ true → ⊥)
    go true h = absurd (cc)
    go false h = (cc, λ f. cc)

pub checked-err : (passes : Passing) (op : Op) (x y : ℚ) (p : Work.Passed ℚ) → Err p ≡ checked passes op x y → passes op x y ≡ true
unfolding checked
checked-err passes op x y p e = go (passes op x y) e
  where
    go : (b : Bool) → ◌≡◌ {A = Result ℚ (Work.Passed ℚ)} (Err p) (if b then Err (record { op = op; left = x; right = y }) else Ok (result_of op x y)) → b ≡ true
    go true h = refl
    go false h = absurd (cc)

-- ---- what a node was offered
lesser_of_both : (known : Option ℚ) (sum q : ℚ) → q ≡ lesser_offer known sum → (known ≡ Some q) ⊎ (q ≡ sum)
lesser_of_both None sum q e = inr e
lesser_of_both (Some k) sum q e = ⊎_elim
    (λ (w : (min_ℚ k sum ≡ k) × (k ≤ℚ sum)). inl (ap (λ (x : ℚ). Some x) (sym (e ∙ w.0))))
    (λ (w : (min_ℚ k sum ≡ sum) × (sum <ℚ k)). inr (e ∙ w.0)) (min_ℚ_cases k sum)

lesser_at_most_sum : (known : Option ℚ) (sum : ℚ) → lesser_offer known sum ≤ℚ sum
lesser_at_most_sum None sum = ≤ℚ_of_same sum sum refl
lesser_at_most_sum (Some k) sum = min_right k sum

-- an offer to a node makes no node's least offer greater
offered_less : (offers : List (Option ℚ)) (v : ℕ) (known : Option ℚ) (sum : ℚ) (w : ℕ) (q : ℚ) → slice_get offers v ≡ Some known → HasSum offers w q
    → (best : ℚ) × HasSum (set offers v (Some (lesser_offer known sum))) w best × (best ≤ℚ q)
offered_less offers v known sum w q k h = ⊎_elim
    (λ (e : (eqb w v ≡ true) × (w ≡ v)).
    let same : known ≡ Some q = cc in (
      lesser_offer known sum,
      subst (λ (n : ℕ). HasSum (set offers v (Some (lesser_offer known sum))) n (lesser_offer known sum)) (sym e.1) (set_same offers v _ (slice_get_within offers v known k)),
      subst (λ (o : Option ℚ). lesser_offer o sum ≤ℚ q) (sym same) (min_left q sum),
    ))
    (λ (e : (eqb w v ≡ false) × (w ≢ v)). (q, set_apart offers v w _ _ e.1 h, ≤ℚ_of_same q q refl))
    (eqb_tells w v)

-- ---- the offers of all links but those of a node that are still to come
module _ (hops : List Hop) (sums : List (Option ℚ)) (e : ℕ) (hop : Hop) (p : IsHop hops e hop) (step : Step) (tail : HasSum sums step.node step.sum)
    (before after : List (Option ℚ)) (o : IsOffered hops e step before after) (h : AreOffers hops sums (LinksBefore step.node e) before) where
  -- a link that is counted now and was not before is this one
  counted : (n : ℕ) (other : Hop) → IsHop hops n other → LinksBefore step.node (e + 1) n other → LinksBefore step.node e n other ⊎ ((n ≡ e) × (other ≡ hop))
  counted n other q c = ⊎_elim
      (λ (w : (eqb n e ≡ true) × (n ≡ e)). inr (w.1, IsHop-unique hops e other hop (subst (λ (k : ℕ). IsHop hops k other) w.1 q) p))
      (λ (w : (eqb n e ≡ false) × (n ≢ e)). inl (λ t. let l : n < e + 1 = c t in let apart : n ≢ e = w.1 in omega arith))
      (eqb_tells n e)

  -- a link that does not leave the node changes nothing
  passed_by : (hop.tail ≡ step.node → ⊥) → AreOffers hops sums (LinksBefore step.node (e + 1)) after
  passed_by n = subst (AreOffers hops sums (LinksBefore step.node (e + 1))) (sym (o.other hop p n)) (record {
    count = h.count;
    given = h.given;
    least = λ v sum x c. h.least v sum x (was x.number x.hop x.is_hop c);
    fits = λ k other q r t c. h.fits k other q r t (was k other r c);
  })
    where
      was : (k : ℕ) (other : Hop) → IsHop hops k other → LinksBefore step.node (e + 1) k other → LinksBefore step.node e k other
      was k other q c = ⊎_elim
          (λ (w : LinksBefore step.node e k other). w)
          (λ (w : (k ≡ e) × (other ≡ hop)). λ t. absurd (n (ap (λ (x : Hop). x.tail) (sym w.1) ∙ t)))
          (counted k other q c)

  -- a link that leaves it makes its offer
  passed_on : (known : Option ℚ) → hop.tail ≡ step.node → slice_get before hop.head ≡ Some known → AreOffers hops sums (LinksBefore step.node (e + 1)) after
  passed_on known t k = subst (AreOffers hops sums (LinksBefore step.node (e + 1))) (sym (o.leaves hop known p t k)) (record {
    count = length-set before hop.head _ ∙ h.count;
    given = λ v q open_yet g. ⊎_elim
        (λ (w : (v ≡ hop.head) × (Some q ≡ Some (lesser_offer known sum))). ⊎_elim
        (λ (x : known ≡ Some q). h.given v q open_yet (subst (λ (n : ℕ). slice_get before n ≡ Some (Some q)) (sym w.0) (k ∙ ap (λ (y : Option ℚ). Some y) x)))
        (λ (x : q ≡ sum). record { number = e; hop = hop; is_hop = p; before = step.sum; tail = here; head = sym w.0; not_settled = open_yet; is_sum = x })
        (lesser_of_both known sum q (same_Some q (lesser_offer known sum) w.1)))
        (λ (w : HasSum before v q). h.given v q open_yet w)
        (set_cases before hop.head v (Some (lesser_offer known sum)) (Some q) g);
    least = λ v q x c. ⊎_elim
        (λ (w : LinksBefore step.node e x.number x.hop).
        let b : (best : ℚ) × HasSum before v best × (best ≤ℚ q) = h.least v q x w in
        let l : (best : ℚ) × HasSum (set before hop.head (Some (lesser_offer known sum))) v best × (best ≤ℚ b.0) = offered_less before hop.head known sum v b.0 k b.1 in
        (l.0, l.1, ≤ℚ_trans l.0 b.0 q l.2 b.2))
        (λ (w : (x.number ≡ e) × (x.hop ≡ hop)).
        let v_is : hop.head ≡ v = ap (λ (y : Hop). y.head) (sym w.1) ∙ x.head in
        let before_is : x.before ≡ step.sum = HasSum-unique sums hop.tail x.before step.sum (subst (λ (y : Hop). HasSum sums y.tail x.before) w.1 x.tail) here in
        let q_is : q ≡ sum = x.is_sum ∙ ap (λ (y : Hop). x.before +ℚ y.transit) w.1 ∙ ap (λ (y : ℚ). y +ℚ hop.transit) before_is in (
          lesser_offer known sum,
          subst (λ (n : ℕ). HasSum (set before hop.head (Some (lesser_offer known sum))) n (lesser_offer known sum)) v_is
              (set_same before hop.head _ (slice_get_within before hop.head known k)),
          subst (λ (y : ℚ). lesser_offer known sum ≤ℚ y) (sym q_is) (lesser_at_most_sum known sum),
        ))
        (counted x.number x.hop x.is_hop c);
    fits = λ n other q r s c. ⊎_elim
        (λ (w : LinksBefore step.node e n other). h.fits n other q r s w)
        (λ (w : (n ≡ e) × (other ≡ hop)).
        let q_is : q ≡ step.sum = HasSum-unique sums hop.tail q step.sum (subst (λ (y : Hop). HasSum sums y.tail q) w.1 s) here in
        λ z. o.fits hop p t (subst (λ (y : ℚ). SumPasses y hop.transit) q_is (subst (λ (y : Hop). SumPasses q y.transit) w.1 z)))
        (counted n other r c);
  })
    where
      sum : ℚ
      sum = step.sum +ℚ hop.transit

      here : HasSum sums hop.tail step.sum
      here = subst (λ (n : ℕ). HasSum sums n step.sum) (sym t) tail

  pub offers_next : hop.head < length before → AreOffers hops sums (LinksBefore step.node (e + 1)) after
  offers_next b = ⊎_elim
      (λ (w : (eqb hop.tail step.node ≡ true) × (hop.tail ≡ step.node)). ⊎_elim
      (λ (x : (known : ℚ) × HasSum before hop.head known). passed_on (Some x.0) w.1 x.1)
      (λ (x : IsUnsettled before hop.head). passed_on None w.1 x)
      (entry_cases before hop.head b))
      (λ (w : (eqb hop.tail step.node ≡ false) × (hop.tail ≢ step.node)). passed_by w.1)
      (eqb_tells hop.tail step.node)

-- at first nothing is settled or offered
pub offers_none : (hops : List Hop) (nodes : ℕ) → AreOffers hops (replicate nodes None) AnyLink (replicate nodes None)
offers_none hops nodes = record {
  count = refl;
  given = λ v q _ h. absurd (replicate_open nodes v q h);
  least = λ v q x _. absurd (replicate_open nodes x.hop.tail x.before x.tail);
  fits = λ e hop q _ h _ _. replicate_open nodes hop.tail q h;
}

-- a node that is settled offers nothing yet
pub offers_settled : (hops : List Hop) (sums offers : List (Option ℚ)) (v : ℕ) (sum : ℚ) → IsUnsettled sums v → AreOffers hops sums AnyLink offers
    → AreOffers hops (set sums v (Some sum)) (LinksBefore v 0) offers
offers_settled hops sums offers v sum o h = record {
  count = h.count ∙ sym (length-set sums v (Some sum));
  given = λ w q u g.
      let x : Offers hops sums w q = h.given w q (was_open w u) g in
      record {
        number = x.number;
        hop = x.hop;
        is_hop = x.is_hop;
        before = x.before;
        tail = set_other sums v x.hop.tail (Some sum) x.before o x.tail;
        head =
            x.head;
        not_settled = u;
        is_sum = x.is_sum;
      };
  least =
      λ w q x c. h.least w q (record {
        number = x.number;
        hop = x.hop;
        is_hop = x.is_hop;
        before = x.before;
        tail =
            was_settled x.hop.tail x.before x.tail (none x.number x.hop c);
        head = x.head;
        not_settled = was_open w x.not_settled;
        is_sum = x.is_sum;
      }) tt;
  fits = λ e hop q p t c z. h.fits e hop q p (was_settled hop.tail q t (none e hop c)) tt z;
}
  where
    none : (e : ℕ) (hop : Hop) → LinksBefore v 0 e hop → hop.tail ≡ v → ⊥
    none e hop c t = let l : e < 0 = c t in omega arith

    was_open : (w : ℕ) → IsUnsettled (set sums v (Some sum)) w → IsUnsettled sums w
    was_open w u = ⊎_elim
        (λ (e : (w ≡ v) × (None ≡ Some sum)). let f : None ≡ Some sum = e.1 in absurd (cc))
        (λ (e : IsUnsettled sums w). e)
        (set_cases sums v w (Some sum) None u)

    was_settled : (w : ℕ) (q : ℚ) → HasSum (set sums v (Some sum)) w q → (w ≡ v → ⊥) → HasSum sums w q
    was_settled w q s n = ⊎_elim
        (λ (e : (w ≡ v) × (Some q ≡ Some sum)). absurd (n e.0))
        (λ (e : HasSum sums w q). e)
        (set_cases sums v w (Some sum) (Some q) s)

pub offers_all : (hops : List Hop) (sums offers : List (Option ℚ)) (v count : ℕ) → length hops ≤ count → AreOffers hops sums (LinksBefore v count) offers
    → AreOffers hops sums AnyLink offers
offers_all hops sums offers v count l h = record {
  count = h.count;
  given = h.given;
  least = λ w q x _. h.least w q x (λ _. let b : x.number < length hops = slice_get_within hops x.number x.hop x.is_hop in omega arith);
  fits = λ e hop q p t _. h.fits e hop q p t (λ _. let b : e < length hops = slice_get_within hops e hop p in omega arith);
}

-- an open node with what it was offered
pub step_found : (sums offers : List (Option ℚ)) (v : ℕ) (sum : ℚ) → IsUnsettled sums v → HasSum offers v sum → IsStepTo sums offers v (Some (record { node = v; sum = sum }))
step_found sums offers v sum o h = record {
  given = λ step q.
      let same : record { node = v; sum = sum } ≡ step = same_Some (record { node = v; sum = sum }) step q in
      (ap (λ (s : Step). s.node) (sym same), o, subst (λ (s : Step). HasSum offers v s.sum) same h);
  every = λ q _ g. (record { node = v; sum = sum }, refl, HasSum-unique offers v sum q h g);
}

-- ---- the least offer
module _ (sums offers : List (Option ℚ)) (count : ℕ) where
  given_nearer : (best offered nearer : Option Step) → IsNearer best offered nearer → ((step : Step) → best ≡ Some step → IsUnsettled sums step.node × HasSum offers step.node step.sum)
      → ((step : Step) → offered ≡ Some step → IsUnsettled sums step.node × HasSum offers step.node step.sum) → (step : Step) → nearer ≡ Some step
      → IsUnsettled sums step.node × HasSum offers step.node step.sum
  given_nearer None offered nearer n g h step q = h step (sym n ∙ q)
  given_nearer (Some best) None nearer n g h step q = g step (sym n ∙ q)
  given_nearer (Some best) (Some offered) nearer n g h step q = ⊎_elim
      (λ (w : (nearer ≡ Some best) × (best.sum ≤ℚ offered.sum)). g step (sym w.0 ∙ q))
      (λ (w : (nearer ≡ Some offered) × (offered.sum ≤ℚ best.sum)). h step (sym w.0 ∙ q)) n

  -- the nearer one is at most each of the two
  abbrev AtMost : Option Step → ℚ → Type 0
  AtMost o sum = (step : Step) × (o ≡ Some step) × (step.sum ≤ℚ sum)

  through : (a b : Step) (o : Option Step) (sum : ℚ) → o ≡ Some a → a.sum ≤ℚ b.sum → (step : Step) × (Some b ≡ Some step) × (step.sum ≤ℚ sum) → AtMost o sum
  through a b o sum e l w = (a, e, ≤ℚ_trans a.sum b.sum sum l (subst (λ (s : Step). s.sum ≤ℚ sum) (sym (same_Some b w.0 w.1)) w.2))

  nearer_than_best : (best offered nearer : Option Step) (sum : ℚ) → IsNearer best offered nearer → AtMost best sum → AtMost nearer sum
  nearer_than_best None offered nearer sum n w = absurd (let q : None ≡ Some w.0 = w.1 in cc)
  nearer_than_best (Some best) None nearer sum n w = (w.0, n ∙ w.1, w.2)
  nearer_than_best (Some best) (Some offered) nearer sum n w = ⊎_elim
      (λ (x : (nearer ≡ Some best) × (best.sum ≤ℚ offered.sum)). (w.0, x.0 ∙ w.1, w.2))
      (λ (x : (nearer ≡ Some offered) × (offered.sum ≤ℚ best.sum)). through offered best nearer sum x.0 x.1 w) n

  nearer_than_offered : (best offered nearer : Option Step) (sum : ℚ) → IsNearer best offered nearer → AtMost offered sum → AtMost nearer sum
  nearer_than_offered None offered nearer sum n w = (w.0, n ∙ w.1, w.2)
  nearer_than_offered (Some best) None nearer sum n w = absurd (let q : None ≡ Some w.0 = w.1 in cc)
  nearer_than_offered (Some best) (Some offered) nearer sum n w = ⊎_elim
      (λ (x : (nearer ≡ Some best) × (best.sum ≤ℚ offered.sum)). through best offered nearer sum x.0 x.1 w)
      (λ (x : (nearer ≡ Some offered) × (offered.sum ≤ℚ best.sum)). (w.0, x.0 ∙ w.1, w.2)) n

  pub nearest_more : (best offered nearer : Option Step) → IsNearestBefore sums offers count best → IsStepTo sums offers count offered → IsNearer best offered nearer
      → IsNearestBefore sums offers (count + 1) nearer
  nearest_more best offered nearer b o n = record {
    given = given_nearer best offered nearer n b.given (λ step q. let g : (step.node ≡ count) × IsUnsettled sums step.node
        × HasSum offers step.node step.sum = at_count step q in (g.1, g.2));
    least = λ v sum u g h. ⊎_elim
        (λ (w : (eqb v count ≡ true) × (v ≡ count)).
        let s : (step : Step) × (offered ≡ Some step) × (step.sum ≡ sum) = o.every sum (subst (IsUnsettled sums) w.1 u) (subst (λ (k : ℕ). HasSum offers k sum) w.1 g) in
        nearer_than_offered best offered nearer sum n (s.0, s.1, ≤ℚ_of_same _ _ s.2))
        (λ (w : (eqb v count ≡ false) × (v ≢ count)). nearer_than_best best offered nearer sum n (b.least v sum u g (let apart : v ≢ count = w.1 in omega arith)))
        (eqb_tells v count);
  }
    where
      at_count : (step : Step) → offered ≡ Some step → (step.node ≡ count) × IsUnsettled sums step.node × HasSum offers step.node step.sum
      at_count step q =
          let g : (step.node ≡ count) × IsUnsettled sums count × HasSum offers count step.sum = o.given step q in
          (g.0, subst (IsUnsettled sums) (sym g.0) g.1, subst (λ (k : ℕ). HasSum offers k step.sum) (sym g.0) g.2)

pub nearest_all : (sums offers : List (Option ℚ)) (count : ℕ) (best : Option Step) → length sums ≤ count → IsNearestBefore sums offers count best → IsNearest sums offers best
nearest_all sums offers count best h b = record {
  given = b.given;
  least = λ v sum u g. b.least v sum u g (let l : v < length sums = slice_get_within sums v None u in omega arith);
}

-- ---- what was read
pub IsHop-read_at : (hops : List Hop) (i e : ℕ) (hop seen : Hop) → e < length hops → i ≡ e → hop ≡ get_or hops i hop → seen ≡ hop → IsHop hops e seen
IsHop-read_at hops i e hop seen h n r s = subst (λ (x : Hop). IsHop hops e x) (sym s) (IsHop-read hops e hop h (r ∙ ap (λ (k : ℕ). get_or hops k hop) n))

pub ForPassed-weaker : (P Q : ℕ → ℚ → ℚ → Type 0) (fault : DistanceFault) → ((e : ℕ) (left right : ℚ) → P e left right → Q e left right) → ForPassed P fault → ForPassed Q fault
ForPassed-weaker P Q (Passed link left right) f h = f link left right h
ForPassed-weaker P Q Memory f h = tt

-- a sum along a link that passed
pub stops_at : (hops : List Hop) (sums : List (Option ℚ)) (step : Step) (fault : DistanceFault) → HasSum sums step.node step.sum
    → ForPassed (PassesFrom hops step) fault → ForPassed (StopsAt hops sums) fault
stops_at hops sums step fault s = ForPassed-weaker _ _ fault (λ e left right w. record {
  hop = w.hop;
  is_hop = w.is_hop;
  tail = subst (λ (n : ℕ). HasSum sums n left) (sym w.tail) (subst (λ (q : ℚ). HasSum sums step.node q) (sym w.left_is) s);
  transit = w.right_is;
  passes = w.passes;
})

-- ---- the offer along one link
module _ (hops : List Hop) (step : Step) (e : ℕ) (hop : Hop) where
  pub passes_from : (fault : DistanceFault) → IsHop hops e hop → hop.tail ≡ step.node → ForPassed (PassesAlong hops e step.sum) fault → ForPassed (PassesFrom hops step) fault
  passes_from fault p t = ForPassed-weaker _ _ fault (λ f left right w. record {
    hop = hop;
    is_hop = subst (λ (n : ℕ). IsHop hops n hop) (sym w.0) p;
    tail = t;
    left_is = w.1;
    right_is = w.3 hop p;
    passes = w.2;
  })

  pub offered_along : (sum : ℚ) (before after : List (Option ℚ)) → IsHop hops e hop → hop.tail ≡ step.node → (sum ≡ step.sum +ℚ hop.transit) × (SumPasses step.sum hop.transit → ⊥)
      → ((known : Option ℚ) → slice_get before hop.head ≡ Some known → after ≡ set before hop.head (Some (lesser_offer known sum))) → IsOffered hops e step before after
  offered_along sum before after p t s o = record {
    leaves = λ other known q _ k.
        let same : other ≡ hop = IsHop-unique hops e other hop q p in
        subst (λ (h : Hop). after ≡ set before h.head (Some (lesser_offer known (step.sum +ℚ h.transit)))) (sym same)
        (subst (λ (r : ℚ). after ≡ set before hop.head (Some (lesser_offer known r))) s.0 (o known (subst (λ (h : Hop). slice_get before h.head ≡ Some known) same k)));
    fits = λ other q _ z. s.1 (subst (λ (h : Hop). SumPasses step.sum h.transit) (IsHop-unique hops e other hop q p) z);
    other = λ other q n. absurd (n (ap (λ (h : Hop). h.tail) (IsHop-unique hops e other hop q p) ∙ t));
  }

  pub offered_past : (before after : List (Option ℚ)) → IsHop hops e hop → (hop.tail ≡ step.node → ⊥) → after ≡ before → IsOffered hops e step before after
  offered_past before after p n o = record {
    leaves = λ other known q t k. absurd (n (ap (λ (h : Hop). h.tail) (IsHop-unique hops e hop other p q) ∙ t));
    fits = λ other q t _. n (ap (λ (h : Hop). h.tail) (IsHop-unique hops e hop other p q) ∙ t);
    other = λ _ _ _. o;
  }

-- ---- what the least offer says
module _ (hops : List Hop) (sums offers : List (Option ℚ)) (best : Option Step) (h : AreOffers hops sums AnyLink offers) (n : IsNearest sums offers best) where
  pub nearest_offers : (step : Step) → best ≡ Some step → Offers hops sums step.node step.sum
  nearest_offers step e = let g : IsUnsettled sums step.node × HasSum offers step.node step.sum = n.given step e in h.given step.node step.sum g.0 g.1

  least_of : (v : ℕ) (more : ℚ) → Offers hops sums v more → (step : Step) × (best ≡ Some step) × (step.sum ≤ℚ more)
  least_of v more x =
      let b : (q : ℚ) × HasSum offers v q × (q ≤ℚ more) = h.least v more x tt in
      let w : (s : Step) × (best ≡ Some s) × (s.sum ≤ℚ b.0) = n.least v b.0 x.not_settled b.1 in
      (w.0, w.1, ≤ℚ_trans w.0.sum b.0 more w.2 b.2)

  pub nearest_least : (step : Step) → best ≡ Some step → (v : ℕ) (more : ℚ) → Offers hops sums v more → step.sum ≤ℚ more
  nearest_least step e v more x =
      let w : (s : Step) × (best ≡ Some s) × (s.sum ≤ℚ more) = least_of v more x in subst (λ (s : Step). s.sum ≤ℚ more) (same_Some w.0 step (sym w.1 ∙ e)) w.2

  pub nearest_none : best ≡ None → (v : ℕ) (more : ℚ) → Offers hops sums v more → ⊥
  nearest_none e v more x = let w : (s : Step) × (best ≡ Some s) × (s.sum ≤ℚ more) = least_of v more x in let q : None ≡ Some w.0 = sym e ∙ w.1 in cc
