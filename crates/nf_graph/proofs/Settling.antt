-- Nodes settled one by one, each with its least transit sum.
use Rattle.std.proofs.Common.{◌≡◌, ℕ, ◌<◌, List, [], ◌∷◌, ◌++◌, length, set, replicate, Option, Some, None, slice_get, ◌⊎◌, ⊎_elim, sym, subst, refl, ◌∙◌}
use Rattle.std.proofs.Common.{ap}
use Rattle.nf_graph.proofs.Common.{length-set, length-replicate, ℚ, 0ℚ, ◌+ℚ◌, ◌≤ℚ◌, nn_plus, set_cases, set_same, ≤ℚ_refl, Hop, IsHop, IsWalk, transit_of}
use Rattle.nf_graph.proofs.Common.{transit_sum, IsLeastTransit, AreBelow, Step, NoNegativeTransit, AreDistances, PassesAt, StopsAt, HasSum, IsUnsettled}
use Rattle.nf_graph.proofs.Common.{Offers, AreOffers, AnyLink, AllFit, SumPasses, IsNearest, IsWalk-append, transit_of-hop, transit_sum-append}
use Rattle.nf_rational_laws.proofs.Polynomial.{reading_of}
use Rattle.nf_rational_laws.proofs.Linear.{le, eq, linear_le}
use Rattle.nf_graph.proofs.Entries.{HasSum-not_open, entry_cases, set_other, unsettled, fewer_unsettled, replicate_open}
use Rattle.nf_graph.proofs.Offering.{nearest_offers, nearest_least, nearest_none}
use Rattle.nf_model_laws.proofs.OneValue.{IsLeastTransit-unique}

-- ---- sums along walks
transit_of-nn : (hops : List Hop) (e : ℕ) (hop : Hop) → NoNegativeTransit hops → IsHop hops e hop → 0ℚ ≤ℚ transit_of hops e
transit_of-nn hops e hop n p = subst (λ (t : ℚ). 0ℚ ≤ℚ t) (sym (transit_of-hop hops e hop p)) (n e hop p)

pub transit_sum-nn : (hops : List Hop) (walk : List ℕ) (v w : ℕ) → NoNegativeTransit hops → IsWalk hops walk v w → 0ℚ ≤ℚ transit_sum hops walk
transit_sum-nn hops [] v w n h = ≤ℚ_refl 0ℚ
transit_sum-nn hops (e ∷ walk) v w n h = nn_plus _ _ (transit_of-nn hops e h.0 n h.1) (transit_sum-nn hops walk h.0.head w n h.3)

-- ---- the nodes settled so far have their least sums
pub record AreSettled (nodes : ℕ) (hops : List Hop) (from : ℕ) (sums : List (Option ℚ)) : Type 0 where
  pub count : length sums ≡ nodes
  pub start : HasSum sums from 0ℚ
  pub least : (v : ℕ) (sum : ℚ) → HasSum sums v sum → IsLeastTransit hops from v sum

-- and the links that leave them have made their offers
pub record AreOffering (nodes : ℕ) (hops : List Hop) (from : ℕ) (sums offers : List (Option ℚ)) : Type 0 where
  pub settled : AreSettled nodes hops from sums
  pub made : AreOffers hops sums AnyLink offers

-- the same of lists that were written anew
pub offering_along : (nodes : ℕ) (hops : List Hop) (from : ℕ) (sums new_sums offers new_offers : List (Option ℚ)) → new_sums ≡ sums → new_offers ≡ offers
    → AreSettled nodes hops from sums → AreOffers hops sums AnyLink offers → AreOffering nodes hops from new_sums new_offers
offering_along nodes hops from sums new_sums offers new_offers e f settled made =
    subst (λ (ss : List (Option ℚ)). AreOffering nodes hops from ss new_offers) (sym e)
    (subst (AreOffering nodes hops from sums) (sym f) (record { settled = settled; made = made }))

first_part : (s d t w : ℚ) → s ≤ℚ d +ℚ t → 0ℚ ≤ℚ w → s ≤ℚ d +ℚ (t +ℚ w)
first_part s d t w h k = linear_le (s ∷ d ∷ t ∷ w ∷ []) (le h ∷ le k ∷ []) (search reading_of depth 12) tt

next_part : (s d e t w : ℚ) → s ≤ℚ e +ℚ w → e ≤ℚ d +ℚ t → s ≤ℚ d +ℚ (t +ℚ w)
next_part s d e t w h k = linear_le (s ∷ d ∷ e ∷ t ∷ w ∷ []) (le h ∷ le k ∷ []) (search reading_of depth 12) tt

at_zero : (s d t : ℚ) → s ≤ℚ d +ℚ t → d ≡ 0ℚ → s ≤ℚ t
at_zero s d t h e = linear_le (s ∷ d ∷ t ∷ []) (le h ∷ eq e ∷ []) (search reading_of depth 12) tt

module _ (nodes : ℕ) (hops : List Hop) (from : ℕ) (sums : List (Option ℚ)) (below : AreBelow nodes hops) (good : NoNegativeTransit hops) (settled : AreSettled nodes hops from sums) where
  entry : (v : ℕ) → v < nodes → ((sum : ℚ) × HasSum sums v sum) ⊎ IsUnsettled sums v
  entry v h = entry_cases sums v (subst (λ (n : ℕ). v < n) (sym settled.count) h)

  -- the sum of a settled node and a link from it is no less than the sum at its head
  along_hop : (e : ℕ) (hop : Hop) (a b : ℚ) → IsHop hops e hop → HasSum sums hop.tail a → HasSum sums hop.head b → b ≤ℚ a +ℚ transit_of hops e
  along_hop e hop a b p s t =
      let tail : IsLeastTransit hops from hop.tail a = settled.least hop.tail a s in
      subst (λ (c : ℚ). b ≤ℚ c) (transit_sum-append hops tail.taken.0 e ∙ ap (λ (c : ℚ). c +ℚ transit_of hops e) tail.taken.2)
      ((settled.least hop.head b t).bound (tail.taken.0 ++ e ∷ []) (IsWalk-append hops tail.taken.0 from e hop tail.taken.1 p))

  offer_of : (e : ℕ) (hop : Hop) (a : ℚ) → IsHop hops e hop → HasSum sums hop.tail a → IsUnsettled sums hop.head → Offers hops sums hop.head (a +ℚ transit_of hops e)
  offer_of e hop a p s o = record { number = e; hop = hop; is_hop = p; before = a; tail = s; head = refl; not_settled = o; is_sum = ap (λ (t : ℚ). a +ℚ t) (transit_of-hop hops e hop p) }

  -- a walk from a settled node to one that is not leaves the settled nodes along some link
  leaves_at : (walk : List ℕ) (u w : ℕ) (least a : ℚ) → ((v : ℕ) (more : ℚ) → Offers hops sums v more → least ≤ℚ more) → HasSum sums u a → IsUnsettled sums w → IsWalk hops walk u w
      → least ≤ℚ a +ℚ transit_sum hops walk
  leaves_at [] u w least a m s o h = absurd (HasSum-not_open sums w a (subst (λ (n : ℕ). HasSum sums n a) h s) o)
  leaves_at (e ∷ walk) u w least a m s o h =
      let tail : HasSum sums h.0.tail a = subst (λ (n : ℕ). HasSum sums n a) (sym h.2) s in
      ⊎_elim
      (λ (x : (sum : ℚ) × HasSum sums h.0.head sum). next_part _ _ _ _ _ (leaves_at walk h.0.head w least x.0 m x.1 o h.3) (along_hop e h.0 a x.0 h.1 tail x.1))
      (λ (x : IsUnsettled sums h.0.head). first_part _ _ _ _ (m h.0.head (a +ℚ transit_of hops e) (offer_of e h.0 a h.1 tail x)) (transit_sum-nn hops walk h.0.head w good h.3))
      (entry h.0.head (below.heads e h.0 h.1))

  -- the least offer is the least transit sum of its node
  offer_is_least : (v : ℕ) (sum : ℚ) → Offers hops sums v sum → ((w : ℕ) (more : ℚ) → Offers hops sums w more → sum ≤ℚ more) → IsLeastTransit hops from v sum
  offer_is_least v sum x m =
      let tail : IsLeastTransit hops from x.hop.tail x.before = settled.least x.hop.tail x.before x.tail in
      record {
        taken = (
          tail.taken.0 ++ x.number ∷ [],
          subst (λ (n : ℕ). IsWalk hops (tail.taken.0 ++ x.number ∷ []) from n) x.head (IsWalk-append hops tail.taken.0 from x.number x.hop tail.taken.1 x.is_hop),
          transit_sum-append hops tail.taken.0 x.number ∙ ap (λ (c : ℚ). c +ℚ transit_of hops x.number) tail.taken.2
              ∙ ap (λ (t : ℚ). x.before +ℚ t) (transit_of-hop hops x.number x.hop x.is_hop) ∙ sym x.is_sum,
        );
        bound = λ walk h. at_zero _ 0ℚ _ (leaves_at walk from v sum 0ℚ m settled.start x.not_settled h) refl;
      }

  settled_more : (v : ℕ) (sum : ℚ) → Offers hops sums v sum → ((w : ℕ) (more : ℚ) → Offers hops sums w more → sum ≤ℚ more) → AreSettled nodes hops from (set sums v (Some sum))
  settled_more v sum x m = record {
    count = length-set sums v (Some sum) ∙ settled.count;
    start = set_other sums v from (Some sum) 0ℚ x.not_settled settled.start;
    least = λ w s h. ⊎_elim
        (λ (e : (w ≡ v) × (Some s ≡ Some sum)). subst (λ (k : ℕ). IsLeastTransit hops from k s) (sym e.0)
        (subst (λ (t : ℚ). IsLeastTransit hops from v t) (same _ _ e.1) (offer_is_least v sum x m)))
        (λ (k : slice_get sums w ≡ Some (Some s)). settled.least w s k)
        (set_cases sums v w (Some sum) (Some s) h);
  }
    where
      same : (a b : ℚ) → Some a ≡ Some b → b ≡ a
      same a b e = cc

  -- where no link offers anything, walks from settled nodes lead to settled nodes
  stays : (walk : List ℕ) (u w : ℕ) (a : ℚ) → ((v : ℕ) (more : ℚ) → Offers hops sums v more → ⊥) → HasSum sums u a → IsWalk hops walk u w → (sum : ℚ) × HasSum sums w sum
  stays [] u w a m s h = (a, subst (λ (n : ℕ). HasSum sums n a) h s)
  stays (e ∷ walk) u w a m s h =
      let tail : HasSum sums h.0.tail a = subst (λ (n : ℕ). HasSum sums n a) (sym h.2) s in
      ⊎_elim
      (λ (x : (sum : ℚ) × HasSum sums h.0.head sum). stays walk h.0.head w x.0 m x.1 h.3)
      (λ (x : IsUnsettled sums h.0.head). absurd (m h.0.head (a +ℚ transit_of hops e) (offer_of e h.0 a h.1 tail x)))
      (entry h.0.head (below.heads e h.0 h.1))

  settled_all : ((v : ℕ) (more : ℚ) → Offers hops sums v more → ⊥) → AreDistances nodes hops from sums
  settled_all m = record {
    count = settled.count;
    least = settled.least;
    none = λ v o walk h. let s : (sum : ℚ) × HasSum sums v sum = stays walk from v 0ℚ m settled.start h in HasSum-not_open sums v s.0 s.1 o;
  }

  all_fit : ((v : ℕ) (more : ℚ) → Offers hops sums v more → ⊥) → AllFit hops sums → (e : ℕ) (left right : ℚ) → PassesAt hops from e left right → ⊥
  all_fit m fits e left right x =
      let s : (sum : ℚ) × HasSum sums x.hop.tail sum = stays x.least.taken.0 from x.hop.tail 0ℚ m settled.start x.least.taken.1 in
      let same : left ≡ s.0 = IsLeastTransit-unique hops from x.hop.tail left s.0 x.least (settled.least x.hop.tail s.0 s.1) in
      fits e x.hop s.0 x.is_hop s.1 (subst (λ (a : ℚ). SumPasses a x.hop.transit) same (subst (λ (b : ℚ). SumPasses left b) (sym x.transit) x.passes))

  pub passes_at : (e : ℕ) (left right : ℚ) → StopsAt hops sums e left right → PassesAt hops from e left right
  passes_at e left right x = record { hop = x.hop; is_hop = x.is_hop; least = settled.least x.hop.tail left x.tail; transit = x.transit; passes = x.passes }

  -- ---- the node that is settled next
  module _ (offers : List (Option ℚ)) (best : Option Step) (made : AreOffers hops sums AnyLink offers) (near : IsNearest sums offers best) where
    pub settled_next : (step : Step) (next : List (Option ℚ)) → best ≡ Some step → next ≡ set sums step.node (Some step.sum) → AreSettled nodes hops from next
    settled_next step next e n = subst (AreSettled nodes hops from) (sym n)
        (settled_more step.node step.sum (nearest_offers hops sums offers best made near step e) (nearest_least hops sums offers best made near step e))

    pub unsettled_next : (step : Step) (next : List (Option ℚ)) → best ≡ Some step → next ≡ set sums step.node (Some step.sum) → unsettled next < unsettled sums
    unsettled_next step next e n = subst (λ (ss : List (Option ℚ)). unsettled ss < unsettled sums) (sym n) (fewer_unsettled sums step.node step.sum (near.given step e).0)

    pub settled_last : best ≡ None → AreDistances nodes hops from sums
    settled_last e = settled_all (nearest_none hops sums offers best made near e)

    pub none_passes : best ≡ None → (e : ℕ) (left right : ℚ) → PassesAt hops from e left right → ⊥
    none_passes e = all_fit (nearest_none hops sums offers best made near e) (λ k hop before p t. made.fits k hop before p t tt)

-- the node to begin with is settled, and no other
pub settled_first : (nodes : ℕ) (hops : List Hop) (from : ℕ) (sums : List (Option ℚ)) (start : ℚ) → NoNegativeTransit hops
    → sums ≡ set (replicate nodes None) from (Some start) → from < nodes → start ≡ 0ℚ
    → AreSettled nodes hops from sums
settled_first nodes hops from sums start good e h z = subst (AreSettled nodes hops from) (sym (e ∙ ap (λ (q : ℚ). set (replicate nodes None) from (Some q)) z)) (record {
  count = length-set (replicate nodes None) from (Some 0ℚ) ∙ length-replicate nodes None;
  start = set_same (replicate nodes None) from (Some 0ℚ) (subst (λ (k : ℕ). from < k) (sym (length-replicate nodes None)) h);
  least = λ w s k. ⊎_elim
      (λ (p : (w ≡ from) × (Some s ≡ Some 0ℚ)). subst (λ (v : ℕ). IsLeastTransit hops from v s) (sym p.0) (subst (λ (t : ℚ). IsLeastTransit hops from from t) (same _ _ p.1) here))
      (λ (p : slice_get (replicate nodes None) w ≡ Some (Some s)). absurd (replicate_open nodes w s p))
      (set_cases (replicate nodes None) from w (Some 0ℚ) (Some s) k);
})
  where
    same : (a b : ℚ) → Some a ≡ Some b → b ≡ a
    same a b q = cc

    here : IsLeastTransit hops from from 0ℚ
    here = record { taken = ([], refl, refl); bound = λ walk p. transit_sum-nn hops walk from from good p }
