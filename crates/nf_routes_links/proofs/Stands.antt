-- What holds of what is loaded so far, from link to link.
use Rattle.std.proofs.Common.{◌≡◌, ◌≢◌, ℕ, zero, suc, ◌+◌, ◌<◌, ◌≤◌, List, [], ◌∷◌, ◌++◌, length, set, ⊎_elim, Bool, true, false, eqb, ◌&&◌, ◌||◌, refl}
use Rattle.std.proofs.Common.{sym, ap, subst, ◌∙◌, arith, Option, Some, None, Ok, slice_get}
use Rattle.nf_routes_links.proofs.Common.{set_same, list_all, range_with_len, length-set, length-map, slice_get_within, eqb_tells, ℚ, 0ℚ, ◌≤ℚ◌, ≤ℚ_trans}
use Rattle.nf_routes_links.proofs.Common.{Passing, Point, Link, Network, IsLink, IsNetwork, hops, IsPositive-link, then_ok, Loaded, checked_loading}
use Rattle.nf_routes_links.proofs.Common.{same_Ok, or_rest, LoadedLink, SoFar, begins_at, goes_over, end_by, begin_if, begin_all, sum_from, next_if}
use Rattle.nf_routes_links.proofs.Common.{next_all, load_here, taken-push, IsPlaced, IsAmountCurve, AreExits, nothing_loaded, nothing_sent, ForEachRoute}
use Rattle.nf_routes_links.proofs.Common.{MayBegin, Sends, MayLoad, IsFullyLoaded, Route, AreRoutes, all_pairs, is_taken, loading_order}
use Rattle.nf_model.specs.Walk.{IsWalk}
use Rattle.nf_routes_def.specs.Routes.{takes_all}
use Rattle.nf_routes_links.proofs.Amounts.{no_amount, loaded_exits}
use Rattle.nf_routes_links.proofs.Greatest.{end-least}
use Rattle.nf_routes_links.proofs.Folds.{Sent, begin_all-is, next_all-is, steps_keep, along_as}
use Rattle.nf_routes_links.proofs.Sound.{IsSound, IsBegun, IsReady, sends_here, sound_first, all_ready, begun_keeps, inflow_amount, next_keeps}

-- with these links taken, they are loaded
pub record Stands (net : Network) (routes : List Route) (taken : List ℕ) (so_far : SoFar) : Type 0 where
  pub count : length so_far.links ≡ length net.links
  pub loaded : (f : ℕ) → is_taken taken f ≡ true → slice_get so_far.links f ≡ Some None → ⊥
  pub exits : (f : ℕ) (link : LoadedLink) → slice_get so_far.links f ≡ Some (Some link) → AreExits link.loaded.exit
  pub entries : ForEachRoute (IsSound taken) routes so_far.entries

-- ---- at first
none_there : (links : List Link) (f : ℕ) (link : LoadedLink) → slice_get (nothing_loaded links) f ≡ Some (Some link) → ⊥
none_there [] f link h = absurd (cc)
none_there (x ∷ links) zero link h = absurd (cc)
none_there (x ∷ links) (suc f) link h = none_there links f link h

pub stands_first : (net : Network) (routes : List Route) (so_far : SoFar) → AreRoutes net routes → so_far.links ≡ nothing_loaded net.links
    → so_far.entries ≡ nothing_sent routes → Stands net routes [] so_far
stands_first net routes so_far are h k = record {
  count = ap length h ∙ length-map net.links (λ _. None);
  loaded = λ f t e. absurd (cc);
  exits = λ f link e. absurd (none_there net.links f link (ap (λ (l : List (Option LoadedLink)). slice_get l f) (sym h) ∙ e));
  entries = subst (λ (l : List Sent). ForEachRoute (IsSound []) routes l) (sym k) (sound_first routes are.pieces);
}

-- ---- a link that comes after those right before it can be loaded
pub may_load : (net : Network) (routes : List Route) (taken : List ℕ) (e : ℕ) (so_far : SoFar) → Stands net routes taken so_far
    → IsPlaced (all_pairs routes) (length net.links) taken e → MayLoad net routes e so_far
may_load net routes taken e so_far s p = record {
  count = s.count;
  entries = along_as (IsReady taken e) (MayBegin e) (λ route sent r. r.may) routes so_far.entries (all_ready taken e routes so_far.entries s.entries p.after);
}

-- ---- once it is loaded

set_other : {A : Type 0} (xs : List A) (e f : ℕ) (x : A) → (e ≡ f → ⊥) → slice_get (set xs e x) f ≡ slice_get xs f
set_other [] e f x n = refl
set_other (y ∷ xs) zero zero x n = absurd (n refl)
set_other (y ∷ xs) zero (suc f) x n = refl
set_other (y ∷ xs) (suc e) zero x n = refl
set_other (y ∷ xs) (suc e) (suc f) x n = set_other xs e f x (λ h. n (ap suc h))

-- the steps of the loading of a link
pub record Steps (passes : Passing) (horizon : ℚ) (routes : List Route) (so_far : SoFar) (e : ℕ) (link : Link) (next : SoFar) : Type 0 where
  pub begun : List Sent
  pub inflow : List Point
  pub loaded : Loaded
  pub entries : List Sent
  pub begins : begin_all passes horizon e routes so_far.entries ≡ Ok begun
  pub sums : sum_from passes e ((0ℚ, 0ℚ) ∷ []) routes begun ≡ Ok inflow
  pub loads : checked_loading passes link.transit link.capacity inflow (end_by horizon (all_pairs routes) so_far.links e) ≡ Ok loaded
  pub sends : next_all passes e loaded.exit routes begun ≡ Ok entries
  pub comes : record { links = set so_far.links e (Some (record { end = end_by horizon (all_pairs routes) so_far.links e; loaded = loaded })); entries = entries } ≡ next

pub steps_of : (passes : Passing) (horizon : ℚ) (routes : List Route) (so_far : SoFar) (e : ℕ) (link : Link) (next : SoFar)
    → load_here passes horizon routes so_far e (Some link) ≡ Ok next → Steps passes horizon routes so_far e link next
steps_of passes horizon routes so_far e link next h =
    let b = then_ok (begin_all passes horizon e routes so_far.entries) _ next h in
    let s = then_ok (sum_from passes e ((0ℚ, 0ℚ) ∷ []) routes b.between) _ next b.next in
    let l = then_ok (checked_loading passes link.transit link.capacity s.between (end_by horizon (all_pairs routes) so_far.links e)) _ next s.next in
    let n = then_ok (next_all passes e l.between.exit routes b.between) _ next l.next in
    record {
      begun = b.between;
      inflow = s.between;
      loaded = l.between;
      entries = n.between;
      begins = b.first;
      sums = s.first;
      loads = l.first;
      sends = n.first;
      comes = same_Ok _ _ n.next;
    }

module _ (passes : Passing) (net : Network) (routes : List Route) (horizon : ℚ) (taken : List ℕ) (e : ℕ) (link : Link) (so_far next : SoFar)
    (from_0 : 0ℚ ≤ℚ horizon) (good : IsNetwork net) (is : IsLink net e link)
    (s : Stands net routes taken so_far) (p : IsPlaced (all_pairs routes) (length net.links) taken e) (w : Steps passes horizon routes so_far e link next) where
  abbrev end : ℚ
  end = end_by horizon (all_pairs routes) so_far.links e

  begun-is : ForEachRoute (IsBegun taken e) routes w.begun
  begun-is =
      steps_keep (λ route sent. begin_if passes (begins_at route.links e) horizon route sent) (IsReady taken e) (IsBegun taken e)
      (begun_keeps passes taken e horizon from_0) routes so_far.entries w.begun
      (all_ready taken e routes so_far.entries s.entries p.after) (sym (begin_all-is passes horizon e routes so_far.entries) ∙ w.begins)

  inflow-is : IsAmountCurve w.inflow
  inflow-is = inflow_amount passes e ((0ℚ, 0ℚ) ∷ []) routes w.begun w.inflow no_amount (along_as (IsBegun taken e) (Sends e) (sends_here taken e) routes w.begun begun-is) w.sums

  exits-are : AreExits w.loaded.exit
  exits-are = loaded_exits passes link.transit link.capacity w.inflow end w.loaded inflow-is (good.transits e link is) (IsPositive-link net e link good is)
      (≤ℚ_trans _ _ _ from_0 (end-least horizon (all_pairs routes) so_far.links e)) w.loads

  entries-are : ForEachRoute (IsSound (taken ++ e ∷ [])) routes w.entries
  entries-are =
      steps_keep (λ route sent. next_if passes (goes_over route.links e) w.loaded.exit sent) (IsBegun taken e) (IsSound (taken ++ e ∷ []))
      (next_keeps passes taken e w.loaded.exit exits-are) routes w.begun w.entries
      begun-is (sym (next_all-is passes e w.loaded.exit routes w.begun) ∙ w.sends)

  inside : e < length so_far.links
  inside = let c = s.count in let b = p.below in omega arith

  abbrev here : LoadedLink
  here = record { end = end; loaded = w.loaded }

  loaded_then : (f : ℕ) → is_taken (taken ++ e ∷ []) f ≡ true → slice_get (set so_far.links e (Some here)) f ≡ Some None → ⊥
  loaded_then f t h = ⊎_elim
      (λ (v : (eqb e f ≡ true) × (e ≡ f)). apart (sym (set_same so_far.links e (Some here) inside) ∙ ap (slice_get (set so_far.links e (Some here))) v.1 ∙ h))
      (λ (v : (eqb e f ≡ false) × (e ≢ f)). s.loaded f (or_rest (eqb e f) _ v.0 (sym (taken-push taken e f) ∙ t)) (sym (set_other so_far.links e f (Some here) v.1) ∙ h))
      (eqb_tells e f)
    where
      apart : {x : LoadedLink} → ◌≡◌ {A = Option (Option LoadedLink)} (Some (Some x)) (Some None) → ⊥
      apart {x} h = absurd (cc)

  exits_then : (f : ℕ) (l : LoadedLink) → slice_get (set so_far.links e (Some here)) f ≡ Some (Some l) → AreExits l.loaded.exit
  exits_then f l h = ⊎_elim
      (λ (v : (eqb e f ≡ true) × (e ≡ f)). subst (λ (x : LoadedLink). AreExits x.loaded.exit)
      (same (sym (set_same so_far.links e (Some here) inside) ∙ ap (slice_get (set so_far.links e (Some here))) v.1 ∙ h)) exits-are)
      (λ (v : (eqb e f ≡ false) × (e ≢ f)). s.exits f l (sym (set_other so_far.links e f (Some here) v.1) ∙ h))
      (eqb_tells e f)
    where
      same : {x y : LoadedLink} → ◌≡◌ {A = Option (Option LoadedLink)} (Some (Some x)) (Some (Some y)) → x ≡ y
      same h = cc

  pub stands_next : Stands net routes (taken ++ e ∷ []) next
  stands_next = subst (λ (n : SoFar). Stands net routes (taken ++ e ∷ []) n) w.comes (record {
    count = length-set so_far.links e (Some here) ∙ s.count;
    loaded = loaded_then;
    exits = exits_then;
    entries = entries-are;
  })

-- ---- in the end
in_range : (t : ℕ → Bool) (start count e : ℕ) → list_all t (range_with_len start count) ≡ true → start ≤ e → e < start + count → t e ≡ true
in_range t start zero e h i k = absurd (omega arith)
in_range t start (suc count) e h i k =
    let w = and_true (t start) _ h in
    ⊎_elim
    (λ (v : (eqb e start ≡ true) × (e ≡ start)). ap t v.1 ∙ w.0)
    (λ (v : (eqb e start ≡ false) × (e ≢ start)). in_range t (start + 1) count e w.1 (let n = v.1 in omega arith) (omega arith))
    (eqb_tells e start)
  where
    and_true : (a b : Bool) → (a && b) ≡ true → (a ≡ true) × (b ≡ true)
    and_true true b h = (refl, h)
    and_true false b h = absurd (cc)

module _ (net : Network) (routes : List Route) (order : List ℕ) (so_far : SoFar) (good : IsNetwork net) (are : AreRoutes net routes)
    (all : (f : ℕ) → f < length net.links → is_taken order f ≡ true) (s : Stands net routes order so_far) where
  sent_there : (rs : List Route) (es : List Sent) (r : ℕ) (sent : Sent) → ForEachRoute (IsSound order) rs es → slice_get es r ≡ Some sent
      → (route : Route) × (slice_get rs r ≡ Some route) × IsSound order route sent
  sent_there [] [] r sent along h = absurd (cc)
  sent_there [] (y ∷ es) r sent along h = absurd along
  sent_there (x ∷ rs) [] r sent along h = absurd along
  sent_there (x ∷ rs) (y ∷ es) zero sent along h = let same : y ≡ sent = cc in (x, refl, subst (λ (z : Sent). IsSound order x z) same along.0)
  sent_there (x ∷ rs) (y ∷ es) (suc r) sent along h = sent_there rs es r sent along.1 h

  -- a walk from the source to the sink has a link
  first_link : (links : List ℕ) → IsWalk (hops net) links net.source net.sink → (f : ℕ) × (f < length net.links) × (goes_over links f ≡ true)
  first_link [] walk = absurd (good.apart walk)
  first_link (f ∷ rest) walk = (f, below, over)
    where
      below : f < length net.links
      below = let h = slice_get_within (hops net) f walk.0 walk.1 in let k = length-map net.links (λ l. Rattle.nf_model.specs.Network.hop_of l) in omega arith

      over : goes_over (f ∷ rest) f ≡ true
      over = ⊎_elim (λ (w : (eqb f f ≡ true) × (f ≡ f)). ap (λ (b : Bool). b || goes_over rest f) w.0) (λ (w : (eqb f f ≡ false) × (f ≢ f)). absurd (w.1 refl)) (eqb_tells f f)

  pub stands_last : IsFullyLoaded net routes so_far
  stands_last = record {
    count = s.count;
    links = record { each = λ e h. s.loaded e (all e (let w = slice_get_within so_far.links e None h in let c = s.count in omega arith)) h };
    exits = s.exits;
    sent = record {
      each = λ r sent h. let t = sent_there routes so_far.entries r sent s.entries h in let f = first_link t.0.links (are.walks r t.0 t.1) in
          t.2.some f.0 (all f.0 f.1) f.2;
    };
  }

pub all_taken : (links : ℕ) (routes : List Route) (order : List ℕ) → order ≡ loading_order links routes → takes_all links routes ≡ true → (f : ℕ) → f < links → is_taken order f ≡ true
unfolding takes_all
all_taken links routes order e h f below = ap (λ (l : List ℕ). is_taken l f) e ∙ in_range (λ (g : ℕ). is_taken (loading_order links routes) g) 0 links f h (omega arith) (omega arith)
