-- What holds of a route and what it has sent, from link to link.
use Rattle.std.proofs.Common.{◌≡◌, ◌≢◌, ℕ, zero, suc, ◌<◌, List, [], ◌∷◌, ◌++◌, length, ⊎_elim, Bool, true, false, not, ◌||◌, eqb, refl, sym, ap, subst}
use Rattle.std.proofs.Common.{◌∙◌, arith, Ok, Some, slice_get}
use Rattle.nf_routes_links.proofs.Common.{AllByRecursion, list_all, eqb_tells, ℚ, 0ℚ, ◌≤ℚ◌, Passing, Point, ArePieces, checked_short, then_ok}
use Rattle.nf_routes_links.proofs.Common.{checked_short-is, checked_cumulative, same_Ok, not_both, or_rest, Route, pairs_of, all_pairs, is_taken, begins_at}
use Rattle.nf_routes_links.proofs.Common.{goes_over, last_entry, next_entry, begin_if, add_if, sum_from, next_if, taken-push, IsAmountCurve, AreExits}
use Rattle.nf_routes_links.proofs.Common.{nothing_sent, HavePieces, ForEachRoute, MayBegin, Sends, checked_cumulative-is, test}
use Rattle.nf_routes_links.proofs.Amounts.{short_amount, summed_amount, supplied_amount}
use Rattle.nf_routes_links.proofs.Sharing.{next_amount}
use Rattle.nf_routes_links.proofs.Folds.{Sent}
use Rattle.std.proofs.lemmas.Bool.{or_right, or_left, and_parts, eq-eqb}
use Rattle.std.proofs.lemmas.List.Folds.{list_all-append}

-- with these links taken: each of those that it goes over has made it send something
pub record IsSound (taken : List ℕ) (route : Route) (sent : Sent) : Type 0 where
  pub pieces : ArePieces route.pieces
  pub amounts : AllByRecursion IsAmountCurve sent
  pub some : (f : ℕ) → is_taken taken f ≡ true → goes_over route.links f ≡ true → 0 < length sent

-- and with a link that is loaded now
pub record IsBegun (taken : List ℕ) (e : ℕ) (route : Route) (sent : Sent) : Type 0 where
  pub pieces : ArePieces route.pieces
  pub amounts : AllByRecursion IsAmountCurve sent
  pub here : goes_over route.links e ≡ true → 0 < length sent
  pub before : (f : ℕ) → is_taken taken f ≡ true → goes_over route.links f ≡ true → 0 < length sent

pub sends_here : (taken : List ℕ) (e : ℕ) (route : Route) (sent : Sent) → IsBegun taken e route sent → Sends e route sent
sends_here taken e route sent b = record { amounts = b.amounts; some = b.here }

-- ---- at first
pub sound_first : (routes : List Route) → ((r : ℕ) (route : Route) → slice_get routes r ≡ Some route → ArePieces route.pieces) → ForEachRoute (IsSound []) routes (nothing_sent routes)
sound_first [] h = tt
sound_first (x ∷ routes) h = (record { pieces = h 0 x refl; amounts = tt; some = λ f t over. absurd (cc) }, sound_first routes (λ r route k. h (suc r) route k))

-- ---- what stands before a link on a route was taken

needs : (a b : Bool) → (not a || b) ≡ true → a ≡ true → b ≡ true
needs true b h k = h
needs false b h k = absurd (cc)

pub record Came (taken links : List ℕ) : Type 0 where
  pub link : ℕ
  pub taken_before : is_taken taken link ≡ true
  pub over : goes_over links link ≡ true

goes_back : (taken : List ℕ) (e : ℕ) (links : List ℕ) → list_all (test taken e) (pairs_of links) ≡ true → goes_over links e ≡ true → begins_at links e ≡ false → Came taken links
goes_back taken e [] h over first = absurd (cc)
goes_back taken e (x ∷ []) h over first = absurd (not_both false (or_rest (eqb x e) false first over) refl)
goes_back taken e (x ∷ y ∷ rest) h over first = by (eqb y e) refl (λ k. goes_back taken e (y ∷ rest) (and_parts (test taken e (x, y)) _ h).1 (or_rest (eqb x e) _ first over) k)
  where
    by : (b : Bool) → eqb y e ≡ b → (eqb y e ≡ false → Came taken (y ∷ rest)) → Came taken (x ∷ y ∷ rest)
    by true t later = record { link = x; taken_before = needs (eqb y e) (is_taken taken x) (and_parts (test taken e (x, y)) _ h).0 t; over = or_left (eqb x x) _ (eq-eqb x x refl) }
    by false t later = let c = later t in record { link = c.link; taken_before = c.taken_before; over = or_right (eqb x c.link) _ c.over }

may_begin : (taken : List ℕ) (e : ℕ) (route : Route) (sent : Sent) → IsSound taken route sent → list_all (test taken e) (pairs_of route.links) ≡ true → MayBegin e route sent
may_begin taken e route sent s h = record {
  pieces = s.pieces;
  amounts = s.amounts;
  some = λ over first. let c = goes_back taken e route.links h over first in s.some c.link c.taken_before c.over;
}

-- a route may begin with the link, and what was known before is kept
pub record IsReady (taken : List ℕ) (e : ℕ) (route : Route) (sent : Sent) : Type 0 where
  pub sound : IsSound taken route sent
  pub may : MayBegin e route sent

pub all_ready : (taken : List ℕ) (e : ℕ) (routes : List Route) (entries : List Sent) → ForEachRoute (IsSound taken) routes entries
    → list_all (test taken e) (all_pairs routes) ≡ true → ForEachRoute (IsReady taken e) routes entries
all_ready taken e [] [] along h = tt
all_ready taken e [] (y ∷ entries) along h = absurd along
all_ready taken e (x ∷ routes) [] along h = absurd along
all_ready taken e (x ∷ routes) (y ∷ entries) along h =
    let w = and_parts (list_all (test taken e) (pairs_of x.links)) _ (sym (list_all-append (test taken e) (pairs_of x.links) (all_pairs routes)) ∙ h) in
    (record { sound = along.0; may = may_begin taken e x y along.0 w.0 }, all_ready taken e routes entries along.1 w.1)

-- ---- the first entry
-- a route begins with the link, if that is its first, and then sends something into it if it goes over it
pub begun_sends : (passes : Passing) (e : ℕ) (horizon : ℚ) → 0ℚ ≤ℚ horizon → (route : Route) (sent next : Sent) → MayBegin e route sent
    → begin_if passes (begins_at route.links e) horizon route sent ≡ Ok next → Sends e route next
begun_sends passes e horizon from_0 route sent next m h = by (begins_at route.links e) refl h
  where
    by : (b : Bool) → begins_at route.links e ≡ b → begin_if passes b horizon route sent ≡ Ok next → Sends e route next
    by true t k =
        let s = then_ok (checked_cumulative passes route.pieces horizon) _ next k in
        let f = then_ok (checked_short passes s.between) _ next s.next in
        let a = supplied_amount route.pieces horizon s.between (checked_cumulative-is passes route.pieces horizon m.pieces from_0 s.between s.first) in
        subst (λ (l : Sent). Sends e route l) (same_Ok _ _ f.next)
        (record { amounts = (short_amount s.between f.between a (checked_short-is passes s.between f.between a.curve f.first), tt); some = λ over. omega arith })
    by false t k = subst (λ (l : Sent). Sends e route l) (same_Ok _ _ k) (record { amounts = m.amounts; some = λ over. m.some over t })

-- where something was sent there is something still
begun_more : (passes : Passing) (e : ℕ) (horizon : ℚ) (route : Route) (sent next : Sent)
    → begin_if passes (begins_at route.links e) horizon route sent ≡ Ok next → 0 < length sent → 0 < length next
begun_more passes e horizon route sent next h some = by (begins_at route.links e) h
  where
    by : (b : Bool) → begin_if passes b horizon route sent ≡ Ok next → 0 < length next
    by true k =
        let s = then_ok (checked_cumulative passes route.pieces horizon) _ next k in
        let f = then_ok (checked_short passes s.between) _ next s.next in
        subst (λ (l : Sent). 0 < length l) (same_Ok _ _ f.next) (omega arith)
    by false k = subst (λ (l : Sent). 0 < length l) (same_Ok _ _ k) some

pub begun_keeps : (passes : Passing) (taken : List ℕ) (e : ℕ) (horizon : ℚ) → 0ℚ ≤ℚ horizon → (route : Route) (sent next : Sent) → IsReady taken e route sent
    → begin_if passes (begins_at route.links e) horizon route sent ≡ Ok next → IsBegun taken e route next
begun_keeps passes taken e horizon from_0 route sent next r h =
    let s = begun_sends passes e horizon from_0 route sent next r.may h in
    record {
      pieces = r.sound.pieces;
      amounts = s.amounts;
      here = s.some;
      before = λ f t over. begun_more passes e horizon route sent next h (r.sound.some f t over);
    }

-- ---- the last entry
pub last_amount : (sent : Sent) → AllByRecursion IsAmountCurve sent → 0 < length sent → IsAmountCurve (last_entry sent)
last_amount [] all h = absurd (omega arith)
last_amount (x ∷ []) all h = all.0
last_amount (x ∷ y ∷ rest) all h = last_amount (y ∷ rest) all.1 (omega arith)

-- ---- the sum of what is sent into a link
pub inflow_amount : (passes : Passing) (e : ℕ) (total : List Point) (routes : List Route) (entries : List Sent) (inflow : List Point) → IsAmountCurve total → ForEachRoute (Sends e) routes entries
    → sum_from passes e total routes entries ≡ Ok inflow → IsAmountCurve inflow
inflow_amount passes e total [] entries inflow a along h = subst (λ (l : List Point). IsAmountCurve l) (same_Ok _ _ h) a
inflow_amount passes e total (x ∷ routes) [] inflow a along h = absurd along
inflow_amount passes e total (x ∷ routes) (y ∷ entries) inflow a along h =
    let s = then_ok (add_if passes (goes_over x.links e) total (last_entry y)) _ inflow h in
    inflow_amount passes e s.between routes entries inflow (by (goes_over x.links e) refl s.between s.first) along.1 s.next
  where
    by : (b : Bool) → goes_over x.links e ≡ b → (next : List Point) → add_if passes b total (last_entry y) ≡ Ok next → IsAmountCurve next
    by true t next k = summed_amount passes total (last_entry y) next a (last_amount y along.0.amounts (along.0.some t)) k
    by false t next k = subst (λ (l : List Point). IsAmountCurve l) (same_Ok _ _ k) a

-- ---- the next entry
all_more : (sent : Sent) (x : List Point) → AllByRecursion IsAmountCurve sent → IsAmountCurve x → AllByRecursion IsAmountCurve (sent ++ x ∷ [])
all_more [] x all a = (a, tt)
all_more (y ∷ sent) x all a = (all.0, all_more sent x all.1 a)

more_some : (sent : Sent) (x : List Point) → 0 < length (sent ++ x ∷ [])
more_some [] x = omega arith
more_some (y ∷ sent) x = omega arith

pub next_keeps : (passes : Passing) (taken : List ℕ) (e : ℕ) (exit : List Point) → AreExits exit → (route : Route) (sent next : Sent) → IsBegun taken e route sent
    → next_if passes (goes_over route.links e) exit sent ≡ Ok next → IsSound (taken ++ e ∷ []) route next
next_keeps passes taken e exit exits route sent next b h = by (goes_over route.links e) refl h
  where
    by : (c : Bool) → goes_over route.links e ≡ c → next_if passes c exit sent ≡ Ok next → IsSound (taken ++ e ∷ []) route next
    by true t k =
        let s = then_ok (next_entry passes exit (last_entry sent)) _ next k in
        let m = next_amount passes exit (last_entry sent) exits (last_amount sent b.amounts (b.here t)) s.between s.first in
        subst (λ (l : Sent). IsSound (taken ++ e ∷ []) route l) (same_Ok _ _ s.next)
        (record { pieces = b.pieces; amounts = all_more sent s.between b.amounts m; some = λ f u over. more_some sent s.between })
    by false t k = subst (λ (l : Sent). IsSound (taken ++ e ∷ []) route l) (same_Ok _ _ k) (record {
      pieces = b.pieces;
      amounts = b.amounts;
      some = λ f u over. ⊎_elim
          (λ (w : (eqb e f ≡ true) × (e ≡ f)). absurd (not_both (goes_over route.links e) (ap (λ (z : ℕ). goes_over route.links z) w.1 ∙ over) t))
          (λ (w : (eqb e f ≡ false) × (e ≢ f)). b.before f (or_rest (eqb e f) _ w.0 (sym (taken-push taken e f) ∙ u)) over)
          (eqb_tells e f);
    })

-- what is given along each route are pieces
pub have_pieces : (e : ℕ) (routes : List Route) (entries : List Sent) → ForEachRoute (MayBegin e) routes entries → HavePieces routes
have_pieces e routes entries along = record { each = λ r route h. at routes entries r route along h }
  where
    at : (routes : List Route) (entries : List Sent) (r : ℕ) (route : Route) → ForEachRoute (MayBegin e) routes entries → slice_get routes r ≡ Some route → ArePieces route.pieces
    at [] entries r route along h = absurd (cc)
    at (x ∷ routes) [] r route along h = absurd along
    at (x ∷ routes) (y ∷ entries) zero route along h = let same : x ≡ route = cc in subst (λ (z : Route). ArePieces z.pieces) same along.0.pieces
    at (x ∷ routes) (y ∷ entries) (suc r) route along h = at routes entries r route along.1 h
