-- The routes of lines that break no rule. They do not exceed the limit, have different names, and are walks from source to sink with
-- pieces.
use Rattle.std.proofs.Common.{◌≡◌, ℕ, zero, suc, ◌<◌, ◌≤◌, true, false, not, ◌&&◌, nat_le, List, [], ◌∷◌, ◌++◌, length, set, get_or, Option, Some, None}
use Rattle.std.proofs.Common.{All, slice_get, Ok, refl, sym, ap, subst, ◌∙◌, arith, bytes_eq}
use Rattle.nf_routes_laws.proofs.Common.{list_all, and_parts, leb-false, and_from, not-false, eqb-true, length-append, length-set, map-append, none-some}
use Rattle.nf_routes_laws.proofs.Common.{same_Some, slice_get-get_or, slice_get_within, ◌>>=◌, IsWalk, Piece, Link, Network, ArePieces, hop_of, hops, Name}
use Rattle.nf_routes_laws.proofs.Common.{is_name, has_name, AreNames, slice_get-image, same_Ok, not_both, unless_rule, G4, G10, G11, G12, G13, G14, G15}
use Rattle.nf_routes_laws.proofs.Common.{Route, AreWalks, AreRoutes, ReadLine, Named, draft_of, rules_out, no_rule, draft_kept, both_ok, where_false}
use Rattle.nf_routes_laws.proofs.Common.{NamedRoute, RoutesEntry, RouteLine, RateLine, End, RoutesDraft, route_names, routes_of, pieces_of, longer, is_walk}
use Rattle.nf_routes_laws.proofs.Common.{tail_is, head_of, rule_behind, routes_entry, routes_rule_of, routes_after, add_route_line, routes_frame, AreInForm}
use Rattle.nf_routes_laws.proofs.Common.{AreSound}
use Rattle.std.specs.List.{IsDistinct}
use Rattle.std.proofs.lemmas.List.Folds.{list_all-append}
use Rattle.std.proofs.lemmas.List.Elements.{All-nil, All-push, All-set, All-get_or, All-map, All-weaker}
use Rattle.nf_net_laws.proofs.NameFacts.{with_name_new}
use Rattle.nf_net_laws.proofs.DraftKept.{distinct_with_names}
use Rattle.nf_report_laws.proofs.PiecesKept.{GoOn, go_on_pieces, piece_kept}
use Rattle.nf_routes_def.specs.RoutesFile.{with_piece}
use Rattle.nf_routes_laws.proofs.FileEntries.{IsNew, Entered, entered}

-- ---- walks
walk_of : (net : Network) (links : List ℕ) (v w : ℕ) → is_walk net.links links v w ≡ true → IsWalk (hops net) links v w
walk_of net [] v w k = eqb-true v w k
walk_of net (e ∷ rest) v w k =
    by (slice_get net.links e) refl (and_parts (tail_is (slice_get net.links e) v) (is_walk net.links rest (head_of (slice_get net.links e)) w) k) (λ u. walk_of net rest u w)
  where
    by : (o : Option Link) → slice_get net.links e ≡ o → (tail_is o v ≡ true) × (is_walk net.links rest (head_of o) w ≡ true)
        → ((u : ℕ) → is_walk net.links rest u w ≡ true → IsWalk (hops net) rest u w)
        → IsWalk (hops net) (e ∷ rest) v w
    by None there p later = absurd (not_both false p.0 refl)
    by (Some link) there p later = (hop_of link, slice_get-image hop_of net.links e link there, eqb-true link.tail v p.0, later link.head p.1)

-- ---- names
names_more : (names : List Name) (name : Name) → AreNames names → is_name name ≡ true → has_name names name ≡ false → AreNames (names ++ name ∷ [])
names_more names name h is new = record {
  each = list_all-append is_name names (name ∷ []) ∙ and_from (list_all is_name names) (is_name name && true) h.each (and_from (is_name name) true is refl);
  distinct = subst (IsDistinct bytes_eq) (with_name_new names name new) (distinct_with_names names (name ∷ []) h.distinct);
}

no_names : AreNames []
unfolding IsDistinct
no_names = record { each = refl; distinct = tt }

names_stay : (routes : List NamedRoute) (r : ℕ) (named : NamedRoute) (piece : Piece) → slice_get routes r ≡ Some named
    → route_names (set routes r (longer named piece)) ≡ route_names routes
names_stay [] r named piece h = refl
names_stay (x ∷ routes) zero named piece h = ap (λ (y : NamedRoute). y.name ∷ route_names routes) (sym (same_Some x named h))
names_stay (x ∷ routes) (suc r) named piece h = ap (λ (l : List Name). x.name ∷ l) (names_stay routes r named piece h)

-- ---- routes
record IsGoodRoute (net : Network) (r : NamedRoute) : Type 0 where
  pub walk : IsWalk (hops net) r.route.links net.source net.sink
  pub some : 0 < length r.route.links
  pub pieces : GoOn None r.route.pieces
  pub few : length r.route.pieces ≤ 200

record IsGood (net : Network) (draft : RoutesDraft) : Type 0 where
  pub few : length draft.routes ≤ 100
  pub names : AreNames (route_names draft.routes)
  pub each : All (IsGoodRoute net) draft.routes

all_at : {A : Type 0} (P : A → Type 0) (xs : List A) (i : ℕ) (x : A) → All P xs → slice_get xs i ≡ Some x → P x
all_at {A} P xs i x all e = subst P (some (get_or xs i x) (sym (slice_get-get_or xs i x lt) ∙ e)) (All-get_or P xs i x lt all)
  where
    lt : i < length xs
    lt = slice_get_within xs i x e

    some : (y : A) → ◌≡◌ {A = Option A} (Some y) (Some x) → y ≡ x
    some y h = cc

module _ (net : Network) (draft : RoutesDraft) (good : IsGood net draft) where
  route_more : (name : Name) (links : List ℕ) → IsNew (RouteLine name links) → routes_rule_of net draft (RouteLine name links) ≡ None
      → IsGood net (routes_after draft (RouteLine name links))
  route_more name links new e =
      let walk = is_walk net.links links net.source net.sink in
      let a = rules_out (has_name (route_names draft.routes) name) G10 ((nat_le 100 (length draft.routes), G11) ∷ (not walk, G12) ∷ []) e in
      let b = rules_out (nat_le 100 (length draft.routes)) G11 ((not walk, G12) ∷ []) a.1 in
      let d = rules_out (not walk) G12 [] b.1 in
      let fewer : length draft.routes < 100 = leb-false 100 (length draft.routes) b.0 in
      let route : NamedRoute = record { name = name; route = record { links = links; pieces = [] } } in
      record {
        few = omega (arith, fewer, length-append draft.routes (route ∷ []));
        names = subst AreNames (sym (map-append (λ (r : NamedRoute). r.name) draft.routes (route ∷ []))) (names_more (route_names draft.routes) name good.names new.0 a.0);
        each = All-push (IsGoodRoute net) draft.routes route good.each (record {
          walk = walk_of net links net.source net.sink (not-false walk d.0);
          some =
              new.1;
          pieces = tt;
          few = omega arith;
        });
      }

  piece_more : (r : ℕ) (piece : Piece) → routes_rule_of net draft (RateLine r piece) ≡ None → IsGood net (routes_after draft (RateLine r piece))
  piece_more r piece = by (slice_get draft.routes r) refl
    where
      by : (o : Option NamedRoute) → slice_get draft.routes r ≡ o → rule_behind (pieces_of o) piece ≡ None → IsGood net (record draft { routes = with_piece piece o draft.routes r })
      by None there e = record { few = good.few; names = good.names; each = good.each }
      by (Some named) there e =
          let was = all_at (IsGoodRoute net) draft.routes r named good.each there in
          let k = piece_kept 200 G13 G14 G15 named.route.pieces piece was.pieces e in
          let fewer : length named.route.pieces < 200 = leb-false 200 (length named.route.pieces) k.1 in
          record {
            few = omega (arith, good.few, length-set draft.routes r (longer named piece));
            names = subst AreNames (sym (names_stay draft.routes r named piece there)) good.names;
            each = All-set (IsGoodRoute net) draft.routes r (longer named piece) (record {
              walk = was.walk;
              some = was.some;
              pieces = k.0;
              few = omega (arith, fewer, length-append named.route.pieces (piece ∷ []));
            }) good.each;
          }

-- ---- lines, one after the other
module _ (n : Named) where
  entry_kept : (draft : RoutesDraft) (entry : RoutesEntry) (next : RoutesDraft) → IsNew entry → IsGood n.net draft
      → unless_rule (routes_rule_of n.net draft entry) (routes_after draft entry) ≡ Ok next → IsGood n.net next
  entry_kept draft (RouteLine name links) next new good e =
      let w = no_rule (routes_rule_of n.net draft (RouteLine name links)) (routes_after draft (RouteLine name links)) next e in
      subst (IsGood n.net) w.1 (route_more n.net draft good name links new w.0)
  entry_kept draft (RateLine r piece) next new good e =
      let w = no_rule (routes_rule_of n.net draft (RateLine r piece)) (routes_after draft (RateLine r piece)) next e in
      subst (IsGood n.net) w.1 (piece_more n.net draft good r piece w.0)
  entry_kept draft End next new good e = subst (IsGood n.net) (same_Ok (routes_after draft End) next e) (record { few = good.few; names = good.names; each = good.each })

  line_kept : (draft : RoutesDraft) (words : List (List ℕ)) (next : RoutesDraft) → IsGood n.net draft → add_route_line n draft words ≡ Ok next → IsGood n.net next
  line_kept draft words next good e =
      let entry = routes_entry n.link_names (route_names draft.routes) words in
      let w = both_ok entry (λ entry. unless_rule (routes_rule_of n.net draft entry) (routes_after draft entry)) next
      (where_false draft.ended G4 (entry >>= λ entry. unless_rule (routes_rule_of n.net draft entry) (routes_after draft entry)) next e).1 in
      entry_kept draft w.between next (subst Entered w.first (entered n.link_names (route_names draft.routes) words)) good w.next

  abbrev IsWalkOf : Route → Type 0
  IsWalkOf route = IsWalk (hops n.net) route.links n.net.source n.net.sink

  pub draft_sound : (lines : List ReadLine) (draft : RoutesDraft) → draft_of (routes_frame n) lines ≡ Ok draft → AreSound n.net draft.routes
  draft_sound lines draft e =
      let none : IsGood n.net (routes_frame n).empty = record { few = omega arith; names = no_names; each = All-nil (IsGoodRoute n.net) } in
      let good = draft_kept (routes_frame n) (IsGood n.net) line_kept none lines draft e in
      let walks = All-map IsWalkOf (λ (r : NamedRoute). r.route) draft.routes
      (All-weaker (IsGoodRoute n.net) (λ (r : NamedRoute). IsWalkOf r.route) (λ r g. g.walk) draft.routes good.each) in
      record {
        form = record {
          few = good.few;
          names = good.names;
          each = λ r named there. let g = all_at (IsGoodRoute n.net) draft.routes r named good.each there in
              record { some = g.some; pieces = go_on_pieces named.route.pieces g.pieces; few = g.few };
        };
        walks = record { each = λ r route there. all_at IsWalkOf (routes_of draft.routes) r route walks there };
      }

-- ---- the pieces of their inflows
route_at : (routes : List NamedRoute) (r : ℕ) (route : Route) → slice_get (routes_of routes) r ≡ Some route
    → (named : NamedRoute) × (slice_get routes r ≡ Some named) × (named.route ≡ route)
route_at [] r route h = absurd (none-some route h)
route_at (x ∷ routes) zero route h = (x, refl, same_Some x.route route h)
route_at (x ∷ routes) (suc r) route h = route_at routes r route h

pub are_routes : (net : Network) (routes : List NamedRoute) → AreInForm routes → AreWalks net (routes_of routes) → AreRoutes net (routes_of routes)
are_routes net routes form walks = record {
  walks = walks.each;
  pieces = λ r route there. let w = route_at routes r route there in subst (λ (x : Route). ArePieces x.pieces) w.2 (form.each r w.0 w.1).pieces;
}
