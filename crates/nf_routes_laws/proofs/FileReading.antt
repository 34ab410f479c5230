-- The reading of a routes file. G17 is broken exactly by a circle, and the loading order decides it.
use Rattle.std.proofs.Common.{◌≡◌, ◌≢◌, ℕ, Bool, true, false, not, ◌||◌, nat_le, List, [], ◌∷◌, length, Option, Some, None, Result, Ok, Err, inl, inr, refl}
use Rattle.std.proofs.Common.{sym, ap, subst, ◌∙◌, codes, if◌then◌else◌}
use Rattle.nf_routes_laws.proofs.Common.{last_or, ◌>>=◌, Network, has_name, same_Ok, is_head, unless_rule, G3, G4, G10, G11, G12, G13, G14, G15, G16, G17}
use Rattle.nf_routes_laws.proofs.Common.{HoldCircle, ReadLine, read_lines, content_lines, Named, in_line, add_lines, draft_of, by_bytes, file_is}
use Rattle.nf_routes_laws.proofs.Common.{where_true, RoutesRule, RoutesBroken, NamedRoute, RoutesEntry, RouteLine, RateLine, End, RoutesDraft, route_names}
use Rattle.nf_routes_laws.proofs.Common.{routes_of, pieces_at, is_walk, routes_entry, routes_rule_of, routes_after, add_route_line, routes_ended}
use Rattle.nf_routes_laws.proofs.Common.{routes_frame, HoldsCircleIn, circle_broken, ReadsRoutes, is_ordered, unless_circle, KeepRules, AreSound}
use Rattle.nf_text_def.specs.Faults.{LineFault, NotAscii, LongLine, first_fault}
use Rattle.nf_net_def.specs.NetLines.{is_negative, is_not_after}
use Rattle.nf_routes_def.specs.RoutesFile.{routes_of_lines, routes_in}
use Rattle.nf_routes_laws.proofs.Ordering.{none-circle, circle-found}
use Rattle.nf_routes_laws.proofs.FileEntries.{Entered, entered}
use Rattle.nf_routes_laws.proofs.FileKept.{draft_sound, are_routes}

-- ---- another rule is broken, or none
abbrev Other : {A : Type 0} → Result A RoutesRule → Type 0
Other (Ok x) = Unit {0}
Other (Err rule) = rule ≢ G17

abbrev OtherOf : Option RoutesRule → Type 0
OtherOf None = Unit {0}
OtherOf (Some rule) = rule ≢ G17

abbrev OtherIn : {A : Type 0} → Result A RoutesBroken → Type 0
OtherIn (Ok x) = Unit {0}
OtherIn (Err broken) = broken.rule ≢ G17

either : {A : Type 0} (b : Bool) (x y : Result A RoutesRule) → Other x → Other y → Other (if b then x else y)
either true x y h k = h
either false x y h k = k

then_ : {A B : Type 0} (r : Result A RoutesRule) (f : A → Result B RoutesRule) → Other r → ((x : A) → Other (f x)) → Other (r >>= f)
then_ (Ok x) f h k = k x
then_ (Err rule) f h k = h

then_in : {A B : Type 0} (r : Result A RoutesBroken) (f : A → Result B RoutesBroken) → OtherIn r → ((x : A) → OtherIn (f x)) → OtherIn (r >>= f)
then_in (Ok x) f h k = k x
then_in (Err broken) f h k = h

of_number : (number : ℕ) (r : Result RoutesDraft RoutesRule) → Other r → OtherIn (in_line number r)
of_number number (Ok draft) h = tt
of_number number (Err rule) h = h

first : (b : Bool) (rule : RoutesRule) (o : Option RoutesRule) → rule ≢ G17 → OtherOf o → OtherOf (if b then Some rule else o)
first true rule o h k = h
first false rule o h k = k

unless : (o : Option RoutesRule) (draft : RoutesDraft) → OtherOf o → Other (unless_rule o draft)
unless None draft h = tt
unless (Some rule) draft h = h

-- ---- a line
of_entry : (r : Result RoutesEntry RoutesRule) → Entered r → Other r
of_entry (Ok entry) h = tt
of_entry (Err rule) h = h

of_rule : (net : Network) (draft : RoutesDraft) (entry : RoutesEntry) → OtherOf (routes_rule_of net draft entry)
of_rule net draft (RouteLine name links) =
    let walk = first (not (is_walk net.links links net.source net.sink)) G12 None (λ e. cc) tt in
    let few = first (nat_le 100 (length draft.routes)) G11 _ (λ e. cc) walk in
    first (has_name (route_names draft.routes) name) G10 _ (λ e. cc) few
of_rule net draft (RateLine r piece) =
    let few = first (nat_le 200 (length (pieces_at draft.routes r))) G15 None (λ e. cc) tt in
    let later = first (is_not_after piece.start (last_or None (pieces_at draft.routes r))) G14 _ (λ e. cc) few in
    first (is_negative piece.start || is_negative piece.rate) G13 _ (λ e. cc) later
of_rule net draft End = tt

of_ended : (draft : RoutesDraft) → OtherIn (routes_ended draft)
of_ended draft = by draft.ended
  where
    by : (b : Bool) → OtherIn (if b then Ok draft.routes else Err (record { rule = G16; line = 0 }))
    by true = tt
    by false = λ e. cc

module _ (n : Named) where
  of_line : (draft : RoutesDraft) (words : List (List ℕ)) → Other (add_route_line n draft words)
  of_line draft words =
      let entry = routes_entry n.link_names (route_names draft.routes) words in
      either draft.ended (Err G4) (entry >>= λ entry. unless_rule (routes_rule_of n.net draft entry) (routes_after draft entry)) (λ e. cc)
      (then_ entry (λ entry. unless_rule (routes_rule_of n.net draft entry) (routes_after draft entry)) (of_entry entry (entered n.link_names (route_names draft.routes) words))
      (λ entry. unless (routes_rule_of n.net draft entry) (routes_after draft entry) (of_rule n.net draft entry)))

  of_lines : (draft : RoutesDraft) (lines : List ReadLine) → OtherIn (add_lines (add_route_line n) draft lines)
  of_lines draft [] = tt
  of_lines draft (line ∷ rest) =
      then_in (in_line line.number (add_route_line n draft line.words)) (λ next. add_lines (add_route_line n) next rest)
      (of_number line.number (add_route_line n draft line.words) (of_line draft line.words)) (λ next. of_lines next rest)

  of_draft : (lines : List ReadLine) → OtherIn (draft_of (routes_frame n) lines)
  of_draft [] = λ e. cc
  of_draft (line ∷ rest) = step (is_head (codes "routes") line.words)
    where
      step : (b : Bool) → OtherIn (if b then add_lines (add_route_line n) (record { routes = []; ended = false }) rest else Err (record { rule = G3; line = line.number }))
      step true = of_lines (record { routes = []; ended = false }) rest
      step false = λ e. cc

-- routes that are all loaded hold no circle
pub kept_routes : (n : Named) (routes : List NamedRoute) → AreSound n.net routes → is_ordered n routes ≡ true → KeepRules routes
kept_routes n routes sound o = record { form = sound.form; straight = none-circle n.net (routes_of routes) (are_routes n.net routes sound.form sound.walks) o }

-- ---- the whole text
module _ (n : Named) (text : List ℕ) where
  abbrev ended : Result (List NamedRoute) RoutesBroken
  ended = draft_of (routes_frame n) (content_lines (read_lines text)) >>= routes_ended

  -- no line breaks the last rule
  of_text : OtherIn (routes_of_lines n text)
  unfolding routes_of_lines
  of_text = by (first_fault text)
    where
      by : (o : Option LineFault) → OtherIn (by_bytes (routes_frame n) o ended)
      by (Some (NotAscii line)) = λ e. cc
      by (Some (LongLine line)) = λ e. cc
      by None = then_in (draft_of (routes_frame n) (content_lines (read_lines text))) routes_ended (of_draft n (content_lines (read_lines text))) of_ended

  -- lines that break no rule give routes of the network
  lines_sound : (routes : List NamedRoute) → routes_of_lines n text ≡ Ok routes → AreSound n.net routes
  unfolding routes_of_lines
  lines_sound routes e =
      let w = file_is (routes_frame n) text routes e in
      let t = where_true w.between.ended (record { rule = G16; line = 0 }) (Ok w.between.routes) routes w.next in
      subst (AreSound n.net) (same_Ok w.between.routes routes t.1) (draft_sound n (content_lines (read_lines text)) w.between w.first)

  module _ (routes : List NamedRoute) (read : routes_of_lines n text ≡ Ok routes) where
    straight : is_ordered n routes ≡ true → HoldCircle (routes_of routes) → ⊥
    straight o = let s = lines_sound routes read in none-circle n.net (routes_of routes) (are_routes n.net routes s.form s.walks) o

    circle : is_ordered n routes ≡ false → HoldCircle (routes_of routes)
    circle o = let s = lines_sound routes read in circle-found n.net (routes_of routes) (are_routes n.net routes s.form s.walks) o

    abbrev by_order : Bool → Result (List NamedRoute) RoutesBroken
    by_order b = if b then Ok routes else Err circle_broken

    pub ordered_reads : (b : Bool) → is_ordered n routes ≡ b → ReadsRoutes n text (by_order b)
    ordered_reads true o = (read, straight o)
    ordered_reads false o = inr (refl, record { routes = routes; read = read; circle = circle o })

    none_left : (HoldCircle (routes_of routes) → ⊥) → by_order (is_ordered n routes) ≡ Ok routes
    none_left none = by (is_ordered n routes) refl
      where
        by : (b : Bool) → is_ordered n routes ≡ b → by_order b ≡ Ok routes
        by true o = refl
        by false o = absurd (none (circle o))

    one_left : HoldCircle (routes_of routes) → by_order (is_ordered n routes) ≡ Err circle_broken
    one_left c = by (is_ordered n routes) refl
      where
        by : (b : Bool) → is_ordered n routes ≡ b → by_order b ≡ Err circle_broken
        by true o = absurd (straight o c)
        by false o = refl

  abbrev then_order : Result (List NamedRoute) RoutesBroken → Result (List NamedRoute) RoutesBroken
  then_order r = r >>= unless_circle n

  -- the loading order decides the reading of a text
  pub decided : ReadsRoutes n text (routes_in n text)
  unfolding routes_in
  decided = by (routes_of_lines n text) refl
    where
      by : (r : Result (List NamedRoute) RoutesBroken) → routes_of_lines n text ≡ r → ReadsRoutes n text (then_order r)
      by (Ok routes) e = ordered_reads routes e (is_ordered n routes) refl
      by (Err broken) e = inl e

  pub only_reading : (read : Result (List NamedRoute) RoutesBroken) → ReadsRoutes n text read → routes_in n text ≡ read
  unfolding routes_in
  only_reading (Ok routes) h = ap then_order h.0 ∙ none_left routes h.0 h.1
  only_reading (Err broken) (inl e) = ap then_order e
  only_reading (Err broken) (inr (same, c)) = ap then_order c.read ∙ one_left c.routes c.read c.circle ∙ ap Err (sym same)

  pub circle_there : (broken : RoutesBroken) → ReadsRoutes n text (Err broken) → broken.rule ≡ G17 → HoldsCircleIn n text
  circle_there broken (inl e) is = absurd (subst OtherIn e of_text is)
  circle_there broken (inr (same, c)) is = c

  pub circle_refused : HoldsCircleIn n text → ReadsRoutes n text (Err circle_broken)
  circle_refused c = inr (refl, c)

  -- the routes read satisfy the rules
  pub read_kept : (routes : List NamedRoute) → ReadsRoutes n text (Ok routes) → KeepRules routes
  read_kept routes h = record { form = (lines_sound routes h.0).form; straight = h.1 }

  pub read_walks : (routes : List NamedRoute) → ReadsRoutes n text (Ok routes) → AreSound n.net routes
  read_walks routes h = lines_sound routes h.0
