-- Steps of a forest traversal.
use Rattle.std.proofs.Common.{◌≡◌, ◌≢◌, ℕ, zero, suc, ◌<◌, ◌≤◌, inl, inr, ◌⊎◌, ⊎_elim, Bool, true, false, ◌&&◌, eqb, List, [], length, Option, Some, None}
use Rattle.std.proofs.Common.{slice_get, get_or, refl, sym, ap, subst, ◌∙◌, arith, if◌then◌else◌}
use Rattle.nf_pattern.proofs.Common.{none-some, same_Some, slice_get-get_or, ne_eqb, State, Tight, Full, Zero, Hop, IsHop, Pattern, HasState, AreBelow}
use Rattle.nf_pattern.proofs.Common.{AreJoined, TightBefore, Closes, NoneCloses, last_at, Path, is_tight, ends_by, ends_at, across, other_end, IsWalkable}
use Rattle.nf_pattern.proofs.Common.{IsPlace, GoesBy}
use Rattle.nf_pattern.specs.declared.walking.Place.{Place}
use Rattle.nf_pattern.proofs.Deciding.{decide_below, decide_closes}
use Rattle.nf_pattern.proofs.Comes.{comes, same_true}

-- ---- the last link at a node
pub last_told : (Ends : ℕ → ℕ → Bool) (m v l : ℕ) → last_at Ends m v ≡ Some l → (l < m) × (Ends l v ≡ true)
last_told Ends zero v l e = absurd (none-some l e)
last_told Ends (suc m) v l e = by (Ends m v) refl e (λ f. last_told Ends m v l f)
  where
    by : (b : Bool) → Ends m v ≡ b → (if b then Some m else last_at Ends m v) ≡ Some l → (last_at Ends m v ≡ Some l → (l < m) × (Ends l v ≡ true)) → (l < suc m) × (Ends l v ≡ true)
    by true at f rest = let same = same_Some m l f in (omega arith, subst (λ (k : ℕ). Ends k v ≡ true) same at)
    by false at f rest = let told = rest f in ((let less = told.0 in omega arith), told.1)

both_true : (s : Option (Option State)) (o : Option Hop) (v : ℕ) → (is_tight s && ends_by o v) ≡ true → (s ≡ Some (Some Tight)) × (hop : Hop) × (o ≡ Some hop)
both_true None o v e = absurd (cc)
both_true (Some None) o v e = absurd (cc)
both_true (Some (Some Full)) o v e = absurd (cc)
both_true (Some (Some Zero)) o v e = absurd (cc)
both_true (Some (Some Tight)) None v e = absurd (cc)
both_true (Some (Some Tight)) (Some hop) v e = (refl, hop, refl)

across_within : (nodes v : ℕ) (hop : Hop) → hop.tail < nodes → hop.head < nodes → (b : Bool) → (if b then hop.head else hop.tail) < nodes
across_within nodes v hop t h true = h
across_within nodes v hop t h false = t

module _ (hops : List Hop) (p : Pattern) (n : ℕ) where
  abbrev last : ℕ → ℕ → Option ℕ
  last m v = last_at (ends_at hops p) m v

  abbrev pub Joined : ℕ → ℕ → Type 0
  Joined v w = AreJoined hops (TightBefore p n) v w

  abbrev pub On : ℕ → ℕ → ℕ → Option ℕ → ℕ → Option ℕ → Type 0
  On v k x o y r = Path (ends_at hops p) (other_end hops) (λ m v w. AreJoined hops (TightBefore p m) v w) n v k x o y r

  -- The link of a position.
  pub place_link : (v l : ℕ) → IsPlace hops p n v (Some l) → (l < n) × HasState p l Tight × (hop : Hop) × IsHop hops l hop
  place_link v l (m, few, is) =
      let told = last_told (ends_at hops p) m v l (sym is) in
      let both = both_true (slice_get p l) (slice_get hops l) v told.1 in
      ((let less = told.0 in omega arith), both.0, both.1, both.2)

  pub place_within : (v l nodes : ℕ) → AreBelow nodes hops → IsPlace hops p n v (Some l) → other_end hops l v < nodes
  place_within v l nodes below place =
      let link = place_link v l place in
      subst (λ (o : Option Hop). across o v < nodes) (sym link.3)
      (across_within nodes v link.2 (below.tails l link.2 link.3) (below.heads l link.2 link.3) (eqb link.2.tail v))

  -- ---- a step along a path
  pub stepped : (v k x : ℕ) (o : Option ℕ) (y : ℕ) (r : Option ℕ) (after : Place) → On v k x o y r → GoesBy hops p n v x o (Some after)
      → ((x ≡ y) × (o ≡ r)) ⊎ ((j : ℕ) × (suc j ≡ k) × On v j after.node after.link y r × Joined v after.node)
  stepped v zero x o y r after path goes = inl path
  stepped v (suc k) x None y r after path goes = inr (
    k,
    refl,
    subst (λ (q : Option ℕ). On v k after.node q y r) (sym goes.2) (subst (λ (h : ℕ). On v k h (last n x) y r) (sym goes.1) path.2),
    subst (λ (h : ℕ). Joined v h) (sym goes.1) path.1,
  )
  stepped v (suc k) x (Some l) y r after path goes = inr (
    k,
    refl,
    subst (λ (q : Option ℕ). On v k after.node q y r) (sym goes.1) (subst (λ (h : ℕ). On v k h (last l (other_end hops l x)) y r) (sym goes.0) path.1),
    subst (λ (h : ℕ). Joined v h) (sym goes.0) path.0,
  )

  at_end : (v x : ℕ) (o : Option ℕ) (after : Place) → x ≡ v → o ≡ None → GoesBy hops p n v x o (Some after) → ⊥
  at_end v x None after same none goes = goes.0 same
  at_end v x (Some l) after same none goes = none-some l (sym none)

  pub ended : (v x : ℕ) (o : Option ℕ) → GoesBy hops p n v x o None → (x ≡ v) × (o ≡ None)
  ended v x None goes = (goes, refl)
  ended v x (Some l) goes = absurd goes

  -- The path continues to its end.
  pub to_end : (v k x : ℕ) (o : Option ℕ) (after : Place) → On v k x o v None → GoesBy hops p n v x o (Some after)
      → (j : ℕ) × (suc j ≡ k) × On v j after.node after.link v None × Joined v after.node
  to_end v k x o after path goes = ⊎_elim
      (λ (e : (x ≡ v) × (o ≡ None)). absurd (at_end v x o after e.0 e.1 goes))
      (λ (w : (j : ℕ) × (suc j ≡ k) × On v j after.node after.link v None × Joined v after.node). w)
      (stepped v k x o v None after path goes)

  -- The path continues to another node that it has not reached.
  abbrev pub Meets : ℕ → ℕ → ℕ → Option ℕ → Type 0
  Meets v w x o = Joined v w → (k : ℕ) × On v k x o w None

  pub to_other : (v w x : ℕ) (o : Option ℕ) (after : Place) → x ≢ w → Meets v w x o → GoesBy hops p n v x o (Some after) → Meets v w after.node after.link
  to_other v w x o after differ meets goes j =
      let way = meets j in
      ⊎_elim
      (λ (e : (x ≡ w) × (o ≡ None)). absurd (differ e.0))
      (λ (s : (j : ℕ) × (suc j ≡ way.0) × On v j after.node after.link w None × Joined v after.node). (s.0, s.2))
      (stepped v way.0 x o w None after way.1 goes)

  none_left : (v w k : ℕ) → v ≢ w → On v k v None w None → ⊥
  none_left v w zero differ path = differ path.0
  none_left v w (suc k) differ path = path.0 refl

  -- The path is at its end, and has not reached the other node.
  pub not_joined : (v w x : ℕ) (o : Option ℕ) → v ≢ w → Meets v w x o → GoesBy hops p n v x o None → Joined v w → ⊥
  not_joined v w x o differ meets goes j =
      let way = meets j in let e = ended v x o goes in
      none_left v w way.0 differ (subst (λ (q : Option ℕ). On v way.0 v q w None) e.1 (subst (λ (h : ℕ). On v way.0 h o w None) e.0 way.1))

  -- ---- the number of steps left
  abbrev pub left : ℕ → ℕ → ℕ → Option ℕ → ℕ
  left v zero x o = zero
  left v (suc k) x None = if eqb x v then zero else suc (left v k x (last n x))
  left v (suc k) x (Some l) = suc (left v k (other_end hops l x) (last l (other_end hops l x)))

  left_none : (v f x : ℕ) (o : Option ℕ) → x ≡ v → o ≡ None → left v f x o ≡ zero
  left_none v zero x o same none = refl
  left_none v (suc f) x None same none = ap (λ (b : Bool). if b then zero else suc (left v f x (last n x))) (subst (λ (h : ℕ). eqb x h ≡ true) same (same_true x))
  left_none v (suc f) x (Some l) same none = absurd (none-some l (sym none))

  pub left_is : (v k f x : ℕ) (o : Option ℕ) → k ≤ f → On v k x o v None → left v f x o ≡ k
  left_is v zero f x o few path = left_none v f x o path.0 path.1
  left_is v (suc k) zero x o few path = absurd (omega arith)
  left_is v (suc k) (suc f) x None few path = ap (λ (b : Bool). if b then zero else suc (left v f x (last n x))) (ne_eqb x v path.0)
      ∙ ap suc (left_is v k f x (last n x) (omega arith) path.2)
  left_is v (suc k) (suc f) x (Some l) few path = ap suc (left_is v k f (other_end hops l x) (last l (other_end hops l x)) (omega arith) path.1)

  -- The steps of a whole traversal.
  abbrev Clear : Type 0
  Clear = ((e : ℕ) × (e < n) × Closes hops p e) ⊎ ((e : ℕ) → e < n → Closes hops p e → ⊥)

  steps_by : (v : ℕ) → Clear → ℕ
  steps_by v (inl bad) = zero
  steps_by v (inr clear) = (comes hops p n clear v v ([], refl)).0

  pub whole : ℕ → ℕ
  whole v = steps_by v (decide_below (λ e. Closes hops p e) (decide_closes hops p) n)

  steps_end : (v : ℕ) → NoneCloses hops p n → (d : Clear) → On v (steps_by v d) v (last n v) v None
  unfolding steps_by
  steps_end v clear (inl bad) = absurd (clear bad.0 bad.1 bad.2)
  steps_end v clear (inr other) = (comes hops p n other v v ([], refl)).1

  pub whole_ends : (v : ℕ) → NoneCloses hops p n → On v (whole v) v (last n v) v None
  unfolding whole
  whole_ends v clear = steps_end v clear (decide_below (λ e. Closes hops p e) (decide_closes hops p) n)

  -- A traversal at its start.
  pub meets_first : (v w : ℕ) → NoneCloses hops p n → Meets v w v (last n v)
  meets_first v w clear j = comes hops p n clear v w j

  pub goes_anew : (start v : ℕ) (o : Option ℕ) (after : Place) → o ≡ None → v ≢ start → after.node ≡ v → after.link ≡ last n v → GoesBy hops p n start v o (Some after)
  goes_anew start v o after none differ node link = subst (λ (q : Option ℕ). GoesBy hops p n start v q (Some after)) (sym none) (differ, node, link)

  pub read_last : {ends tails heads : List (Option ℕ)} → IsWalkable hops p n ends tails heads → (v i : ℕ) (found : Option ℕ) → v < length ends → i ≡ v
      → found ≡ get_or ends i found → found ≡ last n v
  read_last {ends} chains v i found within at read = same_Some found (last n v)
      (ap (λ (o : Option ℕ). Some o) (read ∙ ap (λ (k : ℕ). get_or ends k found) at) ∙ (sym (slice_get-get_or ends v found within) ∙ chains.last_is v within))

  -- ---- the position of a traversal that has not reached node w
  pub record Stands (v w nodes x : ℕ) (o : Option ℕ) : Type 0 where
    pub place : IsPlace hops p n x o
    pub within : x < nodes
    pub ending : (k : ℕ) × (k ≤ whole v) × On v k x o v None
    pub meets : Meets v w x o
    pub apart : x ≢ w

  pub stands_first : (v w nodes : ℕ) (o : Option ℕ) → NoneCloses hops p n → o ≡ last n v → v < nodes → v ≢ w → Stands v w nodes v o
  stands_first v w nodes o clear is within differ = record {
    place = (n, omega arith, is);
    within = within;
    ending = (whole v, omega arith, subst (λ (q : Option ℕ). On v (whole v) v q v None) (sym is) (whole_ends v clear));
    meets = λ j. subst (λ (q : Option ℕ). (k : ℕ) × On v k v q w None) (sym is) (meets_first v w clear j);
    apart = differ;
  }

  module _ (v w nodes x : ℕ) (o : Option ℕ) (stands : Stands v w nodes x o) where
    module _ (after : Place) (goes : GoesBy hops p n v x o (Some after)) where
      -- its next node is joined
      pub next_joined : Joined v after.node
      next_joined = (to_end v stands.ending.0 x o after stands.ending.2 goes).3

      pub stands_next : IsPlace hops p n after.node after.link → after.node < nodes → after.node ≢ w → Stands v w nodes after.node after.link
      stands_next place within differ =
          let rest = to_end v stands.ending.0 x o after stands.ending.2 goes in record {
            place = place;
            within = within;
            ending = (rest.0, (let few = stands.ending.1 in let one = rest.1 in omega arith), rest.2);
            meets = to_other v w x o after stands.apart stands.meets goes;
            apart = differ;
          }

      pub fewer_left : left v (whole v) after.node after.link < left v (whole v) x o
      fewer_left =
          let rest = to_end v stands.ending.0 x o after stands.ending.2 goes in
          let few = stands.ending.1 in let one = rest.1 in
          let now = left_is v stands.ending.0 (whole v) x o few stands.ending.2 in
          let then_left = left_is v rest.0 (whole v) after.node after.link (omega arith) rest.2 in
          omega arith

    pub stands_end : v ≢ w → GoesBy hops p n v x o None → Joined v w → ⊥
    stands_end differ goes j = not_joined v w x o differ stands.meets goes j
