-- The forest traversal reaches each node that Tight links join with its start.
use Rattle.std.proofs.Common.{◌≡◌, ◌≢◌, ℕ, zero, suc, inl, inr, ◌⊎◌, ⊎_elim, Bool, true, false, ◌&&◌, ◌||◌, eqb, List, [], ◌∷◌, Option, Some, None}
use Rattle.std.proofs.Common.{slice_get, refl, sym, ap, subst, ◌∙◌, arith, if◌then◌else◌}
use Rattle.nf_pattern.proofs.Common.{eqb_tells, ne_eqb, State, Tight, Full, Zero, Hop, IsHop, Pattern, HasState, IsTrail, IsHop-unique, AreJoined}
use Rattle.nf_pattern.proofs.Common.{TightBefore, NoneCloses, last_at, Path, is_tight, ends_by, ends_at, across, other_end}
use Rattle.std.proofs.Math.Bool.{or-true}
use Rattle.nf_pattern.proofs.Trails.{Steps, joined_on, joined_by, joined_turned, joined_along}
use Rattle.nf_pattern.proofs.Deciding.{decide_state, hop_at, joins_over, decide_joined}
use Rattle.nf_pattern.proofs.Wall.{idle, same_side, other_side}

pub same_true : (x : ℕ) → eqb x x ≡ true
same_true x = ⊎_elim (λ (t : (eqb x x ≡ true) × (x ≡ x)). t.0) (λ (t : (eqb x x ≡ false) × (x ≢ x)). absurd (t.1 refl)) (eqb_tells x x)

module _ (hops : List Hop) (p : Pattern) where
  abbrev Joined : ℕ → ℕ → ℕ → Type 0
  Joined n v w = AreJoined hops (TightBefore p n) v w

  abbrev Over : ℕ → Hop → ℕ → ℕ → Type 0
  Over n hop v w = (Joined n v hop.tail × Joined n hop.head w) ⊎ (Joined n v hop.head × Joined n hop.tail w)

  abbrev pub Way : ℕ → ℕ → ℕ → Option ℕ → ℕ → Option ℕ → Type 0
  Way n v x o y r = (k : ℕ) × Path (ends_at hops p) (other_end hops) Joined n v k x o y r

  abbrev last : ℕ → ℕ → Option ℕ
  last n v = last_at (ends_at hops p) n v

  back : (n v w : ℕ) → Joined n v w → Joined n w v
  back n v w j = joined_turned hops (TightBefore p n) v w j

  through : (n v w x : ℕ) → Joined n v w → Joined n w x → Joined n v x
  through n v w x j k = joined_on hops (TightBefore p n) v w x j k

  wider : (n v w : ℕ) → Joined n v w → Joined (suc n) v w
  wider n v w j = joined_by hops (TightBefore p n) (TightBefore p (suc n)) v w (λ k t. (let l = t.0 in omega arith, t.1)) j

  itself : (n v : ℕ) → Joined n v v
  itself n v = ([], refl)

  -- ---- where a link ends
  pub ends_told : (n : ℕ) (hop : Hop) (x : ℕ) → HasState p n Tight → IsHop hops n hop → ends_at hops p n x ≡ (eqb hop.tail x || eqb hop.head x)
  ends_told n hop x tight is = ap (λ (s : Option (Option State)). is_tight s && ends_by (slice_get hops n) x) tight ∙ ap (λ (o : Option Hop). ends_by o x) is

  pub ends_tail : (n : ℕ) (hop : Hop) → HasState p n Tight → IsHop hops n hop → ends_at hops p n hop.tail ≡ true
  ends_tail n hop tight is = ends_told n hop hop.tail tight is ∙ ap (λ (b : Bool). b || eqb hop.head hop.tail) (same_true hop.tail)

  pub ends_head : (n : ℕ) (hop : Hop) → HasState p n Tight → IsHop hops n hop → ends_at hops p n hop.head ≡ true
  ends_head n hop tight is = ends_told n hop hop.head tight is ∙ (ap (λ (b : Bool). eqb hop.tail hop.head || b) (same_true hop.head) ∙ or-true (eqb hop.tail hop.head))

  pub ends_only : (n : ℕ) (hop : Hop) → HasState p n Tight → IsHop hops n hop → (x : ℕ) → x ≢ hop.tail → x ≢ hop.head → ends_at hops p n x ≡ false
  ends_only n hop tight is x no_tail no_head = ends_told n hop x tight is
      ∙ (ap (λ (b : Bool). b || eqb hop.head x) (ne_eqb hop.tail x (λ e. no_tail (sym e))) ∙ ne_eqb hop.head x (λ e. no_head (sym e)))

  not_tight : (s : Option (Option State)) → (s ≡ Some (Some Tight) → ⊥) → is_tight s ≡ false
  not_tight None none = refl
  not_tight (Some None) none = refl
  not_tight (Some (Some Tight)) none = absurd (none refl)
  not_tight (Some (Some Full)) none = refl
  not_tight (Some (Some Zero)) none = refl

  pub ends_loose : (n x : ℕ) → (HasState p n Tight → ⊥) → ends_at hops p n x ≡ false
  ends_loose n x none = ap (λ (b : Bool). b && ends_by (slice_get hops n) x) (not_tight (slice_get p n) none)

  pub from_tail : (n : ℕ) (hop : Hop) → IsHop hops n hop → other_end hops n hop.tail ≡ hop.head
  from_tail n hop is = ap (λ (o : Option Hop). across o hop.tail) is ∙ ap (λ (b : Bool). if b then hop.head else hop.tail) (same_true hop.tail)

  pub from_head : (n : ℕ) (hop : Hop) → IsHop hops n hop → hop.tail ≢ hop.head → other_end hops n hop.head ≡ hop.tail
  from_head n hop is differ = ap (λ (o : Option Hop). across o hop.head) is ∙ ap (λ (b : Bool). if b then hop.head else hop.tail) (ne_eqb hop.tail hop.head differ)

  -- ---- one link more
  module _ (n : ℕ) (clear : NoneCloses hops p (suc n)) (comes : (v u : ℕ) → Joined n v u → Way n v v (last n v) u None) where
    loose : (HasState p n Tight → ⊥) → (v u : ℕ) → Joined (suc n) v u → Way (suc n) v v (last (suc n) v) u None
    loose none v u j = idle (ends_at hops p) (other_end hops) Joined back through wider itself n v u (λ x k. ends_loose n x none)
        (comes v u (⊎_elim
        (λ (k : Joined n v u). k)
        (λ (x : (hop : Hop) × IsHop hops n hop × HasState p n Tight × Over n hop v u). absurd (none x.2))
        (joins_over hops p n v u j)))

    module _ (tight : HasState p n Tight) (hop : Hop) (is : IsHop hops n hop) where
      apart : Joined n hop.tail hop.head → ⊥
      apart j = clear n (omega arith) (tight, record { hop = hop; is_hop = is; joined = back n hop.tail hop.head j })

      differ : hop.tail ≢ hop.head
      differ same = apart (subst (λ (h : ℕ). Joined n hop.tail h) same (itself n hop.tail))

      link : Joined (suc n) hop.tail hop.head
      link = joined_along hops (TightBefore p (suc n)) n hop is (omega arith, tight)

      newly : (v u : ℕ) → Joined (suc n) v u → Joined n v u ⊎ Over n hop v u
      newly v u j = ⊎_elim
          (λ (k : Joined n v u). inl k)
          (λ (x : (other : Hop) × IsHop hops n other × HasState p n Tight × Over n other v u). inr (subst (λ (h : Hop). Over n h v u) (IsHop-unique hops n x.0 hop x.1 is) x.3))
          (joins_over hops p n v u j)

      from_tails : (v u : ℕ) → Joined n v hop.tail → Joined (suc n) v u → Way (suc n) v v (last (suc n) v) u None
      from_tails v u near j = ⊎_elim
          (λ (k : Joined n v u). same_side (ends_at hops p) (other_end hops) Joined back through wider itself n hop.tail hop.head (ends_tail n hop tight is) (ends_head n hop tight is)
          (ends_only n hop tight is) (from_tail n hop is) (from_head n hop is differ) apart link comes v near u k)
          (λ (o : Over n hop v u). ⊎_elim
          (λ (x : Joined n v hop.tail × Joined n hop.head u). other_side (ends_at hops p)
          (other_end hops) Joined back through wider itself n hop.tail hop.head (ends_tail n hop tight is) (ends_head n hop tight is)
          (ends_only n hop tight is) (from_tail n hop is) (from_head n hop is differ) apart link comes v near u x.1)
          (λ (x : Joined n v hop.head × Joined n hop.tail u). absurd (apart (through n hop.tail v hop.head (back n v hop.tail near) x.0))) o)
          (newly v u j)

      from_heads : (v u : ℕ) → Joined n v hop.head → Joined (suc n) v u → Way (suc n) v v (last (suc n) v) u None
      from_heads v u near j = ⊎_elim
          (λ (k : Joined n v u). same_side (ends_at hops p) (other_end hops) Joined back through wider itself n hop.head hop.tail (ends_head n hop tight is) (ends_tail n hop tight is)
          (λ x no_head no_tail. ends_only n hop tight is x no_tail no_head) (from_head n hop is differ) (from_tail n hop is)
          (λ h. apart (back n hop.head hop.tail h)) (back (suc n) hop.tail hop.head link) comes v near u k)
          (λ (o : Over n hop v u). ⊎_elim
          (λ (x : Joined n v hop.tail × Joined n hop.head u). absurd (apart (through n hop.tail v hop.head (back n v hop.tail x.0) near)))
          (λ (x : Joined n v hop.head × Joined n hop.tail u). other_side (ends_at hops p)
          (other_end hops) Joined back through wider itself n hop.head hop.tail (ends_head n hop tight is) (ends_tail n hop tight is)
          (λ x no_head no_tail. ends_only n hop tight is x no_tail no_head) (from_head n hop is differ) (from_tail n hop is)
          (λ h. apart (back n hop.head hop.tail h)) (back (suc n) hop.tail hop.head link) comes v near u x.1) o)
          (newly v u j)

      from_neither : (v u : ℕ) → (Joined n v hop.tail → ⊥) → (Joined n v hop.head → ⊥) → Joined (suc n) v u → Way (suc n) v v (last (suc n) v) u None
      from_neither v u no_tail no_head j = ⊎_elim
          (λ (k : Joined n v u). idle (ends_at hops p) (other_end hops) Joined back through wider itself n v u
          (λ x m. ends_only n hop tight is x (λ same. no_tail (subst (λ (h : ℕ). Joined n v h) same m)) (λ same. no_head (subst (λ (h : ℕ). Joined n v h) same m))) (comes v u k))
          (λ (o : Over n hop v u). ⊎_elim (λ (x : Joined n v hop.tail × Joined n hop.head u). absurd (no_tail x.0))
          (λ (x : Joined n v hop.head × Joined n hop.tail u). absurd (no_head x.0)) o)
          (newly v u j)

      joins : (v u : ℕ) → Joined (suc n) v u → Way (suc n) v v (last (suc n) v) u None
      joins v u j = ⊎_elim
          (λ (near : Joined n v hop.tail). from_tails v u near j)
          (λ (no_tail : Joined n v hop.tail → ⊥). ⊎_elim
          (λ (near : Joined n v hop.head). from_heads v u near j)
          (λ (no_head : Joined n v hop.head → ⊥). from_neither v u no_tail no_head j)
          (decide_joined hops p n v hop.head))
          (decide_joined hops p n v hop.tail)

    more : (v u : ℕ) → Joined (suc n) v u → Way (suc n) v v (last (suc n) v) u None
    more v u j = ⊎_elim
        (λ (tight : HasState p n Tight). ⊎_elim
        (λ (h : (hop : Hop) × IsHop hops n hop). joins tight h.0 h.1 v u j)
        (λ (none : (hop : Hop) → IsHop hops n hop → ⊥). hopless none)
        (hop_at hops n))
        (λ (none : HasState p n Tight → ⊥). loose none v u j)
        (decide_state p n Tight)
      where
        hopless : ((hop : Hop) → IsHop hops n hop → ⊥) → Way (suc n) v v (last (suc n) v) u None
        hopless none = idle (ends_at hops p) (other_end hops) Joined back through wider itself n v u (λ x k. no_ends x)
            (comes v u (⊎_elim
            (λ (k : Joined n v u). k)
            (λ (x : (hop : Hop) × IsHop hops n hop × HasState p n Tight × Over n hop v u). absurd (none x.0 x.1))
            (joins_over hops p n v u j)))
          where
            by_hop : (o : Option Hop) (t : Bool) (x : ℕ) → ((hop : Hop) → o ≡ Some hop → ⊥) → (t && ends_by o x) ≡ false
            by_hop None true x n = refl
            by_hop None false x n = refl
            by_hop (Some hop) t x n = absurd (n hop refl)

            no_ends : (x : ℕ) → ends_at hops p n x ≡ false
            no_ends x = by_hop (slice_get hops n) (is_tight (slice_get p n)) x none

  nothing : (s : Steps) (v u : ℕ) → IsTrail hops (TightBefore p zero) s v u → v ≡ u
  nothing [] v u q = q
  nothing ((e, d) ∷ s) v u q = let l = q.2.0 in absurd (omega arith)

  -- From the start, before its end, the traversal reaches the end of the chain of each joined node; and it reaches its own end.
  pub comes : (n : ℕ) → NoneCloses hops p n → (v u : ℕ) → Joined n v u → Way n v v (last n v) u None
  comes zero clear v u j = (zero, (nothing j.0 v u j.1, refl))
  comes (suc n) clear v u j = more n clear (comes n (λ e less. clear e (omega arith))) v u j
