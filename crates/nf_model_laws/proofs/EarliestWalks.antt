-- Least labels along walks, whatever it takes to cross a hop: earliest arrivals and least transit sums are two cases of it.
use Rattle.std.proofs.Common.{◌≡◌, ◌≢◌, ℕ, ◌<◌, List, [], ◌∷◌, ◌++◌, ◌⊎◌, inl, inr, ⊎_elim, true, false, eqb, sym, ap, subst, refl}
use Rattle.nf_model_laws.proofs.Common.{eqb_tells, ℚ, 0ℚ, ◌+ℚ◌, ◌≤ℚ◌, ◌<ℚ◌, reading_of, ≤ℚ_of_same, ≤ℚ_antisymm, le, lt, linear_le, linear_false, Hop, IsHop}
use Rattle.nf_model_laws.proofs.Common.{IsWalk, transit_of, transit_sum, ≤ℚ_trans, plus_zero_le, first_of_sum}
use Rattle.nf_model_laws.proofs.Ways.{way_back}
use Rattle.nf_model_laws.proofs.Networks.{transit_of-hop, IsWalk-append}

-- ---- what is said of labels, hop by hop. `Cross e time exit`: who enters hop e at this time leaves it at that one

-- The label of the source is the departure. No hop into another node is left before its head's label, by who enters it at its
-- tail's label; and into each other node leads one that is left just then.
pub record AreLabelsBy (hops : List Hop) (nodes source : ℕ) (Cross : ℕ → ℚ → ℚ → Type 0) (departure : ℚ) (label : ℕ → ℚ) : Type 0 where
  pub starts : label source ≡ departure
  pub not_before : (e : ℕ) (hop : Hop) → IsHop hops e hop → hop.head ≢ source → (exit : ℚ) × Cross e (label hop.tail) exit × (label hop.head ≤ℚ exit)
  pub entered : (v : ℕ) → v < nodes → v ≢ source → (e : ℕ) × (hop : Hop) × IsHop hops e hop × (hop.head ≡ v) × Cross e (label hop.tail) (label hop.head)

-- crossing takes the transit time at least, and keeps the order of time
pub record CanCross (hops : List Hop) (Cross : ℕ → ℚ → ℚ → Type 0) : Type 0 where
  pub takes : (e : ℕ) (hop : Hop) (time exit : ℚ) → IsHop hops e hop → Cross e time exit → time +ℚ hop.transit ≤ℚ exit
  pub keeps : (e : ℕ) (hop : Hop) (s t x y : ℚ) → IsHop hops e hop → s ≤ℚ t → Cross e s x → Cross e t y → x ≤ℚ y

-- hops between these nodes, whose transit times are not negative, and round a cycle above 0
pub record AreHops (hops : List Hop) (nodes : ℕ) : Type 0 where
  pub tails : (e : ℕ) (hop : Hop) → IsHop hops e hop → hop.tail < nodes
  pub heads : (e : ℕ) (hop : Hop) → IsHop hops e hop → hop.head < nodes
  pub transits : (e : ℕ) (hop : Hop) → IsHop hops e hop → 0ℚ ≤ℚ hop.transit
  pub cycles : (e : ℕ) (walk : List ℕ) (v : ℕ) → IsWalk hops (e ∷ walk) v v → 0ℚ <ℚ transit_sum hops (e ∷ walk)

-- who begins a walk at this time ends it at that one
abbrev pub Comes : (ℕ → ℚ → ℚ → Type 0) → List ℕ → ℚ → ℚ → Type 0
Comes Cross [] time arrival = time ≡ arrival
Comes Cross (e ∷ walk) time arrival = (exit : ℚ) × Cross e time exit × Comes Cross walk exit arrival

-- the least arrival at a node over all walks from the source
pub record IsFirst (hops : List Hop) (source : ℕ) (Cross : ℕ → ℚ → ℚ → Type 0) (v : ℕ) (departure arrival : ℚ) : Type 0 where
  pub taken : (walk : List ℕ) × IsWalk hops walk source v × Comes Cross walk departure arrival
  pub least : (walk : List ℕ) (other : ℚ) → IsWalk hops walk source v → Comes Cross walk departure other → arrival ≤ℚ other

Comes-append : (Cross : ℕ → ℚ → ℚ → Type 0) (walk : List ℕ) (e : ℕ) (time between exit : ℚ) → Comes Cross walk time between → Cross e between exit
    → Comes Cross (walk ++ e ∷ []) time exit
Comes-append Cross [] e time between exit c p = (exit, subst (λ (t : ℚ). Cross e t exit) (sym c) p, refl)
Comes-append Cross (f ∷ walk) e time between exit c p = (c.0, c.1, Comes-append Cross walk e c.0 between exit c.2 p)

-- the last hop of a walk
abbrev LastHop : List Hop → (ℕ → ℚ → ℚ → Type 0) → ℕ → ℕ → ℚ → ℚ → Type 0
LastHop hops Cross u v time arrival =
    (e : ℕ) × (hop : Hop) × (front : List ℕ) × (between : ℚ) × IsHop hops e hop × (hop.head ≡ v) × IsWalk hops front u hop.tail × Comes Cross front time between × Cross e between arrival

last_hop : (hops : List Hop) (Cross : ℕ → ℚ → ℚ → Type 0) (e : ℕ) (walk : List ℕ) (u v : ℕ) (time arrival : ℚ) → IsWalk hops (e ∷ walk) u v
    → Comes Cross (e ∷ walk) time arrival → LastHop hops Cross u v time arrival
last_hop hops Cross e [] u v time arrival w c = (e, w.0, [], time, w.1, w.3, sym w.2, refl, subst (λ (t : ℚ). Cross e time t) c.2 c.1)
last_hop hops Cross e (f ∷ walk) u v time arrival w c =
    let r : LastHop hops Cross w.0.head v c.0 arrival = last_hop hops Cross f walk w.0.head v c.0 arrival w.3 c.2 in
    (r.0, r.1, e ∷ r.2, r.3, r.4, r.5, (w.0, w.1, w.2, r.6), (c.0, c.1, r.7), r.8)

-- ---- steps over plain numbers
more_time : (a b c r l : ℚ) → a +ℚ r ≤ℚ b → b +ℚ l ≤ℚ c → a +ℚ (r +ℚ l) ≤ℚ c
more_time a b c r l h k = linear_le (a ∷ b ∷ c ∷ r ∷ l ∷ []) (le h ∷ le k ∷ []) (search reading_of) tt

pub no_loop : (a l : ℚ) → a +ℚ l ≤ℚ a → 0ℚ <ℚ l → ⊥
no_loop a l h k = linear_false (a ∷ l ∷ []) (le h ∷ lt k ∷ []) (search reading_of) tt

-- walks go forward in time
module _ (hops : List Hop) (nodes : ℕ) (Cross : ℕ → ℚ → ℚ → Type 0) (good : AreHops hops nodes) (can : CanCross hops Cross) where
  pub goes_forward : (e : ℕ) (hop : Hop) (t x : ℚ) → IsHop hops e hop → Cross e t x → t ≤ℚ x
  goes_forward e hop t x p c = first_of_sum t hop.transit x (good.transits e hop p) (can.takes e hop t x p c)

  pub walks_forward : (walk : List ℕ) (u v : ℕ) (t a : ℚ) → IsWalk hops walk u v → Comes Cross walk t a → t ≤ℚ a
  walks_forward [] u v t a w c = ≤ℚ_of_same _ _ c
  walks_forward (e ∷ walk) u v t a w c = ≤ℚ_trans _ _ _ (goes_forward e w.0 t c.0 w.1 c.1) (walks_forward walk w.0.head v c.0 a w.3 c.2)

  pub IsFirst-forward : (source v : ℕ) (departure arrival : ℚ) → IsFirst hops source Cross v departure arrival → departure ≤ℚ arrival
  IsFirst-forward source v departure arrival f = walks_forward f.taken.0 source v departure arrival f.taken.1 f.taken.2

module _ (hops : List Hop) (nodes source : ℕ) (Cross : ℕ → ℚ → ℚ → Type 0) (departure : ℚ) (label : ℕ → ℚ) (good : AreHops hops nodes) (can : CanCross hops Cross) where
  -- ---- labels that are right hop by hop are least
  module _ (labels : AreLabelsBy hops nodes source Cross departure label) where
    -- walks along which each exit is the next label
    abbrev IsTight : List ℕ → ℕ → ℕ → Type 0
    IsTight [] u v = u ≡ v
    IsTight (e ∷ walk) u v = (hop : Hop) × IsHop hops e hop × (hop.tail ≡ u) × Cross e (label hop.tail) (label hop.head) × IsTight walk hop.head v

    IsTight-walk : (walk : List ℕ) (u v : ℕ) → IsTight walk u v → IsWalk hops walk u v
    IsTight-walk [] u v t = t
    IsTight-walk (e ∷ walk) u v t = (t.0, t.1, t.2, IsTight-walk walk t.0.head v t.4)

    IsTight-comes : (walk : List ℕ) (u v : ℕ) → IsTight walk u v → Comes Cross walk (label u) (label v)
    IsTight-comes [] u v t = ap label t
    IsTight-comes (e ∷ walk) u v t = (label t.0.head, subst (λ (k : ℕ). Cross e (label k) (label t.0.head)) t.2 t.3, IsTight-comes walk t.0.head v t.4)

    IsTight-sum : (walk : List ℕ) (u v : ℕ) → IsTight walk u v → label u +ℚ transit_sum hops walk ≤ℚ label v
    IsTight-sum [] u v t = plus_zero_le _ _ (ap label t)
    IsTight-sum (e ∷ walk) u v t = more_time (label u) (label t.0.head) (label v) (transit_of hops e) (transit_sum hops walk)
        (subst (λ (r : ℚ). label u +ℚ r ≤ℚ label t.0.head) (sym (transit_of-hop hops e t.0 t.1))
        (subst (λ (k : ℕ). label k +ℚ t.0.transit ≤ℚ label t.0.head) t.2 (can.takes e t.0 (label t.0.tail) (label t.0.head) t.1 t.3)))
        (IsTight-sum walk t.0.head v t.4)

    IsTight-open : (e : ℕ) (walk : List ℕ) (v : ℕ) → IsTight (e ∷ walk) v v → ⊥
    IsTight-open e walk v t = no_loop (label v) (transit_sum hops (e ∷ walk)) (IsTight-sum (e ∷ walk) v v t) (good.cycles e walk v (IsTight-walk (e ∷ walk) v v t))

    abbrev Way : ℕ → ℕ → Type 0
    Way u v = (walk : List ℕ) × IsTight walk u v

    abbrev StepBack : ℕ → Type 0
    StepBack v = (u : ℕ) × (u < nodes) × Unit {0} × ((w : ℕ) → Way v w → Way u w) × (Way v u → ⊥)

    step_back : (v : ℕ) → v < nodes → Unit {0} → (v ≡ source) ⊎ StepBack v
    step_back v h _ = ⊎_elim
        (λ (e : (eqb v source ≡ true) × (v ≡ source)). inl e.1)
        (λ (e : (eqb v source ≡ false) × (v ≢ source)). inr (by_hop (labels.entered v h e.1)))
        (eqb_tells v source)
      where
        by_hop : (e : ℕ) × (hop : Hop) × IsHop hops e hop × (hop.head ≡ v) × Cross e (label hop.tail) (label hop.head) → StepBack v
        by_hop x = (
          x.1.tail,
          good.tails x.0 x.1 x.2,
          tt,
          (λ w way. (x.0 ∷ way.0, (x.1, x.2, refl, x.4, subst (λ (k : ℕ). IsTight way.0 k w) (sym x.3) way.1))),
          (λ way. IsTight-open x.0 way.0 x.1.tail (x.1, x.2, refl, x.4, subst (λ (k : ℕ). IsTight way.0 k x.1.tail) (sym x.3) way.1)),
        )

    tight_way : (v : ℕ) → v < nodes → Way source v
    tight_way v h =
        let r : (u : ℕ) × (u ≡ source) × Way u v = way_back nodes (λ _. Unit {0}) (λ u. u ≡ source) Way (λ v. ([], refl)) step_back v h tt in
        subst (λ (u : ℕ). Way u v) r.1 r.2

    not_before : (v : ℕ) → v < nodes → label source ≤ℚ label v
    not_before v h = let w : Way source v = tight_way v h in walks_forward hops nodes Cross good can w.0 source v (label source) (label v)
        (IsTight-walk w.0 source v w.1) (IsTight-comes w.0 source v w.1)

    -- who enters a hop no earlier than its tail's label leaves it no earlier than its head's
    one_hop : (e : ℕ) (hop : Hop) (a x : ℚ) → IsHop hops e hop → label hop.tail ≤ℚ a → Cross e a x → label hop.head ≤ℚ x
    one_hop e hop a x p h c = ⊎_elim
        (λ (q : (eqb hop.head source ≡ true) × (hop.head ≡ source)). subst (λ (k : ℕ). label k ≤ℚ x) (sym q.1)
        (≤ℚ_trans _ _ _ (not_before hop.tail (good.tails e hop p)) (≤ℚ_trans _ _ _ h (goes_forward hops nodes Cross good can e hop a x p c))))
        (λ (q : (eqb hop.head source ≡ false) × (hop.head ≢ source)).
        let o : (exit : ℚ) × Cross e (label hop.tail) exit × (label hop.head ≤ℚ exit) = labels.not_before e hop p q.1 in
        ≤ℚ_trans _ _ _ o.2 (can.keeps e hop (label hop.tail) a o.0 x p h o.1 c))
        (eqb_tells hop.head source)

    no_earlier : (walk : List ℕ) (u v : ℕ) (a b : ℚ) → IsWalk hops walk u v → label u ≤ℚ a → Comes Cross walk a b → label v ≤ℚ b
    no_earlier [] u v a b w h c = subst (λ (k : ℕ). label k ≤ℚ b) w (subst (λ (t : ℚ). label u ≤ℚ t) c h)
    no_earlier (e ∷ walk) u v a b w h c =
        no_earlier walk w.0.head v c.0 b w.3 (one_hop e w.0 a c.0 w.1 (subst (λ (k : ℕ). label k ≤ℚ a) (sym w.2) h) c.1) c.2

    pub IsFirst-label : (v : ℕ) → v < nodes → IsFirst hops source Cross v departure (label v)
    IsFirst-label v h = let way : Way source v = tight_way v h in record {
      taken = (way.0, IsTight-walk way.0 source v way.1, subst (λ (t : ℚ). Comes Cross way.0 t (label v)) labels.starts (IsTight-comes way.0 source v way.1));
      least = λ walk other w c. no_earlier walk source v departure other w (≤ℚ_of_same _ _ labels.starts) c;
    }

  -- ---- least labels are right hop by hop, where hops can be entered at them
  module _ (inside : source < nodes) (exits : (e : ℕ) (hop : Hop) → IsHop hops e hop → hop.head ≢ source → (exit : ℚ) × Cross e (label hop.tail) exit)
      (first : (v : ℕ) → v < nodes → IsFirst hops source Cross v departure (label v)) where
    first_starts : label source ≡ departure
    first_starts =
        let f : IsFirst hops source Cross source departure (label source) = first source inside in
        ≤ℚ_antisymm _ _ (f.least [] departure refl refl) (IsFirst-forward hops nodes Cross good can source source departure (label source) f)

    -- one may go on along a hop from the least label of its tail
    over_hop : (e : ℕ) (hop : Hop) (exit : ℚ) → IsHop hops e hop → Cross e (label hop.tail) exit → label hop.head ≤ℚ exit
    over_hop e hop exit p c =
        let f : IsFirst hops source Cross hop.tail departure (label hop.tail) = first hop.tail (good.tails e hop p) in
        (first hop.head (good.heads e hop p)).least (f.taken.0 ++ e ∷ []) exit (IsWalk-append hops f.taken.0 source e hop f.taken.1 p)
        (Comes-append Cross f.taken.0 e departure (label hop.tail) exit f.taken.2 c)

    abbrev Entry : ℕ → Type 0
    Entry v = (e : ℕ) × (hop : Hop) × IsHop hops e hop × (hop.head ≡ v) × Cross e (label hop.tail) (label hop.head)

    -- the last hop of a walk that comes first is one that is left just then
    by_last : (v : ℕ) → v ≢ source → LastHop hops Cross source v departure (label v) → Entry v
    by_last v other (e, hop, front, between, p, at, w, c, x) =
        let before : label hop.tail ≤ℚ between = (first hop.tail (good.tails e hop p)).least front between w c in
        let o : (exit : ℚ) × Cross e (label hop.tail) exit = exits e hop p (subst (λ (k : ℕ). k ≢ source) (sym at) other) in
        let same : o.0 ≡ label hop.head = ≤ℚ_antisymm _ _ (subst (λ (k : ℕ). o.0 ≤ℚ label k) (sym at)
        (can.keeps e hop (label hop.tail) between o.0 (label v) p before o.1 x)) (over_hop e hop o.0 p o.1) in
        (e, hop, p, at, subst (λ (t : ℚ). Cross e (label hop.tail) t) same o.1)

    by_walk : (v : ℕ) → v ≢ source → (walk : List ℕ) → IsWalk hops walk source v → Comes Cross walk departure (label v) → Entry v
    by_walk v other [] w c = absurd (other (sym w))
    by_walk v other (e ∷ walk) w c = by_last v other (last_hop hops Cross e walk source v departure (label v) w c)

    pub AreLabelsBy-first : AreLabelsBy hops nodes source Cross departure label
    AreLabelsBy-first = record {
      starts = first_starts;
      not_before = λ e hop p other. let o : (exit : ℚ) × Cross e (label hop.tail) exit = exits e hop p other in (o.0, o.1, over_hop e hop o.0 p o.1);
      entered = λ v h other. by_walk v other (first v h).taken.0 (first v h).taken.1 (first v h).taken.2;
    }
