-- Traversal of a tree: it crosses each link on both sides, and returns to its start.
use Rattle.std.proofs.Common.{◌≡◌, ◌≢◌, ℕ, zero, suc, ⊎_elim, Bool, true, false, Option, Some, None, sym, ap, subst, ◌∙◌, if◌then◌else◌}
use Rattle.nf_pattern.specs.Walking.{last_at as last_of, Path as PathOf}
use Rattle.nf_pattern.proofs.Setting.{tell}

-- A traversal depends on three functions: whether a link ends at a node, where it leads to from there, and which nodes are joined.
module _ (Ends : ℕ → ℕ → Bool) (other : ℕ → ℕ → ℕ) (Joined : ℕ → ℕ → ℕ → Type 0) where
  abbrev last_at : ℕ → ℕ → Option ℕ
  last_at = last_of Ends

  abbrev Path : ℕ → ℕ → ℕ → ℕ → Option ℕ → ℕ → Option ℕ → Type 0
  Path = PathOf Ends other Joined

  abbrev pub Way : ℕ → ℕ → ℕ → Option ℕ → ℕ → Option ℕ → Type 0
  Way n v x o y r = (k : ℕ) × Path n v k x o y r

  -- ---- one after the other
  pub on : (n v k x : ℕ) (o : Option ℕ) (y : ℕ) (r : Option ℕ) (z : ℕ) (s : Option ℕ) → Path n v k x o y r → Way n v y r z s → Way n v x o z s
  on n v zero x o y r z s p way = subst (λ (h : ℕ). Way n v h o z s) (sym p.0) (subst (λ (q : Option ℕ). Way n v y q z s) (sym p.1) way)
  on n v (suc k) x None y r z s p way = let rest = on n v k x (last_at n x) y r z s p.2 way in (suc rest.0, (p.0, p.1, rest.1))
  on n v (suc k) x (Some l) y r z s p way = let rest = on n v k (other l x) (last_at l (other l x)) y r z s p.1 way in (suc rest.0, (p.0, rest.1))

  -- ---- a link more
  pub last_still : (n v : ℕ) → Ends n v ≡ false → last_at (suc n) v ≡ last_at n v
  last_still n v e = ap (λ (b : Bool). if b then Some n else last_at n v) e

  pub last_new : (n v : ℕ) → Ends n v ≡ true → last_at (suc n) v ≡ Some n
  last_new n v e = ap (λ (b : Bool). if b then Some n else last_at n v) e

  -- The link ends at none of the nodes where a chain restarts.
  kept : (n v u : ℕ) → ((x : ℕ) → Joined n v x → x ≢ v → (Ends n x ≡ false) × (x ≢ u)) → ((x : ℕ) → Joined n v x → Joined (suc n) u x)
      → (k x : ℕ) (o : Option ℕ) (y : ℕ) (r : Option ℕ) → Path n v k x o y r → Path (suc n) u k x o y r
  kept n v u safe far zero x o y r p = p
  kept n v u safe far (suc k) x None y r p =
      let here = safe x p.1 p.0 in
      (here.1, far x p.1, subst (λ (q : Option ℕ). Path (suc n) u k x q y r) (sym (last_still n x here.0)) (kept n v u safe far k x (last_at n x) y r p.2))
  kept n v u safe far (suc k) x (Some l) y r p = (far (other l x) p.0, kept n v u safe far k (other l x) (last_at l (other l x)) y r p.1)

  module _ (back : (n v w : ℕ) → Joined n v w → Joined n w v) (through : (n v w x : ℕ) → Joined n v w → Joined n w x → Joined n v x)
      (wider : (n v w : ℕ) → Joined n v w → Joined (suc n) v w) (itself : (n v : ℕ) → Joined n v v) where
    -- The link joins nodes a and b, which were not joined.
    module _ (n a b : ℕ) (ends_a : Ends n a ≡ true) (ends_b : Ends n b ≡ true) (ends : (x : ℕ) → x ≢ a → x ≢ b → Ends n x ≡ false) (over : other n a ≡ b) (again : other n b ≡ a)
        (apart : Joined n a b → ⊥) (link : Joined (suc n) a b) (comes : (v u : ℕ) → Joined n v u → Way n v v (last_at n v) u None) where
      module _ (v : ℕ) (near : Joined n v a) where
        not_b : (x : ℕ) → Joined n v x → x ≢ b
        not_b x j same = apart (through n a v b (back n v a near) (subst (λ (h : ℕ). Joined n v h) same j))

        not_v : (x : ℕ) → Joined n b x → x ≢ v
        not_v x j same = apart (back n b a (through n b v a (subst (λ (h : ℕ). Joined n b h) same j) near))

        not_a : (x : ℕ) → Joined n b x → x ≢ a
        not_a x j same = apart (back n b a (subst (λ (h : ℕ). Joined n b h) same j))

        to_a : Joined (suc n) v a
        to_a = wider n v a near

        to_b : Joined (suc n) v b
        to_b = through (suc n) v a b to_a link

        beyond : (x : ℕ) → Joined n b x → Joined (suc n) v x
        beyond x j = through (suc n) v b x to_b (wider n b x j)

        -- On the side of b.
        side : (k x : ℕ) (o : Option ℕ) (y : ℕ) (r : Option ℕ) → Path n b k x o y r → Path (suc n) v k x o y r
        side = kept n b v (λ x j other_one. (ends x (not_a x j) other_one, not_v x j)) beyond

        cross : (y : ℕ) (r : Option ℕ) → Way (suc n) v b (last_at n b) y r → Way (suc n) v a (Some n) y r
        cross y r way = (
          suc way.0,
          (subst (λ (h : ℕ). Joined (suc n) v h) (sym over) to_b, subst (λ (h : ℕ). Path (suc n) v way.0 h (last_at n h) y r) (sym over) way.1),
        )

        over_to : (u : ℕ) → Joined n b u → Way (suc n) v a (Some n) u None
        over_to u j = let way = comes b u j in cross u None (way.0, side way.0 b (last_at n b) u None way.1)

        home : Way (suc n) v b None a (last_at n a)
        home = (
          suc (suc zero),
          (
            not_v b (itself n b),
            to_b,
            subst (λ (q : Option ℕ). Path (suc n) v (suc zero) b q a (last_at n a)) (sym (last_new n b ends_b))
                (subst (λ (h : ℕ). Joined (suc n) v h) (sym again) to_a, (again, ap (λ (h : ℕ). last_at n h) again)),
          ),
        )

        detour : Way (suc n) v a (Some n) a (last_at n a)
        detour = let way = comes b b (itself n b) in
            cross a (last_at n a) (on (suc n) v way.0 b (last_at n b) b None a (last_at n a) (side way.0 b (last_at n b) b None way.1) home)

        -- From the end of a's chain.
        anew : v ≢ a → (y : ℕ) (r : Option ℕ) → Way (suc n) v a (Some n) y r → Way (suc n) v a None y r
        anew differ y r way = (suc way.0, ((λ same. differ (sym same)), to_a, subst (λ (q : Option ℕ). Path (suc n) v way.0 a q y r) (sym (last_new n a ends_a)) way.1))

        longer : v ≢ a → (k x : ℕ) (o : Option ℕ) (y : ℕ) (r : Option ℕ) → Path n v k x o y r → Way (suc n) v x o y r
        longer differ zero x o y r p = (zero, p)
        longer differ (suc k) x None y r p =
            let rest = longer differ k x (last_at n x) y r p.2 in
            ⊎_elim
            (λ (same : x ≡ a).
            subst (λ (h : ℕ). Way (suc n) v h None y r) (sym same)
            (anew differ y r (on (suc n) v detour.0 a (Some n) a (last_at n a) y r detour.1 (subst (λ (h : ℕ). Way (suc n) v h (last_at n h) y r) same rest))))
            (λ (apart_one : x ≢ a).
            (suc rest.0, (p.0, wider n v x p.1, subst (λ (q : Option ℕ). Path (suc n) v rest.0 x q y r) (sym (last_still n x (ends x apart_one (not_b x p.1)))) rest.1)))
            (tell x a)
        longer differ (suc k) x (Some l) y r p =
            let rest = longer differ k (other l x) (last_at l (other l x)) y r p.1 in
            (suc rest.0, (wider n v (other l x) p.0, rest.1))

        -- nodes of both sides
        pub same_side : (u : ℕ) → Joined n v u → Way (suc n) v v (last_at (suc n) v) u None
        same_side u j =
            let way = comes v u j in
            ⊎_elim
            (λ (same : v ≡ a).
            subst (λ (q : Option ℕ). Way (suc n) v v q u None) (sym (ap (λ (h : ℕ). last_at (suc n) h) same ∙ last_new n a ends_a))
            (subst (λ (h : ℕ). Way (suc n) v h (Some n) u None) (sym same)
            (on (suc n) v detour.0 a (Some n) a (last_at n a) u None detour.1
            (subst (λ (h : ℕ). Way (suc n) v h (last_at n h) u None) same
            (way.0, kept n v v (λ x k differ. (ends x (λ e. differ (e ∙ sym same)) (not_b x k), differ)) (λ x k. wider n v x k) way.0 v (last_at n v) u None way.1)))))
            (λ (differ : v ≢ a).
            subst (λ (q : Option ℕ). Way (suc n) v v q u None) (sym (last_still n v (ends v differ (not_b v (itself n v)))))
            (longer differ way.0 v (last_at n v) u None way.1))
            (tell v a)

        pub other_side : (u : ℕ) → Joined n b u → Way (suc n) v v (last_at (suc n) v) u None
        other_side u j =
            let way = comes v a near in
            ⊎_elim
            (λ (same : v ≡ a).
            subst (λ (q : Option ℕ). Way (suc n) v v q u None) (sym (ap (λ (h : ℕ). last_at (suc n) h) same ∙ last_new n a ends_a))
            (subst (λ (h : ℕ). Way (suc n) v h (Some n) u None) (sym same) (over_to u j)))
            (λ (differ : v ≢ a).
            let first = longer differ way.0 v (last_at n v) a None way.1 in
            subst (λ (q : Option ℕ). Way (suc n) v v q u None) (sym (last_still n v (ends v differ (not_b v (itself n v)))))
            (on (suc n) v first.0 v (last_at n v) a None u None first.1 (anew differ u None (over_to u j))))
            (tell v a)

    -- ---- the link ends at no node joined with the start
    pub idle : (n v u : ℕ) → ((x : ℕ) → Joined n v x → Ends n x ≡ false) → Way n v v (last_at n v) u None → Way (suc n) v v (last_at (suc n) v) u None
    idle n v u none way = (
      way.0,
      subst (λ (q : Option ℕ). Path (suc n) v way.0 v q u None) (sym (last_still n v (none v (itself n v))))
          (kept n v v (λ x j differ. (none x j, differ)) (λ x j. wider n v x j) way.0 v (last_at n v) u None way.1),
    )
