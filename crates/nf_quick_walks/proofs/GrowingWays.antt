-- Growing tables of walks of unbounded links.
use Rattle.std.proofs.Common.{◌≡◌, ℕ, zero, suc, ◌<◌, List, [], ◌∷◌, ◌++◌, length, set, replicate, true, false, not, ◌&&◌, ◌⊎◌, inl, inr, ⊎_elim, eqb, ◌≢◌}
use Rattle.std.proofs.Common.{Option, Some, None, refl, sym, ap, subst, ◌∙◌, arith, is_none, is_some}
use Rattle.nf_quick_walks.proofs.Common.{length-set, length-replicate, eqb_tells, ℚ, not_both, Link, Network, IsLink, IsNetwork, IsUnboundedWalk, Ways}
use Rattle.nf_quick_walks.proofs.Common.{walk_to, leads_on, LeadsToNew, NoneLeadsOn, AreWays, AreAllWays}

-- ---- the number of nodes without a walk
abbrev pub unknown : Ways → ℕ
unknown [] = 0
unknown (None ∷ ways) = suc (unknown ways)
unknown (Some way ∷ ways) = unknown ways

pub fewer_unknown : (ways : Ways) (v : ℕ) (way : List ℕ) → v < length ways → walk_to ways v ≡ None → unknown (set ways v (Some way)) < unknown ways
fewer_unknown [] v way h e = absurd (omega arith)
fewer_unknown (None ∷ ways) zero way h e = omega arith
fewer_unknown (Some x ∷ ways) zero way h e = absurd (cc)
fewer_unknown (None ∷ ways) (suc v) way h e = let more : unknown (set ways v (Some way)) < unknown ways = fewer_unknown ways v way (omega arith) e in omega arith
fewer_unknown (Some x ∷ ways) (suc v) way h e = fewer_unknown ways v way (omega arith) e

-- ---- an entry is set
at_same : (ways : Ways) (v : ℕ) (o : Option (List ℕ)) → v < length ways → walk_to (set ways v o) v ≡ o
at_same [] v o h = absurd (omega arith)
at_same (x ∷ ways) zero o h = refl
at_same (x ∷ ways) (suc v) o h = at_same ways v o (omega arith)

at_other : (ways : Ways) (v u : ℕ) (o : Option (List ℕ)) → (v ≡ u → ⊥) → walk_to (set ways v o) u ≡ walk_to ways u
at_other [] v u o n = refl
at_other (x ∷ ways) zero zero o n = absurd (n refl)
at_other (x ∷ ways) zero (suc u) o n = refl
at_other (x ∷ ways) (suc v) zero o n = refl
at_other (x ∷ ways) (suc v) (suc u) o n = at_other ways v u o (λ e. n (ap suc e))

at_none : (n v : ℕ) → walk_to (replicate n None) v ≡ None
at_none zero v = refl
at_none (suc n) zero = refl
at_none (suc n) (suc v) = at_none n v

-- ---- a known walk, or none
known_or : (o : Option (List ℕ)) → (o ≡ None) ⊎ ((way : List ℕ) × (o ≡ Some way))
known_or None = inl refl
known_or (Some way) = inr (way, refl)

no_some : (o : Option (List ℕ)) (way : List ℕ) → o ≡ None → o ≡ Some way → ⊥
no_some o way e f = cc

-- ---- the meaning of the test
record Leading (ways : Ways) (link : Link) : Type 0 where
  unbounded : link.capacity ≡ None
  way : List ℕ
  tail : walk_to ways link.tail ≡ Some way
  head : walk_to ways link.head ≡ None

is_leading : (ways : Ways) (link : Link) → leads_on ways link ≡ true → Leading ways link
is_leading ways link e = parts link.capacity (walk_to ways link.tail) (walk_to ways link.head) refl refl refl e
  where
    parts : (c : Option ℚ) (t h : Option (List ℕ)) → link.capacity ≡ c → walk_to ways link.tail ≡ t → walk_to ways link.head ≡ h
        → (is_none c && (is_some t && not (is_some h))) ≡ true → Leading ways link
    parts None (Some way) None p q r e = record { unbounded = p; way = way; tail = q; head = r }
    parts None (Some way) (Some other) p q r e = absurd (cc)
    parts None None h p q r e = absurd (cc)
    parts (Some c) t h p q r e = absurd (cc)

leads : (ways : Ways) (link : Link) (way : List ℕ) → link.capacity ≡ None → walk_to ways link.tail ≡ Some way → walk_to ways link.head ≡ None → leads_on ways link ≡ true
leads ways link way p q r = ap (λ (c : Option ℚ). is_none c && (is_some (walk_to ways link.tail) && not (is_some (walk_to ways link.head)))) p
    ∙ ap (λ (t : Option (List ℕ)). is_some t && not (is_some (walk_to ways link.head))) q ∙ ap (λ (h : Option (List ℕ)). not (is_some h)) r

-- ---- a walk extended by an unbounded link
link_more : (net : Network) (walk : List ℕ) (v e : ℕ) (link : Link) → IsUnboundedWalk net walk v link.tail → IsLink net e link → link.capacity ≡ None
    → IsUnboundedWalk net (walk ++ e ∷ []) v link.head
link_more net [] v e link w is free = (link, is, free, sym w, refl)
link_more net (f ∷ walk) v e link w is free = (w.0, w.1, w.2, w.3, link_more net walk w.0.head e link w.4 is free)

module _ (net : Network) (good : IsNetwork net) where
  -- ---- at first only the source has a walk
  pub ways_first : (ways : Ways) → ways ≡ set (replicate net.nodes None) net.source (Some []) → AreWays net ways
  ways_first ways e = subst (λ (w : Ways). AreWays net w) (sym e) (record {
    count = length-set (replicate net.nodes None) net.source (Some []) ∙ length-replicate net.nodes None;
    source = ([], there);
    walks = λ v way f. ⊎_elim
        (λ (w : (eqb net.source v ≡ true) × (net.source ≡ v)). only v way w.1 f)
        (λ (w : (eqb net.source v ≡ false) × (net.source ≢ v)). absurd (no_some _ way (at_other (replicate net.nodes None) net.source v (Some []) w.1 ∙ at_none net.nodes v) f))
        (eqb_tells net.source v);
  })
    where
      there : walk_to (set (replicate net.nodes None) net.source (Some [])) net.source ≡ Some []
      there = at_same (replicate net.nodes None) net.source (Some []) (subst (λ (n : ℕ). net.source < n) (sym (length-replicate net.nodes None)) good.source)

      only : (v : ℕ) (way : List ℕ) → net.source ≡ v → walk_to (set (replicate net.nodes None) net.source (Some [])) v ≡ Some way → IsUnboundedWalk net way net.source v
      only v way same f =
          let none : ◌≡◌ {A = Option (List ℕ)} (Some []) (Some way) = sym there ∙ ap (λ (u : ℕ). walk_to (set (replicate net.nodes None) net.source (Some [])) u) same ∙ f in
          let is : [] ≡ way = cc in subst (λ (w : List ℕ). IsUnboundedWalk net w net.source v) is same

  module _ (ways : Ways) (are : AreWays net ways) (e : ℕ) (on : LeadsToNew net ways e) (link : Link) (is : IsLink net e link) where
    same_link : (a b : Link) → IsLink net e a → IsLink net e b → a ≡ b
    same_link a b p q = let f : ◌≡◌ {A = Option Link} (Some a) (Some b) = sym p ∙ q in cc

    leading : Leading ways link
    leading = is_leading ways link (subst (λ (l : Link). leads_on ways l ≡ true) (same_link on.link link on.is_link is) on.leads)

    pub head_below : link.head < length ways
    head_below = subst (λ (n : ℕ). link.head < n) (sym are.count) (good.heads e link is)

    module _ (longer : List ℕ) (long : (way : List ℕ) → walk_to ways link.tail ≡ Some way → longer ≡ way ++ e ∷ []) (at : ℕ) (at_head : at ≡ link.head) where
      is_longer : IsUnboundedWalk net longer net.source link.head
      is_longer = subst (λ (w : List ℕ). IsUnboundedWalk net w net.source link.head) (sym (long leading.way leading.tail))
          (link_more net leading.way net.source e link (are.walks link.tail leading.way leading.tail) is leading.unbounded)

      pub fewer : unknown (set ways at (Some longer)) < unknown ways
      fewer = subst (λ (i : ℕ). unknown (set ways i (Some longer)) < unknown ways) (sym at_head) (fewer_unknown ways link.head longer head_below leading.head)

      pub ways_more : AreWays net (set ways at (Some longer))
      ways_more = subst (λ (i : ℕ). AreWays net (set ways i (Some longer))) (sym at_head) (record {
        count = length-set ways link.head (Some longer) ∙ are.count;
        source = (
          are.source.0,
          at_other ways link.head net.source (Some longer)
              (λ (h : link.head ≡ net.source). no_some _ are.source.0 (ap (λ (v : ℕ). walk_to ways v) (sym h) ∙ leading.head) are.source.1) ∙ are.source.1,
        );
        walks = λ v way f. ⊎_elim
            (λ (w : (eqb link.head v ≡ true) × (link.head ≡ v)). new v way w.1 f)
            (λ (w : (eqb link.head v ≡ false) × (link.head ≢ v)). are.walks v way (sym (at_other ways link.head v (Some longer) w.1) ∙ f))
            (eqb_tells link.head v);
      })
        where
          new : (v : ℕ) (way : List ℕ) → link.head ≡ v → walk_to (set ways link.head (Some longer)) v ≡ Some way → IsUnboundedWalk net way net.source v
          new v way same f =
              let one : ◌≡◌ {A = Option (List ℕ)} (Some longer) (Some way) = sym (at_same ways link.head (Some longer) head_below)
              ∙ ap (λ (u : ℕ). walk_to (set ways link.head (Some longer)) u) same ∙ f in
              let w : longer ≡ way = cc in
              subst (λ (l : List ℕ). IsUnboundedWalk net l net.source v) w (subst (λ (u : ℕ). IsUnboundedWalk net longer net.source u) same is_longer)

  -- ---- if no link leads to a new node, all walks are known
  module _ (ways : Ways) (none : NoneLeadsOn net ways) where
    next : (link : Link) (e v : ℕ) (way : List ℕ) → walk_to ways v ≡ Some way → IsLink net e link → link.capacity ≡ None → link.tail ≡ v
        → (other : List ℕ) × (walk_to ways link.head ≡ Some other)
    next link e v way known is free begins = ⊎_elim
        (λ (h : walk_to ways link.head ≡ None). absurd (not_both (leads_on ways link) (leads ways link way free (ap (λ (u : ℕ). walk_to ways u) begins ∙ known) h) (none e link is)))
        (λ (h : (other : List ℕ) × (walk_to ways link.head ≡ Some other)). h)
        (known_or (walk_to ways link.head))

    reached : (walk : List ℕ) (v w : ℕ) (way : List ℕ) → walk_to ways v ≡ Some way → IsUnboundedWalk net walk v w → (other : List ℕ) × (walk_to ways w ≡ Some other)
    reached [] v w way known p = (way, ap (λ (u : ℕ). walk_to ways u) (sym p) ∙ known)
    reached (e ∷ walk) v w way known p =
        let n : (other : List ℕ) × (walk_to ways p.0.head ≡ Some other) = next p.0 e v way known p.1 p.2 p.3 in
        reached walk p.0.head w n.0 n.1 p.4

    pub all_known : AreWays net ways → AreAllWays net ways
    all_known are = record { each = are; all = λ walk v p. reached walk net.source v are.source.0 are.source.1 p }
