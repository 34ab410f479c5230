-- A flow on a forest with surplus 0 at each node is 0. If a link carries flow, some link carries as much into the node where it starts,
-- and so on. These links, each crossed in the direction of its flow, close a trail.
use Rattle.std.proofs.Common.{◌≡◌, ◌≢◌, ℕ, zero, suc, ◌+◌, ◌<◌, ◌≤◌, List, [], ◌∷◌, length, map, ◌⊎◌, inl, inr, ⊎_elim, Bool, true, false, if◌then◌else◌}
use Rattle.std.proofs.Common.{eqb, Some, slice_get, sym, ap, subst, refl, ◌∙◌, arith, Contains}
use Rattle.nf_thin_laws.proofs.Common.{IsDistinct, list_any, eqb_tells, slice_get_within, same_Some, length-map, ℚ, 0ℚ, 1ℚ, ◌+ℚ◌, ◌-ℚ◌, ◌*ℚ◌, ◌≤ℚ◌, ◌<ℚ◌}
use Rattle.nf_thin_laws.proofs.Common.{max_ℚ, reading_of, ≤ℚ_antisymm, ≤ℚ_of_lt, lt_or_le_ℚ, not_both_ℚ, le, lt, eq, linear_le, linear_false, max_is_right}
use Rattle.nf_thin_laws.proofs.Common.{max_left, or_rest, Link, Network, IsLink, IsNetwork, hop_of, hops, sum_in, sum_out, IsTrail, AllDiffer, IsForest}
use Rattle.nf_thin_laws.proofs.Common.{hop_at, IsLink-unique, out_less_in, sum_in-same, sum_out-same, sum_in-none, sum_out-none, sum_in-line, sum_in-order}
use Rattle.nf_thin_laws.proofs.Common.{sum_out-order, sum_in-each, sum_out-each, distinct_more, distinct_none}
use Rattle.std.proofs.lemmas.Map.Steps.{length-le_from_distinct_below}
use Rattle.nf_model_laws.proofs.Contained.{contains_none, contains_cases, not_any, contains_more, contains_first}

-- ---- elements of lists
IsDistinct-differ : (xs : List ℕ) → AllDiffer xs → IsDistinct eqb xs
IsDistinct-differ [] a = distinct_none
IsDistinct-differ (x ∷ xs) a = distinct_more x xs (not_any x xs a.0) (IsDistinct-differ xs a.1)

-- ---- if something leaves a node, something enters it: d is each link's flow forward
module _ (links : List Link) (d : ℕ → ℚ) (v : ℕ) (balanced : out_less_in links d v ≡ 0ℚ)
    (none_in : (e : ℕ) (link : Link) → slice_get links e ≡ Some link → link.head ≡ v → d e ≤ℚ 0ℚ)
    (none_back : (e : ℕ) (link : Link) → slice_get links e ≡ Some link → link.tail ≡ v → 0ℚ ≤ℚ d e) where
  in_none : sum_in links d v ≤ℚ 0ℚ
  in_none = subst (λ (z : ℚ). sum_in links d v ≤ℚ z) (sum_in-none links v) (sum_in-order links d (λ _. 0ℚ) v none_in)

  out_some : 0ℚ ≤ℚ sum_out links d v
  out_some = subst (λ (z : ℚ). z ≤ℚ sum_out links d v) (sum_out-none links v) (sum_out-order links (λ _. 0ℚ) d v none_back)

  forth : (o i x : ℚ) → o -ℚ i ≡ 0ℚ → i ≤ℚ 0ℚ → 0ℚ <ℚ x → x ≤ℚ o → ⊥
  forth o i x e h k l = linear_false (o ∷ i ∷ x ∷ []) (eq e ∷ le h ∷ lt k ∷ le l ∷ []) (search reading_of) tt

  none_leaves_forward : (e : ℕ) (link : Link) → slice_get links e ≡ Some link → link.tail ≡ v → 0ℚ <ℚ d e → ⊥
  none_leaves_forward e link p at h = forth _ _ _ balanced in_none h
      (subst (λ (z : ℚ). d e ≤ℚ z) (sym (sum_out-same links d (λ k. max_ℚ 0ℚ (d k)) v (λ k l q a. sym (max_is_right 0ℚ (d k) (none_back k l q a)))))
      (subst (λ (z : ℚ). z ≤ℚ sum_out links (λ k. max_ℚ 0ℚ (d k)) v) (max_is_right 0ℚ (d e) (≤ℚ_of_lt _ _ h))
      (sum_out-each links (λ k. max_ℚ 0ℚ (d k)) v (λ k. max_left 0ℚ (d k)) e link p at)))

  backward : ℕ → ℚ
  backward k = 0ℚ +ℚ d k *ℚ (0ℚ -ℚ 1ℚ)

  backward_nn : (x : ℚ) → x ≤ℚ 0ℚ → 0ℚ ≤ℚ 0ℚ +ℚ x *ℚ (0ℚ -ℚ 1ℚ)
  backward_nn x h = linear_le (x ∷ []) (le h ∷ []) (search reading_of) tt

  back_sum : (o i n x s : ℚ) → o -ℚ i ≡ 0ℚ → 0ℚ ≤ℚ o → x <ℚ 0ℚ → n ≡ 0ℚ → s ≡ n +ℚ i *ℚ (0ℚ -ℚ 1ℚ) → 0ℚ +ℚ x *ℚ (0ℚ -ℚ 1ℚ) ≤ℚ s → ⊥
  back_sum o i n x s e h k f g l = linear_false (o ∷ i ∷ n ∷ x ∷ s ∷ []) (eq e ∷ le h ∷ lt k ∷ eq f ∷ eq g ∷ le l ∷ []) (search reading_of) tt

  none_leaves_backward : (e : ℕ) (link : Link) → slice_get links e ≡ Some link → link.head ≡ v → d e <ℚ 0ℚ → ⊥
  unfolding backward
  none_leaves_backward e link p at h = back_sum (sum_out links d v) (sum_in links d v) (sum_in links (λ _. 0ℚ) v) (d e) (sum_in links backward v) balanced out_some h
      (sum_in-none links v) (sum_in-line links (λ _. 0ℚ) d (0ℚ -ℚ 1ℚ) v)
      (subst (λ (z : ℚ). backward e ≤ℚ z) (sym (sum_in-same links backward (λ k. max_ℚ 0ℚ (backward k)) v
      (λ k l q a. sym (max_is_right 0ℚ (backward k) (backward_nn (d k) (none_in k l q a))))))
      (subst (λ (z : ℚ). z ≤ℚ sum_in links (λ k. max_ℚ 0ℚ (backward k)) v) (max_is_right 0ℚ (backward e) (backward_nn (d e) (≤ℚ_of_lt _ _ h)))
      (sum_in-each links (λ k. max_ℚ 0ℚ (backward k)) v (λ k. max_left 0ℚ (backward k)) e link p at)))

-- Some link has a property, or none has it.
find_link : (links : List Link) (P : ℕ → Link → Type 0) → ((e : ℕ) (link : Link) → P e link ⊎ (P e link → ⊥))
    → ((e : ℕ) × (link : Link) × (slice_get links e ≡ Some link) × P e link) ⊎ ((e : ℕ) (link : Link) → slice_get links e ≡ Some link → P e link → ⊥)
find_link [] P test = inr (λ e link p _. none e link p)
  where
    none : (e : ℕ) (link : Link) → slice_get {X = Link} [] e ≡ Some link → ⊥
    none e link p = absurd (cc)
find_link (l ∷ links) P test = ⊎_elim
    (λ (w : P 0 l). inl (0, l, refl, w))
    (λ (n : P 0 l → ⊥). ⊎_elim
    (λ (w : (e : ℕ) × (link : Link) × (slice_get links e ≡ Some link) × P (suc e) link). inl (suc w.0, w.1, w.2, w.3))
    (λ (m : (e : ℕ) (link : Link) → slice_get links e ≡ Some link → P (suc e) link → ⊥). inr (λ e link p q. apart n m e link p q))
    (find_link links (λ e link. P (suc e) link) (λ e link. test (suc e) link)))
    (test 0 l)
  where
    apart : (P 0 l → ⊥) → ((e : ℕ) (link : Link) → slice_get links e ≡ Some link → P (suc e) link → ⊥) → (e : ℕ) (link : Link) → slice_get (l ∷ links) e ≡ Some link → P e link → ⊥
    apart n m zero link p q = n (subst (λ (k : Link). P 0 k) (sym (same_Some l link p)) q)
    apart n m (suc e) link p q = m e link p q

module _ (net : Network) (d : ℕ → ℚ) where
  -- Link e carries flow from u to v: forward if the flag is set, and backward otherwise.
  abbrev pub Carries : Bool → ℚ → Type 0
  Carries true x = 0ℚ <ℚ x
  Carries false x = x <ℚ 0ℚ

  pub record Dart (e : ℕ) (forward : Bool) (u v : ℕ) : Type 0 where
    pub link : Link
    pub is_link : IsLink net e link
    pub carries : Carries forward (d e)
    pub start : u ≡ (if forward then link.tail else link.head)
    pub end : v ≡ (if forward then link.head else link.tail)

  one_way : (a b : Bool) (x : ℚ) → Carries a x → Carries b x → a ≡ b
  one_way true true x h k = refl
  one_way true false x h k = absurd (not_both_ℚ _ _ h (≤ℚ_of_lt _ _ k))
  one_way false true x h k = absurd (not_both_ℚ _ _ h (≤ℚ_of_lt _ _ k))
  one_way false false x h k = refl

  -- A link carries flow in one direction only.
  Dart-start : (e : ℕ) (a b : Bool) (u v s t : ℕ) → Dart e a u v → Dart e b s t → u ≡ s
  Dart-start e a b u v s t p q =
      let l : p.link ≡ q.link = IsLink-unique net e p.link q.link p.is_link q.is_link in
      let f : a ≡ b = one_way a b (d e) p.carries q.carries in
      p.start ∙ ap (λ (k : Link). if a then k.tail else k.head) l ∙ ap (λ (g : Bool). if g then q.link.tail else q.link.head) f ∙ sym q.start

  abbrev Leaving : ℕ → Type 0
  Leaving v = (e : ℕ) × (forward : Bool) × (w : ℕ) × Dart e forward v w

  abbrev Entering : ℕ → Type 0
  Entering v = (e : ℕ) × (forward : Bool) × (u : ℕ) × Dart e forward u v

  -- ---- something enters each node that something leaves
  abbrev Comes : ℕ → ℕ → Link → Type 0
  Comes v e link = ((0ℚ <ℚ d e) × (link.head ≡ v)) ⊎ ((d e <ℚ 0ℚ) × (link.tail ≡ v))

  comes_or_not : (v e : ℕ) (link : Link) → Comes v e link ⊎ (Comes v e link → ⊥)
  comes_or_not v e link = ⊎_elim
      (λ (h : 0ℚ <ℚ d e). ⊎_elim
      (λ (w : (eqb link.head v ≡ true) × (link.head ≡ v)). inl (inl (h, w.1)))
      (λ (w : (eqb link.head v ≡ false) × (link.head ≢ v)). inr (λ c. ⊎_elim (λ (k : (0ℚ <ℚ d e) × (link.head ≡ v)). w.1 k.1)
      (λ (k : (d e <ℚ 0ℚ) × (link.tail ≡ v)). not_both_ℚ _ _ h (≤ℚ_of_lt _ _ k.0)) c))
      (eqb_tells link.head v))
      (λ (h : d e ≤ℚ 0ℚ). ⊎_elim
      (λ (w : (eqb link.tail v ≡ true) × (link.tail ≡ v)). ⊎_elim
      (λ (k : d e <ℚ 0ℚ). inl (inr (k, w.1)))
      (λ (k : 0ℚ ≤ℚ d e). inr (λ c. ⊎_elim (λ (j : (0ℚ <ℚ d e) × (link.head ≡ v)). not_both_ℚ _ _ j.0 h) (λ (j : (d e <ℚ 0ℚ) × (link.tail ≡ v)). not_both_ℚ _ _ j.0 k) c))
      (lt_or_le_ℚ (d e) 0ℚ))
      (λ (w : (eqb link.tail v ≡ false) × (link.tail ≢ v)). inr (λ c. ⊎_elim (λ (j : (0ℚ <ℚ d e) × (link.head ≡ v)). not_both_ℚ _ _ j.0 h)
      (λ (j : (d e <ℚ 0ℚ) × (link.tail ≡ v)). w.1 j.1) c))
      (eqb_tells link.tail v))
      (lt_or_le_ℚ 0ℚ (d e))

  by_comes : (v e : ℕ) (link : Link) → IsLink net e link → Comes v e link → Entering v
  by_comes v e link p (inl c) = (e, true, link.tail, record { link = link; is_link = p; carries = c.0; start = refl; end = sym c.1 })
  by_comes v e link p (inr c) = (e, false, link.head, record { link = link; is_link = p; carries = c.0; start = refl; end = sym c.1 })

  entering : (v : ℕ) → out_less_in net.links d v ≡ 0ℚ → Leaving v → Entering v
  entering v balanced (e, forward, w, dart) = ⊎_elim
      (λ (c : (k : ℕ) × (link : Link) × IsLink net k link × Comes v k link). by_comes v c.0 c.1 c.2 c.3)
      (λ (n : (k : ℕ) (link : Link) → IsLink net k link → Comes v k link → ⊥). absurd (contrary n forward dart.carries dart.start))
      (find_link net.links (Comes v) (comes_or_not v))
    where
      none_in : ((k : ℕ) (link : Link) → IsLink net k link → Comes v k link → ⊥) → (k : ℕ) (link : Link) → IsLink net k link → link.head ≡ v → d k ≤ℚ 0ℚ
      none_in n k link p at = ⊎_elim (λ (h : 0ℚ <ℚ d k). absurd (n k link p (inl (h, at)))) (λ (h : d k ≤ℚ 0ℚ). h) (lt_or_le_ℚ 0ℚ (d k))

      none_back : ((k : ℕ) (link : Link) → IsLink net k link → Comes v k link → ⊥) → (k : ℕ) (link : Link) → IsLink net k link → link.tail ≡ v → 0ℚ ≤ℚ d k
      none_back n k link p at = ⊎_elim (λ (h : d k <ℚ 0ℚ). absurd (n k link p (inr (h, at)))) (λ (h : 0ℚ ≤ℚ d k). h) (lt_or_le_ℚ (d k) 0ℚ)

      contrary : ((k : ℕ) (link : Link) → IsLink net k link → Comes v k link → ⊥) → (forward : Bool) → Carries forward (d e)
          → v ≡ (if forward then dart.link.tail else dart.link.head) → ⊥
      contrary n true h s = none_leaves_forward net.links d v balanced (none_in n) (none_back n) e dart.link dart.is_link (sym s) h
      contrary n false h s = none_leaves_backward net.links d v balanced (none_in n) (none_back n) e dart.link dart.is_link (sym s) h

  -- ---- trails along the flow
  abbrev IsFlowTrail : List (ℕ × Bool) → ℕ → ℕ → Type 0
  IsFlowTrail [] u w = u ≡ w
  IsFlowTrail (s ∷ steps) u w = (v : ℕ) × Dart s.0 s.1 u v × IsFlowTrail steps v w

  abbrev edges : List (ℕ × Bool) → List ℕ
  edges steps = map (λ (s : ℕ × Bool). s.0) steps

  IsTrail-flow : (Allowed : ℕ → Type 0) → ((e : ℕ) (forward : Bool) (u v : ℕ) → Dart e forward u v → Allowed e) → (steps : List (ℕ × Bool)) (u w : ℕ)
      → IsFlowTrail steps u w → IsTrail (hops net) Allowed steps u w
  IsTrail-flow Allowed allowed [] u w t = t
  IsTrail-flow Allowed allowed ((e, forward) ∷ steps) u w (v, dart, t) = (
    hop_of dart.link,
    hop_at net e dart.link dart.is_link,
    allowed e forward u v dart,
    dart.start,
    subst (λ (k : ℕ). IsTrail (hops net) Allowed steps k w) dart.end (IsTrail-flow Allowed allowed steps v w t),
  )

  edges_below : (steps : List (ℕ × Bool)) (u w : ℕ) → IsFlowTrail steps u w → (q : ℕ) → list_any (eqb q) (edges steps) ≡ true → q < length net.links
  edges_below [] u w t q e = absurd (cc)
  edges_below ((e, forward) ∷ steps) u w (v, dart, t) q h = ⊎_elim
      (λ (k : (eqb q e ≡ true) × (q ≡ e)). subst (λ (i : ℕ). i < length net.links) (sym k.1) (slice_get_within net.links e dart.link dart.is_link))
      (λ (k : (eqb q e ≡ false) × (q ≢ e)). edges_below steps v w t q (or_rest _ _ k.0 h))
      (eqb_tells q e)

  -- The beginning of a trail, up to the first step along link f, which starts at u; or the trail does not cross f.
  record Before (f : ℕ) (steps : List (ℕ × Bool)) (v u : ℕ) : Type 0 where
    front : List (ℕ × Bool)
    trail : IsFlowTrail front v u
    differ : AllDiffer (edges front)
    without : Contains (edges front) f → ⊥
    part : (g : ℕ) → Contains (edges front) g → Contains (edges steps) g

  cut : (f : ℕ) (forward : Bool) (u t : ℕ) → Dart f forward u t → (steps : List (ℕ × Bool)) (v w : ℕ) → IsFlowTrail steps v w → AllDiffer (edges steps)
      → Before f steps v u ⊎ (Contains (edges steps) f → ⊥)
  cut f forward u t dart [] v w trail differ = inr (contains_none f)
  cut f forward u t dart ((g, b) ∷ steps) v w (m, first, trail) differ = ⊎_elim
      (λ (k : (eqb g f ≡ true) × (g ≡ f)). inl (record {
        front = [];
        trail = Dart-start f b forward v m u t (subst (λ (i : ℕ). Dart i b v m) k.1 first) dart;
        differ = tt;
        without = contains_none f;
        part = λ h c. absurd (contains_none h c);
      }))
      (λ (k : (eqb g f ≡ false) × (g ≢ f)). ⊎_elim
      (λ (p : Before f steps m u). inl (record {
        front = (g, b) ∷ p.front;
        trail = (m, first, p.trail);
        differ = ((λ c. differ.0 (p.part g c)), p.differ);
        without = λ c. ⊎_elim (λ (e : g ≡ f). k.1 e) (λ (c : Contains (edges p.front) f). p.without c) (contains_cases g (edges p.front) f c);
        part = λ h c. ⊎_elim (λ (e : g ≡ h). contains_first g (edges steps) h e)
            (λ (c : Contains (edges p.front) h). contains_more g (edges steps) h (p.part h c)) (contains_cases g (edges p.front) h c);
      }))
      (λ (n : Contains (edges steps) f → ⊥). inr (λ c. ⊎_elim (λ (e : g ≡ f). k.1 e) (λ (c : Contains (edges steps) f). n c) (contains_cases g (edges steps) f c)))
      (cut f forward u t dart steps m w trail differ.1))
      (eqb_tells g f)

  module _ (Allowed : ℕ → Type 0) (forest : IsForest (hops net) Allowed) (allowed : (e : ℕ) (forward : Bool) (u v : ℕ) → Dart e forward u v → Allowed e)
      (good : IsNetwork net) (balanced : (v : ℕ) → v < net.nodes → out_less_in net.links d v ≡ 0ℚ) where
    below : (e : ℕ) (forward : Bool) (u v : ℕ) → Dart e forward u v → u < net.nodes
    below e true u v dart = subst (λ (k : ℕ). k < net.nodes) (sym dart.start) (good.tails e dart.link dart.is_link)
    below e false u v dart = subst (λ (k : ℕ). k < net.nodes) (sym dart.start) (good.heads e dart.link dart.is_link)

    closes : (f : ℕ) (forward : Bool) (u v : ℕ) → Dart f forward u v → (steps : List (ℕ × Bool)) → Before f steps v u → ⊥
    closes f forward u v dart steps b = forest (f, forward) b.front u (b.without, b.differ) (IsTrail-flow Allowed allowed ((f, forward) ∷ b.front) u u (v, dart, b.trail))

    too_long : (steps : List (ℕ × Bool)) (v w : ℕ) → IsFlowTrail steps v w → AllDiffer (edges steps) → length steps ≤ length net.links
    too_long steps v w trail differ =
        let l : length (edges steps) ≤ length net.links = length-le_from_distinct_below (edges steps) (length net.links)
        (IsDistinct-differ (edges steps) differ) (edges_below steps v w trail) in
        let m : length (edges steps) ≡ length steps = length-map steps (λ (s : ℕ × Bool). s.0) in omega arith

    grow : (more : ℕ) (steps : List (ℕ × Bool)) (v w : ℕ) → length net.links < length steps + more → v < net.nodes → IsFlowTrail steps v w → AllDiffer (edges steps) → Leaving v → ⊥
    grow zero steps v w h k trail differ leaving = let l : length steps ≤ length net.links = too_long steps v w trail differ in absurd (omega arith)
    grow (suc more) steps v w h k trail differ leaving =
        by_dart (entering v (balanced v k) leaving) (λ s u. grow more (s ∷ steps) u w (one_more (length net.links) (length steps) more h))
      where
        one_more : (m l k : ℕ) → m < l + suc k → m < suc l + k
        one_more m l k h = omega arith

        by_dart : Entering v → ((s : ℕ × Bool) (u : ℕ) → u < net.nodes → IsFlowTrail (s ∷ steps) u w → AllDiffer (edges (s ∷ steps)) → Leaving u → ⊥) → ⊥
        by_dart (f, forward, u, dart) onward = ⊎_elim
            (λ (b : Before f steps v u). closes f forward u v dart steps b)
            (λ (n : Contains (edges steps) f → ⊥). onward (f, forward) u (below f forward u v dart) (v, dart, trail) (n, differ) (f, forward, v, dart))
            (cut f forward u v dart steps v w trail differ)

    none_leaves : (v : ℕ) → v < net.nodes → Leaving v → ⊥
    none_leaves v h leaving = grow (suc (length net.links)) [] v v (omega arith) h refl tt leaving

    pub forest-none : (e : ℕ) (link : Link) → IsLink net e link → d e ≡ 0ℚ
    forest-none e link p = ⊎_elim
        (λ (h : 0ℚ <ℚ d e). absurd (none_leaves link.tail (good.tails e link p) (e, true, link.head, record { link = link; is_link = p; carries = h; start = refl; end = refl })))
        (λ (h : d e ≤ℚ 0ℚ). ⊎_elim
        (λ (k : d e <ℚ 0ℚ). absurd (none_leaves link.head (good.heads e link p) (e, false, link.tail, record { link = link; is_link = p; carries = k; start = refl; end = refl })))
        (λ (k : 0ℚ ≤ℚ d e). ≤ℚ_antisymm _ _ h k)
        (lt_or_le_ℚ (d e) 0ℚ))
        (lt_or_le_ℚ 0ℚ (d e))
