-- A network that has static cuts has one of the least capacity: by induction over the nodes, each node is tried inside and outside.
use Rattle.std.proofs.Common.{◌≡◌, ◌≢◌, ℕ, zero, suc, ◌<◌, ◌≤◌, List, [], ◌∷◌, ◌⊎◌, inl, inr, ⊎_elim, Bool, true, false, if◌then◌else◌, eqb, Some, None, slice_get, sym, ap, subst, refl, ◌∙◌, arith}
use Rattle.std.proofs.lemmas.Bool.Decides.{eqb_tells}
use Rattle.nf_forever_laws.proofs.Common.{none-some, same_Some, ℚ, ◌+ℚ◌, ◌≤ℚ◌, ◌<ℚ◌, ≤ℚ_of_same, ≤ℚ_of_lt, lt_or_le_ℚ, ≤ℚ_trans, Link, Network, IsNetwork}
use Rattle.nf_forever_laws.proofs.Common.{not_both, true_or_false, Cut, LeadsOut, IsStaticCut, outward_capacity, capacity_sum, cut_capacity, IsLeastCapacity}
use Rattle.nf_forever_laws.proofs.Fitting.{capacity_or_none}

-- ---- it is decidable whether a set is a static cut
-- The link is bounded, or it does not leave the set.
abbrev IsKept : Cut → Link → Type 0
IsKept cut link = link.capacity ≡ None → LeadsOut cut link → ⊥

kept_or_not : (cut : Cut) (link : Link) → IsKept cut link ⊎ (IsKept cut link → ⊥)
kept_or_not cut link = ⊎_elim
    (λ (c : (c : ℚ) × (link.capacity ≡ Some c)). inl (λ none out. none-some c.0 (sym none ∙ c.1)))
    (λ (none : link.capacity ≡ None). ⊎_elim
    (λ (h : cut link.head ≡ true). inl (λ _ out. not_both (cut link.head) h out.head))
    (λ (h : cut link.head ≡ false). ⊎_elim
    (λ (t : cut link.tail ≡ true). inr (λ kept. kept none (record { tail = t; head = h })))
    (λ (t : cut link.tail ≡ false). inl (λ _ out. not_both (cut link.tail) out.tail t))
    (true_or_false (cut link.tail)))
    (true_or_false (cut link.head)))
    (capacity_or_none link.capacity)

abbrev AreKept : Cut → List Link → Type 0
AreKept cut links = (e : ℕ) (link : Link) → slice_get links e ≡ Some link → IsKept cut link

one_more : (cut : Cut) (first : Link) (links : List Link) → IsKept cut first → AreKept cut links → AreKept cut (first ∷ links)
one_more cut first links kept all zero link p = subst (IsKept cut) (same_Some first link p) kept
one_more cut first links kept all (suc e) link p = all e link p

all_kept_or_not : (cut : Cut) (links : List Link) → AreKept cut links ⊎ (AreKept cut links → ⊥)
all_kept_or_not cut [] = inl (λ e link p. absurd (none-some link p))
all_kept_or_not cut (first ∷ links) = ⊎_elim
    (λ (k : IsKept cut first). ⊎_elim
    (λ (all : AreKept cut links). inl (one_more cut first links k all))
    (λ (not_all : AreKept cut links → ⊥). inr (λ all. not_all (λ e link p. all (suc e) link p)))
    (all_kept_or_not cut links))
    (λ (not_kept : IsKept cut first → ⊥). inr (λ all. not_kept (all 0 first refl)))
    (kept_or_not cut first)

cut_or_not : (net : Network) (cut : Cut) → IsStaticCut net cut ⊎ (IsStaticCut net cut → ⊥)
cut_or_not net cut = ⊎_elim
    (λ (s : cut net.source ≡ true). ⊎_elim
    (λ (t : cut net.sink ≡ true). inr (λ is. not_both (cut net.sink) t is.sink))
    (λ (t : cut net.sink ≡ false). ⊎_elim
    (λ (all : AreKept cut net.links). inl (record { source = s; sink = t; unbounded = all }))
    (λ (not_all : AreKept cut net.links → ⊥). inr (λ is. not_all is.unbounded))
    (all_kept_or_not cut net.links))
    (true_or_false (cut net.sink)))
    (λ (s : cut net.source ≡ false). inr (λ is. not_both (cut net.source) is.source s))
    (true_or_false (cut net.source))

-- ---- sets with the same nodes of the network have the same capacity
capacity_sum-same : (links : List Link) (a b : Cut) → ((e : ℕ) (link : Link) → slice_get links e ≡ Some link → (a link.tail ≡ b link.tail) × (a link.head ≡ b link.head))
    → capacity_sum links a ≡ capacity_sum links b
capacity_sum-same [] a b h = refl
capacity_sum-same (link ∷ links) a b h =
    let first : (a link.tail ≡ b link.tail) × (a link.head ≡ b link.head) = h 0 link refl in
    ap (λ (x : Bool). outward_capacity x (a link.head) link.capacity +ℚ capacity_sum links a) first.0
    ∙ ap (λ (x : Bool). outward_capacity (b link.tail) x link.capacity +ℚ capacity_sum links a) first.1
    ∙ ap (λ (y : ℚ). outward_capacity (b link.tail) (b link.head) link.capacity +ℚ y) (capacity_sum-same links a b (λ e l p. h (suc e) l p))

module _ (net : Network) (good : IsNetwork net) where
  abbrev HasSame : Cut → Cut → Type 0
  HasSame a b = (v : ℕ) → v < net.nodes → a v ≡ b v

  cut_capacity-same : (a b : Cut) → HasSame a b → cut_capacity net a ≡ cut_capacity net b
  cut_capacity-same a b same = capacity_sum-same net.links a b (λ e link p. (same link.tail (good.tails e link p), same link.head (good.heads e link p)))

  IsStaticCut-same : (a b : Cut) → HasSame a b → IsStaticCut net a → IsStaticCut net b
  IsStaticCut-same a b same is = record {
    source = sym (same net.source good.source) ∙ is.source;
    sink = sym (same net.sink good.sink) ∙ is.sink;
    unbounded = λ e link p none out. is.unbounded e link p none
        (record { tail = same link.tail (good.tails e link p) ∙ out.tail; head = same link.head (good.heads e link p) ∙ out.head });
  }

  -- ---- the sets that agree with a base set at the nodes from n on
  abbrev Agrees : ℕ → Cut → Cut → Type 0
  Agrees n base cut = (v : ℕ) → n ≤ v → v < net.nodes → cut v ≡ base v

  abbrev IsLeastFrom : ℕ → Cut → Cut → Type 0
  IsLeastFrom n base best = (cut : Cut) → Agrees n base cut → IsStaticCut net cut → cut_capacity net best ≤ℚ cut_capacity net cut

  abbrev HasLeast : ℕ → Cut → Type 0
  HasLeast n base = (best : Cut) × IsStaticCut net best × IsLeastFrom n base best

  abbrev HasNone : ℕ → Cut → Type 0
  HasNone n base = (cut : Cut) → Agrees n base cut → IsStaticCut net cut → ⊥

  none_free : (base : Cut) → HasLeast 0 base ⊎ HasNone 0 base
  none_free base = ⊎_elim
      (λ (is : IsStaticCut net base). inl (base, is, λ cut agrees _. ≤ℚ_of_same _ _ (cut_capacity-same base cut (λ v h. sym (agrees v (omega arith) h)))))
      (λ (none : IsStaticCut net base → ⊥). inr (λ cut agrees is. none (IsStaticCut-same cut base (λ v h. agrees v (omega arith) h) is)))
      (cut_or_not net base)

  -- The base set with the node n put inside or outside.
  abbrev with_node : ℕ → Bool → Cut → Cut
  with_node n side base v = if eqb v n then side else base v

  agrees_with : (n : ℕ) (base cut : Cut) (side : Bool) → cut n ≡ side → Agrees (suc n) base cut → Agrees n (with_node n side base) cut
  agrees_with n base cut side e agrees v h k = ⊎_elim
      (λ (s : (eqb v n ≡ true) × (v ≡ n)). ap cut s.1 ∙ e ∙ sym (ap (λ (b : Bool). if b then side else base v) s.0))
      (λ (s : (eqb v n ≡ false) × (v ≢ n)). agrees v (omega arith) k ∙ sym (ap (λ (b : Bool). if b then side else base v) s.0))
      (eqb_tells v n)

  module _ (n : ℕ) (base : Cut) where
    abbrev near : Cut
    near = with_node n true base

    abbrev far : Cut
    far = with_node n false base

    -- A property of the cuts with the node n and of those without it is one of all cuts.
    on_both : (P : Cut → Type 0) → ((cut : Cut) → Agrees n near cut → IsStaticCut net cut → P cut) → ((cut : Cut) → Agrees n far cut → IsStaticCut net cut → P cut)
        → (cut : Cut) → Agrees (suc n) base cut → IsStaticCut net cut → P cut
    on_both P p q cut agrees is = ⊎_elim
        (λ (e : cut n ≡ true). p cut (agrees_with n base cut true e agrees) is)
        (λ (e : cut n ≡ false). q cut (agrees_with n base cut false e agrees) is)
        (true_or_false (cut n))

    abbrev AtLeast : Cut → Cut → Type 0
    AtLeast best cut = cut_capacity net best ≤ℚ cut_capacity net cut

    lesser : HasLeast n near → HasLeast n far → HasLeast (suc n) base
    lesser a b = ⊎_elim
        (λ (h : cut_capacity net a.0 <ℚ cut_capacity net b.0). (a.0, a.1, on_both (AtLeast a.0) a.2 (λ cut agrees is. ≤ℚ_trans _ _ _ (≤ℚ_of_lt _ _ h) (b.2 cut agrees is))))
        (λ (h : cut_capacity net b.0 ≤ℚ cut_capacity net a.0). (b.0, b.1, on_both (AtLeast b.0) (λ cut agrees is. ≤ℚ_trans _ _ _ h (a.2 cut agrees is)) b.2))
        (lt_or_le_ℚ (cut_capacity net a.0) (cut_capacity net b.0))

    of_both : HasLeast n near ⊎ HasNone n near → HasLeast n far ⊎ HasNone n far → HasLeast (suc n) base ⊎ HasNone (suc n) base
    of_both (inl a) (inl b) = inl (lesser a b)
    of_both (inl a) (inr none) = inl (a.0, a.1, on_both (AtLeast a.0) a.2 (λ cut agrees is. absurd (none cut agrees is)))
    of_both (inr none) (inl b) = inl (b.0, b.1, on_both (AtLeast b.0) (λ cut agrees is. absurd (none cut agrees is)) b.2)
    of_both (inr none) (inr neither) = inr (on_both (λ _. ⊥) none neither)

  least_or_none : (n : ℕ) (base : Cut) → HasLeast n base ⊎ HasNone n base
  least_or_none zero base = none_free base
  least_or_none (suc n) base = of_both n base (least_or_none n (with_node n true base)) (least_or_none n (with_node n false base))

  -- All sets agree at the nodes from net.nodes on, since there are none.
  pub least_exists : ((least : ℚ) × IsLeastCapacity net least) ⊎ ((cut : Cut) → IsStaticCut net cut → ⊥)
  least_exists = ⊎_elim
      (λ (a : HasLeast net.nodes (λ _. false)). inl (cut_capacity net a.0, record { attained = (a.0, a.1, refl); bound = λ cut is. a.2 cut (λ v h k. absurd (omega arith)) is }))
      (λ (none : HasNone net.nodes (λ _. false)). inr (λ cut is. none cut (λ v h k. absurd (omega arith)) is))
      (least_or_none net.nodes (λ _. false))
