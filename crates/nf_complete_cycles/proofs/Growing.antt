-- A tree of steps, its extension by one step, and the path back to its root.
use Rattle.std.proofs.Common.{◌≡◌, ◌≢◌, ℕ, zero, suc, ◌<◌, ◌≤◌, List, [], ◌∷◌, length, ◌⊎◌, inl, inr, ⊎_elim, Bool, true, false, not, if◌then◌else◌, eqb}
use Rattle.std.proofs.Common.{set, Option, Some, None, slice_get, sym, ap, subst, refl, ◌∙◌, arith, ◌↔◌, Contains}
use Rattle.nf_complete_cycles.proofs.Common.{AllByRecursion, length-set, slice_get_within, eqb_tells, Has, Hop, IsHop, IsTrail, AllDiffer, AreBelow}
use Rattle.nf_complete_cycles.proofs.Common.{Has-set_same, Has-set_other, Has-set_cases, IsHop-unique, links_of, contains_none, contains_cases}
use Rattle.nf_complete_cycles.proofs.Common.{contains_more, contains_first, begin_of, end_of, StepsOut, NoneStepsOut, begin_at, step_end, InTree, IsTree}
use Rattle.nf_complete_cycles.proofs.Common.{way_back, IsWay, AreApart}
use Rattle.std.specs.Option.{option_map_or}

begin_is : (hops : List Hop) (step : ℕ × Bool) (hop : Hop) → IsHop hops step.0 hop → begin_at hops step ≡ begin_of step.1 hop
begin_is hops step hop p = ap (λ (o : Option Hop). option_map_or (begin_of step.1) o 0) p

end_is : (hops : List Hop) (step : ℕ × Bool) (hop : Hop) → IsHop hops step.0 hop → step_end hops step ≡ end_of step.1 hop
end_is hops step hop p = ap (λ (o : Option Hop). option_map_or (end_of step.1) o 0) p

ends_both : (P : ℕ → Type 0) (b : Bool) (hop : Hop) → P (begin_of b hop) → P (end_of b hop) → P hop.tail × P hop.head
ends_both P true hop x y = (x, y)
ends_both P false hop x y = (y, x)

end_by : (P : ℕ → Type 0) (b : Bool) (hop : Hop) → P hop.tail × P hop.head → P (end_of b hop)
end_by P true hop x = x.1
end_by P false hop x = x.0

module _ (hops : List Hop) (chosen : List Bool) (from : ℕ) where
  -- both ends of its links are in the tree
  ends_in : (tree : List (ℕ × Bool)) → IsTree hops chosen from tree → (e : ℕ) (hop : Hop) → Contains (links_of tree) e → IsHop hops e hop
      → InTree hops from tree hop.tail × InTree hops from tree hop.head
  ends_in [] t e hop c p = absurd (contains_none e c)
  ends_in (s ∷ older) (g, q, a, b, n, t) e hop c p = ⊎_elim
      (λ (w : s.0 ≡ e). subst (λ (h : Hop). InTree hops from (s ∷ older) h.tail × InTree hops from (s ∷ older) h.head)
      (IsHop-unique hops e g hop (subst (λ (k : ℕ). IsHop hops k g) w q) p)
      (ends_both (InTree hops from (s ∷ older)) s.1 g (inr b) (inl (end_is hops s g q))))
      (λ (w : Contains (links_of older) e). let r = ends_in older t e hop w p in (inr r.0, inr r.1))
      (contains_cases s.0 (links_of older) e c)

  -- the path back uses links of the tree
  back_in : (tree : List (ℕ × Bool)) (v e : ℕ) → Contains (links_of (way_back hops tree v)) e → Contains (links_of tree) e
  back_in [] v e c = absurd (contains_none e c)
  back_in (s ∷ older) v e c = ⊎_elim
      (λ (w : (eqb (step_end hops s) v ≡ true) × (step_end hops s ≡ v)). ⊎_elim
      (λ (q : s.0 ≡ e). contains_first s.0 (links_of older) e q)
      (λ (q : Contains (links_of (way_back hops older (begin_at hops s))) e). contains_more s.0 (links_of older) e (back_in older (begin_at hops s) e q))
      (contains_cases s.0 (links_of (way_back hops older (begin_at hops s))) e (by w.0 c)))
      (λ (w : (eqb (step_end hops s) v ≡ false) × (step_end hops s ≢ v)). contains_more s.0 (links_of older) e (back_in older v e (by w.0 c)))
      (eqb_tells (step_end hops s) v)
    where
      by : {b : Bool} → eqb (step_end hops s) v ≡ b → Contains (links_of (way_back hops (s ∷ older) v)) e
          → Contains (links_of (if b then (s.0, not s.1) ∷ way_back hops older (begin_at hops s) else way_back hops older v)) e
      by {b = b} h c = subst (λ (t : Bool). Contains (links_of (if t then (s.0, not s.1) ∷ way_back hops older (begin_at hops s) else way_back hops older v)) e) h c

  abbrev Back : List (ℕ × Bool) → ℕ → Type 0
  Back steps v = IsTrail hops (Has chosen) steps v from × AllDiffer (links_of steps)

  first_step : (b : Bool) (g : Hop) (v : ℕ) → end_of b g ≡ v → v ≡ (if not b then g.tail else g.head)
  first_step true g v e = sym e
  first_step false g v e = sym e

  next_node : (b : Bool) (g : Hop) → begin_of b g ≡ (if not b then g.head else g.tail)
  next_node true g = refl
  next_node false g = refl

  pub back-trail : (tree : List (ℕ × Bool)) → IsTree hops chosen from tree → (v : ℕ) → InTree hops from tree v → Back (way_back hops tree v) v
  back-trail [] t v i = (i, tt)
  back-trail (s ∷ older) (g, q, a, b, n, t) v i = ⊎_elim
      (λ (w : (eqb (step_end hops s) v ≡ true) × (step_end hops s ≡ v)).
      let r : Back (way_back hops older (begin_at hops s)) (begin_at hops s) =
      back-trail older t (begin_at hops s) (subst (λ (k : ℕ). InTree hops from older k) (sym (begin_is hops s g q)) b) in
      by w.0 (
        (
          g,
          q,
          a,
          first_step s.1 g v (sym (end_is hops s g q) ∙ w.1),
          subst
              (λ (k : ℕ). IsTrail hops (Has chosen) (way_back hops older (begin_at hops s)) k from) (begin_is hops s g q ∙ next_node s.1 g) r.0,
        ),
        ((λ c. n (end_by (InTree hops from older) s.1 g (ends_in older t s.0 g (back_in older (begin_at hops s) s.0 c) q))), r.1),
      ))
      (λ (w : (eqb (step_end hops s) v ≡ false) × (step_end hops s ≢ v)). by w.0
      (back-trail older t v (⊎_elim (λ (x : step_end hops s ≡ v). absurd (w.1 x)) (λ (x : InTree hops from older v). x) i)))
      (eqb_tells (step_end hops s) v)
    where
      by : {b : Bool} → eqb (step_end hops s) v ≡ b → Back (if b then (s.0, not s.1) ∷ way_back hops older (begin_at hops s) else way_back hops older v) v
          → Back (way_back hops (s ∷ older) v) v
      by {b = b} h r = subst (λ (t : Bool). Back (if t then (s.0, not s.1) ∷ way_back hops older (begin_at hops s) else way_back hops older v) v) (sym h) r

  -- ---- a tree with the flags of its nodes
  pub record IsGrown (nodes : ℕ) (flags : List Bool) (tree : List (ℕ × Bool)) : Type 0 where
    pub count : length flags ≡ nodes
    pub start : from < nodes
    pub tree_is : IsTree hops chosen from tree
    pub marks : (v : ℕ) → Has flags v ↔ InTree hops from tree v

  pub grown_first : (nodes i : ℕ) (flags : List Bool) → length flags ≡ nodes → ((v : ℕ) → Has flags v → ⊥) → from < nodes → i ≡ from → IsGrown nodes (set flags i true) []
  grown_first nodes i flags l none h e = record {
    count = length-set flags i true ∙ l;
    start = h;
    tree_is = tt;
    marks = λ v. (
      (λ s. ⊎_elim (λ (p : v ≡ i). p ∙ e) (λ (k : Has flags v). absurd (none v k)) (Has-set_cases flags i v s)),
      (λ p. subst (λ (k : ℕ). Has (set flags i true) k) (e ∙ sym p) (Has-set_same flags i (let m = e in omega arith))),
    );
  }

  pub grown_more : (nodes i : ℕ) (flags : List Bool) (tree : List (ℕ × Bool)) (step : ℕ × Bool) → IsGrown nodes flags tree → StepsOut hops chosen flags step
      → i ≡ step_end hops step → i < nodes
      → IsGrown nodes (set flags i true) (step ∷ tree)
  grown_more nodes i flags tree step g o e h = record {
    count = length-set flags i true ∙ g.count;
    start = g.start;
    tree_is = (o.hop, o.is_hop, o.chosen_is, (g.marks (begin_of step.1 o.hop)).0 o.crosses.0, (λ k. o.crosses.1 ((g.marks (end_of step.1 o.hop)).1 k)), g.tree_is);
    marks = λ v. (
      (λ s. ⊎_elim (λ (p : v ≡ i). inl (sym e ∙ sym p)) (λ (k : Has flags v). inr ((g.marks v).0 k)) (Has-set_cases flags i v s)),
      (λ k. ⊎_elim
          (λ (p : step_end hops step ≡ v). subst (λ (j : ℕ). Has (set flags i true) j) (e ∙ p) (Has-set_same flags i (let c = g.count in omega arith)))
          (λ (p : InTree hops from tree v). Has-set_other flags i v ((g.marks v).1 p)) k),
    );
  }

  pub out_free : (flags : List Bool) (step : ℕ × Bool) → StepsOut hops chosen flags step → Has flags (step_end hops step) → ⊥
  out_free flags step o h = o.crosses.1 (subst (λ (k : ℕ). Has flags k) (end_is hops step o.hop o.is_hop) h)

  pub out_below : (nodes : ℕ) (flags : List Bool) (step : ℕ × Bool) → AreBelow nodes hops → StepsOut hops chosen flags step → step_end hops step < nodes
  out_below nodes flags step b o =
      subst (λ (k : ℕ). k < nodes) (sym (end_is hops step o.hop o.is_hop))
      (end_by (λ k. k < nodes) step.1 o.hop (b.tails step.0 o.hop o.is_hop, b.heads step.0 o.hop o.is_hop))

  -- ---- the end
  pub way_found : (nodes to : ℕ) (flags : List Bool) (tree : List (ℕ × Bool)) → IsGrown nodes flags tree → Has flags to → IsWay hops chosen from to (way_back hops tree to)
  way_found nodes to flags tree g h = let r = back-trail tree g.tree_is to ((g.marks to).0 h) in record { trail = r.0; differ = r.1 }

  has_or_not : (flags : List Bool) (v : ℕ) → Has flags v ⊎ (Has flags v → ⊥)
  has_or_not flags v = by (slice_get flags v)
    where
      false_true : Some false ≡ Some true → ⊥
      false_true e = cc

      none_true : None ≡ Some true → ⊥
      none_true e = cc

      by : (o : Option Bool) → (o ≡ Some true) ⊎ (o ≡ Some true → ⊥)
      by (Some true) = inl refl
      by (Some false) = inr false_true
      by None = inr none_true

  pub apart_found : (nodes to : ℕ) (flags : List Bool) (tree : List (ℕ × Bool)) → IsGrown nodes flags tree → NoneStepsOut hops chosen flags
      → (Has flags to → ⊥) → AreApart hops chosen from to
  apart_found nodes to flags tree g none out = record {
    flags = flags;
    closed = λ e hop p c. (
      (λ h. ⊎_elim (λ (k : Has flags hop.head). k) (λ (n : Has flags hop.head → ⊥). absurd
          (none (e, true) (record { hop = hop; is_hop = p; chosen_is = c; crosses = (h, n) }))) (has_or_not flags hop.head)),
      (λ h. ⊎_elim (λ (k : Has flags hop.tail). k) (λ (n : Has flags hop.tail → ⊥). absurd
          (none (e, false) (record { hop = hop; is_hop = p; chosen_is = c; crosses = (h, n) }))) (has_or_not flags hop.tail)),
    );
    from_in = (g.marks from).1 (from_in tree);
    to_out = out;
  }
    where
      from_in : (tree : List (ℕ × Bool)) → InTree hops from tree from
      from_in [] = refl
      from_in (s ∷ older) = inr (from_in older)

-- the first chosen hop that leads out, or none does
pub none_out : (hops : List Hop) (chosen flags : List Bool) (e : ℕ) → ((k : ℕ) → k < e → (forward : Bool) → StepsOut hops chosen flags (k, forward) → ⊥)
    → length hops ≤ e → NoneStepsOut hops chosen flags
none_out hops chosen flags e f h step o = let w : step.0 < length hops = slice_get_within hops step.0 o.hop o.is_hop in f step.0 (omega arith) step.1 o

-- the steps of a tree are along hops
pub tree_below : (hops : List Hop) (chosen : List Bool) (from : ℕ) (tree : List (ℕ × Bool)) → IsTree hops chosen from tree
    → AllByRecursion (λ (step : ℕ × Bool). step.0 < length hops) tree
tree_below hops chosen from [] t = tt
tree_below hops chosen from (s ∷ older) (g, q, a, b, n, t) = (slice_get_within hops s.0 g q, tree_below hops chosen from older t)

-- a property of each step is a property of one of them
pub one_below : (P : ℕ × Bool → Type 0) (tree : List (ℕ × Bool)) (i : ℕ) (step : ℕ × Bool) → AllByRecursion P tree → slice_get tree i ≡ Some step → P step
one_below P [] i step all e = absurd (cc)
one_below P (x ∷ tree) zero step all e = let same : x ≡ step = cc in subst P same all.0
one_below P (x ∷ tree) (suc i) step all e = one_below P tree i step all.1 e
