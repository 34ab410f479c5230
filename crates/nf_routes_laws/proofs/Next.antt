-- The next entry of a route: the amount of each entry is sent on by the exit of that entry.
use Rattle.std.proofs.Common.{◌≡◌, ◌≢◌, List, [], ◌∷◌, ◌⊎◌, inl, inr, ⊎_elim, Bool, true, false, refl, sym, ap, subst, ◌∙◌, Ok}
use Rattle.nf_routes_laws.proofs.Common.{ℚ, 0ℚ, ◌+ℚ◌, ◌-ℚ◌, ◌*ℚ◌, ◌≤ℚ◌, ◌<ℚ◌, reading_of, ≤ℚ_of_lt, ≤ℚ_antisymm, lt_or_le_ℚ, less_ps, eq, eq_times}
use Rattle.nf_routes_laws.proofs.Common.{linear_eq, Passing, each, Point, Within, value, slope, TimesRise, IsCurve, value-first, value-line, value-after}
use Rattle.nf_routes_laws.proofs.Common.{slope-times, is_same, IsShortOf, then_ok, is_same_cases, checked_short-is, NoneBeyond, CanShare, IsSentOn, ≤ℚ_refl}
use Rattle.nf_routes_laws.proofs.Common.{≤ℚ_trans, same_Ok, same_from_times, Sides, times_of, merged, sides_at, IsOne, AreNext, NextOnes, both_times-next}
use Rattle.nf_routes_laws.proofs.Common.{merged-one, left_affine, right_affine, left_flat, AreSides, sides_at-is, next_from}
use Rattle.nf_model_laws.specs.Affine.{IsAffine}
use Rattle.nf_curve_def.specs.Times.{both_times}
use Rattle.nf_routes_def.specs.RoutesList.{next_entry}

-- ---- numbers: on an interval from a to b, exits have the rate e and entries the rate r; n is the slope of entries by exits
on_line : (n e r d x y z v w : ℚ) → n *ℚ (w -ℚ x) ≡ z -ℚ y → w ≡ x +ℚ e *ℚ d → z ≡ y +ℚ r *ℚ d → 0ℚ <ℚ d → n *ℚ e ≡ r
on_line n e r d x y z v w f g h k = same_from_times d (n *ℚ e) r k (linear_eq (n ∷ e ∷ r ∷ d ∷ x ∷ y ∷ z ∷ w ∷ []) (eq f ∷ eq_times n g ∷ eq h ∷ []) (search reading_of) tt tt)

at_part : (n e r t x y u v : ℚ) → n *ℚ e ≡ r → u ≡ x +ℚ e *ℚ t → v ≡ y +ℚ r *ℚ t → y +ℚ n *ℚ (u -ℚ x) ≡ v
at_part n e r t x y u v f g h = linear_eq (n ∷ e ∷ r ∷ t ∷ x ∷ y ∷ u ∷ v ∷ []) (eq_times t f ∷ eq_times n g ∷ eq h ∷ []) (search reading_of) tt tt

strictly : (x y : ℚ) → x ≤ℚ y → x ≢ y → x <ℚ y
strictly x y h n = ⊎_elim (λ (l : x <ℚ y). l) (λ (l : y ≤ℚ x). absurd (n (≤ℚ_antisymm x y h l))) (lt_or_le_ℚ x y)

no_slope : (n x : ℚ) → n *ℚ (x -ℚ 0ℚ) ≡ 0ℚ -ℚ 0ℚ → 0ℚ <ℚ x → n ≡ 0ℚ
no_slope n x e h = same_from_times x n 0ℚ h (linear_eq (n ∷ x ∷ []) (eq e ∷ []) (search reading_of) tt tt)

level : (n z : ℚ) → n ≡ 0ℚ → 0ℚ +ℚ n *ℚ (z -ℚ 0ℚ) ≡ 0ℚ
level n z e = linear_eq (n ∷ z ∷ []) (eq_times z e ∷ []) (search reading_of) tt tt

-- ---- times of points
beyond-none : (points : List Point) (last t : ℚ) → NoneBeyond points last → IsOne t (times_of points) → t ≤ℚ last
beyond-none [] last t none h = absurd h
beyond-none (p ∷ rest) last t none (inl e) = subst (λ (z : ℚ). z ≤ℚ last) (sym e) (none [] rest p refl)
beyond-none (p ∷ rest) last t none (inr h) = beyond-none rest last t (λ front more q e. none (p ∷ front) more q (ap (λ (l : List Point). p ∷ l) e)) h

pub both_times-either : (left right : List Point) (u : ℚ) → IsOne u (both_times left right) → IsOne u (times_of left) ⊎ IsOne u (times_of right)
unfolding both_times
both_times-either left right u w = merged-one (times_of left) (times_of right) u w

module _ (passes : Passing) (exit entry : List Point) (last : ℚ) (can : CanShare exit entry last) where
  abbrev A : ℚ → ℚ
  A t = value entry t

  abbrev X : ℚ → ℚ
  X t = value exit t

  -- the property of the points from a time a on
  record From (a : ℚ) (points : List Point) : Type 0 where
    pub rises : TimesRise ((X a, A a) ∷ points)
    pub at_exit : (t : ℚ) → a ≤ℚ t → t ≤ℚ last → value ((X a, A a) ∷ points) (X t) ≡ A t
    pub after : (z : ℚ) → X last ≤ℚ z → value ((X a, A a) ∷ points) z ≡ A last

  abbrev Next : ℚ → List ℚ → Type 0
  Next a later = NextOnes (both_times entry exit) a later

  -- both curves are constant after the last time
  from-last : (a : ℚ) → 0ℚ ≤ℚ a → a ≤ℚ last → Next a [] → From a []
  from-last a h k n = record {
    rises = tt;
    at_exit = λ t i j. sym (left_flat entry exit can.entry_curve can.exit_curve a t n i);
    after = λ z i. sym (left_flat entry exit can.entry_curve can.exit_curve a last n k);
  }

  -- exits are constant from a to b: nothing was sent between
  from-same : (a b : ℚ) (points : List Point) → 0ℚ ≤ℚ a → a <ℚ b → b ≤ℚ last → X a ≡ X b → From b points → From a points
  from-same a b points h i k same w = record {
    rises = subst (λ (p : Point). TimesRise (p ∷ points)) (sym point) w.rises;
    at_exit = λ t m n. ⊎_elim
        (λ (l : b ≤ℚ t). ap (λ (p : Point). value (p ∷ points) (X t)) point ∙ w.at_exit t l n)
        (λ (l : t ≤ℚ b).
        let here : X t ≡ X a = ≤ℚ_antisymm _ _ (subst (λ (x : ℚ). X t ≤ℚ x) (sym same) (can.exits_rise t b (≤ℚ_trans _ _ _ h m) l k)) (can.exits_rise a t h m n) in
        ap (value ((X a, A a) ∷ points)) here ∙ value-first (X a, A a) points (subst (λ (p : Point). TimesRise (p ∷ points)) (sym point) w.rises)
        ∙ can.shares a t h m n (sym here))
        (either b t);
    after = λ z m. ap (λ (p : Point). value (p ∷ points) z) point ∙ w.after z m;
  }
    where
      point : ◌≡◌ {A = ℚ × ℚ} (X a, A a) (X b, A b)
      point = let e = can.shares a b h (≤ℚ_of_lt _ _ i) k same in λ j. (same j, e j)

      either : (x y : ℚ) → (x ≤ℚ y) ⊎ (y ≤ℚ x)
      either x y = ⊎_elim (λ (l : x <ℚ y). inl (≤ℚ_of_lt _ _ l)) (λ (l : y ≤ℚ x). inr l) (lt_or_le_ℚ x y)

  -- exits rise from a to b
  from-later : (a b : ℚ) (points : List Point) → 0ℚ ≤ℚ a → b ≤ℚ last → AreNext (both_times entry exit) a b → X a <ℚ X b → From b points → From a ((X b, A b) ∷ points)
  from-later a b points h k n less w = record {
    rises = rises;
    at_exit = λ t m j. ⊎_elim
        (λ (l : b <ℚ t). value-after (X a, A a) (X b, A b) points (X t) (can.exits_rise b t (≤ℚ_trans _ _ _ h (≤ℚ_of_lt _ _ n.order)) (≤ℚ_of_lt _ _ l) j)
        ∙ w.at_exit t (≤ℚ_of_lt _ _ l) j)
        (λ (l : t ≤ℚ b). value-line (X a, A a) (X b, A b) points (X t) rises (can.exits_rise t b (≤ℚ_trans _ _ _ h m) l k) ∙ part t m l)
        (lt_or_le_ℚ b t);
    after = λ z m. value-after (X a, A a) (X b, A b) points z (≤ℚ_trans _ _ _ (can.exits_rise b last (≤ℚ_trans _ _ _ h (≤ℚ_of_lt _ _ n.order)) k (≤ℚ_refl last)) m) ∙ w.after z m;
  }
    where
      rises : TimesRise ((X a, A a) ∷ (X b, A b) ∷ points)
      rises = (less, w.rises)

      f : (k : ℚ) × IsAffine (value entry) a b k
      f = left_affine entry exit can.entry_curve can.exit_curve a b h n

      g : (k : ℚ) × IsAffine (value exit) a b k
      g = right_affine entry exit can.entry_curve can.exit_curve a b h n

      rate : slope (X a, A a) (X b, A b) *ℚ g.0 ≡ f.0
      rate = on_line (slope (X a, A a) (X b, A b)) g.0 f.0 (b -ℚ a) (X a) (A a) (A b) 0ℚ (X b) (slope-times (X a, A a) (X b, A b) less)
          (g.1.line b (≤ℚ_of_lt _ _ n.order) (≤ℚ_refl b)) (f.1.line b (≤ℚ_of_lt _ _ n.order) (≤ℚ_refl b)) (less_ps a b n.order)

      part : (t : ℚ) → a ≤ℚ t → t ≤ℚ b → A a +ℚ slope (X a, A a) (X b, A b) *ℚ (X t -ℚ X a) ≡ A t
      part t m l = at_part (slope (X a, A a) (X b, A b)) g.0 f.0 (t -ℚ a) (X a) (A a) (X t) (A t) rate (g.1.line t m l) (f.1.line t m l)

  -- one more time before the others: it gives a point exactly if its exit differs from the exit before it
  from-next : (a b : ℚ) (sides : Sides) (rest : List Sides) → 0ℚ ≤ℚ a → b ≤ℚ last → AreNext (both_times entry exit) a b → AreSides entry exit can.entry_curve can.exit_curve b sides
      → From b (next_from (X b) rest) → From a (next_from (X a) (sides ∷ rest))
  from-next a b sides rest h k n s w = ⊎_elim
      (λ (t : (is_same (X a) sides.right ≡ true) × (X a ≡ sides.right)).
      let same : X a ≡ X b = t.1 ∙ s.right_is in
      subst (λ (c : Bool). From a (elim c [
        | true ↦ next_from (X a) rest
        | false ↦ (sides.right, sides.left) ∷ next_from sides.right rest
      ])) (sym t.0)
      (subst (λ (x : ℚ). From a (next_from x rest)) (sym same) (from-same a b (next_from (X b) rest) h n.order k same w)))
      (λ (t : (is_same (X a) sides.right ≡ false) × (X a ≢ sides.right)).
      let less : X a <ℚ X b = strictly (X a) (X b) (can.exits_rise a b h (≤ℚ_of_lt _ _ n.order) k) (λ e. t.1 (e ∙ sym s.right_is)) in
      subst (λ (c : Bool). From a (elim c [
        | true ↦ next_from (X a) rest
        | false ↦ (sides.right, sides.left) ∷ next_from sides.right rest
      ])) (sym t.0)
      (subst (λ (x : ℚ). From a ((x, sides.left) ∷ next_from x rest)) (sym s.right_is)
      (subst (λ (y : ℚ). From a ((X b, y) ∷ next_from (X b) rest)) (sym s.left_is) (from-later a b (next_from (X b) rest) h k n less w))))
      (is_same_cases (X a) sides.right)

  -- all times from one on
  all-from : (a : ℚ) (later : List ℚ) (sides : List Sides) → 0ℚ ≤ℚ a → a ≤ℚ last → ((t : ℚ) → IsOne t later → t ≤ℚ last) → Next a later
      → each (sides_at passes entry exit) later ≡ Ok sides
      → From a (next_from (X a) sides)
  all-from a [] sides h k all n e = subst (λ (l : List Sides). From a (next_from (X a) l)) (same_Ok _ _ e) (from-last a h k n)
  all-from a (b ∷ later) sides h k all n e =
      let s = then_ok (sides_at passes entry exit b) _ sides e in
      let r = then_ok (each (sides_at passes entry exit) later) _ sides s.next in
      let b_nn : 0ℚ ≤ℚ b = ≤ℚ_trans _ _ _ h (≤ℚ_of_lt _ _ n.0.order) in
      let b_in : b ≤ℚ last = all b (inl refl) in
      subst (λ (l : List Sides). From a (next_from (X a) l)) (same_Ok _ _ r.next)
      (from-next a b s.between r.between h b_in n.0 (sides_at-is entry exit can.entry_curve can.exit_curve passes b s.between b_nn s.first)
      (all-from b later r.between b_nn b_in (λ t w. all t (inr w)) n.1 r.first))

  -- ---- from time 0 on
  record All (points : List Point) : Type 0 where
    pub curve : IsCurve points
    pub at_exit : (t : ℚ) → Within 0ℚ last t → value points (X t) ≡ A t
    pub before : (z : ℚ) → Within 0ℚ (X 0ℚ) z → value points z ≡ 0ℚ
    pub after : (z : ℚ) → X last ≤ℚ z → value points z ≡ A last

  all-first : (sides : Sides) (rest : List Sides) → AreSides entry exit can.entry_curve can.exit_curve 0ℚ sides → From 0ℚ (next_from (X 0ℚ) rest)
      → All ((0ℚ, 0ℚ) ∷ next_from 0ℚ (sides ∷ rest))
  all-first sides rest s w = ⊎_elim
      (λ (t : (is_same 0ℚ sides.right ≡ true) × (0ℚ ≡ sides.right)).
      let zero : 0ℚ ≡ X 0ℚ = t.1 ∙ s.right_is in
      subst (λ (c : Bool). All ((0ℚ, 0ℚ) ∷ elim c [
        | true ↦ next_from 0ℚ rest
        | false ↦ (sides.right, sides.left) ∷ next_from sides.right rest
      ])) (sym t.0)
      (subst (λ (x : ℚ). All ((0ℚ, 0ℚ) ∷ next_from x rest)) (sym zero) (at_once zero (next_from (X 0ℚ) rest) w)))
      (λ (t : (is_same 0ℚ sides.right ≡ false) × (0ℚ ≢ sides.right)).
      let less : 0ℚ <ℚ X 0ℚ = strictly 0ℚ (X 0ℚ) can.first_exit (λ e. t.1 (e ∙ sym s.right_is)) in
      subst (λ (c : Bool). All ((0ℚ, 0ℚ) ∷ elim c [
        | true ↦ next_from 0ℚ rest
        | false ↦ (sides.right, sides.left) ∷ next_from sides.right rest
      ])) (sym t.0)
      (subst (λ (x : ℚ). All ((0ℚ, 0ℚ) ∷ (x, sides.left) ∷ next_from x rest)) (sym s.right_is)
      (subst (λ (y : ℚ). All ((0ℚ, 0ℚ) ∷ (X 0ℚ, y) ∷ next_from (X 0ℚ) rest)) (sym s.left_is) (later less (next_from (X 0ℚ) rest) w))))
      (is_same_cases 0ℚ sides.right)
    where
      -- the first exit is at time 0
      at_once : 0ℚ ≡ X 0ℚ → (points : List Point) → From 0ℚ points → All ((0ℚ, 0ℚ) ∷ points)
      at_once zero points w =
          let point : ◌≡◌ {A = ℚ × ℚ} (0ℚ, 0ℚ) (X 0ℚ, A 0ℚ) = (let e = sym can.begins in λ j. (zero j, e j)) in
          let rises : TimesRise ((0ℚ, 0ℚ) ∷ points) = subst (λ (p : Point). TimesRise (p ∷ points)) (sym point) w.rises in
          record {
            curve = (refl, rises);
            at_exit = λ t k. ap (λ (p : Point). value (p ∷ points) (X t)) point ∙ w.at_exit t k.0 k.1;
            before = λ z k. ap (value ((0ℚ, 0ℚ) ∷ points)) (≤ℚ_antisymm z 0ℚ (subst (λ (x : ℚ). z ≤ℚ x) (sym zero) k.1) k.0) ∙ value-first (0ℚ, 0ℚ) points rises;
            after = λ z k. ap (λ (p : Point). value (p ∷ points) z) point ∙ w.after z k;
          }

      later : 0ℚ <ℚ X 0ℚ → (points : List Point) → From 0ℚ points → All ((0ℚ, 0ℚ) ∷ (X 0ℚ, A 0ℚ) ∷ points)
      later less points w =
          let rises : TimesRise ((0ℚ, 0ℚ) ∷ (X 0ℚ, A 0ℚ) ∷ points) = (less, w.rises) in
          record {
            curve = (refl, rises);
            at_exit = λ t k. value-after (0ℚ, 0ℚ) (X 0ℚ, A 0ℚ) points (X t) (can.exits_rise 0ℚ t (≤ℚ_refl 0ℚ) k.0 k.1) ∙ w.at_exit t k.0 k.1;
            before = λ z k. value-line (0ℚ, 0ℚ) (X 0ℚ, A 0ℚ) points z rises k.1
                ∙ level (slope (0ℚ, 0ℚ) (X 0ℚ, A 0ℚ)) z (no_slope (slope (0ℚ, 0ℚ) (X 0ℚ, A 0ℚ)) (X 0ℚ)
                (slope-times (0ℚ, 0ℚ) (X 0ℚ, A 0ℚ) less ∙ ap (λ (y : ℚ). y -ℚ 0ℚ) can.begins) less);
            after = λ z k. value-after (0ℚ, 0ℚ) (X 0ℚ, A 0ℚ) points z (≤ℚ_trans _ _ _ (can.exits_rise 0ℚ last (≤ℚ_refl 0ℚ) can.from_0 (≤ℚ_refl last)) k) ∙ w.after z k;
          }

  in_last : (t : ℚ) → IsOne t (both_times entry exit) → t ≤ℚ last
  in_last t w = ⊎_elim
      (λ (h : IsOne t (times_of entry)). beyond-none entry last t can.entry_ends h)
      (λ (h : IsOne t (times_of exit)). beyond-none exit last t can.exit_ends h)
      (both_times-either entry exit t w)

  pub next_entry-is : (next : List Point) → next_entry passes exit entry ≡ Ok next → IsSentOn exit entry last next
  unfolding next_entry
  next_entry-is next e =
      let s = then_ok (each (sides_at passes entry exit) (both_times entry exit)) _ next e in
      let t = both_times-next entry exit can.entry_curve can.exit_curve in
      let e' : each (sides_at passes entry exit) (0ℚ ∷ t.later) ≡ Ok s.between = ap (λ (l : List ℚ). each (sides_at passes entry exit) l) (sym t.begins) ∙ s.first in
      let a = then_ok (sides_at passes entry exit 0ℚ) _ s.between e' in
      let b = then_ok (each (sides_at passes entry exit) t.later) _ s.between a.next in
      let all : All ((0ℚ, 0ℚ) ∷ next_from 0ℚ s.between) = subst (λ (l : List Sides). All ((0ℚ, 0ℚ) ∷ next_from 0ℚ l)) (same_Ok _ _ b.next)
      (all-first a.between b.between (sides_at-is entry exit can.entry_curve can.exit_curve passes 0ℚ a.between (≤ℚ_refl 0ℚ) a.first)
      (all-from 0ℚ t.later b.between (≤ℚ_refl 0ℚ) can.from_0 (λ u w. in_last u (subst (λ (l : List ℚ). IsOne u l) (sym t.begins) (inr w))) t.next b.first)) in
      let short : IsShortOf ((0ℚ, 0ℚ) ∷ next_from 0ℚ s.between) next = checked_short-is passes _ next all.curve s.next in
      record {
        curve = short.curve;
        form = short.form;
        at_exit = λ u w. short.values (X u) (≤ℚ_trans _ _ _ can.first_exit (can.exits_rise 0ℚ u (≤ℚ_refl 0ℚ) w.0 w.1)) ∙ all.at_exit u w;
        before = λ z w. short.values z w.0 ∙ all.before z w;
        after = λ z w. short.values z (≤ℚ_trans _ _ _ (≤ℚ_trans _ _ _ can.first_exit (can.exits_rise 0ℚ last (≤ℚ_refl 0ℚ) can.from_0 (≤ℚ_refl last))) w) ∙ all.after z w;
      }
