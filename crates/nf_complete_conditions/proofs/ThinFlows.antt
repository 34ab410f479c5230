-- Flows and slopes are a thin flow exactly if each node is balanced, each active link satisfies the slope condition, and the other
-- conditions hold.
use Rattle.std.proofs.Common.{◌≡◌, ◌≢◌, ◌⊎◌, inl, inr, ⊎_elim, ℕ, ◌<◌, Bool, true, false, if◌then◌else◌, eqb, List, [], ◌∷◌, length, None, sym, ap, subst}
use Rattle.std.proofs.Common.{refl, ◌∙◌}
use Rattle.nf_complete_conditions.proofs.Common.{eqb_tells, cases_eq, ℚ, 0ℚ, ◌+ℚ◌, ◌-ℚ◌, ◌≤ℚ◌, reading_of, eq, linear_eq, number_at, Has, Link, Network}
use Rattle.nf_complete_conditions.proofs.Common.{IsLink, sum_in, sum_out, Sets, surplus, exit_slope, exit_slope_at, Enters, IsThinFlow, IsLink-unique, flag}
use Rattle.nf_complete_conditions.proofs.Common.{flag-cases, same_or_not, empty_exit, active_flow, brought, taken_away, IsBalanced, KeepsAt, IsLevelAt}
use Rattle.nf_complete_conditions.proofs.Common.{Brings, Takes, CarriesOnActive, IsProper}
use Rattle.nf_model_laws.proofs.Earliest.{IsPositive-link}
use Rattle.nf_model_laws.proofs.Sums.{sum_in-same, sum_out-same, sum_in-none}
use Rattle.nf_thin_laws.specs.ActiveLinks.{NoneEntersSource}
use Rattle.nf_thin_laws.proofs.Slopes.{link_law}
use Rattle.nf_thin_laws.proofs.Bases.{has_or_not}
use Rattle.nf_model_laws.proofs.Totals.{IsThinFlow-sink}
use Rattle.nf_complete_laws.specs.SettleLaws.{AreGoodSets}
use Rattle.nf_complete_conditions.proofs.ExitsTaken.{keeps-used, keeps-least, keeps-taken, law-keeps}

pub if_same : {A : Type 0} (v w : ℕ) (a b : A) → v ≡ w → (if eqb v w then a else b) ≡ a
if_same {A = A} v w a b e = ⊎_elim
    (λ (h : (eqb v w ≡ true) × (v ≡ w)). ap (λ (t : Bool). if t then a else b) h.0)
    (λ (h : (eqb v w ≡ false) × (v ≢ w)). absurd (h.1 e))
    (eqb_tells v w)

pub if_other : {A : Type 0} (v w : ℕ) (a b : A) → v ≢ w → (if eqb v w then a else b) ≡ b
if_other {A = A} v w a b n = ⊎_elim
    (λ (h : (eqb v w ≡ true) × (v ≡ w)). absurd (n h.1))
    (λ (h : (eqb v w ≡ false) × (v ≢ w)). ap (λ (t : Bool). if t then a else b) h.0)
    (eqb_tells v w)

-- ---- numbers: o goes out of a node, i comes in, and r is the rate
out_is : (o i r : ℚ) → i ≡ 0ℚ → r ≡ o → o -ℚ i ≡ r
out_is o i r e f = linear_eq (o ∷ i ∷ r ∷ []) (eq e ∷ eq f ∷ []) (search reading_of depth 12) tt tt

is_out : (o i r : ℚ) → i ≡ 0ℚ → o -ℚ i ≡ r → r ≡ o
is_out o i r e f = linear_eq (o ∷ i ∷ r ∷ []) (eq e ∷ eq f ∷ []) (search reading_of depth 12) tt tt

none_left : (o i : ℚ) → i ≡ o → o -ℚ i ≡ 0ℚ
none_left o i e = linear_eq (o ∷ i ∷ []) (eq e ∷ []) (search reading_of depth 12) tt tt

left_none : (o i : ℚ) → o -ℚ i ≡ 0ℚ → i ≡ o
left_none o i e = linear_eq (o ∷ i ∷ []) (eq e ∷ []) (search reading_of depth 12) tt tt

left_rate : (o i r : ℚ) → o -ℚ i ≡ 0ℚ -ℚ r → i ≡ o +ℚ r
left_rate o i r e = linear_eq (o ∷ i ∷ r ∷ []) (eq e ∷ []) (search reading_of depth 12) tt tt

module _ (net : Network) (sets : Sets) (rate : ℚ) (flows slopes : List ℚ) (good : AreGoodSets net sets) (none_in : NoneEntersSource net sets) where
  abbrev pub Balanced : Type 0
  Balanced = (v : ℕ) → v < net.nodes → IsBalanced net sets rate flows v

  abbrev pub Kept : Type 0
  Kept = (e : ℕ) (link : Link) → IsLink net e link → KeepsAt sets flows slopes e link

  -- ---- flows of links, if only active links carry flow
  module _ (only : CarriesOnActive sets flows) where
    active_same : (e : ℕ) → active_flow sets flows e ≡ number_at flows e
    active_same e = ⊎_elim
        (λ (w : (flag sets.active e ≡ true) × Has sets.active e). ap (λ (b : Bool). if b then number_at flows e else 0ℚ) w.0)
        (λ (w : (flag sets.active e ≡ false) × (Has sets.active e → ⊥)). ap (λ (b : Bool). if b then number_at flows e else 0ℚ) w.0 ∙ sym (only e w.1))
        (flag-cases sets.active e)

    in_same : (v : ℕ) → sum_in net.links (active_flow sets flows) v ≡ sum_in net.links (number_at flows) v
    in_same v = sum_in-same net.links (active_flow sets flows) (number_at flows) v (λ e link p at. active_same e)

    out_same : (v : ℕ) → sum_out net.links (active_flow sets flows) v ≡ sum_out net.links (number_at flows) v
    out_same v = sum_out-same net.links (active_flow sets flows) (number_at flows) v (λ e link p at. active_same e)

    source_in : sum_in net.links (number_at flows) net.source ≡ 0ℚ
    source_in = sum_in-same net.links (number_at flows) (λ _. 0ℚ) net.source (λ e link p at. ⊎_elim
        (λ (a : Has sets.active e). absurd (none_in e link (record { is_link = p; active = a; head = at })))
        (λ (n : Has sets.active e → ⊥). only e n)
        (has_or_not sets.active e)) ∙ sum_in-none net.links net.source

    brought_source : brought net sets rate flows net.source ≡ rate
    brought_source = if_same net.source net.source rate (sum_in net.links (active_flow sets flows) net.source) refl

    brought_other : (v : ℕ) → v ≢ net.source → brought net sets rate flows v ≡ sum_in net.links (number_at flows) v
    brought_other v n = if_other v net.source rate (sum_in net.links (active_flow sets flows) v) n ∙ in_same v

    taken_sink : (v : ℕ) → v ≡ net.sink → taken_away net sets rate flows v ≡ sum_out net.links (number_at flows) v +ℚ rate
    taken_sink v e = if_same v net.sink (sum_out net.links (active_flow sets flows) v +ℚ rate) (sum_out net.links (active_flow sets flows) v) e ∙ ap (λ (s : ℚ). s +ℚ rate) (out_same v)

    taken_other : (v : ℕ) → v ≢ net.sink → taken_away net sets rate flows v ≡ sum_out net.links (number_at flows) v
    taken_other v n = if_other v net.sink (sum_out net.links (active_flow sets flows) v +ℚ rate) (sum_out net.links (active_flow sets flows) v) n ∙ out_same v

    source_of : IsBalanced net sets rate flows net.source → surplus net flows net.source ≡ rate
    source_of b = out_is _ _ rate source_in (sym brought_source ∙ b ∙ taken_other net.source good.network.apart)

    inner_of : (v : ℕ) → v ≢ net.source → v ≢ net.sink → IsBalanced net sets rate flows v → surplus net flows v ≡ 0ℚ
    inner_of v s t b = none_left _ _ (sym (brought_other v s) ∙ b ∙ taken_other v t)

    balanced_source : surplus net flows net.source ≡ rate → IsBalanced net sets rate flows net.source
    balanced_source e = brought_source ∙ is_out _ _ rate source_in e ∙ sym (taken_other net.source good.network.apart)

    balanced_sink : (v : ℕ) → v ≢ net.source → v ≡ net.sink → surplus net flows v ≡ 0ℚ -ℚ rate → IsBalanced net sets rate flows v
    balanced_sink v s t e = brought_other v s ∙ left_rate _ _ rate e ∙ sym (taken_sink v t)

    balanced_inner : (v : ℕ) → v ≢ net.source → v ≢ net.sink → surplus net flows v ≡ 0ℚ → IsBalanced net sets rate flows v
    balanced_inner v s t e = brought_other v s ∙ left_none _ _ e ∙ sym (taken_other v t)

  -- ---- to a thin flow
  module _ (flow_count : length flows ≡ length net.links) (slope_count : length slopes ≡ net.nodes) (balanced : Balanced) (kept : Kept) (proper : IsProper net sets flows slopes) where
    abbrev x : ℕ → ℚ
    x = number_at flows

    abbrev l : ℕ → ℚ
    l = number_at slopes

    at_head : (v e : ℕ) (link : Link) (P : ℚ → Type 0) → Enters net sets v e link → P (l link.head) → P (l v)
    at_head v e link P n h = subst (λ (k : ℕ). P (l k)) n.head h

    takes_exit : (v e : ℕ) (link : Link) → Enters net sets v e link → Brings sets flows e ⊎ IsLevelAt net slopes e → exit_slope_at sets flows slopes e link ≡ l v
    takes_exit v e link n w = at_head v e link (λ (z : ℚ). exit_slope_at sets flows slopes e link ≡ z) n
        (keeps-taken (flag sets.resetting e) link.capacity (x e) (l link.tail) (l link.head) (IsPositive-link net e link good.network n.is_link) bounded
        (proper.no_negative_flow e) (proper.no_negative_slope link.tail) (kept e link n.is_link n.active) (case w))
      where
        bounded : flag sets.resetting e ≡ true → link.capacity ≡ None → ⊥
        bounded f none = ⊎_elim
            (λ (r : (flag sets.resetting e ≡ true) × Has sets.resetting e). good.bounded e link n.is_link none r.1)
            (λ (r : (flag sets.resetting e ≡ false) × (Has sets.resetting e → ⊥)). apart (sym f ∙ r.0))
            (flag-cases sets.resetting e)
          where
            apart : true ≡ false → ⊥
            apart q = cc

        reset : Has sets.resetting e → flag sets.resetting e ≡ true
        reset r = ⊎_elim
            (λ (h : (flag sets.resetting e ≡ true) × Has sets.resetting e). h.0)
            (λ (h : (flag sets.resetting e ≡ false) × (Has sets.resetting e → ⊥)). absurd (h.1 r))
            (flag-cases sets.resetting e)

        case : Brings sets flows e ⊎ IsLevelAt net slopes e → (flag sets.resetting e ≡ true) ⊎ ((x e ≢ 0ℚ) ⊎ (l link.head ≡ l link.tail))
        case (inl (inl r)) = inl (reset r)
        case (inl (inr z)) = inr (inl z)
        case (inr k) = inr (inr (k link n.is_link))

    pub IsThinFlow-made : IsThinFlow net sets rate flows slopes
    IsThinFlow-made = record {
      flow_count = flow_count;
      slope_count = slope_count;
      no_negative_flow = proper.no_negative_flow;
      no_negative_slope = proper.no_negative_slope;
      active_only = proper.active_only;
      source = source_of proper.active_only (balanced net.source good.network.source);
      inner = λ v h s t. inner_of proper.active_only v s t (balanced v h);
      starts = proper.starts;
      taken = λ v h s. (let t = proper.taken v h s in (t.0, t.1.0.0, t.1.0.1, takes_exit v t.0 t.1.0.0 t.1.0.1 t.1.1));
      least = λ v e link h s n. at_head v e link (λ (z : ℚ). z ≤ℚ exit_slope_at sets flows slopes e link) n
          (keeps-least (flag sets.resetting e) link.capacity (x e) (l link.tail) (l link.head) (IsPositive-link net e link good.network n.is_link) (kept e link n.is_link n.active));
      used = λ v e link h s n some. at_head v e link (λ (z : ℚ). exit_slope_at sets flows slopes e link ≡ z) n
          (keeps-used (flag sets.resetting e) link.capacity (x e) (l link.tail) (l link.head) (IsPositive-link net e link good.network n.is_link) (kept e link n.is_link n.active) some);
    }

  -- ---- from a thin flow
  module _ (thin : IsThinFlow net sets rate flows slopes) where
    pub balanced-thin : Balanced
    balanced-thin v h = ⊎_elim
        (λ (s : v ≡ net.source). subst (λ (k : ℕ). IsBalanced net sets rate flows k) (sym s) (balanced_source thin.active_only thin.source))
        (λ (s : v ≢ net.source). ⊎_elim
        (λ (t : v ≡ net.sink). balanced_sink thin.active_only v s t (subst (λ (k : ℕ). surplus net flows k ≡ 0ℚ -ℚ rate) (sym t)
        (IsThinFlow-sink net good.network sets rate flows slopes thin)))
        (λ (t : v ≢ net.sink). balanced_inner thin.active_only v s t (thin.inner v h s t))
        (cases_eq v net.sink))
        (cases_eq v net.source)

    pub kept-thin : Kept
    kept-thin e link p a = law-keeps (flag sets.resetting e) link.capacity (number_at flows e) (number_at slopes link.tail) (number_at slopes link.head)
        (link_law net sets rate good.network good.acyclic flows slopes thin e link p a)

    taken_by : (v e : ℕ) (link : Link) → Enters net sets v e link → exit_slope_at sets flows slopes e link ≡ number_at slopes v → Takes net sets flows slopes v e
    taken_by v e link n exit = (
      (link, n),
      ⊎_elim
          (λ (r : (flag sets.resetting e ≡ true) × Has sets.resetting e). inl (inl r.1))
          (λ (r : (flag sets.resetting e ≡ false) × (Has sets.resetting e → ⊥)). ⊎_elim
          (λ (z : number_at flows e ≡ 0ℚ). inr (level r.0 z))
          (λ (z : number_at flows e ≢ 0ℚ). inl (inr z))
          (same_or_not (number_at flows e) 0ℚ))
          (flag-cases sets.resetting e),
    )
      where
        level : flag sets.resetting e ≡ false → number_at flows e ≡ 0ℚ → IsLevelAt net slopes e
        level r z other p = subst (λ (k : Link). number_at slopes k.head ≡ number_at slopes k.tail) (IsLink-unique net e link other n.is_link p)
            (ap (number_at slopes) n.head ∙ sym exit ∙ ap (λ (b : Bool). exit_slope b link.capacity (number_at flows e) (number_at slopes link.tail)) r
            ∙ empty_exit link.capacity (number_at flows e) (number_at slopes link.tail) (IsPositive-link net e link good.network n.is_link) z (thin.no_negative_slope link.tail))

    pub proper-thin : IsProper net sets flows slopes
    proper-thin = record {
      no_negative_flow = thin.no_negative_flow;
      no_negative_slope = thin.no_negative_slope;
      active_only = thin.active_only;
      starts = thin.starts;
      taken = λ v h s. (let t = thin.taken v h s in (t.0, taken_by v t.0 t.1 t.2 t.3));
    }
