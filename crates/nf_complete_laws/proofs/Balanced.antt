-- An oversupply without excess at any node is a thin flow.
use Rattle.std.proofs.Common.{◌≡◌, ◌≢◌, ℕ, ◌<◌, ◌≤◌, List, [], ◌∷◌, length, ◌⊎◌, inl, inr, ⊎_elim, Bool, true, false, Option, Some, None, slice_get, sym}
use Rattle.std.proofs.Common.{ap, subst, refl, ◌∙◌}
use Rattle.nf_complete_laws.proofs.Common.{cases_lt, slice_get_within, ℚ, 0ℚ, ◌-ℚ◌, ◌≤ℚ◌, ◌<ℚ◌, reading_of, ≤ℚ_of_same, eq, linear_eq, number_at, Has, Link}
use Rattle.nf_complete_laws.proofs.Common.{Network, IsLink, IsNetwork, Sets, surplus, exit_slope, exit_slope_at, Enters, IsThinFlow, IsPositive-link}
use Rattle.nf_complete_laws.proofs.Common.{sum_in-same, sum_out-same, out_less_in, AreSets, entry_beyond, flag, flag-cases, exit_resetting, Fits}
use Rattle.nf_complete_laws.proofs.Common.{IsOversupply}
use Rattle.nf_complete_laws.proofs.Fitting.{fits_exit, fits_least, fits_used}
use Rattle.nf_complete_laws.proofs.Numbers.{numbers, length-numbers, number_at-numbers, number_at-past}
use Rattle.nf_complete_laws.proofs.Spare.{HasSpare, not_negative}
use Rattle.nf_complete_laws.proofs.NoExcess.{inner-kept, source-kept}

module _ (net : Network) (sets : Sets) (rate : ℚ) (flows slopes : ℕ → ℚ) (good : IsNetwork net) (are : AreSets net sets) (over : IsOversupply net sets rate flows slopes)
    (level : (v : ℕ) → v < net.nodes → HasSpare net rate flows v → ⊥) where
  abbrev flow_list : List ℚ
  flow_list = numbers (length net.links) flows

  abbrev slope_list : List ℚ
  slope_list = numbers net.nodes slopes

  flow_at : (e : ℕ) (link : Link) → IsLink net e link → number_at flow_list e ≡ flows e
  flow_at e link p = number_at-numbers (length net.links) flows e (slice_get_within net.links e link p)

  slope_at : (v : ℕ) → v < net.nodes → number_at slope_list v ≡ slopes v
  slope_at v h = number_at-numbers net.nodes slopes v h

  -- ---- the surplus of a node
  surplus_is : (v : ℕ) → surplus net flow_list v ≡ out_less_in net.links flows v
  surplus_is v =
      same (sum_out-same net.links (number_at flow_list) flows v (λ e link p _. flow_at e link p))
      (sum_in-same net.links (number_at flow_list) flows v (λ e link p _. flow_at e link p))
    where
      same : {a b c d : ℚ} → a ≡ b → c ≡ d → a -ℚ c ≡ b -ℚ d
      same {a = a} {b = b} {c = c} {d = d} e f = linear_eq (a ∷ b ∷ c ∷ d ∷ []) (eq e ∷ eq f ∷ []) (search reading_of) tt tt

  -- ---- exit slopes
  abbrev exit_of : ℕ → Link → ℚ
  exit_of e link = exit_slope_at sets flow_list slope_list e link

  exit-is : (e : ℕ) (link : Link) → IsLink net e link → (b : Bool) → flag sets.resetting e ≡ b → exit_of e link ≡ exit_slope b link.capacity (flows e) (slopes link.tail)
  exit-is e link p b f = ap (λ (c : Bool). exit_slope c link.capacity (number_at flow_list e) (number_at slope_list link.tail)) f
      ∙ ap (λ (x : ℚ). exit_slope b link.capacity x (number_at slope_list link.tail)) (flow_at e link p)
      ∙ ap (λ (s : ℚ). exit_slope b link.capacity (flows e) s) (slope_at link.tail (good.tails e link p))

  -- The exit slope is at least the slope of the head, and equals it if the link has flow, is resetting, or its slope does not fall.
  abbrev Exits : ℕ → Link → Type 0
  Exits e link = (slopes link.head ≤ℚ exit_of e link) × ((0ℚ <ℚ flows e) ⊎ (Has sets.resetting e ⊎ (slopes link.tail ≤ℚ slopes link.head)) → exit_of e link ≡ slopes link.head)

  exits : (e : ℕ) (link : Link) → IsLink net e link → Has sets.active e → Exits e link
  exits e link p a = ⊎_elim
      (λ (w : (flag sets.resetting e ≡ true) × Has sets.resetting e).
      let just : exit_of e link ≡ slopes link.head = exit-is e link p true w.0
      ∙ exit_resetting link.capacity (flows e) (slopes link.tail) (slopes link.head) (IsPositive-link net e link good p)
      (over.resetting e link p w.1) in
      (≤ℚ_of_same _ _ (sym just), λ _. just))
      (λ (w : (flag sets.resetting e ≡ false) × (Has sets.resetting e → ⊥)).
      let fits : Fits link.capacity (flows e) (slopes link.tail) (slopes link.head) = over.others e link p (a, w.1) in
      let is : exit_of e link ≡ exit_slope false link.capacity (flows e) (slopes link.tail) = exit-is e link p false w.0 in
      let just : slopes link.tail ≤ℚ slopes link.head → exit_of e link ≡ slopes link.head = λ h. is
      ∙ fits_exit link.capacity (flows e) (slopes link.tail) (slopes link.head) (IsPositive-link net e link good p) fits h in (
        subst (λ (z : ℚ). slopes link.head ≤ℚ z) (sym is) (fits_least link.capacity (flows e) (slopes link.tail) (slopes link.head) (IsPositive-link net e link good p) fits),
        λ c. ⊎_elim
            (λ (k : 0ℚ <ℚ flows e). just (fits_used link.capacity (flows e) (slopes link.tail) (slopes link.head) fits k))
            (λ (o : Has sets.resetting e ⊎ (slopes link.tail ≤ℚ slopes link.head)). ⊎_elim (λ (r : Has sets.resetting e). absurd (w.1 r))
            (λ (k : slopes link.tail ≤ℚ slopes link.head). just k) o)
            c,
      ))
      (flag-cases sets.resetting e)

  at_head : (v e : ℕ) (link : Link) → v < net.nodes → Enters net sets v e link → number_at slope_list v ≡ slopes link.head
  at_head v e link h n = slope_at v h ∙ ap slopes (sym n.head)

  no_negative_flow : (e : ℕ) → 0ℚ ≤ℚ number_at flow_list e
  no_negative_flow e = by_link (slice_get net.links e) refl
    where
      by_link : (o : Option Link) → slice_get net.links e ≡ o → 0ℚ ≤ℚ number_at flow_list e
      by_link (Some link) p = subst (λ (x : ℚ). 0ℚ ≤ℚ x) (sym (flow_at e link p)) (not_negative net sets rate flows slopes good over e link p)
      by_link None p = ≤ℚ_of_same _ _ (sym (number_at-past (length net.links) flows e (entry_beyond net.links e p)))

  active_only : (e : ℕ) → (Has sets.active e → ⊥) → number_at flow_list e ≡ 0ℚ
  active_only e none = by_link (slice_get net.links e) refl
    where
      by_link : (o : Option Link) → slice_get net.links e ≡ o → number_at flow_list e ≡ 0ℚ
      by_link (Some link) p = flow_at e link p ∙ over.inactive e link p none
      by_link None p = number_at-past (length net.links) flows e (entry_beyond net.links e p)

  no_negative_slope : (v : ℕ) → 0ℚ ≤ℚ number_at slope_list v
  no_negative_slope v = ⊎_elim
      (λ (h : v < net.nodes). subst (λ (x : ℚ). 0ℚ ≤ℚ x) (sym (slope_at v h)) (over.no_negative_slope v h))
      (λ (h : net.nodes ≤ v). ≤ℚ_of_same _ _ (sym (number_at-past net.nodes slopes v h)))
      (cases_lt v net.nodes)

  taken : (v : ℕ) → v < net.nodes → v ≢ net.source → (e : ℕ) × (link : Link) × Enters net sets v e link × (exit_of e link ≡ number_at slope_list v)
  taken v h other =
      let t : (e : ℕ) × (link : Link) × Enters net sets v e link × (Has sets.resetting e ⊎ (slopes link.tail ≤ℚ slopes link.head)) = over.led v h other in
      (t.0, t.1, t.2, (exits t.0 t.1 t.2.is_link t.2.active).1 (inr t.3) ∙ sym (at_head v t.0 t.1 h t.2))

  pub IsThinFlow-balanced : IsThinFlow net sets rate flow_list slope_list
  IsThinFlow-balanced = record {
    flow_count = length-numbers (length net.links) flows;
    slope_count = length-numbers net.nodes slopes;
    no_negative_flow = no_negative_flow;
    no_negative_slope = no_negative_slope;
    active_only = active_only;
    source = surplus_is net.source ∙ source-kept net rate flows good over.enough level;
    inner = λ v h s t. surplus_is v ∙ inner-kept net rate flows good over.enough level v h s t;
    starts = slope_at net.source good.source ∙ over.starts;
    taken = taken;
    least = λ v e link h other n. subst (λ (z : ℚ). z ≤ℚ exit_of e link) (sym (at_head v e link h n)) (exits e link n.is_link n.active).0;
    used = λ v e link h other n k. (exits e link n.is_link n.active).1 (inl (subst (λ (z : ℚ). 0ℚ <ℚ z) (flow_at e link n.is_link) k)) ∙ sym (at_head v e link h n);
  }
