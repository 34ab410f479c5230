-- A node without inflow has no outflow. Whether a link enters such a node is decidable.
use Rattle.std.proofs.Common.{◌≡◌, ◌≢◌, ℕ, ◌<◌, ◌≤◌, List, [], ◌∷◌, ◌⊎◌, inl, inr, ⊎_elim, Bool, true, false, eqb, sym, subst, refl, ◌∙◌, arith}
use Rattle.nf_complete_laws.proofs.Common.{eqb_tells, cases_lt, ℚ, 0ℚ, ◌-ℚ◌, ◌≤ℚ◌, reading_of, ≤ℚ_antisymm, le, eq, linear_le, ≤ℚ_trans, number_at, Has}
use Rattle.nf_complete_laws.proofs.Common.{Link, Network, IsLink, IsNetwork, sum_in, sum_out, Sets, surplus, IsThinFlow, sum_in-same, sum_in-none}
use Rattle.nf_complete_laws.proofs.Common.{sum_out-each, flag, flag-cases, IsBare, IsFirstLevel, LeadsToBare, IsThinFlow-sink}
use Rattle.nf_complete_laws.proofs.Deciding.{Decided, both, either, same_or_not, First, NoLink, first_or_none}

pub flagged : (flags : List Bool) (e : ℕ) → Decided (Has flags e)
flagged flags e = ⊎_elim
    (λ (w : (flag flags e ≡ true) × Has flags e). inl w.1)
    (λ (w : (flag flags e ≡ false) × (Has flags e → ⊥)). inr w.1)
    (flag-cases flags e)

pub same_node : (v w : ℕ) → Decided (v ≡ w)
same_node v w = ⊎_elim (λ (h : (eqb v w ≡ true) × (v ≡ w)). inl h.1) (λ (h : (eqb v w ≡ false) × (v ≢ w)). inr h.1) (eqb_tells v w)

module _ (net : Network) (sets : Sets) (rate : ℚ) (flows slopes : List ℚ) (good : IsNetwork net) (thin : IsThinFlow net sets rate flows slopes) where
  module _ (rate_nn : 0ℚ ≤ℚ rate) (v : ℕ) (h : v < net.nodes) (b : IsBare net sets flows v) where
    none_in : sum_in net.links (number_at flows) v ≡ 0ℚ
    none_in = sum_in-same net.links (number_at flows) (λ _. 0ℚ) v (λ e link p at. ⊎_elim
        (λ (a : Has sets.active e). (b.bare e link (record { is_link = p; active = a; head = at })).1)
        (λ (n : Has sets.active e → ⊥). thin.active_only e n)
        (flagged sets.active e)) ∙ sum_in-none net.links v

    by_sums : (o i r : ℚ) → o -ℚ i ≡ 0ℚ -ℚ r → i ≡ 0ℚ → 0ℚ ≤ℚ r → o ≤ℚ 0ℚ
    by_sums o i r e f k = linear_le (o ∷ i ∷ r ∷ []) (eq e ∷ eq f ∷ le k ∷ []) (search reading_of) tt

    balanced : (o i : ℚ) → o -ℚ i ≡ 0ℚ → i ≡ 0ℚ → o ≤ℚ 0ℚ
    balanced o i e f = linear_le (o ∷ i ∷ []) (eq e ∷ eq f ∷ []) (search reading_of) tt

    none_out : sum_out net.links (number_at flows) v ≤ℚ 0ℚ
    none_out = ⊎_elim
        (λ (s : v ≡ net.sink). by_sums _ _ rate (subst (λ (k : ℕ). surplus net flows k ≡ 0ℚ -ℚ rate) (sym s) (IsThinFlow-sink net good sets rate flows slopes thin)) none_in rate_nn)
        (λ (s : v ≢ net.sink). balanced _ _ (thin.inner v h b.not_source s) none_in)
        (same_node v net.sink)

    pub bare_out : (e : ℕ) (link : Link) → IsLink net e link → link.tail ≡ v → number_at flows e ≡ 0ℚ
    bare_out e link p at = ≤ℚ_antisymm _ _ (≤ℚ_trans _ _ _ (sum_out-each net.links (number_at flows) v thin.no_negative_flow e link p at) none_out) (thin.no_negative_flow e)

  -- ---- decided
  -- a link that gives its head inflow
  abbrev pub Brings : ℕ → ℕ → Link → Type 0
  Brings v e link = Has sets.active e × ((link.head ≡ v) × (Has sets.resetting e ⊎ (number_at flows e ≡ 0ℚ → ⊥)))

  carries : (x : ℚ) → Decided (x ≡ 0ℚ → ⊥)
  carries x = ⊎_elim (λ (e : x ≡ 0ℚ). inr (λ n. n e)) (λ (n : x ≡ 0ℚ → ⊥). inl n) (same_or_not x 0ℚ)

  pub brings_or_not : (v e : ℕ) (link : Link) → Decided (Brings v e link)
  brings_or_not v e link = both (flagged sets.active e) (both (same_node link.head v) (either (flagged sets.resetting e) (carries (number_at flows e))))

  pub IsBare-none : (v : ℕ) → v ≢ net.source → NoLink net.links (Brings v) → IsBare net sets flows v
  IsBare-none v other none = record {
    not_source = other;
    bare = λ e link n. (
      (λ r. none e link n.is_link (n.active, (n.head, inl r))),
      ⊎_elim
          (λ (z : number_at flows e ≡ 0ℚ). z)
          (λ (z : number_at flows e ≡ 0ℚ → ⊥). absurd (none e link n.is_link (n.active, (n.head, inr z))))
          (same_or_not (number_at flows e) 0ℚ),
    );
  }

  not_bare : (v : ℕ) → First net.links (Brings v) → IsBare net sets flows v → ⊥
  not_bare v f b = let n = b.bare f.0 f.1 (record { is_link = f.2; active = f.3.0; head = f.3.1.0 }) in
      ⊎_elim (λ (r : Has sets.resetting f.0). n.0 r) (λ (z : number_at flows f.0 ≡ 0ℚ → ⊥). z n.1) f.3.1.1

  bare_or_not : (v : ℕ) → Decided (IsBare net sets flows v)
  bare_or_not v = ⊎_elim
      (λ (s : v ≡ net.source). inr (λ b. b.not_source s))
      (λ (s : v ≢ net.source). ⊎_elim
      (λ (f : First net.links (Brings v)). inr (not_bare v f))
      (λ (n : NoLink net.links (Brings v)). inl (IsBare-none v s n))
      (first_or_none net.links (Brings v) (brings_or_not v)))
      (same_node v net.source)

  -- a link into v with equal slopes
  abbrev pub LevelInto : ℕ → ℕ → Link → Type 0
  LevelInto v e link = Has sets.active e × ((link.head ≡ v) × (number_at slopes link.head ≡ number_at slopes link.tail))

  pub level_or_not : (v e : ℕ) (link : Link) → Decided (LevelInto v e link)
  level_or_not v e link = both (flagged sets.active e) (both (same_node link.head v) (same_or_not (number_at slopes link.head) (number_at slopes link.tail)))

  pub IsFirstLevel-first : (v : ℕ) (f : First net.links (LevelInto v)) → IsFirstLevel net sets slopes f.0 f.1
  IsFirstLevel-first v f = record {
    level = f.3.1.1;
    first = λ other before h n k. f.4 other before h n.is_link (n.active, (n.head ∙ f.3.1.0, k));
  }

  first_level_or_not : (e : ℕ) (link : Link) → IsLink net e link → Has sets.active e → Decided (IsFirstLevel net sets slopes e link)
  first_level_or_not e link p a = ⊎_elim
      (λ (l : number_at slopes link.head ≡ number_at slopes link.tail). by_first l
      (first_or_none net.links (λ k before. (k < e) × LevelInto link.head k before) (λ k before. both (below k e) (level_or_not link.head k before))))
      (λ (n : number_at slopes link.head ≡ number_at slopes link.tail → ⊥). inr (λ f. n f.level))
      (same_or_not (number_at slopes link.head) (number_at slopes link.tail))
    where
      below : (k e : ℕ) → Decided (k < e)
      below k e = ⊎_elim (λ (h : k < e). inl h) (λ (h : e ≤ k). inr (λ l. absurd (omega arith))) (cases_lt k e)

      by_first : number_at slopes link.head ≡ number_at slopes link.tail → First net.links
          (λ k before. (k < e) × LevelInto link.head k before) ⊎ NoLink net.links (λ k before. (k < e) × LevelInto link.head k before)
          → Decided (IsFirstLevel net sets slopes e link)
      by_first l c = ⊎_elim
          (λ (f : First net.links (λ k before. (k < e) × LevelInto link.head k before)). inr
          (λ i. i.first f.0 f.1 f.3.0 (record { is_link = f.2; active = f.3.1.0; head = f.3.1.1.0 }) f.3.1.1.1))
          (λ (n : NoLink net.links (λ k before. (k < e) × LevelInto link.head k before)). inl
          (record { level = l; first = λ other before h m k. n other before m.is_link (h, (m.active, (m.head, k))) }))
          c

  pub leads_or_not : (e : ℕ) (link : Link) → IsLink net e link → Has sets.active e → Decided (LeadsToBare net sets flows slopes e link)
  leads_or_not e link p a = ⊎_elim
      (λ (w : IsBare net sets flows link.head × IsFirstLevel net sets slopes e link). inl (record { enters = record { is_link = p; active = a; head = refl }; bare = w.0; first = w.1 }))
      (λ (n : IsBare net sets flows link.head × IsFirstLevel net sets slopes e link → ⊥). inr (λ l. n (l.bare, l.first)))
      (both (bare_or_not link.head) (first_level_or_not e link p a))
