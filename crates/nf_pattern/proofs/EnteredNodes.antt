-- Flags of the nodes that chosen links enter.
use Rattle.std.proofs.Common.{◌≡◌, ◌⊎◌, ◌+◌, ℕ, ◌<◌, ◌≤◌, List, Bool, length, get_or, set, replicate, true, false, if◌then◌else◌, refl, sym, subst, ap, ◌∙◌}
use Rattle.std.proofs.Common.{inl, inr, ⊎_elim, arith, length-set, Some, slice_get}
use Rattle.nf_pattern.proofs.Common.{length-replicate, slice_get_within, slice_get-get_or, same_Some, before_or_at, 0ℚ, Has, Hop, IsHop, Sets, AreBelow}
use Rattle.nf_pattern.proofs.Common.{Has-set_same, Has-set_other, Has-set_cases, Has-replicate, IsHop-unique, Bars, AreEntered, AreBarred}

module _ (nodes : ℕ) (hops : List Hop) where
  -- no link is chosen
  pub none_entered : (Chosen : ℕ → Type 0) → ((e : ℕ) → Chosen e → ⊥) → AreEntered nodes hops Chosen (replicate nodes false)
  none_entered Chosen none = record {
    count = length-replicate nodes false;
    into = λ v has. absurd (Has-replicate nodes v has);
    all = λ e hop p chosen. absurd (none e chosen);
  }

  -- one more link is chosen, or not
  module _ (Before Now : ℕ → Type 0) (flags : List Bool) (entered : AreEntered nodes hops Before flags) (e : ℕ) (hop : Hop) (p : IsHop hops e hop) (below : hop.head < nodes)
      (more : (k : ℕ) → Before k → Now k) where
    marked : ((k : ℕ) → Now k → Before k ⊎ (k ≡ e)) → Now e → AreEntered nodes hops Now (set flags hop.head true)
    marked back here = record {
      count = length-set flags hop.head true ∙ entered.count;
      into = λ v has. ⊎_elim
          (λ (same : v ≡ hop.head). (e, hop, p, sym same, here))
          (λ (old : Has flags v). let by = entered.into v old in (by.0, by.1, by.2, by.3, more by.0 by.4))
          (Has-set_cases flags hop.head v has);
      all = λ k other q now. ⊎_elim
          (λ (old : Before k). Has-set_other flags hop.head other.head (entered.all k other q old))
          (λ (same : k ≡ e). subst (λ (h : Hop). Has (set flags hop.head true) h.head) (IsHop-unique hops e hop other p (subst (λ (i : ℕ). IsHop hops i other) same q))
          (Has-set_same flags hop.head (subst (λ (n : ℕ). hop.head < n) (sym entered.count) below)))
          (back k now);
    }

    unmarked : ((k : ℕ) → Now k → Before k) → AreEntered nodes hops Now flags
    unmarked back = record {
      count = entered.count;
      into = λ v has. let by = entered.into v has in (by.0, by.1, by.2, by.3, more by.0 by.4);
      all = λ k other q now. entered.all k other q (back k now);
    }

    pub entered_more : (chosen : Bool) → ((k : ℕ) → Now k → Before k ⊎ ((k ≡ e) × (chosen ≡ true))) → (chosen ≡ true → Now e)
        → AreEntered nodes hops Now (if chosen then set flags hop.head true else flags)
    entered_more true back here = marked
        (λ k now. ⊎_elim (λ (old : Before k). inl old) (λ (same : (k ≡ e) × (true ≡ true)). inr same.0) (back k now)) (here refl)
    entered_more false back here = unmarked
        (λ k now. ⊎_elim (λ (old : Before k). old) (λ (same : (k ≡ e) × (false ≡ true)). let no : false ≡ true = same.1 in absurd (cc)) (back k now))

-- ---- resetting links, and then the active ones
any_hop : Hop
any_hop = record { tail = 0; head = 0; transit = 0ℚ }

told : (flags : List Bool) (e k : ℕ) (b : Bool) → slice_get flags e ≡ Some b → k ≡ e → Has flags k → b ≡ true
told flags e k b at same has = same_Some b true (sym at ∙ subst (λ (i : ℕ). Has flags i) same has)

-- link k is resetting, and before link e
abbrev pub ResetsBefore : Sets → ℕ → ℕ → Type 0
ResetsBefore sets e k = (k < e) × Has sets.resetting k

module _ (nodes : ℕ) (hops : List Hop) (sets : Sets) where
  pub no_reset : AreEntered nodes hops (ResetsBefore sets 0) (replicate nodes false)
  no_reset = none_entered nodes hops (ResetsBefore sets 0) (λ e chosen. let less = chosen.0 in omega arith)

  resets_more : (e : ℕ) (hop : Hop) (flags : List Bool) (b : Bool) → IsHop hops e hop → hop.head < nodes → slice_get sets.resetting e ≡ Some b
      → AreEntered nodes hops (ResetsBefore sets e) flags → AreEntered nodes hops (ResetsBefore sets (e + 1)) (if b then set flags hop.head true else flags)
  resets_more e hop flags b p below at entered = entered_more nodes hops (ResetsBefore sets e) (ResetsBefore sets (e + 1)) flags entered e hop p below
      (λ k old. let less = old.0 in (omega arith, old.1)) b
      (λ k now. ⊎_elim (λ (less : k < e). inl (less, now.1)) (λ (same : k ≡ e). inr (same, told sets.resetting e k b at same now.1)) (before_or_at k e (let less = now.0 in omega arith)))
      (λ on. (omega arith, at ∙ ap (λ (x : Bool). Some x) on))

  pub all_resets : (e : ℕ) (flags : List Bool) → length hops ≤ e → AreEntered nodes hops (ResetsBefore sets e) flags → AreBarred nodes hops sets 0 flags
  all_resets e flags end entered = record {
    count = entered.count;
    into = λ v has. let by = entered.into v has in (by.0, by.1, by.2, by.3, inl by.4.1);
    all = λ k hop p bars. ⊎_elim
        (λ (on : Has sets.resetting k). entered.all k hop p (let within = slice_get_within hops k hop p in omega arith, on))
        (λ (never : (k < 0) × Has sets.active k). let less = never.0 in absurd (omega arith)) bars;
  }

  bars_more : (e : ℕ) (hop : Hop) (flags : List Bool) (b : Bool) → IsHop hops e hop → hop.head < nodes → slice_get sets.active e ≡ Some b
      → AreBarred nodes hops sets e flags → AreBarred nodes hops sets (e + 1) (if b then set flags hop.head true else flags)
  bars_more e hop flags b p below at entered = entered_more nodes hops (λ k. Bars sets k e) (λ k. Bars sets k (e + 1)) flags entered e hop p below
      (λ k old. ⊎_elim (λ (on : Has sets.resetting k). inl on) (λ (w : (k < e) × Has sets.active k). let less = w.0 in inr (omega arith, w.1)) old) b
      (λ k now. ⊎_elim (λ (on : Has sets.resetting k). inl (inl on))
      (λ (w : (k < e + 1) × Has sets.active k). ⊎_elim (λ (less : k < e). inl (inr (less, w.1)))
      (λ (same : k ≡ e). inr (same, told sets.active e k b at same w.1)) (before_or_at k e (let less = w.0 in omega arith)))
      now)
      (λ on. inr (omega arith, at ∙ ap (λ (x : Bool). Some x) on))

  -- the flags after the next link
  module _ (ends : AreBelow nodes hops) (e : ℕ) (flags new : List Bool) (b : Bool) (below : e < length hops)
      (marks : (hop : Hop) → IsHop hops e hop → new ≡ (if b then set flags hop.head true else flags)) where
    next_hop : (hop : Hop) × IsHop hops e hop
    next_hop = (get_or hops e any_hop, slice_get-get_or hops e any_hop below)

    pub resets_next : slice_get sets.resetting e ≡ Some b → AreEntered nodes hops (ResetsBefore sets e) flags → AreEntered nodes hops (ResetsBefore sets (e + 1)) new
    resets_next at entered = let next = next_hop in
        subst (AreEntered nodes hops (ResetsBefore sets (e + 1))) (sym (marks next.0 next.1)) (resets_more e next.0 flags b next.1 (ends.heads e next.0 next.1) at entered)

    pub bars_next : slice_get sets.active e ≡ Some b → AreBarred nodes hops sets e flags → AreBarred nodes hops sets (e + 1) new
    bars_next at entered = let next = next_hop in
        subst (AreBarred nodes hops sets (e + 1)) (sym (marks next.0 next.1)) (bars_more e next.0 flags b next.1 (ends.heads e next.0 next.1) at entered)
