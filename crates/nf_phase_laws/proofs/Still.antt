-- In a thin flow no flow passes a node with a constant label. Otherwise flow would enter it, and only on an unbounded link, whose tail also
-- has a constant label. Repeating this leads back along active links without end, but these close no cycle.
use Rattle.std.proofs.Common.{◌≡◌, ◌≢◌, ℕ, ◌<◌, List, [], ◌∷◌, ◌⊎◌, inr, ⊎_elim, Bool, true, false, eqb, Option, Some, None, slice_get, sym, ap, subst}
use Rattle.std.proofs.Common.{refl, ◌∙◌}
use Rattle.nf_phase_laws.proofs.Common.{eqb_tells, ℚ, 0ℚ, 1ℚ, ◌+ℚ◌, ◌-ℚ◌, ◌*ℚ◌, ◌/ℚ◌, ◌≤ℚ◌, ◌<ℚ◌, max_ℚ, reading_of, ≤ℚ_of_same, ≤ℚ_of_lt, ≤ℚ_antisymm}
use Rattle.nf_phase_laws.proofs.Common.{lt_or_le_ℚ, not_both_ℚ, max_ℚ_cases, le, lt, eq, le_times, linear_le, linear_lt, linear_false, number_at, Has}
use Rattle.nf_phase_laws.proofs.Common.{IsWalk, transit_sum, Link, Network, IsNetwork, IsLink, hop_of, hops, sum_in, sum_out, slack, sets_at, exit_slope}
use Rattle.nf_phase_laws.proofs.Common.{IsThinFlow, IsPositive, quotient-times, IsWalk-link, transit_of-is, IsPositive-link, slack_of_active, sum_out-each}
use Rattle.nf_phase_laws.proofs.Common.{sum_in-some, ≤ℚ_trans, IsThinFlow-sink}
use Rattle.nf_model_laws.proofs.Ways.{way_back}

-- ---- a link with flow whose exit slope is 0 is unbounded, and the label of its tail is constant
no_quotient : (x c q : ℚ) → 0ℚ <ℚ c → 0ℚ <ℚ x → q *ℚ c ≡ x → q ≤ℚ 0ℚ → ⊥
no_quotient x c q h k e l = let low : 0ℚ ≤ℚ c = ≤ℚ_of_lt _ _ h in linear_false (x ∷ c ∷ q ∷ []) (lt k ∷ eq e ∷ le_times low l ∷ []) (search reading_of) tt

exit_still : (resets : Bool) (capacity : Option ℚ) (x l : ℚ) → IsPositive capacity → 0ℚ <ℚ x → exit_slope resets capacity x l ≡ 0ℚ → l ≡ 0ℚ
exit_still resets None x l c h e = e
exit_still true (Some rate) x l c h e = absurd (no_quotient x rate (x /ℚ rate) (c rate refl) h (quotient-times x rate (c rate refl)) (≤ℚ_of_same _ _ e))
exit_still false (Some rate) x l c h e = absurd (no_quotient x rate (x /ℚ rate) (c rate refl) h (quotient-times x rate (c rate refl)) (⊎_elim
    (λ (w : (max_ℚ l (x /ℚ rate) ≡ x /ℚ rate) × (l ≤ℚ x /ℚ rate)). ≤ℚ_of_same _ _ (sym w.0 ∙ e))
    (λ (w : (max_ℚ l (x /ℚ rate) ≡ l) × (x /ℚ rate <ℚ l)). ≤ℚ_trans _ _ _ (≤ℚ_of_lt _ _ w.1) (≤ℚ_of_same _ _ (sym w.0 ∙ e)))
    (max_ℚ_cases l (x /ℚ rate))))

module _ (net : Network) (labels : List ℚ) (rate : ℚ) (flows slopes : List ℚ) (good : IsNetwork net) (not_negative : 0ℚ ≤ℚ rate)
    (thin : IsThinFlow net (sets_at net labels) rate flows slopes) where
  moves_on : (v : ℕ) → number_at slopes v ≡ 0ℚ → v ≢ net.source
  moves_on v still at = apart (number_at slopes v) still (ap (number_at slopes) at ∙ thin.starts)
    where
      apart : (s : ℚ) → s ≡ 0ℚ → s ≡ 1ℚ → ⊥
      apart s e f = linear_false (s ∷ []) (eq e ∷ eq f ∷ []) (search reading_of) tt

  -- a link with flow is active
  active_of_flow : (e : ℕ) → 0ℚ <ℚ number_at flows e → Has (sets_at net labels).active e
  active_of_flow e h = by_flag (slice_get (sets_at net labels).active e) refl
    where
      not_set : (o : Option Bool) → slice_get (sets_at net labels).active e ≡ o → (o ≡ Some true → ⊥) → Has (sets_at net labels).active e
      not_set o f none = absurd (not_both_ℚ _ _ h (≤ℚ_of_same _ _ (thin.active_only e (λ a. none (sym f ∙ a)))))

      by_flag : (o : Option Bool) → slice_get (sets_at net labels).active e ≡ o → Has (sets_at net labels).active e
      by_flag (Some true) f = f
      by_flag (Some false) f = not_set (Some false) f (λ d. cc)
      by_flag None f = not_set None f (λ d. cc)

  tail_still : (e : ℕ) (link : Link) → IsLink net e link → number_at slopes link.head ≡ 0ℚ → 0ℚ <ℚ number_at flows e → number_at slopes link.tail ≡ 0ℚ
  tail_still e link p still h = exit_still _ link.capacity (number_at flows e) (number_at slopes link.tail) (IsPositive-link net e link good p) h
      (thin.used link.head e link (good.heads e link p) (moves_on link.head still) (record { is_link = p; active = active_of_flow e h; head = refl }) h ∙ still)

  -- ---- back along links with flow
  abbrev Sends : ℕ → Type 0
  Sends v = (number_at slopes v ≡ 0ℚ) × ((e : ℕ) × (link : Link) × IsLink net e link × (link.tail ≡ v) × (0ℚ <ℚ number_at flows e))

  abbrev Way : ℕ → ℕ → Type 0
  Way u v = (walk : List ℕ) × IsWalk (hops net) walk u v × (number_at labels u +ℚ transit_sum (hops net) walk ≤ℚ number_at labels v)

  inner_some : (i o f : ℚ) → o -ℚ i ≡ 0ℚ → f ≤ℚ o → 0ℚ <ℚ f → 0ℚ <ℚ i
  inner_some i o f e h k = linear_lt (i ∷ o ∷ f ∷ []) (eq e ∷ le h ∷ lt k ∷ []) (search reading_of) tt

  sink_some : (i o f r : ℚ) → o -ℚ i ≡ 0ℚ -ℚ r → 0ℚ ≤ℚ r → f ≤ℚ o → 0ℚ <ℚ f → 0ℚ <ℚ i
  sink_some i o f r e n h k = linear_lt (i ∷ o ∷ f ∷ r ∷ []) (eq e ∷ le n ∷ le h ∷ lt k ∷ []) (search reading_of) tt

  comes_in : (v : ℕ) → v < net.nodes → Sends v → 0ℚ <ℚ sum_in net.links (number_at flows) v
  comes_in v h (still, (e, link, p, at, f)) = ⊎_elim
      (λ (s : (eqb v net.sink ≡ true) × (v ≡ net.sink)). subst (λ (k : ℕ). 0ℚ <ℚ sum_in net.links (number_at flows) k) (sym s.1)
      (sink_some _ _ _ rate (IsThinFlow-sink net good (sets_at net labels) rate flows slopes thin) not_negative
      (subst (λ (k : ℕ). number_at flows e ≤ℚ sum_out net.links (number_at flows) k) s.1 most) f))
      (λ (s : (eqb v net.sink ≡ false) × (v ≢ net.sink)). inner_some _ _ _ (thin.inner v h (moves_on v still) s.1) most f)
      (eqb_tells v net.sink)
    where
      most : number_at flows e ≤ℚ sum_out net.links (number_at flows) v
      most = sum_out-each net.links (number_at flows) v thin.no_negative_flow e link p at

  no_further : (a : ℚ) → a +ℚ 0ℚ ≤ℚ a
  no_further a = linear_le (a ∷ []) [] (search reading_of) tt

  further : (a b c q r l : ℚ) → q ≡ r → 0ℚ ≤ℚ b -ℚ (a +ℚ r) → b +ℚ l ≤ℚ c → a +ℚ (q +ℚ l) ≤ℚ c
  further a b c q r l e h k = linear_le (a ∷ b ∷ c ∷ q ∷ r ∷ l ∷ []) (eq e ∷ le h ∷ le k ∷ []) (search reading_of) tt

  closed : (a b q r l : ℚ) → q ≡ r → 0ℚ ≤ℚ b -ℚ (a +ℚ r) → b +ℚ l ≤ℚ a → 0ℚ <ℚ q +ℚ l → ⊥
  closed a b q r l e h k c = linear_false (a ∷ b ∷ q ∷ r ∷ l ∷ []) (eq e ∷ le h ∷ le k ∷ lt c ∷ []) (search reading_of) tt

  abbrev Back : ℕ → Type 0
  Back v = ⊥ ⊎ ((u : ℕ) × (u < net.nodes) × Sends u × ((w : ℕ) → Way v w → Way u w) × (Way v u → ⊥))

  back_by : (v : ℕ) → number_at slopes v ≡ 0ℚ → (e : ℕ) × (link : Link) × IsLink net e link × (link.head ≡ v) × (0ℚ <ℚ number_at flows e) → Back v
  back_by v still (e, link, p, at, f) = inr (
    link.tail,
    good.tails e link p,
    (tail_still e link p (ap (number_at slopes) at ∙ still) f, (e, link, p, refl, f)),
    (λ w way. (
      e ∷ way.0,
      IsWalk-link net e way.0 w link p (subst (λ (k : ℕ). IsWalk (hops net) way.0 k w) (sym at) way.1),
      further (number_at labels link.tail) (number_at labels link.head) _ _ link.transit _ (transit_of-is net e link p) long
          (subst (λ (k : ℕ). number_at labels k +ℚ transit_sum (hops net) way.0 ≤ℚ number_at labels w) (sym at) way.2),
    )),
    (λ way. closed (number_at labels link.tail) (number_at labels link.head) _ link.transit _ (transit_of-is net e link p) long
        (subst (λ (k : ℕ). number_at labels k +ℚ transit_sum (hops net) way.0 ≤ℚ number_at labels link.tail) (sym at) way.2)
        (good.cycles e way.0 link.tail (IsWalk-link net e way.0 link.tail link p (subst (λ (k : ℕ). IsWalk (hops net) way.0 k link.tail) (sym at) way.1)))),
  )
    where
      long : 0ℚ ≤ℚ slack labels (hop_of link)
      long = slack_of_active net labels e link p (active_of_flow e f)

  back : (v : ℕ) → v < net.nodes → Sends v → Back v
  back v h sends = back_by v sends.0 (sum_in-some net.links (number_at flows) v (comes_in v h sends))

  sends_none : (v : ℕ) → v < net.nodes → Sends v → ⊥
  sends_none v h sends = (way_back net.nodes Sends (λ _. ⊥) Way (λ v. ([], refl, no_further (number_at labels v))) back v h sends).1

  pub leaves_none : (e : ℕ) (link : Link) → IsLink net e link → number_at slopes link.tail ≡ 0ℚ → number_at flows e ≡ 0ℚ
  leaves_none e link p still = ⊎_elim
      (λ (h : 0ℚ <ℚ number_at flows e). absurd (sends_none link.tail (good.tails e link p) (still, (e, link, p, refl, h))))
      (λ (h : number_at flows e ≤ℚ 0ℚ). ≤ℚ_antisymm _ _ h (thin.no_negative_flow e))
      (lt_or_le_ℚ 0ℚ (number_at flows e))

  pub comes_none : (e : ℕ) (link : Link) → IsLink net e link → number_at slopes link.head ≡ 0ℚ → number_at flows e ≡ 0ℚ
  comes_none e link p still = ⊎_elim
      (λ (h : 0ℚ <ℚ number_at flows e). leaves_none e link p (tail_still e link p still h))
      (λ (h : number_at flows e ≤ℚ 0ℚ). ≤ℚ_antisymm _ _ h (thin.no_negative_flow e))
      (lt_or_le_ℚ 0ℚ (number_at flows e))
