-- The slopes of a phase that never ends keep the sets of its labels.
use Rattle.std.proofs.Common.{◌≡◌, ℕ, List, [], ◌∷◌, ⊎_elim, sym, subst}
use Rattle.nf_forever_laws.proofs.Common.{ℚ, 0ℚ, 1ℚ, ◌+ℚ◌, ◌-ℚ◌, ◌*ℚ◌, ◌/ℚ◌, ◌≤ℚ◌, ◌<ℚ◌, reading_of, lt_or_le_ℚ, ≤ℚ_refl, le, lt, eq, linear_le, linear_lt}
use Rattle.nf_forever_laws.proofs.Common.{linear_false, number_at, Has, Link, Network, IsLink, hop_of, hops, slack, slacks_of, sets_at, IsUnending, KeepsSets}
use Rattle.nf_model_laws.proofs.Affine.{nn-quotient, quotient-times}
use Rattle.nf_model_laws.proofs.Slacks.{slack_at, active_of_slack, slack_of_resetting}

-- A slope above 0 reaches each amount of at least 0 after some time.
reach : (amount slope : ℚ) → 0ℚ ≤ℚ amount → 0ℚ <ℚ slope → (while : ℚ) × (0ℚ ≤ℚ while) × (while *ℚ slope ≡ amount)
reach amount slope n h = (amount /ℚ slope, nn-quotient amount slope n h, quotient-times amount slope h)

-- A line that starts at most at 0 and is never above 0 has a slope a - b of at most 0.
stays_below : (s a b : ℚ) → s ≤ℚ 0ℚ → ((while : ℚ) → 0ℚ ≤ℚ while → s +ℚ while *ℚ (a -ℚ b) ≤ℚ 0ℚ) → a ≤ℚ b
stays_below s a b h all = ⊎_elim
    (λ (k : b <ℚ a).
    let r = reach (1ℚ -ℚ s) (a -ℚ b) (linear_le (s ∷ []) (le h ∷ []) (search reading_of) tt) (linear_lt (a ∷ b ∷ []) (lt k ∷ []) (search reading_of) tt) in
    absurd (above r.0 r.2 (all r.0 r.1)))
    (λ (k : a ≤ℚ b). k)
    (lt_or_le_ℚ b a)
  where
    above : (w : ℚ) → w *ℚ (a -ℚ b) ≡ 1ℚ -ℚ s → s +ℚ w *ℚ (a -ℚ b) ≤ℚ 0ℚ → ⊥
    above w e k = linear_false (s ∷ a ∷ b ∷ w ∷ []) (eq e ∷ le k ∷ []) (search reading_of) tt

-- A line that starts at least at 0 and is never below 0 has a slope a - b of at least 0.
stays_above : (s a b : ℚ) → 0ℚ ≤ℚ s → ((while : ℚ) → 0ℚ ≤ℚ while → 0ℚ ≤ℚ s +ℚ while *ℚ (a -ℚ b)) → b ≤ℚ a
stays_above s a b h all = ⊎_elim
    (λ (k : a <ℚ b).
    let r = reach (1ℚ +ℚ s) (b -ℚ a) (linear_le (s ∷ []) (le h ∷ []) (search reading_of) tt) (linear_lt (a ∷ b ∷ []) (lt k ∷ []) (search reading_of) tt) in
    absurd (below r.0 r.2 (all r.0 r.1)))
    (λ (k : b ≤ℚ a). k)
    (lt_or_le_ℚ a b)
  where
    below : (w : ℚ) → w *ℚ (b -ℚ a) ≡ 1ℚ +ℚ s → 0ℚ ≤ℚ s +ℚ w *ℚ (a -ℚ b) → ⊥
    below w e k = linear_false (s ∷ a ∷ b ∷ w ∷ []) (eq e ∷ le k ∷ []) (search reading_of) tt

module _ (net : Network) (labels slopes : List ℚ) (time : ℚ) (unending : IsUnending net (slacks_of (hops net) labels) slopes time) where
  inactive : (e : ℕ) (link : Link) → IsLink net e link → (Has (sets_at net labels).active e → ⊥) → number_at slopes link.head ≤ℚ number_at slopes link.tail
  inactive e link p none = ⊎_elim
      (λ (k : slack labels (hop_of link) <ℚ 0ℚ).
      let low : number_at (slacks_of (hops net) labels) e <ℚ 0ℚ = subst (λ (z : ℚ). z <ℚ 0ℚ) (sym (slack_at net labels e link p)) k in
      stays_below (number_at (slacks_of (hops net) labels) e) (number_at slopes link.head) (number_at slopes link.tail)
      (linear_le (number_at (slacks_of (hops net) labels) e ∷ []) (lt low ∷ []) (search reading_of) tt)
      (λ while h. (unending while h).inactive e link while p low (h, ≤ℚ_refl while)))
      (λ (k : 0ℚ ≤ℚ slack labels (hop_of link)). absurd (none (active_of_slack net labels e link p k)))
      (lt_or_le_ℚ (slack labels (hop_of link)) 0ℚ)

  resetting : (e : ℕ) (link : Link) → IsLink net e link → Has (sets_at net labels).resetting e → number_at slopes link.tail ≤ℚ number_at slopes link.head
  resetting e link p has =
      let high : 0ℚ <ℚ number_at (slacks_of (hops net) labels) e = subst (λ (z : ℚ). 0ℚ <ℚ z) (sym (slack_at net labels e link p)) (slack_of_resetting net labels e link p has) in
      stays_above (number_at (slacks_of (hops net) labels) e) (number_at slopes link.head) (number_at slopes link.tail)
      (linear_le (number_at (slacks_of (hops net) labels) e ∷ []) (lt high ∷ []) (search reading_of) tt)
      (λ while h. (unending while h).resetting e link while p high (h, ≤ℚ_refl while))

  pub KeepsSets-unending : KeepsSets net (sets_at net labels) slopes
  KeepsSets-unending = record { inactive = inactive; resetting = resetting }
