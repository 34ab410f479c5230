-- Labels that grow at constant slopes for ever. In the end a link whose slack grows is resetting, and one whose slack falls is inactive. The
-- thin flow there keeps its sets, so its slopes grow by the cuts.
use Rattle.std.proofs.Common.{◌≡◌, ℕ, ◌<◌, List, [], ◌∷◌, length, ⊎_elim, sym, subst, ◌∙◌}
use Rattle.nf_settling_laws.proofs.Common.{slice_get_within, same_Some, ℚ, 0ℚ, 1ℚ, ◌+ℚ◌, ◌-ℚ◌, ◌*ℚ◌, ◌/ℚ◌, ◌≤ℚ◌, ◌<ℚ◌, max_ℚ, reading_of, ≤ℚ_of_lt, lt_or_le_ℚ}
use Rattle.nf_settling_laws.proofs.Common.{less_ps, not_both_ℚ, ≤ℚ_refl, ≤ℚ_trans, <_≤_trans, max_left, max_right, le, lt, eq, le_times, linear_le, linear_lt}
use Rattle.nf_settling_laws.proofs.Common.{linear_eq, gap_ng, number_at, Link, Network, IsNetwork, IsLink, hop_of, rate_at, slack, sets_at, Flow, label}
use Rattle.nf_settling_laws.proofs.Common.{Equilibrium, quotient-times, same_from_times, active_of_slack, slack_of_resetting, link_slack, HoldNoCycle-sets_at}
use Rattle.nf_settling_laws.proofs.Common.{KeepsSets, GrowsByCuts, last_rate, GoesByThinFlow, labels-same, goes-by_thin_flow, GrowsLinearly}
use Rattle.nf_settling_laws.proofs.Common.{LinearGrowthIsByCuts}
use Rattle.nf_rational_laws.proofs.Entries.{entry, same_entries}
use Rattle.nf_forever_laws.proofs.Growth.{GrowsByCuts-thin}
use Rattle.nf_forever_laws.proofs.Least.{GrowsByLeastCut-cuts}
use Rattle.nf_settling_laws.proofs.Along.{labels_at, LabelsAre-at, slack-at}
use Rattle.nf_settling_laws.proofs.Starts.{last_start, IsLastSupply-from, rate-after, all_below}

-- ---- a line from c at slope k, after a while w: in the end it is above 0 if it rises, and below 0 if it falls
abbrev IsSettled : ℚ → ℚ → ℚ → Type 0
IsSettled c k w = (0ℚ <ℚ k → 0ℚ <ℚ c +ℚ w *ℚ k) × (k <ℚ 0ℚ → c +ℚ w *ℚ k <ℚ 0ℚ)

settled_later : (c k w x : ℚ) → w ≤ℚ x → IsSettled c k w → IsSettled c k x
settled_later c k w x h s = (
  λ up. let low : 0ℚ ≤ℚ k = ≤ℚ_of_lt _ _ up in
      linear_lt (c ∷ k ∷ w ∷ x ∷ []) (lt (s.0 up) ∷ le_times low h ∷ []) (search reading_of) tt,
  λ down. let low : 0ℚ ≤ℚ 0ℚ -ℚ k = linear_le (k ∷ []) (lt down ∷ []) (search reading_of) tt in
      linear_lt (c ∷ k ∷ w ∷ x ∷ []) (lt (s.1 down) ∷ le_times low h ∷ []) (search reading_of) tt,
)

settled_then : (c k : ℚ) → (w : ℚ) × IsSettled c k w
settled_then c k = ⊎_elim
    (λ (up : 0ℚ <ℚ k).
    let e : (1ℚ -ℚ c) /ℚ k *ℚ k ≡ 1ℚ -ℚ c = quotient-times (1ℚ -ℚ c) k up in
    ((1ℚ -ℚ c) /ℚ k, (λ _. risen ((1ℚ -ℚ c) /ℚ k) e, λ down. absurd (not_both_ℚ _ _ up (≤ℚ_of_lt _ _ down)))))
    (λ (not_up : k ≤ℚ 0ℚ). ⊎_elim
    (λ (down : k <ℚ 0ℚ).
    let m : ℚ = 0ℚ -ℚ k in
    let more : 0ℚ <ℚ m = linear_lt (k ∷ []) (lt down ∷ []) (search reading_of) tt in
    let e : (1ℚ +ℚ c) /ℚ m *ℚ m ≡ 1ℚ +ℚ c = quotient-times (1ℚ +ℚ c) m more in
    ((1ℚ +ℚ c) /ℚ m, (λ up. absurd (not_both_ℚ _ _ up not_up), λ _. fallen ((1ℚ +ℚ c) /ℚ m) e)))
    (λ (not_down : 0ℚ ≤ℚ k). (0ℚ, (λ up. absurd (not_both_ℚ _ _ up not_up), λ down. absurd (not_both_ℚ _ _ down not_down))))
    (lt_or_le_ℚ k 0ℚ))
    (lt_or_le_ℚ 0ℚ k)
  where
    risen : (w : ℚ) → w *ℚ k ≡ 1ℚ -ℚ c → 0ℚ <ℚ c +ℚ w *ℚ k
    risen w e = linear_lt (c ∷ k ∷ w ∷ []) (eq e ∷ []) (search reading_of) tt

    fallen : (w : ℚ) → w *ℚ (0ℚ -ℚ k) ≡ 1ℚ +ℚ c → c +ℚ w *ℚ k <ℚ 0ℚ
    fallen w e = linear_lt (c ∷ k ∷ w ∷ []) (eq e ∷ []) (search reading_of) tt

module _ (net : Network) (good : IsNetwork net) (from : ℚ) (slopes : List ℚ) (grows : GrowsLinearly net from slopes) where
  abbrev slope : ℕ → ℚ
  slope = number_at slopes

  -- The labels at the first departure are the same in all equilibria.
  abbrev first : Flow
  first = (grows.reaches from (≤ℚ_refl from)).0

  first_slack : Link → ℚ
  first_slack link = link_slack (label first) link from

  rise : Link → ℚ
  rise link = slope link.head -ℚ slope link.tail

  -- ---- a departure after which no link changes its set
  abbrev SettledBy : ℕ → ℚ → Type 0
  SettledBy e w = (link : Link) → IsLink net e link → IsSettled (first_slack link) (rise link) w

  settled_by : (e : ℕ) → e < length net.links → (w : ℚ) × SettledBy e w
  settled_by e h = let f : (link : Link) × IsLink net e link = entry net.links e h in
      let w : (w : ℚ) × IsSettled (first_slack f.0) (rise f.0) w = settled_then (first_slack f.0) (rise f.0) in
      (w.0, λ link p. subst (λ (l : Link). IsSettled (first_slack l) (rise l) w.0) (same_Some f.0 link (sym f.1 ∙ p)) w.1)

  settling : (w : ℚ) × (0ℚ ≤ℚ w) × ((e : ℕ) → e < length net.links → SettledBy e w)
  settling = all_below (length net.links) SettledBy (λ e w x h s link p. settled_later _ _ w x h (s link p)) settled_by

  late : ℚ
  late = max_ℚ (from +ℚ settling.0) (last_start net.pieces)

  long : settling.0 ≤ℚ late -ℚ from
  unfolding late
  long = passed settling.0 (max_ℚ (from +ℚ settling.0) (last_start net.pieces)) (max_left (from +ℚ settling.0) (last_start net.pieces))
    where
      passed : (w m : ℚ) → from +ℚ w ≤ℚ m → w ≤ℚ m -ℚ from
      passed w m h = linear_le (from ∷ w ∷ m ∷ []) (le h ∷ []) (search reading_of) tt

  from_late : from ≤ℚ late
  from_late = behind late settling.0 settling.1 long
    where
      behind : (t w : ℚ) → 0ℚ ≤ℚ w → w ≤ℚ t -ℚ from → from ≤ℚ t
      behind t w h k = linear_le (from ∷ t ∷ w ∷ []) (le h ∷ le k ∷ []) (search reading_of) tt

  late_nn : 0ℚ ≤ℚ late
  late_nn = ≤ℚ_trans _ _ _ grows.not_negative from_late

  -- ---- an equilibrium that describes later departures
  next : late <ℚ late +ℚ 1ℚ
  next = linear_lt (late ∷ []) [] (search reading_of) tt

  there : (flow : Flow) × Equilibrium net flow × (late +ℚ 1ℚ ≤ℚ flow.reached)
  there = grows.reaches (late +ℚ 1ℚ) (≤ℚ_trans _ _ _ from_late (≤ℚ_of_lt _ _ next))

  abbrev flow : Flow
  flow = there.0

  within : late <ℚ flow.reached
  within = <_≤_trans _ _ _ next there.2

  from_reached : from ≤ℚ flow.reached
  from_reached = ≤ℚ_trans _ _ _ from_late (≤ℚ_of_lt _ _ within)

  moves : GoesByThinFlow net flow late (labels_at net flow late)
  moves = goes-by_thin_flow net good flow there.1 late late_nn within (labels_at net flow late) (LabelsAre-at net good flow there.1 late)

  label-at : (v : ℕ) (t : ℚ) → v < net.nodes → from ≤ℚ t → t ≤ℚ flow.reached → label flow v t ≡ label first v from +ℚ (t -ℚ from) *ℚ slope v
  label-at v t h i j = grown _ _ _ _ _ (grows.grow flow v t there.1 h (i, j))
      (labels-same net good flow first there.1 (grows.reaches from (≤ℚ_refl from)).1 v from h (grows.not_negative, from_reached)
      (grows.not_negative, (grows.reaches from (≤ℚ_refl from)).2))
    where
      grown : (x y z w s : ℚ) → x ≡ y +ℚ w *ℚ s → y ≡ z → x ≡ z +ℚ w *ℚ s
      grown x y z w s e f = linear_eq (x ∷ y ∷ z ∷ w ∷ s ∷ []) (eq e ∷ eq f ∷ []) (search reading_of) tt tt

  slope_is : (v : ℕ) → v < net.nodes → number_at moves.slopes v ≡ slope v
  slope_is v h = same_from_times (moves.until -ℚ late) _ _ (less_ps late moves.until moves.later)
      (same_gain (label flow v moves.until) (label flow v late) (label first v from) (number_at moves.slopes v) (slope v) moves.until late
      ((moves.labels_move v h).line moves.until (≤ℚ_of_lt _ _ moves.later) (≤ℚ_refl moves.until))
      (label-at v moves.until h (≤ℚ_trans _ _ _ from_late (≤ℚ_of_lt _ _ moves.later)) moves.within) (label-at v late h from_late (≤ℚ_of_lt _ _ within)))
    where
      same_gain : (x y z m s u t : ℚ) → x ≡ y +ℚ m *ℚ (u -ℚ t) → x ≡ z +ℚ (u -ℚ from) *ℚ s → y ≡ z +ℚ (t -ℚ from) *ℚ s → (u -ℚ t) *ℚ m ≡ (u -ℚ t) *ℚ s
      same_gain x y z m s u t e f g = linear_eq (x ∷ y ∷ z ∷ m ∷ s ∷ u ∷ t ∷ from ∷ []) (eq e ∷ eq f ∷ eq g ∷ []) (search reading_of) tt tt

  same_slopes : moves.slopes ≡ slopes
  same_slopes = same_entries 0ℚ moves.slopes slopes (moves.thin.slope_count ∙ sym grows.count)
      (λ v h. slope_is v (subst (λ (n : ℕ). v < n) moves.thin.slope_count h))

  -- ---- there each link is settled
  slack_is : (e : ℕ) (link : Link) → IsLink net e link → slack (labels_at net flow late) (hop_of link) ≡ first_slack link +ℚ (late -ℚ from) *ℚ rise link
  unfolding first_slack rise
  slack_is e link p = slack-at net good flow there.1 late e link p
      ∙ moved _ _ _ _ _ _ _ link.transit (label-at link.tail late (good.tails e link p) from_late (≤ℚ_of_lt _ _ within))
      (label-at link.head late (good.heads e link p) from_late (≤ℚ_of_lt _ _ within))
    where
      moved : (x y a b s k w r : ℚ) → x ≡ a +ℚ w *ℚ s → y ≡ b +ℚ w *ℚ k → y -ℚ (x +ℚ r) ≡ (b -ℚ (a +ℚ r)) +ℚ w *ℚ (k -ℚ s)
      moved x y a b s k w r e f = linear_eq (x ∷ y ∷ a ∷ b ∷ s ∷ k ∷ w ∷ r ∷ []) (eq e ∷ eq f ∷ []) (search reading_of) tt tt

  settled_at : (e : ℕ) (link : Link) → IsLink net e link → IsSettled (first_slack link) (rise link) (late -ℚ from)
  settled_at e link p = settled_later _ _ settling.0 (late -ℚ from) long (settling.2 e (slice_get_within net.links e link p) link p)

  keeps : KeepsSets net (sets_at net (labels_at net flow late)) slopes
  unfolding rise
  keeps = record {
    inactive = λ e link p out. ⊎_elim
        (λ (up : slope link.tail <ℚ slope link.head). absurd (out (active_of_slack net (labels_at net flow late) e link p
        (subst (λ (z : ℚ). 0ℚ ≤ℚ z) (sym (slack_is e link p)) (≤ℚ_of_lt _ _ ((settled_at e link p).0 (less_ps _ _ up)))))))
        (λ (k : slope link.head ≤ℚ slope link.tail). k)
        (lt_or_le_ℚ (slope link.tail) (slope link.head));
    resetting = λ e link p has. ⊎_elim
        (λ (down : slope link.head <ℚ slope link.tail). absurd (not_both_ℚ _ _ (slack_of_resetting net (labels_at net flow late) e link p has)
        (subst (λ (z : ℚ). z ≤ℚ 0ℚ) (sym (slack_is e link p)) (≤ℚ_of_lt _ _ ((settled_at e link p).1 (gap_ng _ _ down))))))
        (λ (k : slope link.tail ≤ℚ slope link.head). k)
        (lt_or_le_ℚ (slope link.head) (slope link.tail));
  }

  pub GrowsByCuts-linear : GrowsByCuts net (last_rate net) slopes
  unfolding late
  GrowsByCuts-linear = subst (λ (rate : ℚ). GrowsByCuts net rate slopes)
      (rate-after net late (IsLastSupply-from net late (max_right (from +ℚ settling.0) (last_start net.pieces))))
      (subst (λ (l : List ℚ). GrowsByCuts net (rate_at net late) l) same_slopes
      (GrowsByCuts-thin net (sets_at net (labels_at net flow late)) (rate_at net late) moves.flows moves.slopes good
      (HoldNoCycle-sets_at net (labels_at net flow late) good) moves.thin
      (subst (KeepsSets net (sets_at net (labels_at net flow late))) (sym same_slopes) keeps)))

pub linear_growth-is_by_cuts : LinearGrowthIsByCuts
linear_growth-is_by_cuts net from slopes good grows =
    let cuts = GrowsByCuts-linear net good from slopes grows in
    (cuts, GrowsByLeastCut-cuts net (last_rate net) slopes good cuts)
