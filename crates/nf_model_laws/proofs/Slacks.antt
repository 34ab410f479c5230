-- Slacks, the sets that they make, and how they move.
use Rattle.std.proofs.Common.{◌≡◌, ℕ, zero, suc, List, [], ◌∷◌, length, Bool, true, false, Some, slice_get, option_map, map, ⊎_elim, sym, ap, refl, ◌∙◌}
use Rattle.nf_model_laws.proofs.Common.{slice_get-map, same_Some, ℚ, 0ℚ, ◌+ℚ◌, ◌-ℚ◌, ◌*ℚ◌, ◌≤ℚ◌, ◌<ℚ◌, le_ℚ, lt_ℚ, reading_of, le_ℚ_cases, lt_ℚ_cases, eq}
use Rattle.nf_model_laws.proofs.Common.{linear_eq, number_at, Has, Link, Network, IsLink, hop_of, hops, not_both_ℚ}
use Rattle.nf_model.specs.ThinFlow.{slack, slacks_of, sets_at}
use Rattle.nf_model.specs.Phases.{moved, slack_after}
use Rattle.nf_model_laws.proofs.Networks.{hop_at, number_at-is}

-- the slack in the list is that of the link
slack_entry : (net : Network) (labels : List ℚ) (e : ℕ) (link : Link) → IsLink net e link → slice_get (slacks_of (hops net) labels) e ≡ Some (slack labels (hop_of link))
slack_entry net labels e link p = slice_get-map (slack labels) (hops net) e ∙ ap (option_map (slack labels)) (hop_at net e link p)

pub slack_at : (net : Network) (labels : List ℚ) (e : ℕ) (link : Link) → IsLink net e link → number_at (slacks_of (hops net) labels) e ≡ slack labels (hop_of link)
slack_at net labels e link p = number_at-is (slacks_of (hops net) labels) e (slack labels (hop_of link)) (slack_entry net labels e link p)

-- ---- the sets
flag_at : (test : ℚ → Bool) (net : Network) (labels : List ℚ) (e : ℕ) (link : Link) → IsLink net e link
    → slice_get (map test (slacks_of (hops net) labels)) e ≡ Some (test (slack labels (hop_of link)))
flag_at test net labels e link p = slice_get-map test (slacks_of (hops net) labels) e ∙ ap (option_map test) (slack_entry net labels e link p)

pub active_of_slack : (net : Network) (labels : List ℚ) (e : ℕ) (link : Link) → IsLink net e link → 0ℚ ≤ℚ slack labels (hop_of link) → Has (sets_at net labels).active e
active_of_slack net labels e link p h = flag_at (le_ℚ 0ℚ) net labels e link p ∙ ap (λ (b : Bool). Some b) (⊎_elim
    (λ (w : (le_ℚ 0ℚ (slack labels (hop_of link)) ≡ true) × (0ℚ ≤ℚ slack labels (hop_of link))). w.0)
    (λ (w : (le_ℚ 0ℚ (slack labels (hop_of link)) ≡ false) × (slack labels (hop_of link) <ℚ 0ℚ)). absurd (not_both_ℚ _ _ w.1 h))
    (le_ℚ_cases 0ℚ (slack labels (hop_of link))))

pub slack_of_active : (net : Network) (labels : List ℚ) (e : ℕ) (link : Link) → IsLink net e link → Has (sets_at net labels).active e → 0ℚ ≤ℚ slack labels (hop_of link)
slack_of_active net labels e link p h = ⊎_elim
    (λ (w : (le_ℚ 0ℚ (slack labels (hop_of link)) ≡ true) × (0ℚ ≤ℚ slack labels (hop_of link))). w.1)
    (λ (w : (le_ℚ 0ℚ (slack labels (hop_of link)) ≡ false) × (slack labels (hop_of link) <ℚ 0ℚ)). absurd (both _ w.0 (same_Some _ _ (sym (flag_at (le_ℚ 0ℚ) net labels e link p) ∙ h))))
    (le_ℚ_cases 0ℚ (slack labels (hop_of link)))
  where
    both : (b : Bool) → b ≡ false → b ≡ true → ⊥
    both b e f = cc

pub resetting_of_slack : (net : Network) (labels : List ℚ) (e : ℕ) (link : Link) → IsLink net e link → 0ℚ <ℚ slack labels (hop_of link) → Has (sets_at net labels).resetting e
resetting_of_slack net labels e link p h = flag_at (lt_ℚ 0ℚ) net labels e link p ∙ ap (λ (b : Bool). Some b) (⊎_elim
    (λ (w : (lt_ℚ 0ℚ (slack labels (hop_of link)) ≡ true) × (0ℚ <ℚ slack labels (hop_of link))). w.0)
    (λ (w : (lt_ℚ 0ℚ (slack labels (hop_of link)) ≡ false) × (slack labels (hop_of link) ≤ℚ 0ℚ)). absurd (not_both_ℚ _ _ h w.1))
    (lt_ℚ_cases 0ℚ (slack labels (hop_of link))))

pub slack_of_resetting : (net : Network) (labels : List ℚ) (e : ℕ) (link : Link) → IsLink net e link → Has (sets_at net labels).resetting e → 0ℚ <ℚ slack labels (hop_of link)
slack_of_resetting net labels e link p h = ⊎_elim
    (λ (w : (lt_ℚ 0ℚ (slack labels (hop_of link)) ≡ true) × (0ℚ <ℚ slack labels (hop_of link))). w.1)
    (λ (w : (lt_ℚ 0ℚ (slack labels (hop_of link)) ≡ false) × (slack labels (hop_of link) ≤ℚ 0ℚ)). absurd (both _ w.0 (same_Some _ _ (sym (flag_at (lt_ℚ 0ℚ) net labels e link p) ∙ h))))
    (lt_ℚ_cases 0ℚ (slack labels (hop_of link)))
  where
    both : (b : Bool) → b ≡ false → b ≡ true → ⊥
    both b e f = cc

-- ---- labels and slacks that move
none_moved : (while : ℚ) → 0ℚ ≡ 0ℚ +ℚ while *ℚ 0ℚ
none_moved while = linear_eq (while ∷ []) [] (search reading_of) tt tt

pub moved-at : (labels slopes : List ℚ) (while : ℚ) (v : ℕ) → length labels ≡ length slopes → number_at (moved labels slopes while) v ≡ number_at labels v +ℚ while *ℚ number_at slopes v
moved-at [] [] while v e = none_moved while
moved-at [] (s ∷ slopes) while v e = absurd (cc)
moved-at (l ∷ labels) [] while v e = absurd (cc)
moved-at (l ∷ labels) (s ∷ slopes) while zero e = refl
moved-at (l ∷ labels) (s ∷ slopes) while (suc v) e = moved-at labels slopes while v (cc)

pub length-moved : (labels slopes : List ℚ) (while : ℚ) → length labels ≡ length slopes → length (moved labels slopes while) ≡ length labels
length-moved [] [] while e = refl
length-moved [] (s ∷ slopes) while e = refl
length-moved (l ∷ labels) [] while e = absurd (cc)
length-moved (l ∷ labels) (s ∷ slopes) while e = ap suc (length-moved labels slopes while (cc))

slack_line : (s a b l m n k t w : ℚ) → s ≡ a -ℚ (b +ℚ t) → m ≡ a +ℚ w *ℚ l → n ≡ b +ℚ w *ℚ k → s +ℚ w *ℚ (l -ℚ k) ≡ m -ℚ (n +ℚ t)
slack_line s a b l m n k t w e f g = linear_eq (s ∷ a ∷ b ∷ l ∷ m ∷ n ∷ k ∷ t ∷ w ∷ []) (eq e ∷ eq f ∷ eq g ∷ []) (search reading_of) tt tt

-- the slack after a while is the slack at the labels that have moved for a while
pub slack_after-moved : (net : Network) (labels slopes : List ℚ) (e : ℕ) (link : Link) (while : ℚ) → IsLink net e link → length labels ≡ length slopes
    → slack_after (slacks_of (hops net) labels) slopes e link while ≡ slack (moved labels slopes while) (hop_of link)
slack_after-moved net labels slopes e link while p h = slack_line _ _ _ _ _ _ _ link.transit while (slack_at net labels e link p)
    (moved-at labels slopes while link.head h) (moved-at labels slopes while link.tail h)
