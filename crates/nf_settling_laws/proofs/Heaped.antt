-- Numbers at the nodes, and a flow and an amount for each link that bears it. The sum of the amounts, each times the rise of the numbers along
-- its link, is at most what the flow carries up the numbers. Both are sums over levels. If one of the levels is strict, so is their sum.
use Rattle.std.proofs.Common.{◌≡◌, ℕ, ◌<◌, List, [], ◌∷◌, ⊎_elim, Bool, true, false, if◌then◌else◌, sym, ap, subst, ◌∙◌}
use Rattle.nf_settling_laws.proofs.Common.{ℚ, 0ℚ, 1ℚ, ◌+ℚ◌, ◌-ℚ◌, ◌*ℚ◌, ◌≤ℚ◌, ◌<ℚ◌, lt_ℚ, min_ℚ, reading_of, ≤ℚ_of_lt, ≤ℚ_of_same, ≤ℚ_antisymm, lt_or_le_ℚ}
use Rattle.nf_settling_laws.proofs.Common.{not_both_ℚ, less_nn, less_ps, ≤ℚ_refl, ≤ℚ_trans, lt_ℚ_cases, min_is_left, min_is_right, le, lt, eq, le_times}
use Rattle.nf_settling_laws.proofs.Common.{eq_times, linear_le, linear_lt, linear_eq, gap_np, gap_ng, same_differences, number_at, Link, Network, IsNetwork}
use Rattle.nf_settling_laws.proofs.Common.{IsLink, ps-times_gap, IsOne, NoneBetween, along_times, link_sum}
use Rattle.nf_settling_laws.proofs.Terms.{link_sum-line, link_sum-none, link_sum-same, rise}
use Rattle.nf_settling_laws.proofs.Tops.{top, top-bound, one-entry}
use Rattle.nf_settling_laws.proofs.Levels.{IsBorne, above, high_level, high_by_sink, low_level, low_by_sink}
use Rattle.nf_settling_laws.proofs.Bounded.{wide_line}

-- ---- over plain numbers
lines_less : (a b c d e f k : ℚ) → e ≡ a +ℚ k *ℚ b → f ≡ c +ℚ k *ℚ d → e -ℚ f ≡ (a -ℚ c) +ℚ k *ℚ (b -ℚ d)
lines_less a b c d e f k p q = linear_eq (a ∷ b ∷ c ∷ d ∷ e ∷ f ∷ k ∷ []) (eq p ∷ eq q ∷ []) (search reading_of) tt tt

rise_line : (s t d f k u v : ℚ) → u ≡ s +ℚ k *ℚ d → v ≡ t +ℚ k *ℚ f → v -ℚ u ≡ (t -ℚ s) +ℚ k *ℚ (f -ℚ d)
rise_line s t d f k u v e g = linear_eq (s ∷ t ∷ d ∷ f ∷ k ∷ u ∷ v ∷ []) (eq e ∷ eq g ∷ []) (search reading_of) tt tt

step_le : (a b g k l : ℚ) → a <ℚ b → g ≤ℚ 0ℚ → l ≤ℚ 0ℚ → k ≡ g +ℚ (b -ℚ a) *ℚ l → k ≤ℚ 0ℚ
step_le a b g k l o h i e =
    let gap : 0ℚ ≤ℚ b -ℚ a = less_nn a b (≤ℚ_of_lt _ _ o) in
    linear_le (a ∷ b ∷ g ∷ k ∷ l ∷ []) (eq e ∷ le h ∷ le_times gap i ∷ []) (search reading_of) tt

kept_lt : (a b g k l : ℚ) → a <ℚ b → g <ℚ 0ℚ → l ≤ℚ 0ℚ → k ≡ g +ℚ (b -ℚ a) *ℚ l → k <ℚ 0ℚ
kept_lt a b g k l o h i e =
    let gap : 0ℚ ≤ℚ b -ℚ a = less_nn a b (≤ℚ_of_lt _ _ o) in
    linear_lt (a ∷ b ∷ g ∷ k ∷ l ∷ []) (eq e ∷ lt h ∷ le_times gap i ∷ []) (search reading_of) tt

new_lt : (a b g k l : ℚ) → a <ℚ b → g ≤ℚ 0ℚ → l <ℚ 0ℚ → k ≡ g +ℚ (b -ℚ a) *ℚ l → k <ℚ 0ℚ
new_lt a b g k l o h i e =
    let more : 0ℚ <ℚ (b -ℚ a) *ℚ (0ℚ -ℚ l) = ps-times_gap (b -ℚ a) l 0ℚ (less_ps a b o) i in
    linear_lt (a ∷ b ∷ g ∷ k ∷ l ∷ []) (eq e ∷ le h ∷ lt more ∷ []) (search reading_of) tt

le_of_less : (f c d : ℚ) → f -ℚ c ≤ℚ 0ℚ → c ≡ d → f ≤ℚ d
le_of_less f c d h e = linear_le (f ∷ c ∷ d ∷ []) (le h ∷ eq e ∷ []) (search reading_of) tt

lt_of_less : (f c d : ℚ) → f -ℚ c <ℚ 0ℚ → c ≡ d → f <ℚ d
lt_of_less f c d h e = linear_lt (f ∷ c ∷ d ∷ []) (lt h ∷ eq e ∷ []) (search reading_of) tt

capped_low : (m n d a b : ℚ) → m ≡ n → d ≡ 0ℚ → m ≡ n +ℚ (b -ℚ a) *ℚ d
capped_low m n d a b e f = linear_eq (m ∷ n ∷ d ∷ a ∷ b ∷ []) (eq e ∷ eq_times (b -ℚ a) f ∷ []) (search reading_of) tt tt

capped_high : (m n d a b : ℚ) → m ≡ b → n ≡ a → d ≡ 1ℚ → m ≡ n +ℚ (b -ℚ a) *ℚ d
capped_high m n d a b e f g = linear_eq (m ∷ n ∷ d ∷ a ∷ b ∷ []) (eq e ∷ eq f ∷ eq_times (b -ℚ a) g ∷ []) (search reading_of) tt tt

-- No number is strictly between a and b, so a number above a is at least b.
pub jump : (net : Network) (rate : ℚ) (x : ℕ → ℚ) (n : ℕ → Link → ℚ) (values : List ℚ) (a b : ℚ) → IsBorne net rate x n values → NoneBetween values a b
    → (v : ℕ) → v < net.nodes → a <ℚ number_at values v → b ≤ℚ number_at values v
jump net rate x n values a b borne none v h k = ⊎_elim
    (λ (l : number_at values v <ℚ b). absurd (none (number_at values v) (one-entry values v (subst (λ (m : ℕ). v < m) (sym borne.count) h)) k l))
    (λ (l : b ≤ℚ number_at values v). l)
    (lt_or_le_ℚ (number_at values v) b)

-- If a is below 1, b is at most 1, since the number of the source is 1.
pub up_to_1 : (net : Network) (rate : ℚ) (x : ℕ → ℚ) (n : ℕ → Link → ℚ) (values : List ℚ) (a b : ℚ) → IsNetwork net → IsBorne net rate x n values
    → NoneBetween values a b → a <ℚ 1ℚ → b ≤ℚ 1ℚ
up_to_1 net rate x n values a b good borne none h =
    subst (λ (z : ℚ). b ≤ℚ z) borne.starts (jump net rate x n values a b borne none net.source good.source (subst (λ (z : ℚ). a <ℚ z) (sym borne.starts) h))

module _ (net : Network) (good : IsNetwork net) (rate : ℚ) (x : ℕ → ℚ) (n : ℕ → Link → ℚ) (values : List ℚ) (borne : IsBorne net rate x n values) where
  abbrev at : ℕ → ℚ
  at = number_at values

  -- For a potential: the amounts times its rises, less what the flow carries up.
  abbrev gain : (ℕ → ℚ) → ℚ
  gain w = link_sum net.links (λ e link. n e link *ℚ rise w link) -ℚ link_sum net.links (λ e link. x e *ℚ rise w link)

  gain-line : (w r s : ℕ → ℚ) (k : ℚ) → ((v : ℕ) → v < net.nodes → w v ≡ r v +ℚ k *ℚ s v) → gain w ≡ gain r +ℚ k *ℚ gain s
  gain-line w r s k e = lines_less _ _ _ _ _ _ k
      (link_sum-line k net.links (λ i link. n i link *ℚ rise r link) (λ i link. n i link *ℚ rise s link) (λ i link. n i link *ℚ rise w link)
      (λ i link p. wide_line (n i link) (rise r link) (rise w link) (rise s link) k (rises i link p)))
      (link_sum-line k net.links (λ i link. x i *ℚ rise r link) (λ i link. x i *ℚ rise s link) (λ i link. x i *ℚ rise w link)
      (λ i link p. wide_line (x i) (rise r link) (rise w link) (rise s link) k (rises i link p)))
    where
      rises : (i : ℕ) (link : Link) → IsLink net i link → rise w link ≡ rise r link +ℚ k *ℚ rise s link
      rises i link p = rise_line (r link.tail) (r link.head) (s link.tail) (s link.head) k (w link.tail) (w link.head) (e link.tail (good.tails i link p))
          (e link.head (good.heads i link p))

  -- ---- numbers cut at y
  abbrev capped : ℚ → ℕ → ℚ
  capped y v = min_ℚ (at v) y

  abbrev last : ℚ
  last = 1ℚ +ℚ top values

  below_last : (v : ℕ) → at v <ℚ last
  below_last v = next (at v) (top values) (top-bound values v)
    where
      next : (s t : ℚ) → s ≤ℚ t → s <ℚ 1ℚ +ℚ t
      next s t h = linear_lt (s ∷ t ∷ []) (le h ∷ []) (search reading_of) tt

  is_one : (v : ℕ) → v < net.nodes → IsOne (at v) values
  is_one v h = one-entry values v (subst (λ (k : ℕ). v < k) (sym borne.count) h)

  gain_0 : gain (capped 0ℚ) ≡ 0ℚ
  gain_0 = none_less _ _ (link_sum-none net.links (λ e link. n e link *ℚ rise (capped 0ℚ) link) (λ e link _. flat (n e link) link))
      (link_sum-none net.links (λ e link. x e *ℚ rise (capped 0ℚ) link) (λ e link _. flat (x e) link))
    where
      none_less : (a b : ℚ) → a ≡ 0ℚ → b ≡ 0ℚ → a -ℚ b ≡ 0ℚ
      none_less a b e f = linear_eq (a ∷ b ∷ []) (eq e ∷ eq f ∷ []) (search reading_of) tt tt

      flat_by : (n s t : ℚ) → s ≡ 0ℚ → t ≡ 0ℚ → n *ℚ (t -ℚ s) ≡ 0ℚ
      flat_by n s t e f = linear_eq (n ∷ s ∷ t ∷ []) (eq_times n e ∷ eq_times n f ∷ []) (search reading_of) tt tt

      flat : (n : ℚ) (link : Link) → n *ℚ rise (capped 0ℚ) link ≡ 0ℚ
      flat n link = flat_by n (capped 0ℚ link.tail) (capped 0ℚ link.head) (min_is_right _ _ (borne.not_negative link.tail))
          (min_is_right _ _ (borne.not_negative link.head))

  gain_last : gain (capped last) ≡ gain at
  gain_last = same_differences _ _ _ _
      (link_sum-same net.links (λ e link. n e link *ℚ rise (capped last) link) (λ e link. n e link *ℚ rise at link)
      (λ e link _. ap (λ (r : ℚ). n e link *ℚ r) (same link)))
      (link_sum-same net.links (λ e link. x e *ℚ rise (capped last) link) (λ e link. x e *ℚ rise at link) (λ e link _. ap (λ (r : ℚ). x e *ℚ r) (same link)))
    where
      node : (v : ℕ) → capped last v ≡ at v
      node v = min_is_left _ _ (≤ℚ_of_lt _ _ (below_last v))

      same : (link : Link) → rise (capped last) link ≡ rise at link
      same link = same_differences _ _ _ _ (node link.head) (node link.tail)

  -- ---- one level
  module _ (a b : ℚ) (first : 0ℚ ≤ℚ a) (o : a <ℚ b) (none : NoneBetween values a b) where
    level_le : gain (above a values) ≤ℚ 0ℚ
    level_le = gap_np _ _ (⊎_elim
        (λ (h : a <ℚ 1ℚ). low_level net good rate x n values borne a b first o (jump net rate x n values a b borne none)
        (up_to_1 net rate x n values a b good borne none h))
        (λ (h : 1ℚ ≤ℚ a). high_level net good rate x n values borne a b first o (jump net rate x n values a b borne none) h)
        (lt_or_le_ℚ a 1ℚ))

    capped_step : (v : ℕ) → v < net.nodes → capped b v ≡ capped a v +ℚ (b -ℚ a) *ℚ above a values v
    capped_step v h = ⊎_elim
        (λ (w : (lt_ℚ a (at v) ≡ true) × (a <ℚ at v)).
        capped_high (capped b v) (capped a v) (above a values v) a b (min_is_right _ _ (jump net rate x n values a b borne none v h w.1))
        (min_is_right _ _ (≤ℚ_of_lt _ _ w.1)) (ap (λ (k : Bool). if k then 1ℚ else 0ℚ) w.0))
        (λ (w : (lt_ℚ a (at v) ≡ false) × (at v ≤ℚ a)).
        capped_low (capped b v) (capped a v) (above a values v) a b (min_is_left _ _ (≤ℚ_trans _ _ _ w.1 (≤ℚ_of_lt _ _ o)) ∙ sym (min_is_left _ _ w.1))
        (ap (λ (k : Bool). if k then 1ℚ else 0ℚ) w.0))
        (lt_ℚ_cases a (at v))

    gain_step : gain (capped b) ≡ gain (capped a) +ℚ (b -ℚ a) *ℚ gain (above a values)
    gain_step = gain-line (capped b) (capped a) (above a values) (b -ℚ a) capped_step

  -- ---- level by level
  abbrev NotAbove : ℚ → Type 0
  NotAbove y = gain (capped y) ≤ℚ 0ℚ

  last_nn : 0ℚ ≤ℚ last
  last_nn = ≤ℚ_trans _ _ _ (borne.not_negative net.source) (≤ℚ_of_lt _ _ (below_last net.source))

  gain-le : gain at ≤ℚ 0ℚ
  gain-le = subst (λ (z : ℚ). z ≤ℚ 0ℚ) gain_last
      (along_times NotAbove last values
      (λ a b first o _ none g. step_le a b _ _ _ o g (level_le a b first o none) (gain_step a b first o none))
      values 0ℚ last (≤ℚ_refl 0ℚ) last_nn (≤ℚ_refl last) (λ t w _ _. w) (≤ℚ_of_same _ _ gain_0))

  abbrev heap : ℚ
  heap = link_sum net.links (λ e link. n e link *ℚ rise at link)

  pub heaped-le : heap ≤ℚ rate *ℚ (at net.sink -ℚ at net.source)
  heaped-le = le_of_less _ _ _ gain-le (borne.carried at)

  -- It is less if the level above the number of some node is strict.
  module _ (u : ℕ) (low : u < net.nodes) where
    abbrev from : ℚ
    from = at u

    abbrev Strict : Type 0
    Strict = (b : ℚ) → from <ℚ b → NoneBetween values from b → link_sum net.links (λ e link. n e link *ℚ rise (above from values) link)
        <ℚ link_sum net.links (λ e link. x e *ℚ rise (above from values) link)

    module _ (strict : Strict) where
      abbrev Falls : ℚ → Type 0
      Falls y = NotAbove y × (from <ℚ y → gain (capped y) <ℚ 0ℚ)

      falls_on : (a b : ℚ) → 0ℚ ≤ℚ a → a <ℚ b → b ≤ℚ last → NoneBetween values a b → Falls a → Falls b
      falls_on a b first o _ none g = (
        step_le a b _ _ _ o g.0 (level_le a b first o none) (gain_step a b first o none),
        λ past. ⊎_elim
            (λ (k : from <ℚ a). kept_lt a b _ _ _ o (g.1 k) (level_le a b first o none) (gain_step a b first o none))
            (λ (k : a ≤ℚ from). ⊎_elim
            (λ (l : a <ℚ from). absurd (none from (is_one u low) l past))
            (λ (l : from ≤ℚ a).
            let same : from ≡ a = ≤ℚ_antisymm _ _ l k in
            new_lt a b _ _ _ o g.0 (subst (λ (z : ℚ). gain (above z values) <ℚ 0ℚ) same
            (gap_ng _ _ (strict b past (subst (λ (z : ℚ). NoneBetween values z b) (sym same) none)))) (gain_step a b first o none))
            (lt_or_le_ℚ a from))
            (lt_or_le_ℚ from a),
      )

      gain-lt : gain at <ℚ 0ℚ
      gain-lt = subst (λ (z : ℚ). z <ℚ 0ℚ) gain_last ((along_times Falls last values falls_on values 0ℚ last (≤ℚ_refl 0ℚ) last_nn (≤ℚ_refl last) (λ t w _ _. w)
          (≤ℚ_of_same _ _ gain_0, λ below. absurd (not_both_ℚ _ _ below (borne.not_negative u)))).1 (below_last u))

      pub heaped-strict : heap <ℚ rate *ℚ (at net.sink -ℚ at net.source)
      heaped-strict = lt_of_less _ _ _ gain-lt (borne.carried at)

  -- It is less if there is flow, and the numbers of source and sink differ.
  pub heaped-lt : 0ℚ <ℚ rate → (at net.sink ≡ 1ℚ → ⊥) → heap <ℚ rate *ℚ (at net.sink -ℚ at net.source)
  heaped-lt more apart = ⊎_elim
      (λ (low : at net.sink <ℚ 1ℚ). heaped-strict net.sink good.sink (λ b o none. low_by_sink net good rate x n values borne (at net.sink) b
      (borne.not_negative net.sink) o (jump net rate x n values (at net.sink) b borne none)
      (up_to_1 net rate x n values (at net.sink) b good borne none low) more (≤ℚ_refl (at net.sink))))
      (λ (k : 1ℚ ≤ℚ at net.sink). ⊎_elim
      (λ (high : 1ℚ <ℚ at net.sink). heaped-strict net.source good.source (λ b o none. high_by_sink net good rate x n values borne (at net.source) b
      (borne.not_negative net.source) o (jump net rate x n values (at net.source) b borne none) (≤ℚ_of_same _ _ (sym borne.starts)) more
      (subst (λ (z : ℚ). z <ℚ at net.sink) (sym borne.starts) high)))
      (λ (l : at net.sink ≤ℚ 1ℚ). absurd (apart (≤ℚ_antisymm _ _ l k)))
      (lt_or_le_ℚ 1ℚ (at net.sink)))
      (lt_or_le_ℚ (at net.sink) 1ℚ)
