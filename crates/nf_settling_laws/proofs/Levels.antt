-- One level of numbers at the nodes: the nodes whose number is above a, if no number is strictly between a and b. Each link has a flow and an
-- amount that bears it. Over the links that cross the level, the amounts, counted upwards, are at most what the flow carries upwards.
use Rattle.std.proofs.Common.{◌≡◌, ℕ, ◌<◌, List, [], ◌∷◌, ◌⊎◌, inl, inr, ⊎_elim, Bool, true, false, if◌then◌else◌, length, sym, ap, subst, ◌∙◌}
use Rattle.nf_settling_laws.proofs.Common.{ℚ, 0ℚ, 1ℚ, ◌-ℚ◌, ◌*ℚ◌, ◌≤ℚ◌, ◌<ℚ◌, lt_ℚ, reading_of, ≤ℚ_of_lt, lt_or_le_ℚ, not_both_ℚ, ≤ℚ_refl, ≤ℚ_trans, lt_ℚ_cases}
use Rattle.nf_settling_laws.proofs.Common.{le, lt, eq, le_times, eq_times, linear_le, linear_lt, linear_eq, linear_false, number_at, Link, Network, IsNetwork}
use Rattle.nf_settling_laws.proofs.Common.{IsLink, ps-times_gap, link_sum}
use Rattle.nf_settling_laws.proofs.Terms.{EachLink, link_sum-le, link_sum-lt, link_sum-times, rise}
use Rattle.nf_thin_laws.proofs.Cuts.{fall_out, fall_into}

-- The amount n of a link bears its flow x. If the number rises along the link, from s to t, x is at least n times t. If it falls, x is at most
-- that.
pub record Bears (n x s t : ℚ) : Type 0 where
  pub not_negative : 0ℚ ≤ℚ n
  pub up : (t ≤ℚ s) ⊎ (n *ℚ t ≤ℚ x)
  pub down : (s ≤ℚ t) ⊎ (x ≤ℚ n *ℚ t)

-- The links carry a static flow x of value `rate`, and their amounts n bear it. The number of the source is 1.
pub record IsBorne (net : Network) (rate : ℚ) (x : ℕ → ℚ) (n : ℕ → Link → ℚ) (values : List ℚ) : Type 0 where
  pub rate_not_negative : 0ℚ ≤ℚ rate
  pub count : length values ≡ net.nodes
  pub not_negative : (v : ℕ) → 0ℚ ≤ℚ number_at values v
  pub starts : number_at values net.source ≡ 1ℚ
  pub carried : (w : ℕ → ℚ) → link_sum net.links (λ e link. x e *ℚ rise w link) ≡ rate *ℚ (w net.sink -ℚ w net.source)
  pub bears : (e : ℕ) (link : Link) → IsLink net e link → Bears (n e link) (x e) (number_at values link.tail) (number_at values link.head)

-- ---- sides of a level: 1 above a, and 0 elsewhere
abbrev pub above : ℚ → List ℚ → ℕ → ℚ
above a values v = if lt_ℚ a (number_at values v) then 1ℚ else 0ℚ

-- A link with an amount above 0 leads up, or down, across the level a.
abbrev pub Up : (ℕ → Link → ℚ) → List ℚ → ℚ → ℕ → Link → Type 0
Up n values a e link = (0ℚ <ℚ n e link) × ((number_at values link.tail ≤ℚ a) × (a <ℚ number_at values link.head))

abbrev pub Down : (ℕ → Link → ℚ) → List ℚ → ℚ → ℕ → Link → Type 0
Down n values a e link = (0ℚ <ℚ n e link) × ((a <ℚ number_at values link.tail) × (number_at values link.head ≤ℚ a))

-- d is 0 at a number of at most a, and 1 at a number of at least b.
abbrev Side : ℚ → ℚ → ℚ → ℚ → Type 0
Side a b s d = ((d ≡ 0ℚ) × (s ≤ℚ a)) ⊎ ((d ≡ 1ℚ) × (b ≤ℚ s))

-- ---- over plain numbers: p and q are factors of the rise from d to f
no_rise : (p q d f : ℚ) → d ≡ f → p *ℚ (f -ℚ d) ≤ℚ q *ℚ (f -ℚ d)
no_rise p q d f e = linear_le (p ∷ q ∷ d ∷ f ∷ []) (eq_times p e ∷ eq_times q e ∷ []) (search reading_of) tt

up_is : (p d f : ℚ) → d ≡ 0ℚ → f ≡ 1ℚ → p *ℚ (f -ℚ d) ≡ p
up_is p d f e g = linear_eq (p ∷ d ∷ f ∷ []) (eq_times p e ∷ eq_times p g ∷ []) (search reading_of) tt tt

down_is : (p d f : ℚ) → d ≡ 1ℚ → f ≡ 0ℚ → p *ℚ (f -ℚ d) ≡ 0ℚ -ℚ p
down_is p d f e g = linear_eq (p ∷ d ∷ f ∷ []) (eq_times p e ∷ eq_times p g ∷ []) (search reading_of) tt tt

up_less : (p q d f : ℚ) → d ≡ 0ℚ → f ≡ 1ℚ → p <ℚ q → p *ℚ (f -ℚ d) <ℚ q *ℚ (f -ℚ d)
up_less p q d f e g h = linear_lt (p ∷ q ∷ d ∷ f ∷ []) (lt h ∷ eq (up_is p d f e g) ∷ eq (up_is q d f e g) ∷ []) (search reading_of) tt

down_less : (p q d f : ℚ) → d ≡ 1ℚ → f ≡ 0ℚ → q <ℚ p → p *ℚ (f -ℚ d) <ℚ q *ℚ (f -ℚ d)
down_less p q d f e g h = linear_lt (p ∷ q ∷ d ∷ f ∷ []) (lt h ∷ eq (down_is p d f e g) ∷ eq (down_is q d f e g) ∷ []) (search reading_of) tt

-- ---- over plain numbers: one link that crosses the level, and a factor m from a to b
up_by : (m n x s t a b : ℚ) → m ≤ℚ b → a <ℚ b → s ≤ℚ a → b ≤ℚ t → Bears n x s t → m *ℚ n ≤ℚ x
up_by m n x s t a b h o i j bears = by bears.up
  where
    by : (t ≤ℚ s) ⊎ (n *ℚ t ≤ℚ x) → m *ℚ n ≤ℚ x
    by (inl l) = absurd (linear_false (s ∷ t ∷ a ∷ b ∷ []) (le i ∷ le j ∷ le l ∷ lt o ∷ []) (search reading_of) tt)
    by (inr l) =
        let more : m ≤ℚ t = ≤ℚ_trans _ _ _ h j in
        linear_le (m ∷ n ∷ x ∷ t ∷ []) (le l ∷ le_times bears.not_negative more ∷ []) (search reading_of) tt

down_by : (m n x s t a b : ℚ) → a ≤ℚ m → a <ℚ b → b ≤ℚ s → t ≤ℚ a → Bears n x s t → x ≤ℚ m *ℚ n
down_by m n x s t a b h o i j bears = by bears.down
  where
    by : (s ≤ℚ t) ⊎ (x ≤ℚ n *ℚ t) → x ≤ℚ m *ℚ n
    by (inl l) = absurd (linear_false (s ∷ t ∷ a ∷ b ∷ []) (le i ∷ le j ∷ le l ∷ lt o ∷ []) (search reading_of) tt)
    by (inr l) =
        let more : t ≤ℚ m = ≤ℚ_trans _ _ _ j h in
        linear_le (m ∷ n ∷ x ∷ t ∷ []) (le l ∷ le_times bears.not_negative more ∷ []) (search reading_of) tt

-- An amount above 0 is strict at the other end of the level.
up_by_more : (n x s t a b : ℚ) → a <ℚ b → s ≤ℚ a → b ≤ℚ t → 0ℚ <ℚ n → Bears n x s t → a *ℚ n <ℚ x
up_by_more n x s t a b o i j some bears =
    let gap : 0ℚ <ℚ n *ℚ (b -ℚ a) = ps-times_gap n a b some o in
    linear_lt (n ∷ x ∷ a ∷ b ∷ []) (lt gap ∷ le (up_by b n x s t a b (≤ℚ_refl b) o i j bears) ∷ []) (search reading_of) tt

down_by_more : (n x s t a b : ℚ) → a <ℚ b → b ≤ℚ s → t ≤ℚ a → 0ℚ <ℚ n → Bears n x s t → x <ℚ b *ℚ n
down_by_more n x s t a b o i j some bears =
    let gap : 0ℚ <ℚ n *ℚ (b -ℚ a) = ps-times_gap n a b some o in
    linear_lt (n ∷ x ∷ a ∷ b ∷ []) (lt gap ∷ le (down_by a n x s t a b (≤ℚ_refl a) o i j bears) ∷ []) (search reading_of) tt

link_level : (m n x s t a b d f : ℚ) → a ≤ℚ m → m ≤ℚ b → a <ℚ b → Bears n x s t → Side a b s d → Side a b t f
    → (m *ℚ n) *ℚ (f -ℚ d) ≤ℚ x *ℚ (f -ℚ d)
link_level m n x s t a b d f h k o bears (inl (p, i)) (inl (q, j)) = no_rise (m *ℚ n) x d f (p ∙ sym q)
link_level m n x s t a b d f h k o bears (inl (p, i)) (inr (q, j)) = fall_out (m *ℚ n) x f d q p (up_by m n x s t a b k o i j bears)
link_level m n x s t a b d f h k o bears (inr (p, i)) (inl (q, j)) = fall_into (m *ℚ n) x f d q p (down_by m n x s t a b h o i j bears)
link_level m n x s t a b d f h k o bears (inr (p, i)) (inr (q, j)) = no_rise (m *ℚ n) x d f (p ∙ sym q)

-- ---- the sums over all links: n is that of the amounts, and j what is carried
-- Levels from 1 on: j is at least 0.
high_le : (a n j : ℚ) → 1ℚ ≤ℚ a → 0ℚ ≤ℚ j → a *ℚ n ≤ℚ j → n ≤ℚ j
high_le a n j h k o = ⊎_elim
    (λ (l : n <ℚ 0ℚ). linear_le (n ∷ j ∷ []) (lt l ∷ le k ∷ []) (search reading_of) tt)
    (λ (l : 0ℚ ≤ℚ n). linear_le (a ∷ n ∷ j ∷ []) (le_times l h ∷ le o ∷ []) (search reading_of) tt)
    (lt_or_le_ℚ n 0ℚ)

high_lt : (a n j : ℚ) → 1ℚ ≤ℚ a → 0ℚ ≤ℚ j → a *ℚ n <ℚ j → n <ℚ j
high_lt a n j h k o = ⊎_elim
    (λ (l : n <ℚ 0ℚ). linear_lt (n ∷ j ∷ []) (lt l ∷ le k ∷ []) (search reading_of) tt)
    (λ (l : 0ℚ ≤ℚ n). linear_lt (a ∷ n ∷ j ∷ []) (le_times l h ∷ lt o ∷ []) (search reading_of) tt)
    (lt_or_le_ℚ n 0ℚ)

-- Levels up to 1: j is at most 0.
low_le : (b n j : ℚ) → 0ℚ <ℚ b → b ≤ℚ 1ℚ → j ≤ℚ 0ℚ → b *ℚ n ≤ℚ j → n ≤ℚ j
low_le b n j h i k o = ⊎_elim
    (λ (l : 0ℚ <ℚ n).
    let more : 0ℚ <ℚ b *ℚ (n -ℚ 0ℚ) = ps-times_gap b 0ℚ n h l in
    absurd (linear_false (b ∷ n ∷ j ∷ []) (lt more ∷ le o ∷ le k ∷ []) (search reading_of) tt))
    (λ (l : n ≤ℚ 0ℚ).
    let rest : 0ℚ ≤ℚ 1ℚ -ℚ b = linear_le (b ∷ []) (le i ∷ []) (search reading_of) tt in
    linear_le (b ∷ n ∷ j ∷ []) (le_times rest l ∷ le o ∷ []) (search reading_of) tt)
    (lt_or_le_ℚ 0ℚ n)

low_lt : (b n j : ℚ) → 0ℚ <ℚ b → b ≤ℚ 1ℚ → j ≤ℚ 0ℚ → b *ℚ n <ℚ j → n <ℚ j
low_lt b n j h i k o = ⊎_elim
    (λ (l : 0ℚ <ℚ n).
    let more : 0ℚ <ℚ b *ℚ (n -ℚ 0ℚ) = ps-times_gap b 0ℚ n h l in
    absurd (linear_false (b ∷ n ∷ j ∷ []) (lt more ∷ lt o ∷ le k ∷ []) (search reading_of) tt))
    (λ (l : n ≤ℚ 0ℚ).
    let rest : 0ℚ ≤ℚ 1ℚ -ℚ b = linear_le (b ∷ []) (le i ∷ []) (search reading_of) tt in
    linear_lt (b ∷ n ∷ j ∷ []) (le_times rest l ∷ lt o ∷ []) (search reading_of) tt)
    (lt_or_le_ℚ 0ℚ n)

-- The same if j is above 0, or below 0.
high_lt_by_flow : (a b n j : ℚ) → 1ℚ ≤ℚ a → a <ℚ b → 0ℚ <ℚ j → b *ℚ n ≤ℚ j → n <ℚ j
high_lt_by_flow a b n j h i k o = ⊎_elim
    (λ (l : 0ℚ <ℚ n).
    let gap : 1ℚ <ℚ b = linear_lt (a ∷ b ∷ []) (le h ∷ lt i ∷ []) (search reading_of) tt in
    let more : 0ℚ <ℚ n *ℚ (b -ℚ 1ℚ) = ps-times_gap n 1ℚ b l gap in
    linear_lt (b ∷ n ∷ j ∷ []) (lt more ∷ le o ∷ []) (search reading_of) tt)
    (λ (l : n ≤ℚ 0ℚ). linear_lt (n ∷ j ∷ []) (le l ∷ lt k ∷ []) (search reading_of) tt)
    (lt_or_le_ℚ 0ℚ n)

low_lt_by_flow : (a b n j : ℚ) → 0ℚ ≤ℚ a → a <ℚ b → b ≤ℚ 1ℚ → j <ℚ 0ℚ → a *ℚ n ≤ℚ j → b *ℚ n ≤ℚ j → n <ℚ j
low_lt_by_flow a b n j f i h k o p = ⊎_elim
    (λ (l : n <ℚ 0ℚ).
    let gap : a <ℚ 1ℚ = linear_lt (a ∷ b ∷ []) (le h ∷ lt i ∷ []) (search reading_of) tt in
    let low : 0ℚ <ℚ 0ℚ -ℚ n = linear_lt (n ∷ []) (lt l ∷ []) (search reading_of) tt in
    let more : 0ℚ <ℚ (0ℚ -ℚ n) *ℚ (1ℚ -ℚ a) = ps-times_gap (0ℚ -ℚ n) a 1ℚ low gap in
    linear_lt (a ∷ n ∷ j ∷ []) (lt more ∷ le o ∷ []) (search reading_of) tt)
    (λ (l : 0ℚ ≤ℚ n).
    let b_nn : 0ℚ ≤ℚ b = linear_le (a ∷ b ∷ []) (le f ∷ lt i ∷ []) (search reading_of) tt in
    absurd (linear_false (b ∷ n ∷ j ∷ []) (le_times b_nn l ∷ le p ∷ lt k ∷ []) (search reading_of) tt))
    (lt_or_le_ℚ n 0ℚ)

module _ (net : Network) (good : IsNetwork net) (rate : ℚ) (x : ℕ → ℚ) (n : ℕ → Link → ℚ) (values : List ℚ) (borne : IsBorne net rate x n values)
    (a b : ℚ) (first : 0ℚ ≤ℚ a) (o : a <ℚ b) (none : (v : ℕ) → v < net.nodes → a <ℚ number_at values v → b ≤ℚ number_at values v) where
  abbrev at : ℕ → ℚ
  at = number_at values

  abbrev d : ℕ → ℚ
  d = above a values

  side : (v : ℕ) → v < net.nodes → Side a b (at v) (d v)
  side v h = ⊎_elim
      (λ (w : (lt_ℚ a (at v) ≡ true) × (a <ℚ at v)). inr (ap (λ (k : Bool). if k then 1ℚ else 0ℚ) w.0, none v h w.1))
      (λ (w : (lt_ℚ a (at v) ≡ false) × (at v ≤ℚ a)). inl (ap (λ (k : Bool). if k then 1ℚ else 0ℚ) w.0, w.1))
      (lt_ℚ_cases a (at v))

  is_bit : (v : ℕ) → v < net.nodes → (d v ≡ 0ℚ) ⊎ (d v ≡ 1ℚ)
  is_bit v h = ⊎_elim (λ (w : (d v ≡ 0ℚ) × (at v ≤ℚ a)). inl w.0) (λ (w : (d v ≡ 1ℚ) × (b ≤ℚ at v)). inr w.0) (side v h)

  low_side : (v : ℕ) → v < net.nodes → at v ≤ℚ a → d v ≡ 0ℚ
  low_side v h l = ⊎_elim
      (λ (w : (d v ≡ 0ℚ) × (at v ≤ℚ a)). w.0)
      (λ (w : (d v ≡ 1ℚ) × (b ≤ℚ at v)). absurd (not_both_ℚ _ _ o (≤ℚ_trans _ _ _ w.1 l)))
      (side v h)

  high_side : (v : ℕ) → v < net.nodes → a <ℚ at v → d v ≡ 1ℚ
  high_side v h l = ⊎_elim
      (λ (w : (d v ≡ 0ℚ) × (at v ≤ℚ a)). absurd (not_both_ℚ _ _ l w.1))
      (λ (w : (d v ≡ 1ℚ) × (b ≤ℚ at v)). w.0)
      (side v h)

  abbrev amounts : ℚ
  amounts = link_sum net.links (λ e link. n e link *ℚ rise d link)

  abbrev carries : ℚ
  carries = link_sum net.links (λ e link. x e *ℚ rise d link)

  -- ---- a factor m from a to b: m times the amounts is at most what is carried
  module _ (m : ℚ) (h : a ≤ℚ m) (k : m ≤ℚ b) where
    each : EachLink net.links (λ e link. (m *ℚ n e link) *ℚ rise d link ≤ℚ x e *ℚ rise d link)
    each e link p = link_level m (n e link) (x e) (at link.tail) (at link.head) a b (d link.tail) (d link.head) h k o (borne.bears e link p)
        (side link.tail (good.tails e link p)) (side link.head (good.heads e link p))

    times_amounts : link_sum net.links (λ e link. (m *ℚ n e link) *ℚ rise d link) ≡ m *ℚ amounts
    times_amounts = link_sum-times m net.links (λ e link. n e link *ℚ rise d link) (λ e link. (m *ℚ n e link) *ℚ rise d link)
        (λ e link p. grouped (n e link) (rise d link))
      where
        grouped : (y z : ℚ) → (m *ℚ y) *ℚ z ≡ m *ℚ (y *ℚ z)
        grouped y z = linear_eq (m ∷ y ∷ z ∷ []) [] (search reading_of) tt tt

    factor_le : m *ℚ amounts ≤ℚ carries
    factor_le = subst (λ (z : ℚ). z ≤ℚ carries) times_amounts
        (link_sum-le net.links (λ e link. (m *ℚ n e link) *ℚ rise d link) (λ e link. x e *ℚ rise d link) each)

    factor_lt : (e : ℕ) (link : Link) → IsLink net e link → (m *ℚ n e link) *ℚ rise d link <ℚ x e *ℚ rise d link → m *ℚ amounts <ℚ carries
    factor_lt e link p less = subst (λ (z : ℚ). z <ℚ carries) times_amounts
        (link_sum-lt net.links (λ e link. (m *ℚ n e link) *ℚ rise d link) (λ e link. x e *ℚ rise d link) each e link p less)

  low_factor : a *ℚ amounts ≤ℚ carries
  low_factor = factor_le a (≤ℚ_refl a) (≤ℚ_of_lt _ _ o)

  high_factor : b *ℚ amounts ≤ℚ carries
  high_factor = factor_le b (≤ℚ_of_lt _ _ o) (≤ℚ_refl b)

  -- ---- what is carried, by the sides of sink and source
  value_nn : (j t s : ℚ) → j ≡ rate *ℚ (t -ℚ s) → s ≡ 0ℚ → (t ≡ 0ℚ) ⊎ (t ≡ 1ℚ) → 0ℚ ≤ℚ j
  value_nn j t s e f (inl g) = linear_le (j ∷ t ∷ s ∷ rate ∷ []) (eq e ∷ eq_times rate f ∷ eq_times rate g ∷ []) (search reading_of) tt
  value_nn j t s e f (inr g) =
      linear_le (j ∷ t ∷ s ∷ rate ∷ []) (eq e ∷ eq_times rate f ∷ eq_times rate g ∷ le borne.rate_not_negative ∷ []) (search reading_of) tt

  value_np : (j t s : ℚ) → j ≡ rate *ℚ (t -ℚ s) → s ≡ 1ℚ → (t ≡ 0ℚ) ⊎ (t ≡ 1ℚ) → j ≤ℚ 0ℚ
  value_np j t s e f (inl g) =
      linear_le (j ∷ t ∷ s ∷ rate ∷ []) (eq e ∷ eq_times rate f ∷ eq_times rate g ∷ le borne.rate_not_negative ∷ []) (search reading_of) tt
  value_np j t s e f (inr g) = linear_le (j ∷ t ∷ s ∷ rate ∷ []) (eq e ∷ eq_times rate f ∷ eq_times rate g ∷ []) (search reading_of) tt

  value_ps : (j t s : ℚ) → 0ℚ <ℚ rate → j ≡ rate *ℚ (t -ℚ s) → s ≡ 0ℚ → t ≡ 1ℚ → 0ℚ <ℚ j
  value_ps j t s h e f g = linear_lt (j ∷ t ∷ s ∷ rate ∷ []) (eq e ∷ eq_times rate f ∷ eq_times rate g ∷ lt h ∷ []) (search reading_of) tt

  value_ng : (j t s : ℚ) → 0ℚ <ℚ rate → j ≡ rate *ℚ (t -ℚ s) → s ≡ 1ℚ → t ≡ 0ℚ → j <ℚ 0ℚ
  value_ng j t s h e f g = linear_lt (j ∷ t ∷ s ∷ rate ∷ []) (eq e ∷ eq_times rate f ∷ eq_times rate g ∷ lt h ∷ []) (search reading_of) tt

  -- ---- levels from 1 on
  module _ (high : 1ℚ ≤ℚ a) where
    source_low : d net.source ≡ 0ℚ
    source_low = low_side net.source good.source (subst (λ (z : ℚ). z ≤ℚ a) (sym borne.starts) high)

    carries_nn : 0ℚ ≤ℚ carries
    carries_nn = value_nn carries (d net.sink) (d net.source) (borne.carried d) source_low (is_bit net.sink good.sink)

    pub high_level : amounts ≤ℚ carries
    high_level = high_le a amounts carries high carries_nn low_factor

    -- It is less if a link leads up across the level, or if there is flow and the sink is above it.
    pub high_by_link : (e : ℕ) (link : Link) → IsLink net e link → Up n values a e link → amounts <ℚ carries
    high_by_link e link p up = high_lt a amounts carries high carries_nn (factor_lt a (≤ℚ_refl a) (≤ℚ_of_lt _ _ o) e link p
        (up_less (a *ℚ n e link) (x e) (d link.tail) (d link.head) (low_side link.tail (good.tails e link p) up.1.0)
        (high_side link.head (good.heads e link p) up.1.1)
        (up_by_more (n e link) (x e) (at link.tail) (at link.head) a b o up.1.0 (none link.head (good.heads e link p) up.1.1) up.0 (borne.bears e link p))))

    pub high_by_sink : 0ℚ <ℚ rate → a <ℚ at net.sink → amounts <ℚ carries
    high_by_sink more inside = high_lt_by_flow a b amounts carries high o
        (value_ps carries (d net.sink) (d net.source) more (borne.carried d) source_low (high_side net.sink good.sink inside)) high_factor

  -- ---- levels up to 1
  module _ (low : b ≤ℚ 1ℚ) where
    source_high : d net.source ≡ 1ℚ
    source_high = high_side net.source good.source (subst (λ (z : ℚ). a <ℚ z) (sym borne.starts) (above_then a b low o))
      where
        above_then : (a b : ℚ) → b ≤ℚ 1ℚ → a <ℚ b → a <ℚ 1ℚ
        above_then a b h k = linear_lt (a ∷ b ∷ []) (le h ∷ lt k ∷ []) (search reading_of) tt

    b_ps : 0ℚ <ℚ b
    b_ps = linear_lt (a ∷ b ∷ []) (le first ∷ lt o ∷ []) (search reading_of) tt

    carries_np : carries ≤ℚ 0ℚ
    carries_np = value_np carries (d net.sink) (d net.source) (borne.carried d) source_high (is_bit net.sink good.sink)

    pub low_level : amounts ≤ℚ carries
    low_level = low_le b amounts carries b_ps low carries_np high_factor

    -- It is less if a link leads down across the level, or if there is flow and the sink is not above it.
    pub low_by_link : (e : ℕ) (link : Link) → IsLink net e link → Down n values a e link → amounts <ℚ carries
    low_by_link e link p down = low_lt b amounts carries b_ps low carries_np (factor_lt b (≤ℚ_of_lt _ _ o) (≤ℚ_refl b) e link p
        (down_less (b *ℚ n e link) (x e) (d link.tail) (d link.head) (high_side link.tail (good.tails e link p) down.1.0)
        (low_side link.head (good.heads e link p) down.1.1)
        (down_by_more (n e link) (x e) (at link.tail) (at link.head) a b o (none link.tail (good.tails e link p) down.1.0) down.1.1 down.0
        (borne.bears e link p))))

    pub low_by_sink : 0ℚ <ℚ rate → at net.sink ≤ℚ a → amounts <ℚ carries
    low_by_sink more outside = low_lt_by_flow a b amounts carries first o low
        (value_ng carries (d net.sink) (d net.source) more (borne.carried d) source_high (low_side net.sink good.sink outside)) low_factor high_factor
