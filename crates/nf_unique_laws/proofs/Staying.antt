-- The thin flow of a phase stays a thin flow for the sets of the slacks at each time of the phase before its end. A nonzero slack keeps its
-- side. A link with slack 0 whose head's label falls behind carries nothing. One whose head's label gets ahead is filled.
use Rattle.std.proofs.Common.{◌≡◌, ◌≢◌, ℕ, ◌<◌, List, [], ◌∷◌, length, ◌⊎◌, inl, inr, ⊎_elim, Bool, true, false, sym, ap, subst, refl, ◌∙◌}
use Rattle.nf_unique_laws.proofs.Common.{slice_get_within, ℚ, 0ℚ, ◌+ℚ◌, ◌-ℚ◌, ◌*ℚ◌, ◌≤ℚ◌, ◌<ℚ◌, reading_of, ≤ℚ_of_lt, ≤ℚ_antisymm, lt_or_le_ℚ, not_both_ℚ, le}
use Rattle.nf_unique_laws.proofs.Common.{lt, eq, le_times, linear_le, linear_false, ≤ℚ_refl, lt_of_gap, below_between, above_between, number_at, Has, Link}
use Rattle.nf_unique_laws.proofs.Common.{Network, IsNetwork, IsLink, hops, hop_of, Sets, slack, slacks_of, sets_at, Enters, exit_slope, exit_slope_at}
use Rattle.nf_unique_laws.proofs.Common.{IsThinFlow, slack_at, slack_after-moved, active_of_slack, slack_of_active, resetting_of_slack, slack_of_resetting}
use Rattle.nf_unique_laws.proofs.Common.{link_within, AreSets-sets_at, HoldNoCycle-sets_at}
use Rattle.nf_model.specs.Phases.{Lasts, moved}
use Rattle.nf_phase_laws.proofs.Thin.{exit_slope-tail}
use Rattle.nf_thin_laws.proofs.Flags.{flag, flag-cases}
use Rattle.nf_thin_laws.proofs.Slopes.{NoneEntersSource-thin}
use Rattle.nf_unique_laws.proofs.Sides.{reset_least, reset_equal}

-- ---- a slack z, at first 0, that changes at c is w later
gets_above : (z c d w : ℚ) → w ≡ z +ℚ d *ℚ c → 0ℚ <ℚ w → z ≤ℚ 0ℚ → 0ℚ ≤ℚ d → 0ℚ <ℚ c
gets_above z c d w e h i j = ⊎_elim
    (λ (k : 0ℚ <ℚ c). k)
    (λ (k : c ≤ℚ 0ℚ). absurd (linear_false (z ∷ c ∷ d ∷ w ∷ []) (eq e ∷ lt h ∷ le i ∷ le_times j k ∷ []) (search reading_of) tt))
    (lt_or_le_ℚ 0ℚ c)

keeps_up : (z l m d w : ℚ) → w ≡ z +ℚ d *ℚ (m -ℚ l) → 0ℚ ≤ℚ z → 0ℚ ≤ℚ d → l ≤ℚ m → 0ℚ ≤ℚ w
keeps_up z l m d w e i j k = linear_le (z ∷ l ∷ m ∷ d ∷ w ∷ []) (eq e ∷ le i ∷ le_times j k ∷ []) (search reading_of) tt

module _ (net : Network) (good : IsNetwork net) (rate : ℚ) (labels flows slopes : List ℚ) (thin : IsThinFlow net (sets_at net labels) rate flows slopes)
    (count : length labels ≡ length slopes) (time whole done : ℚ) (lasts : Lasts net (slacks_of (hops net) labels) slopes time whole) (done_nn : 0ℚ ≤ℚ done) (short : done <ℚ whole) where
  abbrev later : List ℚ
  later = moved labels slopes done

  abbrev before : Sets
  before = sets_at net labels

  abbrev after : Sets
  after = sets_at net later

  abbrev l : Link → ℚ
  l link = number_at slopes link.tail

  abbrev m : Link → ℚ
  m link = number_at slopes link.head

  abbrev s : Link → ℚ
  s link = slack labels (hop_of link)

  abbrev s' : Link → ℚ
  s' link = slack later (hop_of link)

  module _ (e : ℕ) (link : Link) (p : IsLink net e link) where
    moves : s' link ≡ s link +ℚ done *ℚ (m link -ℚ l link)
    moves = sym (slack_after-moved net labels slopes e link done p count) ∙ ap (λ (z : ℚ). z +ℚ done *ℚ (m link -ℚ l link)) (slack_at net labels e link p)

    stays_below : s link <ℚ 0ℚ → s' link <ℚ 0ℚ
    stays_below h =
        let first : number_at (slacks_of (hops net) labels) e <ℚ 0ℚ = subst (λ (z : ℚ). z <ℚ 0ℚ) (sym (slack_at net labels e link p)) h in
        subst (λ (z : ℚ). z <ℚ 0ℚ) (slack_after-moved net labels slopes e link done p count)
        (below_between _ (m link -ℚ l link) done whole first done_nn short (lasts.inactive e link whole p first (lasts.not_negative, ≤ℚ_refl whole)))

    stays_above : 0ℚ <ℚ s link → 0ℚ <ℚ s' link
    stays_above h =
        let first : 0ℚ <ℚ number_at (slacks_of (hops net) labels) e = subst (λ (z : ℚ). 0ℚ <ℚ z) (sym (slack_at net labels e link p)) h in
        subst (λ (z : ℚ). 0ℚ <ℚ z) (slack_after-moved net labels slopes e link done p count)
        (above_between _ (m link -ℚ l link) done whole first done_nn short (lasts.resetting e link whole p first (lasts.not_negative, ≤ℚ_refl whole)))

    -- ---- an active link was active when the phase began
    was_active : Has after.active e → Has before.active e
    was_active a = active_of_slack net labels e link p (⊎_elim
        (λ (h : s link <ℚ 0ℚ). absurd (not_both_ℚ _ _ (stays_below h) (slack_of_active net later e link p a)))
        (λ (h : 0ℚ ≤ℚ s link). h)
        (lt_or_le_ℚ (s link) 0ℚ))

    -- It was resetting then, or its head's label has got ahead.
    abbrev Kept : Type 0
    Kept = (flag after.resetting e ≡ flag before.resetting e) ⊎ ((flag after.resetting e ≡ true) × (flag before.resetting e ≡ false) × (l link <ℚ m link))

    kept : Kept
    kept = ⊎_elim
        (λ (b : (flag before.resetting e ≡ true) × Has before.resetting e). ⊎_elim
        (λ (a : (flag after.resetting e ≡ true) × Has after.resetting e). inl (a.0 ∙ sym b.0))
        (λ (a : (flag after.resetting e ≡ false) × (Has after.resetting e → ⊥)). absurd
        (a.1 (resetting_of_slack net later e link p (stays_above (slack_of_resetting net labels e link p b.1)))))
        (flag-cases after.resetting e))
        (λ (b : (flag before.resetting e ≡ false) × (Has before.resetting e → ⊥)). ⊎_elim
        (λ (a : (flag after.resetting e ≡ true) × Has after.resetting e). inr (
          a.0,
          b.0,
          lt_of_gap (l link) (m link)
              (gets_above (s link) (m link -ℚ l link) done (s' link) moves (slack_of_resetting net later e link p a.1) (not_above b.1) done_nn),
        ))
        (λ (a : (flag after.resetting e ≡ false) × (Has after.resetting e → ⊥)). inl (a.0 ∙ sym b.0))
        (flag-cases after.resetting e))
        (flag-cases before.resetting e)
      where
        not_above : (Has before.resetting e → ⊥) → s link ≤ℚ 0ℚ
        not_above n = ⊎_elim
            (λ (h : 0ℚ <ℚ s link). absurd (n (resetting_of_slack net labels e link p h)))
            (λ (h : s link ≤ℚ 0ℚ). h)
            (lt_or_le_ℚ 0ℚ (s link))

    abbrev exit_by : Bool → ℚ
    exit_by b = exit_slope b link.capacity (number_at flows e) (l link)

    least_on : m link ≤ℚ exit_slope_at before flows slopes e link → m link ≤ℚ exit_slope_at after flows slopes e link
    least_on h = by kept
      where
        by : Kept → m link ≤ℚ exit_by (flag after.resetting e)
        by (inl k) = subst (λ (b : Bool). m link ≤ℚ exit_by b) (sym k) h
        by (inr k) = subst (λ (b : Bool). m link ≤ℚ exit_by b) (sym k.0)
            (reset_least link.capacity (number_at flows e) (l link) (m link) k.2 (subst (λ (b : Bool). m link ≤ℚ exit_by b) k.1 h))

    equal_on : exit_slope_at before flows slopes e link ≡ m link → exit_slope_at after flows slopes e link ≡ m link
    equal_on h = by kept
      where
        by : Kept → exit_by (flag after.resetting e) ≡ m link
        by (inl k) = ap exit_by k ∙ h
        by (inr k) = ap exit_by k.0 ∙ reset_equal link.capacity (number_at flows e) (l link) (m link) k.2 (ap exit_by (sym k.1) ∙ h)

    -- A link whose exit slope is that of its head stays active.
    stays_active : Has before.active e → exit_slope_at before flows slopes e link ≡ m link → Has after.active e
    stays_active a h = active_of_slack net later e link p (⊎_elim
        (λ (b : (flag before.resetting e ≡ true) × Has before.resetting e). ≤ℚ_of_lt _ _ (stays_above (slack_of_resetting net labels e link p b.1)))
        (λ (b : (flag before.resetting e ≡ false) × (Has before.resetting e → ⊥)).
        keeps_up (s link) (l link) (m link) done (s' link) moves (slack_of_active net labels e link p a) done_nn
        (subst (λ (z : ℚ). l link ≤ℚ z) (ap exit_by (sym b.0) ∙ h) (exit_slope-tail link.capacity (number_at flows e) (l link))))
        (flag-cases before.resetting e))

    -- A link that is not active carries nothing.
    carries_none : Has before.active e → (Has after.active e → ⊥) → number_at flows e ≡ 0ℚ
    carries_none a n = ⊎_elim
        (λ (some : 0ℚ <ℚ number_at flows e). absurd (n (stays_active a (thin.used link.head e link (good.heads e link p) elsewhere enters some))))
        (λ (none : number_at flows e ≤ℚ 0ℚ). ≤ℚ_antisymm _ _ none (thin.no_negative_flow e))
        (lt_or_le_ℚ 0ℚ (number_at flows e))
      where
        enters : Enters net before link.head e link
        enters = record { is_link = p; active = a; head = refl }

        elsewhere : link.head ≢ net.source
        elsewhere same = NoneEntersSource-thin net before rate good (HoldNoCycle-sets_at net labels good) flows slopes thin e link (record { is_link = p; active = a; head = same })

  link_of : (e : ℕ) → Has before.active e → (link : Link) × IsLink net e link
  link_of e a = link_within net e (subst (λ (n : ℕ). e < n) (AreSets-sets_at net labels).count (slice_get_within before.active e true a))

  head_is : (v e : ℕ) (link : Link) → link.head ≡ v → m link ≡ number_at slopes v
  head_is v e link h = ap (number_at slopes) h

  pub IsThinFlow-stays : IsThinFlow net (sets_at net (moved labels slopes done)) rate flows slopes
  IsThinFlow-stays = record {
    flow_count = thin.flow_count;
    slope_count = thin.slope_count;
    no_negative_flow = thin.no_negative_flow;
    no_negative_slope = thin.no_negative_slope;
    active_only = λ e n. ⊎_elim
        (λ (b : (flag before.active e ≡ true) × Has before.active e). let k : (link : Link) × IsLink net e link = link_of e b.1 in carries_none e k.0 k.1 b.1 n)
        (λ (b : (flag before.active e ≡ false) × (Has before.active e → ⊥)). thin.active_only e b.1)
        (flag-cases before.active e);
    source = thin.source;
    inner = thin.inner;
    starts = thin.starts;
    taken = λ v h other.
        let t : (e : ℕ) × (link : Link) × Enters net before v e link × (exit_slope_at before flows slopes e link ≡ number_at slopes v) = thin.taken v h other in
        let here : exit_slope_at before flows slopes t.0 t.1 ≡ m t.1 = t.3 ∙ sym (head_is v t.0 t.1 t.2.head) in (
          t.0,
          t.1,
          record { is_link = t.2.is_link; active = stays_active t.0 t.1 t.2.is_link t.2.active here; head = t.2.head },
          equal_on t.0 t.1 t.2.is_link here ∙ head_is v t.0 t.1 t.2.head,
        );
    least = λ v e link h other n. subst (λ (z : ℚ). z ≤ℚ exit_slope_at after flows slopes e link) (head_is v e link n.head)
        (least_on e link n.is_link (subst (λ (z : ℚ). z ≤ℚ exit_slope_at before flows slopes e link) (sym (head_is v e link n.head)) (thin.least v e link h other (entered v e link n))));
    used = λ v e link h other n some. equal_on e link n.is_link (thin.used v e link h other (entered v e link n) some ∙ sym (head_is v e link n.head)) ∙ head_is v e link n.head;
  }
    where
      entered : (v e : ℕ) (link : Link) → Enters net after v e link → Enters net before v e link
      entered v e link n = record { is_link = n.is_link; active = was_active e link n.is_link n.active; head = n.head }
