-- A run is mid-phase after a phase that ended before its extension length, and not after one that ended at it. The remainder of an
-- interrupted phase is as long as the phase minus its completed part.
use Rattle.std.proofs.Common.{◌≡◌, ◌≢◌, ℕ, ◌<◌, List, [], ◌∷◌, length, ⊎_elim, Option, Some, None, slice_get, sym, ap, subst, refl, ◌∙◌, arith}
use Rattle.nf_resume_laws.proofs.Common.{slice_get_within, length-map, ℚ, 0ℚ, ◌+ℚ◌, ◌-ℚ◌, ◌*ℚ◌, ◌≤ℚ◌, ◌<ℚ◌, reading_of, ≤ℚ_of_lt, ≤ℚ_of_same, ≤ℚ_antisymm}
use Rattle.nf_resume_laws.proofs.Common.{lt_or_le_ℚ, not_both_ℚ, le, lt, eq, le_times, linear_le, linear_lt, linear_eq, linear_false, number_at, Within}
use Rattle.nf_resume_laws.proofs.Common.{Link, Network, IsNetwork, IsLink, hops, hop_of, unbounded, slack, slacks_of, sets_at, Pattern, HasState}
use Rattle.nf_resume_laws.proofs.Common.{NeedsState, IsPattern, Lasts, IsExtension, moved, slack_after, Standing, entry, IsOpen, ≤ℚ_refl, ≤ℚ_trans}
use Rattle.nf_resume_laws.proofs.Common.{back_and_forth, below_between, above_between, State, slack_at, slack_after-moved, active_of_slack}
use Rattle.nf_resume_laws.proofs.Common.{slack_of_resetting, Lasts-some}

-- ---- over plain numbers: a slack s that changes at c, d and w lengths
on_line : (s c d w z : ℚ) → z ≡ s +ℚ d *ℚ c → s +ℚ (d +ℚ w) *ℚ c ≡ z +ℚ w *ℚ c
on_line s c d w z e = linear_eq (s ∷ c ∷ d ∷ w ∷ z ∷ []) (eq e ∷ []) (search reading_of) tt tt

falls_on : (s c d w z : ℚ) → z ≡ s +ℚ d *ℚ c → s ≡ 0ℚ → z <ℚ 0ℚ → 0ℚ ≤ℚ d → 0ℚ ≤ℚ w → z +ℚ w *ℚ c ≤ℚ 0ℚ
falls_on s c d w z e f h i j = ⊎_elim
    (λ (k : c <ℚ 0ℚ). linear_le (z ∷ w ∷ c ∷ []) (lt h ∷ le_times j (≤ℚ_of_lt _ _ k) ∷ []) (search reading_of) tt)
    (λ (k : 0ℚ ≤ℚ c). absurd (linear_false (s ∷ c ∷ d ∷ z ∷ []) (eq e ∷ eq f ∷ lt h ∷ le_times i k ∷ []) (search reading_of) tt))
    (lt_or_le_ℚ c 0ℚ)

rises_on : (s c d w z : ℚ) → z ≡ s +ℚ d *ℚ c → s ≡ 0ℚ → 0ℚ <ℚ z → 0ℚ ≤ℚ d → 0ℚ ≤ℚ w → 0ℚ ≤ℚ z +ℚ w *ℚ c
rises_on s c d w z e f h i j = ⊎_elim
    (λ (k : 0ℚ <ℚ c). linear_le (z ∷ w ∷ c ∷ []) (lt h ∷ le_times j (≤ℚ_of_lt _ _ k) ∷ []) (search reading_of) tt)
    (λ (k : c ≤ℚ 0ℚ). absurd (linear_false (s ∷ c ∷ d ∷ z ∷ []) (eq e ∷ eq f ∷ lt h ∷ le_times i k ∷ []) (search reading_of) tt))
    (lt_or_le_ℚ 0ℚ c)

-- ---- a link without a state has nonzero slack
module _ (net : Network) (labels : List ℚ) (pattern : Pattern) (is : IsPattern (sets_at net labels) (unbounded net) pattern) where
  stateless-apart : (e : ℕ) (link : Link) → IsLink net e link → slice_get pattern e ≡ Some None → slack labels (hop_of link) ≡ 0ℚ → ⊥
  stateless-apart e link p none zero_slack =
      let needs : NeedsState (sets_at net labels) e = (
        active_of_slack net labels e link p (≤ℚ_of_same _ _ (sym zero_slack)),
        λ r. not_both_ℚ _ _ (slack_of_resetting net labels e link p r) (≤ℚ_of_same _ _ zero_slack),
      ) in
      let has : (state : State) × HasState pattern e state = (is.states e).0 needs in
      no_state has.0 (sym none ∙ has.1)
    where
      no_state : (state : State) → ◌≡◌ {A = Option (Option State)} (Some None) (Some (Some state)) → ⊥
      no_state state e = cc

module _ (net : Network) (good : IsNetwork net) (labels slopes : List ℚ) (time done : ℚ) (pattern : Pattern) (is : IsPattern (sets_at net labels) (unbounded net) pattern)
    (count : length labels ≡ length slopes) (done_nn : 0ℚ ≤ℚ done) (s : Standing) (labels_are : s.labels ≡ moved labels slopes done)
    (time_is : s.time ≡ time +ℚ done) (last_is : s.last ≡ pattern) where
  abbrev slacks : List ℚ
  slacks = slacks_of (hops net) labels

  abbrev slacks' : List ℚ
  slacks' = slacks_of (hops net) s.labels

  abbrev change : Link → ℚ
  change link = number_at slopes link.head -ℚ number_at slopes link.tail

  -- The slack at the end of the completed part.
  slack-now : (e : ℕ) (link : Link) → IsLink net e link → number_at slacks' e ≡ number_at slacks e +ℚ done *ℚ change link
  slack-now e link p = slack_at net s.labels e link p ∙ ap (λ (l : List ℚ). slack l (hop_of link)) labels_are ∙ sym (slack_after-moved net labels slopes e link done p count)

  -- A nonzero slack stays on its side until the phase ends.
  pub stays-below : (whole : ℚ) → Lasts net slacks slopes time whole → done <ℚ whole → (e : ℕ) (link : Link) → IsLink net e link
      → slack labels (hop_of link) <ℚ 0ℚ → slack s.labels (hop_of link) <ℚ 0ℚ
  stays-below whole lasts short e link p h =
      let first : number_at slacks e <ℚ 0ℚ = subst (λ (x : ℚ). x <ℚ 0ℚ) (sym (slack_at net labels e link p)) h in
      subst (λ (x : ℚ). x <ℚ 0ℚ) (sym (slack-now e link p) ∙ slack_at net s.labels e link p)
      (below_between (number_at slacks e) (change link) done whole first done_nn short (lasts.inactive e link whole p first (lasts.not_negative, ≤ℚ_refl whole)))

  pub stays-above : (whole : ℚ) → Lasts net slacks slopes time whole → done <ℚ whole → (e : ℕ) (link : Link) → IsLink net e link
      → 0ℚ <ℚ slack labels (hop_of link) → 0ℚ <ℚ slack s.labels (hop_of link)
  stays-above whole lasts short e link p h =
      let first : 0ℚ <ℚ number_at slacks e = subst (λ (x : ℚ). 0ℚ <ℚ x) (sym (slack_at net labels e link p)) h in
      subst (λ (x : ℚ). 0ℚ <ℚ x) (sym (slack-now e link p) ∙ slack_at net s.labels e link p)
      (above_between (number_at slacks e) (change link) done whole first done_nn short (lasts.resetting e link whole p first (lasts.not_negative, ≤ℚ_refl whole)))

  pub slack-moves : (e : ℕ) (link : Link) → IsLink net e link → slack s.labels (hop_of link) ≡ slack labels (hop_of link) +ℚ done *ℚ
      (number_at slopes link.head -ℚ number_at slopes link.tail)
  slack-moves e link p = sym (slack_at net s.labels e link p) ∙ slack-now e link p ∙ ap (λ (x : ℚ). x +ℚ done *ℚ change link) (slack_at net labels e link p)

  -- A link with nonzero slack at first has no state.
  stateless : (e : ℕ) (link : Link) → IsLink net e link → (number_at slacks e ≡ 0ℚ → ⊥) → slice_get pattern e ≡ Some None
  stateless e link p apart = by (slice_get pattern e) refl
    where
      within : e < length pattern
      within = let c = is.count in let h = slice_get_within net.links e link p in
          let d = length-map (slacks_of (hops net) labels) (Rattle.nf_rational.specs.Order.le_ℚ 0ℚ) in
          let f = length-map (hops net) (slack labels) in let g = length-map net.links hop_of in omega arith

      has_none : (o : Option State) → slice_get pattern e ≡ Some o → slice_get pattern e ≡ Some None
      has_none None h = h
      has_none (Some state) h = absurd (apart (≤ℚ_antisymm _ _
          (subst (λ (x : ℚ). x ≤ℚ 0ℚ) (sym (slack_at net labels e link p)) (not_resets ((is.states e).1 (state, h))))
          (subst (λ (x : ℚ). 0ℚ ≤ℚ x) (sym (slack_at net labels e link p)) (Rattle.nf_model_laws.proofs.Slacks.slack_of_active net labels e link p ((is.states e).1 (state, h)).0))))
        where
          not_resets : NeedsState (sets_at net labels) e → slack labels (hop_of link) ≤ℚ 0ℚ
          not_resets n = ⊎_elim
              (λ (l : 0ℚ <ℚ slack labels (hop_of link)). absurd (n.1 (Rattle.nf_model_laws.proofs.Slacks.resetting_of_slack net labels e link p l)))
              (λ (l : slack labels (hop_of link) ≤ℚ 0ℚ). l)
              (lt_or_le_ℚ 0ℚ (slack labels (hop_of link)))

      by : (o : Option (Option State)) → slice_get pattern e ≡ o → slice_get pattern e ≡ Some None
      by None h = absurd (none_there (slice_get pattern e) h (entry pattern e within))
        where
          none_there : (o : Option (Option State)) → o ≡ None → (x : Option State) × (o ≡ Some x) → ⊥
          none_there o e w = cc
      by (Some o) h = has_none o h

  -- If the phase ended before its extension length, the run is mid-phase.
  pub IsOpen-cut : (whole : ℚ) → Lasts net slacks slopes time whole → 0ℚ <ℚ done → done <ℚ whole → IsOpen net s
  IsOpen-cut whole lasts some short = record {
    no_start = λ i piece p same.
        let start : piece.start ≡ time +ℚ done = same ∙ time_is in
        no_later piece.start time done whole start short (lasts.supply i piece p (linear_lt (piece.start ∷ time ∷ done ∷ []) (eq start ∷ lt some ∷ []) (search reading_of) tt));
    apart = λ e link p none same.
        let now : number_at slacks e +ℚ done *ℚ change link ≡ 0ℚ = sym (slack-now e link p) ∙ slack_at net s.labels e link p ∙ same in
        let first : number_at slacks e ≢ 0ℚ = λ z. stateless-apart net labels pattern is e link p (ap (λ (l : Pattern). slice_get l e) (sym last_is) ∙ none)
        (sym (slack_at net labels e link p) ∙ z) in
        ⊎_elim
        (λ (l : number_at slacks e <ℚ 0ℚ). not_both_ℚ _ _ (below_between (number_at slacks e) (change link) done whole l done_nn short
        (lasts.inactive e link whole p l (lasts.not_negative, ≤ℚ_refl whole))) (≤ℚ_of_same _ _ (sym now)))
        (λ (l : 0ℚ ≤ℚ number_at slacks e). ⊎_elim
        (λ (m : 0ℚ <ℚ number_at slacks e). not_both_ℚ _ _ (above_between (number_at slacks e) (change link) done whole m done_nn short
        (lasts.resetting e link whole p m (lasts.not_negative, ≤ℚ_refl whole))) (≤ℚ_of_same _ _ now))
        (λ (m : number_at slacks e ≤ℚ 0ℚ). first (≤ℚ_antisymm _ _ m l))
        (lt_or_le_ℚ 0ℚ (number_at slacks e)))
        (lt_or_le_ℚ (number_at slacks e) 0ℚ);
  }
    where
      no_later : (x t d w : ℚ) → x ≡ t +ℚ d → d <ℚ w → t +ℚ w ≤ℚ x → ⊥
      no_later x t d w e h k = linear_false (x ∷ t ∷ d ∷ w ∷ []) (eq e ∷ lt h ∷ le k ∷ []) (search reading_of) tt

  after_while : (e : ℕ) (link : Link) (while : ℚ) → IsLink net e link → slack_after slacks slopes e link (done +ℚ while) ≡ slack_after slacks' slopes e link while
  after_while e link while p = on_line (number_at slacks e) (change link) done while (number_at slacks' e) (slack-now e link p)

  -- ---- the remainder of a phase: first the completed part, then another
  pub Lasts-pasted : (more : ℚ) → IsOpen net s → Lasts net slacks slopes time done → Lasts net slacks' slopes s.time more → Lasts net slacks slopes time (done +ℚ more)
  Lasts-pasted more opened made lasts = record {
    not_negative = linear_le (done ∷ more ∷ []) (le done_nn ∷ le lasts.not_negative ∷ []) (search reading_of) tt;
    inactive = λ e link while p h w. ⊎_elim
        (λ (l : while <ℚ done). made.inactive e link while p h (w.0, ≤ℚ_of_lt _ _ l))
        (λ (l : done ≤ℚ while).
        let here : number_at slacks' e ≤ℚ 0ℚ = subst (λ (x : ℚ). x ≤ℚ 0ℚ) (sym (slack-now e link p)) (made.inactive e link done p h (done_nn, ≤ℚ_refl done)) in
        let low : number_at slacks' e <ℚ 0ℚ = ⊎_elim (λ (m : number_at slacks' e <ℚ 0ℚ). m)
        (λ (m : 0ℚ ≤ℚ number_at slacks' e). absurd (other e link p (λ z. not_both_ℚ _ _ h (≤ℚ_of_same _ _ (sym z))) (≤ℚ_antisymm _ _ here m)))
        (lt_or_le_ℚ (number_at slacks' e) 0ℚ) in
        subst (λ (x : ℚ). x ≤ℚ 0ℚ) (sym (later e link while p)) (lasts.inactive e link (while -ℚ done) p low (rest while l w.1)))
        (lt_or_le_ℚ while done);
    resetting = λ e link while p h w. ⊎_elim
        (λ (l : while <ℚ done). made.resetting e link while p h (w.0, ≤ℚ_of_lt _ _ l))
        (λ (l : done ≤ℚ while).
        let here : 0ℚ ≤ℚ number_at slacks' e = subst (λ (x : ℚ). 0ℚ ≤ℚ x) (sym (slack-now e link p)) (made.resetting e link done p h (done_nn, ≤ℚ_refl done)) in
        let high : 0ℚ <ℚ number_at slacks' e = ⊎_elim (λ (m : 0ℚ <ℚ number_at slacks' e). m)
        (λ (m : number_at slacks' e ≤ℚ 0ℚ). absurd (other e link p (λ z. not_both_ℚ _ _ h (≤ℚ_of_same _ _ z)) (≤ℚ_antisymm _ _ m here)))
        (lt_or_le_ℚ 0ℚ (number_at slacks' e)) in
        subst (λ (x : ℚ). 0ℚ ≤ℚ x) (sym (later e link while p)) (lasts.resetting e link (while -ℚ done) p high (rest while l w.1)))
        (lt_or_le_ℚ while done);
    supply = λ i piece p h.
        let at_least : time +ℚ done ≤ℚ piece.start = made.supply i piece p h in
        let after : s.time <ℚ piece.start = ⊎_elim (λ (m : s.time <ℚ piece.start). m)
        (λ (m : piece.start ≤ℚ s.time). absurd (opened.no_start i piece p (≤ℚ_antisymm _ _ m (subst (λ (t : ℚ). t ≤ℚ piece.start) (sym time_is) at_least))))
        (lt_or_le_ℚ s.time piece.start) in
        pasted time done more s.time piece.start time_is (lasts.supply i piece p after);
  }
    where
      other : (e : ℕ) (link : Link) → IsLink net e link → (number_at slacks e ≡ 0ℚ → ⊥) → number_at slacks' e ≡ 0ℚ → ⊥
      other e link p apart same = opened.apart e link p (ap (λ (l : Pattern). slice_get l e) last_is ∙ stateless e link p apart) (sym (slack_at net s.labels e link p) ∙ same)

      later : (e : ℕ) (link : Link) (while : ℚ) → IsLink net e link → slack_after slacks slopes e link while ≡ slack_after slacks' slopes e link (while -ℚ done)
      later e link while p = ap (λ (w : ℚ). slack_after slacks slopes e link w) (sym (back_and_forth done while)) ∙ after_while e link (while -ℚ done) p

      rest : (while : ℚ) → done ≤ℚ while → while ≤ℚ done +ℚ more → Within 0ℚ more (while -ℚ done)
      rest while h k = (linear_le (done ∷ while ∷ []) (le h ∷ []) (search reading_of) tt, linear_le (done ∷ while ∷ more ∷ []) (le k ∷ []) (search reading_of) tt)

      pasted : (t d m n x : ℚ) → n ≡ t +ℚ d → n +ℚ m ≤ℚ x → t +ℚ (d +ℚ m) ≤ℚ x
      pasted t d m n x e h = linear_le (t ∷ d ∷ m ∷ n ∷ x ∷ []) (eq e ∷ le h ∷ []) (search reading_of) tt

  -- A part of the remainder.
  pub Lasts-left : (more : ℚ) → 0ℚ ≤ℚ more → Lasts net slacks slopes time (done +ℚ more) → Lasts net slacks' slopes s.time more
  Lasts-left more nn lasts = record {
    not_negative = nn;
    inactive = λ e link while p h w. subst (λ (x : ℚ). x ≤ℚ 0ℚ) (after_while e link while p) (by_side_below e link while p h w);
    resetting = λ e link while p h w. subst (λ (x : ℚ). 0ℚ ≤ℚ x) (after_while e link while p) (by_side_above e link while p h w);
    supply = λ i piece p h. left time done more s.time piece.start time_is (lasts.supply i piece p (sooner time done s.time piece.start time_is done_nn h));
  }
    where
      left : (t d m n x : ℚ) → n ≡ t +ℚ d → t +ℚ (d +ℚ m) ≤ℚ x → n +ℚ m ≤ℚ x
      left t d m n x e h = linear_le (t ∷ d ∷ m ∷ n ∷ x ∷ []) (eq e ∷ le h ∷ []) (search reading_of) tt

      sooner : (t d n x : ℚ) → n ≡ t +ℚ d → 0ℚ ≤ℚ d → n <ℚ x → t <ℚ x
      sooner t d n x e h k = linear_lt (t ∷ d ∷ n ∷ x ∷ []) (eq e ∷ le h ∷ lt k ∷ []) (search reading_of) tt

      along : (while : ℚ) → Within 0ℚ more while → Within 0ℚ (done +ℚ more) (done +ℚ while)
      along while w = (linear_le (done ∷ while ∷ []) (le done_nn ∷ le w.0 ∷ []) (search reading_of) tt, linear_le (done ∷ while ∷ more ∷ []) (le w.1 ∷ []) (search reading_of) tt)

      made : Within 0ℚ (done +ℚ more) done
      made = (done_nn, linear_le (done ∷ more ∷ []) (le nn ∷ []) (search reading_of) tt)

      by_side_below : (e : ℕ) (link : Link) (while : ℚ) → IsLink net e link → number_at slacks' e <ℚ 0ℚ → Within 0ℚ more while → slack_after slacks slopes e link (done +ℚ while) ≤ℚ 0ℚ
      by_side_below e link while p h w = ⊎_elim
          (λ (l : number_at slacks e <ℚ 0ℚ). lasts.inactive e link (done +ℚ while) p l (along while w))
          (λ (l : 0ℚ ≤ℚ number_at slacks e). ⊎_elim
          (λ (m : 0ℚ <ℚ number_at slacks e). absurd (not_both_ℚ _ _ h (subst (λ (x : ℚ). 0ℚ ≤ℚ x) (sym (slack-now e link p)) (lasts.resetting e link done p m made))))
          (λ (m : number_at slacks e ≤ℚ 0ℚ). subst (λ (x : ℚ). x ≤ℚ 0ℚ) (sym (after_while e link while p))
          (falls_on (number_at slacks e) (change link) done while (number_at slacks' e) (slack-now e link p) (≤ℚ_antisymm _ _ m l) h done_nn w.0))
          (lt_or_le_ℚ 0ℚ (number_at slacks e)))
          (lt_or_le_ℚ (number_at slacks e) 0ℚ)

      by_side_above : (e : ℕ) (link : Link) (while : ℚ) → IsLink net e link → 0ℚ <ℚ number_at slacks' e → Within 0ℚ more while → 0ℚ ≤ℚ slack_after slacks slopes e link (done +ℚ while)
      by_side_above e link while p h w = ⊎_elim
          (λ (l : 0ℚ <ℚ number_at slacks e). lasts.resetting e link (done +ℚ while) p l (along while w))
          (λ (l : number_at slacks e ≤ℚ 0ℚ). ⊎_elim
          (λ (m : number_at slacks e <ℚ 0ℚ). absurd (not_both_ℚ _ _ h (subst (λ (x : ℚ). x ≤ℚ 0ℚ) (sym (slack-now e link p)) (lasts.inactive e link done p m made))))
          (λ (m : 0ℚ ≤ℚ number_at slacks e). subst (λ (x : ℚ). 0ℚ ≤ℚ x) (sym (after_while e link while p))
          (rises_on (number_at slacks e) (change link) done while (number_at slacks' e) (slack-now e link p) (≤ℚ_antisymm _ _ l m) h done_nn w.0))
          (lt_or_le_ℚ (number_at slacks e) 0ℚ))
          (lt_or_le_ℚ 0ℚ (number_at slacks e))

  -- At the extension length the run is not mid-phase.
  pub closed-at_extension : IsExtension net slacks slopes time done → IsOpen net s → ⊥
  closed-at_extension extension opened =
      let more : (more : ℚ) × (0ℚ <ℚ more) × Lasts net slacks' slopes s.time more = Lasts-some net slacks' slopes s.time in
      too_long done more.0 more.1 (extension.greatest (done +ℚ more.0) (Lasts-pasted more.0 opened extension.lasts more.2))
    where
      too_long : (d m : ℚ) → 0ℚ <ℚ m → d +ℚ m ≤ℚ d → ⊥
      too_long d m h k = linear_false (d ∷ m ∷ []) (lt h ∷ le k ∷ []) (search reading_of) tt

  -- The remainder of the extension length.
  pub IsExtension-left : (whole : ℚ) → IsOpen net s → done ≤ℚ whole → IsExtension net slacks slopes time whole → IsExtension net slacks' slopes s.time (whole -ℚ done)
  IsExtension-left whole opened short extension = record {
    lasts = Lasts-left (whole -ℚ done) (linear_le (done ∷ whole ∷ []) (le short ∷ []) (search reading_of) tt)
        (subst (λ (w : ℚ). Lasts net slacks slopes time w) (sym (back_and_forth done whole)) extension.lasts);
    greatest = λ other lasts. most done other whole (extension.greatest (done +ℚ other) (Lasts-pasted other opened made lasts));
  }
    where
      made : Lasts net slacks slopes time done
      made = record {
        not_negative = done_nn;
        inactive = λ e link while p h w. extension.lasts.inactive e link while p h (w.0, ≤ℚ_trans _ _ _ w.1 short);
        resetting = λ e link while p h w. extension.lasts.resetting e link while p h (w.0, ≤ℚ_trans _ _ _ w.1 short);
        supply = λ i piece p h. sooner time done whole piece.start short (extension.lasts.supply i piece p h);
      }
        where
          sooner : (t d w x : ℚ) → d ≤ℚ w → t +ℚ w ≤ℚ x → t +ℚ d ≤ℚ x
          sooner t d w x h k = linear_le (t ∷ d ∷ w ∷ x ∷ []) (le h ∷ le k ∷ []) (search reading_of) tt

      most : (d o w : ℚ) → d +ℚ o ≤ℚ w → o ≤ℚ w -ℚ d
      most d o w h = linear_le (d ∷ o ∷ w ∷ []) (le h ∷ []) (search reading_of) tt
