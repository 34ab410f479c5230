-- An equilibrium, link by link: at each departure the amount sent into a link by then has left by the label of its head. So nothing had
-- entered before the first departure.
use Rattle.std.proofs.Common.{◌≡◌, ◌≢◌, ℕ, ◌<◌, List, [], ◌∷◌, ◌⊎◌, inl, inr, ⊎_elim, true, false, eqb, Bool, Option, Some, None, slice_get, sym, ap, subst, refl, ◌∙◌}
use Rattle.std.specs.Prelude.{if◌then◌else◌}
use Rattle.std.proofs.lemmas.Bool.Decides.{eqb_tells}
use Rattle.nf_phase_equilibrium_laws.proofs.Common.{slice_get_within, ℚ, 0ℚ, ◌+ℚ◌, ◌-ℚ◌, ◌≤ℚ◌, ◌<ℚ◌, min_ℚ, reading_of, ≤ℚ_of_same, ≤ℚ_antisymm, lt_or_le_ℚ}
use Rattle.nf_phase_equilibrium_laws.proofs.Common.{not_both_ℚ, min_ℚ_cases, le, lt, eq, linear_le, linear_lt, Within, NeverFalls, Link, Network, IsNetwork}
use Rattle.nf_phase_equilibrium_laws.proofs.Common.{IsLink, hops, sum_in, supply, IsExit, IsOutflow, Flow, label, inflow, outflow, Balances, Equilibrium}
use Rattle.nf_phase_equilibrium_laws.proofs.Common.{IsExit-after, IsPositive-link, AreLabels-report, IsEarliest-forward, only_at, only_at-here, only_at-else}
use Rattle.nf_phase_equilibrium_laws.proofs.Common.{sum_out-each, sum_out-same, sum_in-some, ≤ℚ_refl, ≤ℚ_trans, first_of_sum}
use Rattle.nf_model.specs.Walk.{IsWalk, transit_sum}
use Rattle.nf_model_laws.specs.EarliestLaws.{AreLabels}
use Rattle.nf_model_laws.proofs.Exists.{HasExit-curve}
use Rattle.nf_model_laws.proofs.Networks.{IsWalk-link, transit_of-is}
use Rattle.nf_model_laws.proofs.Supply.{supplied-begins}
use Rattle.nf_model_laws.proofs.Ways.{way_back}
use Rattle.nf_check_laws.proofs.Rising.{label-rises}
use Rattle.nf_phase_equilibrium_laws.proofs.Served.{amount-nn, outflow-entered}
use Rattle.nf_phase_equilibrium_laws.proofs.Sent.{BalancedAt, into, into-is, out-balances, out-is_into, comes_out}
use Rattle.nf_phase_equilibrium_laws.proofs.Repeating.{Repeats, none_by_repeating}
use Rattle.nf_rational_laws.proofs.Extremes.{min_left, min_right, min_is_left, min_keeps}

-- The head of a link.
abbrev pub head_or : Option Link → ℕ
head_or None = 0
head_or (Some link) = link.head

only_at-none : (v k : ℕ) → only_at v 0ℚ k ≡ 0ℚ
only_at-none v k = by (eqb v k)
  where
    by : (b : Bool) → (if b then 0ℚ else 0ℚ) ≡ 0ℚ
    by true = refl
    by false = refl

module _ (net : Network) (flow : Flow) (good : IsNetwork net) (is : Equilibrium net flow) where
  abbrev F : ℕ → ℚ → ℚ
  F = inflow flow

  abbrev l : ℕ → ℚ → ℚ
  l = label flow

  pub rises-link : (e : ℕ) (link : Link) → IsLink net e link → NeverFalls (F e)
  rises-link e link p = is.nash.rises e (slice_get_within net.links e link p)

  pub starts-link : (e : ℕ) (link : Link) → IsLink net e link → F e 0ℚ ≡ 0ℚ
  starts-link e link p = is.nash.starts e (slice_get_within net.links e link p)

  pub first : Within 0ℚ flow.reached 0ℚ
  first = (≤ℚ_refl 0ℚ, is.reached)

  -- ---- labels
  pub labels-at : (departure : ℚ) → Within 0ℚ flow.reached departure → AreLabels net F departure (λ v. l v departure)
  labels-at departure w = AreLabels-report net flow departure good is.shape is.nash.rises w.0 (λ v h. is.nash.labels v departure h w)

  pub source-at : (departure : ℚ) → Within 0ℚ flow.reached departure → l net.source departure ≡ departure
  source-at departure w = (labels-at departure w).source

  pub label-forward : (v : ℕ) (departure : ℚ) → v < net.nodes → Within 0ℚ flow.reached departure → departure ≤ℚ l v departure
  label-forward v departure h w = IsEarliest-forward net F v departure (l v departure) good is.nash.rises (is.nash.labels v departure h w)

  pub label-nn : (v : ℕ) (departure : ℚ) → v < net.nodes → Within 0ℚ flow.reached departure → 0ℚ ≤ℚ l v departure
  label-nn v departure h w = ≤ℚ_trans _ _ _ w.0 (label-forward v departure h w)

  pub label-order : (v : ℕ) (earlier later : ℚ) → v < net.nodes → 0ℚ ≤ℚ earlier → earlier ≤ℚ later → later ≤ℚ flow.reached → l v earlier ≤ℚ l v later
  label-order v earlier later h i j k = label-rises net flow good is.shape is.nash.rises flow.reached v earlier later (λ departure w. is.nash.labels v departure h w) i j k

  -- each link has an exit at each time
  pub exit-at : (e : ℕ) (link : Link) (time : ℚ) → IsLink net e link → 0ℚ ≤ℚ time → (exit : ℚ) × IsExit link.transit link.capacity (F e) time exit
  exit-at e link time p h = HasExit-curve link.transit link.capacity _ time (is.shape.inflows.each e (slice_get_within net.links e link p)) h

  exit-forward : (e : ℕ) (link : Link) (time exit : ℚ) → IsLink net e link → IsExit link.transit link.capacity (F e) time exit → time ≤ℚ exit
  exit-forward e link time exit p x =
      first_of_sum time link.transit exit (good.transits e link p) (IsExit-after link.transit link.capacity (F e) time exit
      (IsPositive-link net e link good p) x)

  -- No label is later than the exit of the inflow at the tail's label; this includes the source's label.
  pub not_undercut : (e : ℕ) (link : Link) (departure : ℚ) → IsLink net e link → Within 0ℚ flow.reached departure
      → (exit : ℚ) × IsExit link.transit link.capacity (F e) (l link.tail departure) exit × (l link.head departure ≤ℚ exit)
  not_undercut e link departure p w = ⊎_elim
      (λ (s : (eqb link.head net.source ≡ true) × (link.head ≡ net.source)).
      let x : (exit : ℚ) × IsExit link.transit link.capacity (F e) (l link.tail departure) exit =
      exit-at e link (l link.tail departure) p (label-nn link.tail departure (good.tails e link p) w) in (
        x.0,
        x.1,
        subst (λ (k : ℕ). l k departure ≤ℚ x.0) (sym s.1) (subst (λ (z : ℚ). z ≤ℚ x.0) (sym (source-at departure w))
            (≤ℚ_trans _ _ _ (label-forward link.tail departure (good.tails e link p) w) (exit-forward e link (l link.tail departure) x.0 p x.1))),
      ))
      (λ (s : (eqb link.head net.source ≡ false) × (link.head ≢ net.source)). (labels-at departure w).not_before e link p s.1)
      (eqb_tells link.head net.source)

  -- ---- at the time of a departure
  -- The three kinds of nodes, each with its supply.
  by_node : (P : ℕ → ℚ → ℚ → Type 0) (u : ℚ) → P net.source u 0ℚ → P net.sink 0ℚ u → ((v : ℕ) → v < net.nodes → v ≢ net.source → v ≢ net.sink → P v 0ℚ 0ℚ)
      → (v : ℕ) → v < net.nodes → P v (only_at net.source u v) (only_at net.sink u v)
  by_node P u at_source at_sink inner v h = ⊎_elim
      (λ (s : (eqb v net.source ≡ true) × (v ≡ net.source)). subst (λ (k : ℕ). P k (only_at net.source u k) (only_at net.sink u k)) (sym s.1)
      (subst (λ (a : ℚ). P net.source a (only_at net.sink u net.source)) (sym (only_at-here net.source u))
      (subst (λ (b : ℚ). P net.source u b) (sym (only_at-else net.sink u net.source (λ e. good.apart (sym e)))) at_source)))
      (λ (s : (eqb v net.source ≡ false) × (v ≢ net.source)). ⊎_elim
      (λ (t : (eqb v net.sink ≡ true) × (v ≡ net.sink)). subst (λ (k : ℕ). P k (only_at net.source u k) (only_at net.sink u k)) (sym t.1)
      (subst (λ (b : ℚ). P net.sink (only_at net.source u net.sink) b) (sym (only_at-here net.sink u))
      (subst (λ (a : ℚ). P net.sink a u) (sym (only_at-else net.source u net.sink good.apart)) at_sink)))
      (λ (t : (eqb v net.sink ≡ false) × (v ≢ net.sink)).
      subst (λ (a : ℚ). P v a (only_at net.sink u v)) (sym (only_at-else net.source u v (λ e. s.1 (sym e))))
      (subst (λ (b : ℚ). P v 0ℚ b) (sym (only_at-else net.sink u v (λ e. t.1 (sym e)))) (inner v h s.1 t.1)))
      (eqb_tells v net.sink))
      (eqb_tells v net.source)

  -- The printed outflow of each link, by these times of the heads.
  abbrev out_by : (ℕ → ℚ) → ℕ → ℚ
  out_by at e = outflow flow e (at (head_or (slice_get net.links e)))

  out_by-is : (at : ℕ → ℚ) (e : ℕ) (link : Link) → IsLink net e link → out_by at e ≡ outflow flow e (at link.head)
  out_by-is at e link p = ap (λ (o : Option Link). outflow flow e (at (head_or o))) p

  printed-out : (at : ℕ → ℚ) (e : ℕ) (link : Link) → IsLink net e link → Within 0ℚ (l link.head flow.reached) (at link.head)
      → IsOutflow link.transit link.capacity (F e) (at link.head) (out_by at e)
  printed-out at e link p w = subst (λ (y : ℚ). IsOutflow link.transit link.capacity (F e) (at link.head) y) (sym (out_by-is at e link p)) (is.outflows e link (at link.head) p w)

  pub up_to_now : (v : ℕ) (departure : ℚ) → v < net.nodes → Within 0ℚ flow.reached departure → Within 0ℚ (l v flow.reached) (l v departure)
  up_to_now v departure h w = (label-nn v departure h w, label-order v departure flow.reached h w.0 w.1 (≤ℚ_refl flow.reached))

  balanced : (departure : ℚ) → Within 0ℚ flow.reached departure → BalancedAt net F (λ v. l v departure) (out_by (λ v. l v departure)) (supply net departure)
  balanced departure w = record {
    rises = is.nash.rises;
    starts = starts-link;
    not_negative = λ v h. label-nn v departure h w;
    out_is = λ e link p. printed-out (λ v. l v departure) e link p (up_to_now link.head departure (good.heads e link p) w);
    not_before = λ e link p. not_undercut e link departure p w;
    balances = by_node (λ v a b. Balances net F v (l v departure) a b) (supply net departure)
        (subst (λ (z : ℚ). Balances net F net.source z (supply net departure) 0ℚ) (sym (source-at departure w)) (is.nash.conserves.source departure w))
        (is.nash.conserves.sink departure w)
        (λ v h a b. is.nash.conserves.inner v (l v departure) h a b (up_to_now v departure h w));
  }

  -- The amount sent into a link by a departure has left by the label of its head.
  pub comes_out-at : (e : ℕ) (link : Link) (departure : ℚ) → IsLink net e link → Within 0ℚ flow.reached departure
      → IsOutflow link.transit link.capacity (F e) (l link.head departure) (F e (l link.tail departure))
  comes_out-at e link departure p w = comes_out net F (λ v. l v departure) (out_by (λ v. l v departure)) (supply net departure) good (balanced departure w) e link p

  -- ---- before the first arrivals: up to a time, at most the label of departure 0
  abbrev soon : ℚ → ℕ → ℚ
  soon time v = min_ℚ time (l v 0ℚ)

  first-nn : (v : ℕ) → v < net.nodes → 0ℚ ≤ℚ l v 0ℚ
  first-nn v h = label-nn v 0ℚ h first

  module _ (time : ℚ) (from_0 : 0ℚ ≤ℚ time) where
    soon-nn : (v : ℕ) → v < net.nodes → 0ℚ ≤ℚ soon time v
    soon-nn v h = min_keeps (λ (z : ℚ). 0ℚ ≤ℚ z) time (l v 0ℚ) from_0 (first-nn v h)

    soon-in : (v : ℕ) → v < net.nodes → Within 0ℚ (l v flow.reached) (soon time v)
    soon-in v h = (soon-nn v h, ≤ℚ_trans _ _ _ (min_right time (l v 0ℚ)) (label-order v 0ℚ flow.reached h (≤ℚ_refl 0ℚ) is.reached (≤ℚ_refl flow.reached)))

    source-soon : soon time net.source ≡ 0ℚ
    source-soon = ≤ℚ_antisymm _ _ (subst (λ (z : ℚ). soon time net.source ≤ℚ z) (source-at 0ℚ first) (min_right time (l net.source 0ℚ))) (soon-nn net.source good.source)

    not_before-soon : (e : ℕ) (link : Link) → IsLink net e link → (exit : ℚ) × IsExit link.transit link.capacity (F e) (soon time link.tail) exit × (soon time link.head ≤ℚ exit)
    not_before-soon e link p = ⊎_elim
        (λ (w : (min_ℚ time (l link.tail 0ℚ) ≡ time) × (time ≤ℚ l link.tail 0ℚ)).
        let x : (exit : ℚ) × IsExit link.transit link.capacity (F e) time exit = exit-at e link time p from_0 in
        subst (λ (t : ℚ). (exit : ℚ) × IsExit link.transit link.capacity (F e) t exit × (soon time link.head ≤ℚ exit)) (sym w.0)
        (x.0, x.1, ≤ℚ_trans _ _ _ (min_left time (l link.head 0ℚ)) (exit-forward e link time x.0 p x.1)))
        (λ (w : (min_ℚ time (l link.tail 0ℚ) ≡ l link.tail 0ℚ) × (l link.tail 0ℚ <ℚ time)).
        let x : (exit : ℚ) × IsExit link.transit link.capacity (F e) (l link.tail 0ℚ) exit × (l link.head 0ℚ ≤ℚ exit) = not_undercut e link 0ℚ p first in
        subst (λ (t : ℚ). (exit : ℚ) × IsExit link.transit link.capacity (F e) t exit × (soon time link.head ≤ℚ exit)) (sym w.0)
        (x.0, x.1, ≤ℚ_trans _ _ _ (min_right time (l link.head 0ℚ)) x.2))
        (min_ℚ_cases time (l link.tail 0ℚ))

    none_supplied : supply net 0ℚ ≡ 0ℚ
    none_supplied = supplied-begins net.pieces good.pieces

    balanced-soon : BalancedAt net F (soon time) (out_by (soon time)) 0ℚ
    balanced-soon = record {
      rises = is.nash.rises;
      starts = starts-link;
      not_negative = soon-nn;
      out_is = λ e link p. printed-out (soon time) e link p (soon-in link.head (good.heads e link p));
      not_before = not_before-soon;
      balances = by_node (λ v a b. Balances net F v (soon time v) a b) 0ℚ
          (subst (λ (z : ℚ). Balances net F net.source z 0ℚ 0ℚ) (sym source-soon)
          (subst (λ (u : ℚ). Balances net F net.source 0ℚ u 0ℚ) none_supplied (is.nash.conserves.source 0ℚ first)))
          (is.nash.conserves.sink_early (soon time net.sink) (soon-nn net.sink good.sink, min_right time (l net.sink 0ℚ)))
          (λ v h a b. is.nash.conserves.inner v (soon time v) h a b (soon-in v h));
    }

    pub comes_out-soon : (e : ℕ) (link : Link) → IsLink net e link → IsOutflow link.transit link.capacity (F e) (soon time link.head) (F e (soon time link.tail))
    comes_out-soon e link p = comes_out net F (soon time) (out_by (soon time)) 0ℚ good balanced-soon e link p

  -- ---- on a link with a transit time
  repeats : (e : ℕ) (link : Link) → IsLink net e link → Repeats (F e) link.transit (l link.tail 0ℚ)
  repeats e link p time w =
      let out : IsOutflow link.transit link.capacity (F e) (soon time link.head) (F e time) =
      subst (λ (z : ℚ). IsOutflow link.transit link.capacity (F e) (soon time link.head) (F e z)) (min_is_left time (l link.tail 0ℚ) w.1) (comes_out-soon time w.0 e link p) in
      ⊎_elim
      (λ (k : soon time link.head <ℚ link.transit). inl (out.early k))
      (λ (k : link.transit ≤ℚ soon time link.head). inr (
        ≤ℚ_trans _ _ _ k (min_left time (l link.head 0ℚ)),
        ≤ℚ_trans _ _ _ (outflow-entered link.transit link.capacity (F e) (IsPositive-link net e link good p) (rises-link e link p) (starts-link e link p)
            (soon time link.head) (F e time) k out)
            (rises-link e link p (soon time link.head -ℚ link.transit) (time -ℚ link.transit) (linear_le (soon time link.head ∷ link.transit ∷ []) (le k ∷ []) (search reading_of) tt)
            (linear_le (soon time link.head ∷ time ∷ link.transit ∷ []) (le (min_left time (l link.head 0ℚ)) ∷ []) (search reading_of) tt)),
      ))
      (lt_or_le_ℚ (soon time link.head) link.transit)

  none-slow : (e : ℕ) (link : Link) (time : ℚ) → IsLink net e link → 0ℚ <ℚ link.transit → Within 0ℚ (l link.tail 0ℚ) time → F e time ≡ 0ℚ
  none-slow e link time p some w = none_by_repeating _ link.transit (l link.tail 0ℚ) (is.shape.inflows.each e (slice_get_within net.links e link p)) some
      (rises-link e link p) (starts-link e link p) (repeats e link p) time w.0 w.1

  -- ---- on links without transit time: back along such links, which close no cycle
  module _ (time : ℚ) (from_0 : 0ℚ ≤ℚ time) where
    -- The amount that has entered a link by the time of its tail.
    abbrev x_of : Option Link → ℕ → ℚ
    x_of None e = 0ℚ
    x_of (Some link) e = F e (soon time link.tail)

    abbrev x : ℕ → ℚ
    x e = x_of (slice_get net.links e) e

    x-is : (e : ℕ) (link : Link) → IsLink net e link → x e ≡ F e (soon time link.tail)
    x-is e link p = ap (λ (o : Option Link). x_of o e) p

    x-nn : (e : ℕ) → 0ℚ ≤ℚ x e
    x-nn e = by (slice_get net.links e) refl
      where
        by : (o : Option Link) → slice_get net.links e ≡ o → 0ℚ ≤ℚ x_of o e
        by None p = ≤ℚ_refl 0ℚ
        by (Some link) p = amount-nn link.transit link.capacity (F e) (IsPositive-link net e link good p) (rises-link e link p) (starts-link e link p)
            (soon time link.tail) (soon-nn time from_0 link.tail (good.tails e link p))

    abbrev Sends : ℕ → Type 0
    Sends v = (e : ℕ) × (link : Link) × IsLink net e link × (link.tail ≡ v) × (0ℚ <ℚ F e (soon time link.tail))

    abbrev Way : ℕ → ℕ → Type 0
    Way u v = (walk : List ℕ) × IsWalk (hops net) walk u v × (transit_sum (hops net) walk ≤ℚ 0ℚ)

    -- A link with inflow has no transit time.
    prompt : (e : ℕ) (link : Link) → IsLink net e link → 0ℚ <ℚ F e (soon time link.tail) → link.transit ≤ℚ 0ℚ
    prompt e link p some = ⊎_elim
        (λ (k : 0ℚ <ℚ link.transit). absurd (not_both_ℚ _ _ some (≤ℚ_of_same _ _
        (none-slow e link (soon time link.tail) p k (soon-nn time from_0 link.tail (good.tails e link p), min_right time (l link.tail 0ℚ))))))
        (λ (k : link.transit ≤ℚ 0ℚ). k)
        (lt_or_le_ℚ 0ℚ link.transit)

    further : (q r s : ℚ) → q ≡ r → r ≤ℚ 0ℚ → s ≤ℚ 0ℚ → q +ℚ s ≤ℚ 0ℚ
    further q r s e h k = linear_le (q ∷ r ∷ s ∷ []) (eq e ∷ le h ∷ le k ∷ []) (search reading_of) tt

    abbrev Back : ℕ → Type 0
    Back v = ⊥ ⊎ ((u : ℕ) × (u < net.nodes) × Sends u × ((w : ℕ) → Way v w → Way u w) × (Way v u → ⊥))

    back_by : (v e : ℕ) (link : Link) → IsLink net e link → link.head ≡ v → 0ℚ <ℚ F e (soon time link.tail) → Back v
    back_by v e link p at some = inr (
      link.tail,
      good.tails e link p,
      (e, link, p, refl, some),
      (λ w way. (
        e ∷ way.0,
        IsWalk-link net e way.0 w link p (subst (λ (k : ℕ). IsWalk (hops net) way.0 k w) (sym at) way.1),
        further _ link.transit _ (transit_of-is net e link p) (prompt e link p some) way.2,
      )),
      (λ way. not_both_ℚ _ _ (good.cycles e way.0 link.tail (IsWalk-link net e way.0 link.tail link p (subst (λ (k : ℕ). IsWalk (hops net) way.0 k link.tail) (sym at) way.1)))
          (further _ link.transit _ (transit_of-is net e link p) (prompt e link p some) way.2)),
    )

    -- The flow out of a node has entered the node.
    comes_in : (v : ℕ) → v < net.nodes → Sends v → 0ℚ <ℚ sum_in net.links (out_by (soon time)) v
    comes_in v h (e, link, p, at, some) = enough _ _ _ _ _ _
        (out-balances net F (soon time) (out_by (soon time)) 0ℚ good (balanced-soon time from_0) v h) (only_at-none net.source v) (only_at-none net.sink v)
        (sum_out-same net.links (into net F (soon time) (out_by (soon time)) 0ℚ good (balanced-soon time from_0)) x v
        (λ e link p here. into-is net F (soon time) (out_by (soon time)) 0ℚ good (balanced-soon time from_0) e link p ∙ sym (x-is e link p)))
        (sum_out-each net.links x v x-nn e link p at) (subst (λ (z : ℚ). 0ℚ <ℚ z) (sym (x-is e link p)) some)
      where
        enough : (i o a b y z : ℚ) → i +ℚ a ≡ o +ℚ b → a ≡ 0ℚ → b ≡ 0ℚ → o ≡ y → z ≤ℚ y → 0ℚ <ℚ z → 0ℚ <ℚ i
        enough i o a b y z e f g h k j = linear_lt (i ∷ o ∷ a ∷ b ∷ y ∷ z ∷ []) (eq e ∷ eq f ∷ eq g ∷ eq h ∷ le k ∷ lt j ∷ []) (search reading_of) tt

    back : (v : ℕ) → v < net.nodes → Sends v → Back v
    back v h sends =
        let into : (e : ℕ) × (link : Link) × IsLink net e link × (link.head ≡ v) × (0ℚ <ℚ out_by (soon time) e) = sum_in-some net.links (out_by (soon time)) v (comes_in v h sends) in
        back_by v into.0 into.1 into.2 into.3 (subst (λ (z : ℚ). 0ℚ <ℚ z)
        (out-is_into net F (soon time) (out_by (soon time)) 0ℚ good (balanced-soon time from_0) into.0 into.1 into.2) into.4)

    sends_none : (v : ℕ) → v < net.nodes → Sends v → ⊥
    sends_none v h sends = (way_back net.nodes Sends (λ _. ⊥) Way (λ v. ([], refl, ≤ℚ_refl 0ℚ)) back v h sends).1

    pub none-soon : (e : ℕ) (link : Link) → IsLink net e link → F e (soon time link.tail) ≡ 0ℚ
    none-soon e link p = ⊎_elim
        (λ (h : 0ℚ <ℚ F e (soon time link.tail)). absurd (sends_none link.tail (good.tails e link p) (e, link, p, refl, h)))
        (λ (h : F e (soon time link.tail) ≤ℚ 0ℚ). ≤ℚ_antisymm _ _ h (subst (λ (z : ℚ). 0ℚ ≤ℚ z) (x-is e link p) (x-nn e)))
        (lt_or_le_ℚ 0ℚ (F e (soon time link.tail)))

  -- before the first departure arrives at its tail nothing has entered a link
  pub none-before : (e : ℕ) (link : Link) → IsLink net e link → F e (l link.tail 0ℚ) ≡ 0ℚ
  none-before e link p = ap (F e) (sym (min_is_left (l link.tail 0ℚ) (l link.tail 0ℚ) (≤ℚ_refl _))) ∙ none-soon (l link.tail 0ℚ) (first-nn link.tail (good.tails e link p)) e link p
