-- Where all rules but the last hold, what is sent into a link by a departure has come out of it by the label of its head; so flow takes
-- shortest routes only.
use Rattle.std.proofs.Common.{◌≡◌, ◌≢◌, ℕ, ◌<◌, List, [], ◌∷◌, length, ⊎_elim, true, false, eqb, slice_get, refl, sym, ap, subst, ◌∙◌}
use Rattle.nf_phase_run_laws.proofs.Common.{option_map_or, slice_get_within, ℚ, 0ℚ, ◌+ℚ◌, ◌≤ℚ◌, ◌<ℚ◌, reading_of, ≤ℚ_of_lt, ≤ℚ_antisymm, not_both_ℚ}
use Rattle.nf_phase_run_laws.proofs.Common.{lt_or_le_ℚ, ≤ℚ_refl, ≤ℚ_trans, le, eq, linear_le, Point, Within, Link, Network, IsNetwork, IsLink, sum_in}
use Rattle.nf_phase_run_laws.proofs.Common.{sum_out, supply, Flow, Balances, TakesFlow, points_at, label, inflow, outflow, CanBeChecked, end_at-source}
use Rattle.nf_phase_run_laws.proofs.Common.{end_at-other, by_source, IsOutflow, Label, Inflow, Arrivals, Outflow, Balance, SinkAfter, Route, Holds, ExitAt}
use Rattle.nf_phase_run_laws.proofs.Common.{AllButRoutesHold}
use Rattle.std.proofs.lemmas.Bool.Decides.{eqb_tells}
use Rattle.nf_model.specs.Earliest.{IsEarliest}
use Rattle.nf_model_laws.specs.EarliestLaws.{AreLabels, InflowsRise}
use Rattle.nf_model_laws.proofs.Exists.{HasExit-curve}
use Rattle.nf_model_laws.proofs.Queues.{IsExit-unique, IsExit-after, IsOutflow-unique}
use Rattle.nf_model_laws.proofs.Exits.{IsOutflow-at_exit}
use Rattle.nf_model_laws.proofs.Earliest.{IsPositive-link, IsEarliest-label, IsEarliest-forward}
use Rattle.nf_model_laws.proofs.Sums.{sum_in-same, sum_out-same}
use Rattle.nf_model_laws.proofs.Potential.{sum_to, sum_to-same, sum_to-plus, only_at, only_at-here, only_at-else, sum_to-only, EndsBelow}
use Rattle.nf_check_laws.proofs.Rising.{label-rises}
use Rattle.nf_phase_run_laws.proofs.Leaving.{IsOutflow-rises}
use Rattle.nf_phase_run_laws.proofs.After.{Stays, stays}
use Rattle.nf_model_laws.proofs.Totals.{total, total_in, total_out, total-each}

-- the ends of the link of this number
abbrev tail_of : List Link → ℕ → ℕ
tail_of links e = option_map_or (λ (link : Link). link.tail) (slice_get links e) 0

abbrev head_of : List Link → ℕ → ℕ
head_of links e = option_map_or (λ (link : Link). link.head) (slice_get links e) 0

-- ---- over plain numbers
no_sooner : (departure at transit exit : ℚ) → departure ≤ℚ at → 0ℚ ≤ℚ transit → at +ℚ transit ≤ℚ exit → departure ≤ℚ exit
no_sooner departure at transit exit h k l = linear_le (departure ∷ at ∷ transit ∷ exit ∷ []) (le h ∷ le k ∷ le l ∷ []) (search reading_of) tt

-- what comes in and what goes out are the same where what stays does
same_rest : (a b c d u v : ℚ) → a ≡ b +ℚ c → b +ℚ c ≡ d → d ≡ u +ℚ v → c ≡ v → u ≤ℚ b
same_rest a b c d u v e f g h = linear_le (a ∷ b ∷ c ∷ d ∷ u ∷ v ∷ []) (eq e ∷ eq f ∷ eq g ∷ eq h ∷ []) (search reading_of) tt

module _ (net : Network) (flow : Flow) (given : CanBeChecked net flow) (all : AllButRoutesHold net flow) where
  good : IsNetwork net
  good = given.network

  -- ---- labels are the earliest arrivals
  inflows_rise : InflowsRise net (inflow flow)
  inflows_rise e h = (all (Inflow e) h (λ s. cc)).1

  label_nn : (v : ℕ) (departure : ℚ) → v < net.nodes → Within 0ℚ flow.reached departure → 0ℚ ≤ℚ label flow v departure
  label_nn v departure h w = all (Label v) h (λ s. cc) departure w

  exit_of : (e : ℕ) (link : Link) (departure : ℚ) → IsLink net e link → Within 0ℚ flow.reached departure → (exit : ℚ) × ExitAt flow e link departure exit
  exit_of e link departure p w = HasExit-curve link.transit link.capacity _ (label flow link.tail departure) (given.shape.inflows.each e (slice_get_within net.links e link p))
      (label_nn link.tail departure (good.tails e link p) w)

  at_source : (departure : ℚ) → Within 0ℚ flow.reached departure → label flow net.source departure ≡ departure
  at_source departure w = (all (Arrivals net.source) good.source (λ s. cc) departure w).source refl

  are_labels : (departure : ℚ) → Within 0ℚ flow.reached departure → AreLabels net (inflow flow) departure (λ v. label flow v departure)
  are_labels departure w = record {
    source = at_source departure w;
    not_before = λ e link p other. (
        let x = exit_of e link departure p w in
        (x.0, x.1, ((all (Arrivals link.head) (good.heads e link p) (λ s. cc) departure w).other other).least e link x.0 p refl x.1));
    entered = λ v h other. (
        let x : (e : ℕ) × (link : Link) × IsLink net e link × (link.head ≡ v) × ExitAt flow e link departure (label flow v departure) =
        ((all (Arrivals v) h (λ s. cc) departure w).other other).taken in
        (x.0, x.1, x.2, x.3, subst (λ (u : ℕ). ExitAt flow x.0 x.1 departure (label flow u departure)) (sym x.3) x.4));
  }

  earliest : (v : ℕ) (departure : ℚ) → v < net.nodes → Within 0ℚ flow.reached departure → IsEarliest net (inflow flow) v departure (label flow v departure)
  earliest v departure h w = IsEarliest-label net (inflow flow) departure (λ v. label flow v departure) good inflows_rise (are_labels departure w) v h

  label_up_to_end : (v : ℕ) (departure : ℚ) → v < net.nodes → Within 0ℚ flow.reached departure → Within 0ℚ (label flow v flow.reached) (label flow v departure)
  label_up_to_end v departure h w = (
    label_nn v departure h w,
    label-rises net flow good given.shape inflows_rise flow.reached v departure flow.reached (λ d u. earliest v d h u) w.0 w.1 (≤ℚ_refl flow.reached),
  )

  -- who enters a link at the label of its tail leaves it at the label of its head or later
  leaves_late : (e : ℕ) (link : Link) (departure exit : ℚ) → IsLink net e link → Within 0ℚ flow.reached departure → ExitAt flow e link departure exit
      → label flow link.head departure ≤ℚ exit
  leaves_late e link departure exit p w x = by_source net link.head
      (λ s. subst (λ (z : ℚ). z ≤ℚ exit) (sym (ap (λ (u : ℕ). label flow u departure) s ∙ at_source departure w))
      (no_sooner departure (label flow link.tail departure) link.transit exit
      (IsEarliest-forward net (inflow flow) link.tail departure (label flow link.tail departure) good inflows_rise (earliest link.tail departure (good.tails e link p) w))
      (good.transits e link p) (IsExit-after link.transit link.capacity (inflow flow e) (label flow link.tail departure) exit (IsPositive-link net e link good p) x)))
      (λ other. (
      let y = (are_labels departure w).not_before e link p other in
      subst (λ (z : ℚ). label flow link.head departure ≤ℚ z) (IsExit-unique link.transit link.capacity (inflow flow e) (label flow link.tail departure) y.0 exit y.1 x) y.2))

  -- ---- what is sent into a link by a departure, and what has come out of it
  outflow_right : (e : ℕ) (link : Link) (departure : ℚ) → IsLink net e link → Within 0ℚ flow.reached departure
      → IsOutflow link.transit link.capacity (inflow flow e) (label flow link.head departure) (outflow flow e (label flow link.head departure))
  outflow_right e link departure p w =
      all (Outflow e) (slice_get_within net.links e link p) (λ s. cc) link (label flow link.head departure) p
      (label_up_to_end link.head departure (good.heads e link p) w)

  -- what has come out by a time up to the exit is at most what was sent
  comes_after : (e : ℕ) (link : Link) (departure exit time out : ℚ) → IsLink net e link → Within 0ℚ flow.reached departure → ExitAt flow e link departure exit → time ≤ℚ exit
      → IsOutflow link.transit link.capacity (inflow flow e) time out → out ≤ℚ inflow flow e (label flow link.tail departure)
  comes_after e link departure exit time out p w x l o =
      let inside : e < length net.links = slice_get_within net.links e link p in
      IsOutflow-rises link.transit (inflow flow e) (inflows_rise e inside) (all (Inflow e) inside (λ s. cc)).0 link.capacity time exit out
      (inflow flow e (label flow link.tail departure))
      (IsPositive-link net e link good p) l o
      (IsOutflow-at_exit link.transit link.capacity (inflow flow e) (label flow link.tail departure) exit (IsPositive-link net e link good p) (inflows_rise e inside)
      (label_nn link.tail departure (good.tails e link p) w) x)

  -- ---- by one departure
  module _ (departure : ℚ) (w : Within 0ℚ flow.reached departure) where
    abbrev sent : ℕ → ℚ
    sent e = inflow flow e (label flow (tail_of net.links e) departure)

    abbrev came : ℕ → ℚ
    came e = outflow flow e (label flow (head_of net.links e) departure)

    abbrev supplied : ℚ
    supplied = supply net departure

    sent_is : (e : ℕ) (link : Link) → IsLink net e link → sent e ≡ inflow flow e (label flow link.tail departure)
    sent_is e link p = ap (λ (u : ℕ). inflow flow e (label flow u departure)) (ap (λ o. option_map_or (λ (link : Link). link.tail) o 0) p)

    came_is : (e : ℕ) (link : Link) → IsLink net e link → came e ≡ outflow flow e (label flow link.head departure)
    came_is e link p = ap (λ (u : ℕ). outflow flow e (label flow u departure)) (ap (λ o. option_map_or (λ (link : Link). link.head) o 0) p)

    not_more : (e : ℕ) (link : Link) → IsLink net e link → came e ≤ℚ sent e
    not_more e link p =
        let x = exit_of e link departure p w in
        subst (λ (z : ℚ). z ≤ℚ sent e) (sym (came_is e link p)) (subst (λ (z : ℚ). outflow flow e (label flow link.head departure) ≤ℚ z) (sym (sent_is e link p))
        (comes_after e link departure x.0 (label flow link.head departure) (outflow flow e (label flow link.head departure)) p w x.1
        (leaves_late e link departure x.0 p w x.1) (outflow_right e link departure p w)))

    -- at a node, by its label
    balanced : (v : ℕ) (more less : ℚ) → Balances net (inflow flow) v (label flow v departure) more less → sum_in net.links came v +ℚ more ≡ sum_out net.links sent v +ℚ less
    balanced v more less b =
        ap (λ (s : ℚ). s +ℚ more) (sum_in-same net.links came b.outs v (λ e link p at. came_is e link p
        ∙ IsOutflow-unique link.transit link.capacity (inflow flow e) (label flow v departure) _ _
        (subst (λ (u : ℕ). IsOutflow link.transit link.capacity (inflow flow e) (label flow u departure) (outflow flow e (label flow link.head departure)))
        at (outflow_right e link departure p w))
        (b.outflows e link p at)))
        ∙ b.sums
        ∙ ap (λ (s : ℚ). s +ℚ less) (sym (sum_out-same net.links sent (λ e. inflow flow e (label flow v departure)) v
        (λ e link p at. sent_is e link p ∙ ap (λ (u : ℕ). inflow flow e (label flow u departure)) at)))

    source_balance : Balances net (inflow flow) net.source (label flow net.source departure) supplied 0ℚ
    source_balance = subst (λ (time : ℚ). Balances net (inflow flow) net.source time supplied 0ℚ) (sym (at_source departure w))
        (all (Balance net.source) (good.source, good.apart) (λ s. cc) departure supplied (subst (λ (y : ℚ). Within 0ℚ y departure) (sym (end_at-source net flow net.source refl)) w)
        (record { source = λ _. refl; other = λ h. absurd (h refl) }))

    inner_balance : (v : ℕ) → v < net.nodes → v ≢ net.source → v ≢ net.sink → Balances net (inflow flow) v (label flow v departure) 0ℚ 0ℚ
    inner_balance v h a b = all (Balance v) (h, b) (λ s. cc) (label flow v departure) 0ℚ
        (subst (λ (y : ℚ). Within 0ℚ y (label flow v departure)) (sym (end_at-other net flow v a)) (label_up_to_end v departure h w))
        (record { source = λ e. absurd (a e); other = λ _. refl })

    -- what comes in beside the links, and what stays
    node_balance : (v : ℕ) → v < net.nodes → sum_in net.links came v +ℚ only_at net.source supplied v ≡ sum_out net.links sent v +ℚ only_at net.sink supplied v
    node_balance v h = by_source net v
        (λ s. subst (λ (u : ℕ). sum_in net.links came u +ℚ only_at net.source supplied u ≡ sum_out net.links sent u +ℚ only_at net.sink supplied u) (sym s)
        (balanced net.source (only_at net.source supplied net.source) (only_at net.sink supplied net.source)
        (with_both net.source supplied 0ℚ (only_at-here net.source supplied) (only_at-else net.sink supplied net.source (λ e. good.apart (sym e))) source_balance)))
        (λ a. ⊎_elim
        (λ (t : (eqb v net.sink ≡ true) × (v ≡ net.sink)).
        subst (λ (u : ℕ). sum_in net.links came u +ℚ only_at net.source supplied u ≡ sum_out net.links sent u +ℚ only_at net.sink supplied u) (sym t.1)
        (balanced net.sink (only_at net.source supplied net.sink) (only_at net.sink supplied net.sink)
        (with_both net.sink 0ℚ supplied (only_at-else net.source supplied net.sink good.apart) (only_at-here net.sink supplied) (all SinkAfter tt (λ s. cc) departure w))))
        (λ (t : (eqb v net.sink ≡ false) × (v ≢ net.sink)).
        balanced v (only_at net.source supplied v) (only_at net.sink supplied v)
        (with_both v 0ℚ 0ℚ (only_at-else net.source supplied v (λ e. a (sym e))) (only_at-else net.sink supplied v (λ e. t.1 (sym e))) (inner_balance v h a t.1)))
        (eqb_tells v net.sink))
      where
        with_both : (v : ℕ) (more less : ℚ) → only_at net.source supplied v ≡ more → only_at net.sink supplied v ≡ less → Balances net (inflow flow) v (label flow v departure) more less
            → Balances net (inflow flow) v (label flow v departure) (only_at net.source supplied v) (only_at net.sink supplied v)
        with_both v more less e f b = subst (λ (x : ℚ). Balances net (inflow flow) v (label flow v departure) x (only_at net.sink supplied v)) (sym e)
            (subst (λ (x : ℚ). Balances net (inflow flow) v (label flow v departure) more x) (sym f) b)

    ends_below : EndsBelow net.nodes net.links
    ends_below e link p = (good.tails e link p, good.heads e link p)

    all_sent_came : total net.links sent ≤ℚ total net.links came
    all_sent_came = same_rest (sum_to net.nodes (λ v. sum_in net.links came v +ℚ only_at net.source supplied v)) (total net.links came) supplied
        (sum_to net.nodes (λ v. sum_out net.links sent v +ℚ only_at net.sink supplied v)) (total net.links sent) supplied
        (summed (sum_in net.links came) net.source (total net.links came) good.source (total_in net.nodes net.links came ends_below))
        (sym (summed (sum_in net.links came) net.source (total net.links came) good.source (total_in net.nodes net.links came ends_below))
        ∙ sum_to-same net.nodes (λ v. sum_in net.links came v +ℚ only_at net.source supplied v) (λ v. sum_out net.links sent v +ℚ only_at net.sink supplied v) node_balance)
        (summed (sum_out net.links sent) net.sink (total net.links sent) good.sink (total_out net.nodes net.links sent ends_below)) refl
      where
        summed : (f : ℕ → ℚ) (u : ℕ) (sum : ℚ) → u < net.nodes → sum_to net.nodes f ≡ sum → sum_to net.nodes (λ v. f v +ℚ only_at u supplied v) ≡ sum +ℚ supplied
        summed f u sum h e = sum_to-plus net.nodes (λ v. f v +ℚ only_at u supplied v) f (only_at u supplied) (λ v. refl)
            ∙ (λ i. e i +ℚ sum_to-only net.nodes u supplied h i)

    -- all that was sent into a link has come out
    pub sent_came : (e : ℕ) (link : Link) → IsLink net e link → inflow flow e (label flow link.tail departure) ≤ℚ outflow flow e (label flow link.head departure)
    sent_came e link p = subst (λ (z : ℚ). z ≤ℚ outflow flow e (label flow link.head departure)) (sent_is e link p) (subst (λ (z : ℚ). sent e ≤ℚ z) (came_is e link p)
        (total-each net.links sent came not_more all_sent_came e link p))

  -- ---- shortest routes
  -- Were the exit later than the label of the head, then so it would be than the head's label of a little later departure; and what is sent
  -- until then would have come out before the exit.
  no_gap : (e : ℕ) (link : Link) (departure exit : ℚ) → IsLink net e link → 0ℚ ≤ℚ departure → departure <ℚ flow.reached
      → TakesFlow (inflow flow) (label flow) flow.reached e link.tail departure
      → ExitAt flow e link departure exit → label flow link.head departure <ℚ exit → ⊥
  no_gap e link departure exit p h k takes x l =
      let w : Within 0ℚ flow.reached departure = (h, ≤ℚ_of_lt _ _ k) in
      let head : List Point = points_at flow.labels link.head in
      let s : Stays head departure exit flow.reached = stays head departure exit flow.reached (given.shape.labels.each link.head (good.heads e link p)) k l in
      let later : Within 0ℚ flow.reached s.0 = (≤ℚ_trans _ _ _ h (≤ℚ_of_lt _ _ s.1), s.2) in
      not_both_ℚ (inflow flow e (label flow link.tail departure)) (inflow flow e (label flow link.tail s.0)) (takes s.0 s.1 s.2)
      (≤ℚ_trans _ _ _ (sent_came s.0 later e link p)
      (comes_after e link departure exit (label flow link.head s.0) (outflow flow e (label flow link.head s.0)) p w x s.3 (outflow_right e link s.0 p later)))

  pub routes_hold : (e : ℕ) → Holds net flow (Route e)
  routes_hold e link departure p h k takes =
      let w : Within 0ℚ flow.reached departure = (h, ≤ℚ_of_lt _ _ k) in
      let x = exit_of e link departure p w in
      ⊎_elim
      (λ (l : label flow link.head departure <ℚ x.0). absurd (no_gap e link departure x.0 p h k takes x.1 l))
      (λ (l : x.0 ≤ℚ label flow link.head departure). subst (ExitAt flow e link departure) (≤ℚ_antisymm _ _ l (leaves_late e link departure x.0 p w x.1)) x.1)
      (lt_or_le_ℚ (label flow link.head departure) x.0)
