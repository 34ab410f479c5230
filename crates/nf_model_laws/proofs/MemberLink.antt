-- A flow is an equilibrium of a network of one link exactly where the whole supply enters the link at once.
use Rattle.std.proofs.Common.{◌≡◌, ℕ, zero, suc, ◌<◌, List, [], ◌∷◌, ⊎_elim, Option, Some, None, sym, ap, subst, refl, ◌∙◌, arith}
use Rattle.nf_model_laws.proofs.Common.{ℚ, 0ℚ, ◌+ℚ◌, ◌≤ℚ◌, ◌<ℚ◌, reading_of, ≤ℚ_of_lt, ≤ℚ_antisymm, lt_or_le_ℚ, eq, linear_eq, Within, NeverFalls, Hop, IsHop}
use Rattle.nf_model_laws.proofs.Common.{IsWalk, Link, Piece, Network, IsNetwork, IsLink, ArePieces, hops, supply, IsQueue, IsExit, IsOutflow, Arrives}
use Rattle.nf_model_laws.proofs.Common.{IsEarliest, Flow, Balances, Conserves, OnlyShortest, label, inflow, outflow, queue, Equilibrium, IsPositive, AreLabels}
use Rattle.nf_model_laws.proofs.Common.{one_link, FillsLink, ≤ℚ_refl}
use Rattle.nf_model_laws.proofs.Queues.{IsOutflow-early}
use Rattle.nf_model_laws.proofs.Exits.{IsOutflow-at_exit, IsExit-at_0}
use Rattle.nf_model_laws.proofs.Earliest.{IsEarliest-label}

pub zero_one : {X : Type 0} → ◌≡◌ {A = ℕ} zero (suc zero) → X
zero_one e = absurd (cc)

pub node_cases : (P : ℕ → Type 0) (v : ℕ) → v < 2 → P 0 → P 1 → P v
node_cases P zero h a b = a
node_cases P (suc zero) h a b = b
node_cases P (suc (suc v)) h a b = absurd (omega arith)

pub only_0 : (P : ℕ → Type 0) (e : ℕ) → e < 1 → P 0 → P e
only_0 P zero h p = p
only_0 P (suc e) h p = absurd (omega arith)

module _ (transit : ℚ) (capacity : Option ℚ) (pieces : List Piece) where
  abbrev net : Network
  net = one_link transit capacity pieces

  abbrev the_link : Link
  the_link = record { tail = 0; head = 1; transit = transit; capacity = capacity }

  abbrev the_hop : Hop
  the_hop = record { tail = 0; head = 1; transit = transit }

  only_link : (e : ℕ) (link : Link) → IsLink net e link → (e ≡ 0) × (the_link ≡ link)
  only_link zero link p = (refl, same the_link link p)
    where
      same : (a b : Link) → ◌≡◌ {A = Option Link} (Some a) (Some b) → a ≡ b
      same a b q = cc
  only_link (suc e) link p = absurd (none p)
    where
      none : ◌≡◌ {A = Option Link} None (Some link) → ⊥
      none q = cc

  -- a property of the only link holds for each link
  by_link : (P : ℕ → Link → Type 0) (e : ℕ) (link : Link) → IsLink net e link → P 0 the_link → P e link
  by_link P e link p x = let o : (e ≡ 0) × (the_link ≡ link) = only_link e link p in subst (λ (k : ℕ). P k link) (sym o.0) (subst (λ (l : Link). P 0 l) o.1 x)

  by_link_back : (P : ℕ → Link → Type 0) (e : ℕ) (link : Link) → IsLink net e link → P e link → P 0 the_link
  by_link_back P e link p x = let o : (e ≡ 0) × (the_link ≡ link) = only_link e link p in subst (λ (l : Link). P 0 l) (sym o.1) (subst (λ (k : ℕ). P k link) o.0 x)

  only_hop : (e : ℕ) (hop : Hop) → IsHop (hops net) e hop → the_hop ≡ hop
  only_hop zero hop p = same the_hop hop p
    where
      same : (a b : Hop) → ◌≡◌ {A = Option Hop} (Some a) (Some b) → a ≡ b
      same a b q = cc
  only_hop (suc e) hop p = absurd (none p)
    where
      none : ◌≡◌ {A = Option Hop} None (Some hop) → ⊥
      none q = cc

  -- no link leaves the sink
  from_sink : (walk : List ℕ) (v : ℕ) → IsWalk (hops net) walk 1 v → 1 ≡ v
  from_sink [] v w = w
  from_sink (e ∷ walk) v w = zero_one (ap (λ (h : Hop). h.tail) (only_hop e w.0 w.1) ∙ w.2)

  no_cycle : (e : ℕ) (walk : List ℕ) (v : ℕ) → IsWalk (hops net) (e ∷ walk) v v → ⊥
  no_cycle e walk v w =
      let o : the_hop ≡ w.0 = only_hop e w.0 w.1 in
      zero_one (ap (λ (h : Hop). h.tail) o ∙ w.2 ∙ sym (from_sink walk v (subst (λ (h : Hop). IsWalk (hops net) walk h.head v) (sym o) w.3)))

  to_node : (v : ℕ) → v < 2 → (walk : List ℕ) × IsWalk (hops net) walk 0 v
  to_node v h = node_cases (λ (v : ℕ). (walk : List ℕ) × IsWalk (hops net) walk 0 v) v h ([], refl) (0 ∷ [], (the_hop, refl, refl, refl))

  pub IsNetwork-one_link : 0ℚ ≤ℚ transit → IsPositive capacity → ArePieces pieces → IsNetwork net
  IsNetwork-one_link h c p = record {
    source = omega arith;
    sink = omega arith;
    apart = λ e. zero_one e;
    tails = λ e link q. by_link (λ _ (l : Link). l.tail < 2) e link q (omega arith);
    heads = λ e link q. by_link (λ _ (l : Link). l.head < 2) e link q (omega arith);
    transits = λ e link q. by_link (λ _ (l : Link). 0ℚ ≤ℚ l.transit) e link q h;
    capacities = λ e link rate q some. by_link (λ _ (l : Link). l.capacity ≡ Some rate → 0ℚ <ℚ rate) e link q (c rate) some;
    pieces = p;
    cycles = λ e walk v w. absurd (no_cycle e walk v w);
    reached = to_node;
  }

  module _ (flow : Flow) (h : 0ℚ ≤ℚ transit) (c : IsPositive capacity) (p : ArePieces pieces) (fills : FillsLink transit capacity pieces flow) where
    abbrev amount : ℕ → ℚ → ℚ
    amount = inflow flow

    rises_each : (e : ℕ) → e < 1 → NeverFalls (amount e)
    rises_each e k = only_0 (λ (e : ℕ). NeverFalls (amount e)) e k fills.rises

    at_start : Within 0ℚ flow.reached 0ℚ
    at_start = (≤ℚ_refl 0ℚ, fills.begins)

    -- who departs enters the link at once, and leaves it at the label of the sink
    leaves : (departure : ℚ) → Within 0ℚ flow.reached departure → IsExit transit capacity (amount 0) (label flow 0 departure) (label flow 1 departure)
    leaves departure w = subst (λ (t : ℚ). IsExit transit capacity (amount 0) t (label flow 1 departure)) (sym (fills.source departure w)) (fills.sink departure w)

    -- ---- earliest arrivals
    are_labels : (departure : ℚ) → Within 0ℚ flow.reached departure → AreLabels net amount departure (λ v. label flow v departure)
    are_labels departure w = record {
      source = fills.source departure w;
      not_before = λ e link q _. by_link
          (λ (e : ℕ) (l : Link). (exit : ℚ) × IsExit l.transit l.capacity (amount e) (label flow l.tail departure) exit × (label flow l.head departure ≤ℚ exit)) e link q
          (label flow 1 departure, leaves departure w, ≤ℚ_refl _);
      entered = λ v k other. (0, the_link, refl, node_cases (λ (v : ℕ). (v ≡ 0 → ⊥) → 1 ≡ v) v k (λ o. absurd (o refl)) (λ _. refl) other, leaves departure w);
    }

    are_earliest : (v : ℕ) (departure : ℚ) → v < 2 → Within 0ℚ flow.reached departure → IsEarliest net amount v departure (label flow v departure)
    are_earliest v departure k w =
        IsEarliest-label net amount departure (λ (v : ℕ). label flow v departure) (IsNetwork-one_link h c p) rises_each (are_labels departure w) v k

    -- ---- conservation
    out_at_exit : (departure : ℚ) → Within 0ℚ flow.reached departure → IsOutflow transit capacity (amount 0) (label flow 1 departure) (amount 0 departure)
    out_at_exit departure w = IsOutflow-at_exit transit capacity (amount 0) departure (label flow 1 departure) c fills.rises w.0 (fills.sink departure w)

    out_before : (time : ℚ) → time ≤ℚ label flow 1 0ℚ → IsOutflow transit capacity (amount 0) time 0ℚ
    out_before time k = ⊎_elim
        (λ (l : time <ℚ transit). IsOutflow-early transit capacity (amount 0) time l)
        (λ (l : transit ≤ℚ time).
        subst (λ (t : ℚ). IsOutflow transit capacity (amount 0) t 0ℚ)
        (≤ℚ_antisymm _ _ (subst (λ (t : ℚ). t ≤ℚ time) (sym (IsExit-at_0 transit capacity (amount 0) (label flow 1 0ℚ) (fills.sink 0ℚ at_start))) l) k)
        (subst (λ (y : ℚ). IsOutflow transit capacity (amount 0) (label flow 1 0ℚ) y) fills.starts (out_at_exit 0ℚ at_start)))
        (lt_or_le_ℚ time transit)

    to_sink : (time out extra : ℚ) → IsOutflow transit capacity (amount 0) time out → out ≡ extra → Balances net amount 1 time 0ℚ extra
    to_sink time out extra o e = record {
      outs = λ _. out;
      outflows = λ e link q at. by_link (λ (e : ℕ) (l : Link). IsOutflow l.transit l.capacity (amount e) time out) e link q o;
      sums = linear_eq (out ∷ extra ∷ []) (eq e ∷ []) (search reading_of) tt tt;
    }

    from_source : (time extra : ℚ) → amount 0 time ≡ extra → Balances net amount 0 time extra 0ℚ
    from_source time extra e = record {
      outs = λ _. 0ℚ;
      outflows = λ e link q at. zero_one (sym (by_link (λ _ (l : Link). 1 ≡ l.head) e link q refl ∙ at));
      sums = sums (amount 0 time) extra e;
    }
      where
        sums : (a b : ℚ) → a ≡ b → 0ℚ +ℚ b ≡ (a +ℚ 0ℚ) +ℚ 0ℚ
        sums a b e = linear_eq (a ∷ b ∷ []) (eq e ∷ []) (search reading_of) tt tt

    conserves : Conserves net amount (label flow) flow.reached
    conserves = record {
      inner = λ v time k a b w. absurd (node_cases (λ (v : ℕ). (v ≡ 0 → ⊥) → (v ≡ 1 → ⊥) → ⊥) v k (λ a b. a refl) (λ a b. b refl) a b);
      source = λ time w. from_source time (supply net time) (fills.supplied time w);
      sink_early = λ time w. to_sink time 0ℚ 0ℚ (out_before time w.1) refl;
      sink = λ departure w. to_sink (label flow 1 departure) (amount 0 departure) (supply net departure) (out_at_exit departure w) (fills.supplied departure w);
    }

    only_shortest : OnlyShortest net amount (label flow) flow.reached
    only_shortest e link departure q k l _ =
        by_link (λ (e : ℕ) (m : Link). IsExit m.transit m.capacity (amount e) (label flow m.tail departure) (label flow m.head departure)) e link q (leaves departure (k, ≤ℚ_of_lt _ _ l))

    pub Equilibrium-one_link : Equilibrium net flow
    Equilibrium-one_link = record {
      reached = fills.begins;
      shape = fills.shape;
      nash = record {
        starts = λ e k. only_0 (λ (e : ℕ). amount e 0ℚ ≡ 0ℚ) e k fills.starts;
        rises = rises_each;
        labels = are_earliest;
        conserves = conserves;
        only_shortest = only_shortest;
      };
      inflow_rates = fills.inflow_rates;
      outflow_rates = fills.outflow_rates;
      outflows = λ e link time q. by_link
          (λ (e : ℕ) (l : Link). Within 0ℚ (label flow l.head flow.reached) time → IsOutflow l.transit l.capacity (amount e) time (outflow flow e time)) e link q (fills.outflows time);
      queues = λ e link time q. by_link
          (λ (e : ℕ) (l : Link). Within 0ℚ (label flow l.tail flow.reached) time → IsQueue l.capacity (amount e) time (queue flow e time)) e link q
          (λ w. fills.queues time (w.0, subst (λ (t : ℚ). time ≤ℚ t) (fills.source flow.reached (fills.begins, ≤ℚ_refl flow.reached)) w.1));
    }

  -- ---- the other way: an equilibrium fills the link
  module _ (flow : Flow) (is : Equilibrium net flow) where
    -- the walks of this network
    to_source : (walk : List ℕ) (time arrival : ℚ) → IsWalk (hops net) walk 0 0 → Arrives net (inflow flow) walk time arrival → time ≡ arrival
    to_source [] time arrival w a = a
    to_source (e ∷ walk) time arrival w a = absurd (no_cycle e walk 0 w)

    over_link : (walk : List ℕ) (time arrival : ℚ) → IsWalk (hops net) walk 0 1 → Arrives net (inflow flow) walk time arrival → IsExit transit capacity (inflow flow 0) time arrival
    over_link [] time arrival w a = zero_one w
    over_link (e ∷ []) time arrival w a =
        subst (λ (t : ℚ). IsExit transit capacity (inflow flow 0) time t) a.4
        (by_link_back (λ (e : ℕ) (l : Link). IsExit l.transit l.capacity (inflow flow e) time a.2) e a.0 a.1 a.3)
    over_link (e ∷ f ∷ walk) time arrival w a =
        zero_one (ap (λ (h : Hop). h.tail) (only_hop f w.3.0 w.3.1) ∙ w.3.2 ∙ sym (ap (λ (h : Hop). h.head) (only_hop e w.0 w.1)))

    at_source : (departure : ℚ) → Within 0ℚ flow.reached departure → label flow 0 departure ≡ departure
    at_source departure w =
        let l : IsEarliest net (inflow flow) 0 departure (label flow 0 departure) = is.nash.labels 0 departure (omega arith) w in
        sym (to_source l.taken.0 departure (label flow 0 departure) l.taken.1 l.taken.2)

    at_sink : (departure : ℚ) → Within 0ℚ flow.reached departure → IsExit transit capacity (inflow flow 0) departure (label flow 1 departure)
    at_sink departure w =
        let l : IsEarliest net (inflow flow) 1 departure (label flow 1 departure) = is.nash.labels 1 departure (omega arith) w in
        over_link l.taken.0 departure (label flow 1 departure) l.taken.1 l.taken.2

    all_in : (u f : ℚ) → 0ℚ +ℚ u ≡ f +ℚ 0ℚ +ℚ 0ℚ → f ≡ u
    all_in u f e = linear_eq (u ∷ f ∷ []) (eq e ∷ []) (search reading_of) tt tt

    pub FillsLink-equilibrium : FillsLink transit capacity pieces flow
    FillsLink-equilibrium = record {
      begins = is.reached;
      shape = is.shape;
      inflow_rates = is.inflow_rates;
      outflow_rates = is.outflow_rates;
      starts = is.nash.starts 0 (omega arith);
      rises = is.nash.rises 0 (omega arith);
      supplied = λ time w. all_in (supply net time) (inflow flow 0 time) (is.nash.conserves.source time w).sums;
      source = at_source;
      sink = at_sink;
      outflows = λ time w. is.outflows 0 the_link time refl w;
      queues = λ time w. is.queues 0 the_link time refl (w.0, subst (λ (t : ℚ). time ≤ℚ t) (sym (at_source flow.reached (is.reached, ≤ℚ_refl flow.reached))) w.1);
    }
