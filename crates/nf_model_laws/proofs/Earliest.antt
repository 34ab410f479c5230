-- Labels of a network that are right link by link are the earliest arrivals, and conversely.
use Rattle.std.proofs.Common.{◌≡◌, ◌≢◌, ℕ, ◌<◌, List, [], ◌∷◌, subst}
use Rattle.nf_model_laws.proofs.Common.{slice_get_within, ℚ, 0ℚ, ◌+ℚ◌, ◌≤ℚ◌, Hop, IsHop, Link, Network, IsNetwork, IsLink, hop_of, hops, IsExit, Arrives}
use Rattle.nf_model_laws.proofs.Common.{IsEarliest, Flow, HasShape, inflow, label, IsPositive, AreLabels, InflowsRise, ≤ℚ_trans}
use Rattle.nf_model_laws.proofs.Queues.{IsExit-after, IsExit-monotone}
use Rattle.nf_model_laws.proofs.Exists.{HasExit-curve}
use Rattle.nf_model_laws.proofs.Networks.{IsLink-unique, hop_at, by_link}
use Rattle.nf_model_laws.proofs.EarliestWalks.{AreLabelsBy, CanCross, AreHops, Comes, IsFirst, IsFirst-label, IsFirst-forward, AreLabelsBy-first}

pub IsPositive-link : (net : Network) (e : ℕ) (link : Link) → IsNetwork net → IsLink net e link → IsPositive link.capacity
IsPositive-link net e link good p = λ rate some. good.capacities e link rate p some

pub AreHops-net : (net : Network) → IsNetwork net → AreHops (hops net) net.nodes
AreHops-net net good = record {
  tails = λ e hop p. by_link net (λ (h : Hop). h.tail < net.nodes) e (good.tails e) hop p;
  heads = λ e hop p. by_link net (λ (h : Hop). h.head < net.nodes) e (good.heads e) hop p;
  transits = λ e hop p. by_link net (λ (h : Hop). 0ℚ ≤ℚ h.transit) e (good.transits e) hop p;
  cycles = good.cycles;
}

-- ---- to cross a link is to leave it at its exit
abbrev pub IsExitOf : Network → (ℕ → ℚ → ℚ) → ℕ → ℚ → ℚ → Type 0
IsExitOf net amount e time exit = (link : Link) × IsLink net e link × IsExit link.transit link.capacity (amount e) time exit

module _ (net : Network) (amount : ℕ → ℚ → ℚ) where
  Comes-arrives : (walk : List ℕ) (time arrival : ℚ) → Arrives net amount walk time arrival → Comes (IsExitOf net amount) walk time arrival
  Comes-arrives [] time arrival a = a
  Comes-arrives (e ∷ walk) time arrival a = (a.2, (a.0, a.1, a.3), Comes-arrives walk a.2 arrival a.4)

  Arrives-comes : (walk : List ℕ) (time arrival : ℚ) → Comes (IsExitOf net amount) walk time arrival → Arrives net amount walk time arrival
  Arrives-comes [] time arrival c = c
  Arrives-comes (e ∷ walk) time arrival c = (c.1.0, c.1.1, c.0, c.1.2, Arrives-comes walk c.0 arrival c.2)

  IsEarliest-first : (v : ℕ) (departure arrival : ℚ) → IsFirst (hops net) net.source (IsExitOf net amount) v departure arrival → IsEarliest net amount v departure arrival
  IsEarliest-first v departure arrival f = record {
    taken = (f.taken.0, f.taken.1, Arrives-comes f.taken.0 departure arrival f.taken.2);
    least = λ walk other w a. f.least walk other w (Comes-arrives walk departure other a);
  }

  IsFirst-earliest : (v : ℕ) (departure arrival : ℚ) → IsEarliest net amount v departure arrival → IsFirst (hops net) net.source (IsExitOf net amount) v departure arrival
  IsFirst-earliest v departure arrival f = record {
    taken = (f.taken.0, f.taken.1, Comes-arrives f.taken.0 departure arrival f.taken.2);
    least = λ walk other w c. f.least walk other w (Arrives-comes walk departure other c);
  }

  exit_of : (e : ℕ) (link : Link) (time exit : ℚ) → IsLink net e link → IsExitOf net amount e time exit → IsExit link.transit link.capacity (amount e) time exit
  exit_of e link time exit p c = subst (λ (l : Link). IsExit l.transit l.capacity (amount e) time exit) (IsLink-unique net e c.0 link c.1 p) c.2

  CanCross-exits : IsNetwork net → InflowsRise net amount → CanCross (hops net) (IsExitOf net amount)
  CanCross-exits good rises = record {
    takes = λ e hop time exit p c. by_link net (λ (h : Hop). time +ℚ h.transit ≤ℚ exit) e
        (λ link q. IsExit-after link.transit link.capacity (amount e) time exit (IsPositive-link net e link good q) (exit_of e link time exit q c)) hop p;
    keeps = λ e hop s t x y p h c d. by_link net (λ _. x ≤ℚ y) e
        (λ link q. IsExit-monotone link.transit link.capacity (amount e) s t x y (IsPositive-link net e link good q)
        (rises e (slice_get_within net.links e link q)) h (exit_of e link s x q c) (exit_of e link t y q d)) hop p;
  }

module _ (net : Network) (amount : ℕ → ℚ → ℚ) (departure : ℚ) (label : ℕ → ℚ) where
  by_hops : AreLabels net amount departure label → AreLabelsBy (hops net) net.nodes net.source (IsExitOf net amount) departure label
  by_hops labels = record {
    starts = labels.source;
    not_before = λ e hop p. by_link net (λ (h : Hop). h.head ≢ net.source → (exit : ℚ) × IsExitOf net amount e (label h.tail) exit × (label h.head ≤ℚ exit)) e
        (λ link q other. let x : (exit : ℚ) × IsExit link.transit link.capacity (amount e) (label link.tail) exit × (label link.head ≤ℚ exit) =
        labels.not_before e link q other in (x.0, (link, q, x.1), x.2)) hop p;
    entered = λ v h other.
        let x : (e : ℕ) × (link : Link) × IsLink net e link × (link.head ≡ v)
        × IsExit link.transit link.capacity (amount e) (label link.tail) (label link.head) = labels.entered v h other in
        (x.0, hop_of x.1, hop_at net x.0 x.1 x.2, x.3, (x.1, x.2, x.4));
  }

  abbrev Entry : ℕ → Type 0
  Entry v = (e : ℕ) × (link : Link) × IsLink net e link × (link.head ≡ v) × IsExit link.transit link.capacity (amount e) (label link.tail) (label link.head)

  by_entry : (v e : ℕ) (hop : Hop) → IsHop (hops net) e hop → hop.head ≡ v → IsExitOf net amount e (label hop.tail) (label hop.head) → Entry v
  by_entry v e hop p = by_link net (λ (h : Hop). h.head ≡ v → IsExitOf net amount e (label h.tail) (label h.head) → Entry v) e
      (λ link q at c. (e, link, q, at, exit_of net amount e link (label link.tail) (label link.head) q c)) hop p

  from_hops : AreLabelsBy (hops net) net.nodes net.source (IsExitOf net amount) departure label → AreLabels net amount departure label
  from_hops labels = record {
    source = labels.starts;
    not_before = λ e link p other.
        let x : (exit : ℚ) × IsExitOf net amount e (label link.tail) exit × (label link.head ≤ℚ exit) = labels.not_before e (hop_of link) (hop_at net e link p) other in
        (x.0, exit_of net amount e link (label link.tail) x.0 p x.1, x.2);
    entered = λ v h other.
        let x : (e : ℕ) × (hop : Hop) × IsHop (hops net) e hop × (hop.head ≡ v) × IsExitOf net amount e (label hop.tail) (label hop.head) = labels.entered v h other in
        by_entry v x.0 x.1 x.2 x.3 x.4;
  }

  -- labels are the earliest arrivals
  pub IsEarliest-label : IsNetwork net → InflowsRise net amount → AreLabels net amount departure label → (v : ℕ) → v < net.nodes → IsEarliest net amount v departure (label v)
  IsEarliest-label good rises labels v h = IsEarliest-first net amount v departure (label v)
      (IsFirst-label (hops net) net.nodes net.source (IsExitOf net amount) departure label (AreHops-net net good) (CanCross-exits net amount good rises) (by_hops labels) v h)

  -- and the earliest arrivals are labels
  pub AreLabels-earliest : IsNetwork net → InflowsRise net amount
      → ((e : ℕ) (link : Link) → IsLink net e link → (exit : ℚ) × IsExit link.transit link.capacity (amount e) (label link.tail) exit)
      → ((v : ℕ) → v < net.nodes → IsEarliest net amount v departure (label v)) → AreLabels net amount departure label
  AreLabels-earliest good rises exits earliest = from_hops
      (AreLabelsBy-first (hops net) net.nodes net.source (IsExitOf net amount) departure label (AreHops-net net good) (CanCross-exits net amount good rises) good.source
      (λ e hop p _. by_link net (λ (h : Hop). (exit : ℚ) × IsExitOf net amount e (label h.tail) exit) e
      (λ link q. let x : (exit : ℚ) × IsExit link.transit link.capacity (amount e) (label link.tail) exit = exits e link q in (x.0, (link, q, x.1))) hop p)
      (λ v h. IsFirst-earliest net amount v departure (label v) (earliest v h)))

-- ---- no one arrives before departing
pub IsEarliest-forward : (net : Network) (amount : ℕ → ℚ → ℚ) (v : ℕ) (departure arrival : ℚ) → IsNetwork net → InflowsRise net amount → IsEarliest net amount v departure arrival
    → departure ≤ℚ arrival
IsEarliest-forward net amount v departure arrival good rises earliest =
    IsFirst-forward (hops net) net.nodes (IsExitOf net amount) (AreHops-net net good) (CanCross-exits net amount good rises) net.source v departure arrival
    (IsFirst-earliest net amount v departure arrival earliest)

-- ---- the labels of a report: its inflows are curves, so that each link has an exit at each time from 0 on
module _ (net : Network) (flow : Flow) (departure : ℚ) (good : IsNetwork net) (shape : HasShape net flow) (rises : InflowsRise net (inflow flow)) where
  exit_at : (e : ℕ) (link : Link) (time : ℚ) → IsLink net e link → 0ℚ ≤ℚ time → (exit : ℚ) × IsExit link.transit link.capacity (inflow flow e) time exit
  exit_at e link time p h = HasExit-curve link.transit link.capacity _ time (shape.inflows.each e (slice_get_within net.links e link p)) h

  pub AreLabels-report : 0ℚ ≤ℚ departure → ((v : ℕ) → v < net.nodes → IsEarliest net (inflow flow) v departure (label flow v departure))
      → AreLabels net (inflow flow) departure (λ v. label flow v departure)
  AreLabels-report h earliest = AreLabels-earliest net (inflow flow) departure (λ v. label flow v departure) good rises
      (λ e link p. exit_at e link (label flow link.tail departure) p
      (≤ℚ_trans _ _ _ h (IsEarliest-forward net (inflow flow) link.tail departure (label flow link.tail departure) good rises (earliest link.tail (good.tails e link p))))) earliest
