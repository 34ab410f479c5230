-- A particle that enters a link in two equilibria leaves it at the same time, and waits as long.
use Rattle.std.proofs.Common.{◌≡◌, ℕ, sym, ap, ◌∙◌}
use Rattle.nf_unique_laws.proofs.Common.{ℚ, 0ℚ, ◌+ℚ◌, ◌≤ℚ◌, min_ℚ, min_keeps, Within, Link, Network, IsNetwork, IsLink, IsExit, waiting, Flow, label, inflow}
use Rattle.nf_unique_laws.proofs.Common.{queue, Equilibrium, IsQueue-unique}
use Rattle.nf_phase_equilibrium_laws.proofs.Printed.{label-nn, label-order}
use Rattle.nf_unique_laws.specs.UniqueLaws.{SameInAll}
use Rattle.nf_unique_laws.proofs.Labels.{labels-same}
use Rattle.nf_unique_laws.proofs.Queues.{m_one, in_one, in_other, queues-same}

-- A number at most two others is at most the lesser of them.
under_both : (x y z : ℚ) → z ≤ℚ x → z ≤ℚ y → z ≤ℚ min_ℚ x y
under_both x y z h k = min_keeps (λ (u : ℚ). z ≤ℚ u) x y h k

module _ (net : Network) (good : IsNetwork net) (one other : Flow) (is_one : Equilibrium net one) (is_other : Equilibrium net other) where
  module _ (e : ℕ) (link : Link) (p : IsLink net e link) where
    pub exits-same : (time exit : ℚ) → Within 0ℚ (label one link.tail (min_ℚ one.reached other.reached)) time
        → IsExit link.transit link.capacity (inflow one e) time exit → IsExit link.transit link.capacity (inflow other e) time exit
    exits-same time exit w x = record {
      queue = queue other e time;
      is_queue = is_other.queues e link time p (in_other net good one other is_one is_other e link time p w);
      is_sum = x.is_sum ∙ ap (λ (q : ℚ). time +ℚ link.transit +ℚ waiting link.capacity q) same;
    }
      where
        same : x.queue ≡ queue other e time
        same =
            IsQueue-unique link.capacity (inflow one e) time x.queue (queue one e time) x.is_queue
            (is_one.queues e link time p (in_one net good one other is_one is_other e link time p w))
            ∙ queues-same net good one other is_one is_other e link time p w

    module _ (departure : ℚ) (v : Within 0ℚ one.reached departure) (w : Within 0ℚ other.reached departure) where
      entered : Within 0ℚ (label one link.tail (min_ℚ one.reached other.reached)) (label one link.tail departure)
      entered = (
        label-nn net one good is_one link.tail departure (good.tails e link p) v,
        label-order net one good is_one link.tail departure (min_ℚ one.reached other.reached) (good.tails e link p) v.0 (under_both one.reached other.reached departure v.1 w.1)
            (m_one net good one other is_one is_other).1,
      )

      pub waits-same : waiting link.capacity (queue one e (label one link.tail departure)) ≡ waiting link.capacity (queue other e (label other link.tail departure))
      waits-same = ap (λ (q : ℚ). waiting link.capacity q)
          (queues-same net good one other is_one is_other e link (label one link.tail departure) p entered
          ∙ ap (λ (time : ℚ). queue other e time) (labels-same net good one other is_one is_other link.tail departure (good.tails e link p) v w))

pub SameInAll-equilibrium : (net : Network) (flow : Flow) → IsNetwork net → Equilibrium net flow → SameInAll net flow
SameInAll-equilibrium net flow good is = record {
  labels = λ other v departure is_other h x y. sym (labels-same net good flow other is is_other v departure h x y);
  queues = λ other e link time is_other p w. sym (queues-same net good flow other is is_other e link time p w);
  exits = λ other e link time exit is_other p w x. exits-same net good flow other is is_other e link p time exit w x;
}
