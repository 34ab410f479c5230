use Rattle.std.proofs.Common.{◌<◌, ◌≤◌, ℕ, length, List, below_more, arith, ⊎_elim}
use Rattle.nf_complete_conditions.proofs.Common.{cases_lt, ℚ, number_at-beyond, Sets, CarriesIfActive, CarriesOnActive}
use Rattle.nf_complete_conditions.proofs.proper.carries_on_active.Goals as goal

pub returns-then-not-carries_if_active : goal.returns-then-not-carries_if_active
returns-then-not-carries_if_active c = λ all. c.if-not-carries_if_active.ensures (all c.loop-e.e)

pub loop-e-preserved : goal.loop-e-preserved
loop-e-preserved c = below_more (λ (k : ℕ). CarriesIfActive c.args.sets.now c.args.flows.now k) c.loop-e.e c.loop-e.invariant c.if-not-carries_if_active.ensures

-- beyond the end there is 0
all_of : (sets : Sets) (flows : List ℚ) (n : ℕ) → length flows ≤ n → ((k : ℕ) → k < n → CarriesIfActive sets flows k) → CarriesOnActive sets flows
all_of sets flows n end so k none = ⊎_elim
    (λ (h : k < n). so k h none)
    (λ (h : n ≤ k). number_at-beyond flows k (omega arith))
    (cases_lt k n)

pub returns : goal.returns
returns c = all_of c.args.sets.now c.args.flows.now c.loop-e.e (omega arith) c.loop-e.invariant
