use Rattle.std.proofs.Common.{[], ◌∷◌, sym, subst, ◌∙◌}
use Rattle.std.proofs.lemmas.Option.{same_Some}
use Rattle.nf_rational.specs.Rational.{ℚ}
use Rattle.nf_rational.specs.Operations.{0ℚ}
use Rattle.nf_rational.specs.Order.{◌≤ℚ◌, ◌<ℚ◌}
use Rattle.nf_rational_laws.proofs.Chains.{≤ℚ_refl}
use Rattle.nf_model.specs.Network.{ArePieces}
use Rattle.nf_load_def.specs.Meanings.{IsCumulative}
use Rattle.library_callers.proofs.Queues.{rate_there, are_pieces, queue_is}
use Rattle.library_callers.proofs.load.queue_after.Goals as goal

pub cumulative-requires-clause-pieces : goal.cumulative-requires-clause-pieces
cumulative-requires-clause-pieces c =
    subst (λ (z : ℚ). ArePieces (record { start = z; rate = c.args.rate } ∷ [])) (sym c.zero.ensures)
    (are_pieces c.args.rate (rate_there c.args.capacity c.args.rate c.requires.capacity c.requires.rate))

pub load_link-requires-clause-transit : goal.load_link-requires-clause-transit
load_link-requires-clause-transit c = subst (λ (z : ℚ). 0ℚ ≤ℚ z) (sym c.zero-2.ensures) (≤ℚ_refl 0ℚ)

pub load_link-requires-clause-capacity : goal.load_link-requires-clause-capacity
load_link-requires-clause-capacity c = λ rate is. subst (λ (x : ℚ). 0ℚ <ℚ x) (same_Some c.args.capacity rate is) c.requires.capacity

pub load_link-requires-clause-begins : goal.load_link-requires-clause-begins
load_link-requires-clause-begins c = c.in_ok-inflow.ensures.amount.begins

pub load_link-requires-clause-rises : goal.load_link-requires-clause-rises
load_link-requires-clause-rises c = c.in_ok-inflow.ensures.amount.rises

pub returns : goal.returns
returns c =
    c.in_ok-queue.ensures.value
    ∙ queue_is c.args.capacity c.args.rate c.args.time c.requires.time c.requires.rate c.in_ok-inflow.inflow.points
    (subst (λ (z : ℚ). IsCumulative (record { start = z; rate = c.args.rate } ∷ []) c.args.time c.in_ok-inflow.inflow.points) c.zero.ensures c.in_ok-inflow.ensures.amount)
    _ (c.in_ok-loaded.ensures.loaded.queue_values c.args.time (c.requires.time, ≤ℚ_refl c.args.time))
