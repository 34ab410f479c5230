use Rattle.std.proofs.Common.{◌∙◌, List, length, sym, ap, subst}
use Rattle.nf_load.proofs.Common.{ℚ, Load, passes_Q, checked_cumulative, IsCumulative, was_ok, AreRates}
use Rattle.nf_load_laws.proofs.Cumulative.{checked_cumulative-is}
use Rattle.nf_load.proofs.amounts.supplied.Goals as goal

pub of_points-requires : goal.of_points-requires
of_points-requires c =
    (checked_cumulative-is passes_Q c.args.pieces.now c.args.until c.requires.pieces c.requires.until c.in_ok-supply.supply.points.items
    (was_ok Load (checked_cumulative passes_Q c.args.pieces.now c.args.until) c.in_ok-supply.supply.points.items c.in_ok-supply.ensures.list)).curve

pub returns-clause-amount : goal.returns-clause-amount
returns-clause-amount c =
    subst (λ (l : List (ℚ × ℚ)). IsCumulative c.args.pieces.now c.args.until l) (sym c.of_points.ensures)
    (checked_cumulative-is passes_Q c.args.pieces.now c.args.until c.requires.pieces c.requires.until c.in_ok-supply.supply.points.items
    (was_ok Load (checked_cumulative passes_Q c.args.pieces.now c.args.until) c.in_ok-supply.supply.points.items c.in_ok-supply.ensures.list))

pub returns-clause-rates : goal.returns-clause-rates
returns-clause-rates c =
    subst (λ (l : List (ℚ × ℚ)). AreRates l c.in_ok-supply.supply.rates.items) (sym c.of_points.ensures) c.in_ok-supply.ensures.rates

pub returns-clause-all : goal.returns-clause-all
returns-clause-all c = ap (λ (l : List (ℚ × ℚ)). length l) c.of_points.ensures ∙ c.in_ok-supply.ensures.all
