use Rattle.std.proofs.Common.{List, sym, subst, Result}
use Rattle.nf_app.proofs.Common.{err_from_is_err_and, ℚ, 0ℚ, ◌≤ℚ◌, PassedAt, passes_Q, at_part, Gives, Point, Link, after_err, after_ok, stops_on}
use Rattle.nf_app.proofs.Common.{loaded_of}
use Rattle.nf_frac_def.specs.declared.Part.TheVariants.{Load}
use Rattle.nf_model_laws.specs.Capacity.{IsPositive}
use Rattle.nf_load_def.specs.Cumulative.{checked_cumulative}
use Rattle.nf_load_def.specs.Loading as lists
use Rattle.nf_load_def.specs.Loads.{load_link_list}
use Rattle.nf_app.proofs.loading.load_by_pieces.Goals as goal

pub supplied-requires-clause-pieces : goal.supplied-requires-clause-pieces
supplied-requires-clause-pieces c = c.requires.pieces

pub supplied-requires-clause-until : goal.supplied-requires-clause-until
supplied-requires-clause-until c = c.requires.horizon

pub load_trace-requires-clause-transit : goal.load_trace-requires-clause-transit
load_trace-requires-clause-transit c = subst (λ (l : Link). 0ℚ ≤ℚ l.transit) (sym c.link.view_is) c.requires.transit

pub load_trace-requires-clause-capacity : goal.load_trace-requires-clause-capacity
load_trace-requires-clause-capacity c = subst (λ (l : Link). IsPositive l.capacity) (sym c.link.view_is) c.requires.capacity

pub load_trace-requires-clause-begins : goal.load_trace-requires-clause-begins
load_trace-requires-clause-begins c = c.in_ok-inflow.ensures.amount.begins

pub load_trace-requires-clause-rises : goal.load_trace-requires-clause-rises
load_trace-requires-clause-rises c = c.in_ok-inflow.ensures.amount.rises

pub load_trace-requires-clause-rates : goal.load_trace-requires-clause-rates
load_trace-requires-clause-rates c = c.in_ok-inflow.ensures.rates

pub load_trace-requires-clause-until : goal.load_trace-requires-clause-until
load_trace-requires-clause-until c = c.requires.horizon

pub returns-in_err-inflow : goal.returns-in_err-inflow
unfolding load_link_list
returns-in_err-inflow c =
    let p = err_from_is_err_and c.from_residual.result c.from_residual.ensures.1 in
    rw (p.1, p.2) (stops_on c.in_err-inflow.field-0.0 (at_part Load (checked_cumulative passes_Q c.args.pieces.now c.args.horizon))
    (at_part Load (load_link_list passes_Q c.args.horizon (c.args.link.now, c.args.pieces.now)))
    (after_err Load (checked_cumulative passes_Q c.args.pieces.now c.args.horizon)
    (λ (inflow : List Point). lists.checked_loading passes_Q c.args.link.now.transit c.args.link.now.capacity inflow c.args.horizon)) c.in_err-inflow.ensures.list)

pub returns : goal.returns
unfolding load_link_list
returns c =
    subst (λ (r : Result lists.Loaded (PassedAt ℚ)). Gives loaded_of (λ (q : ℚ). q) c.load_trace.result r)
    (sym (after_ok Load (checked_cumulative passes_Q c.args.pieces.now c.args.horizon)
    (λ (inflow : List Point). lists.checked_loading passes_Q c.args.link.now.transit c.args.link.now.capacity inflow c.args.horizon)
    c.in_ok-inflow.inflow.curve.points c.in_ok-inflow.ensures.list))
    (subst (λ (l : Link). Gives loaded_of (λ (q : ℚ). q) c.load_trace.result
    (at_part Load (lists.checked_loading passes_Q l.transit l.capacity c.in_ok-inflow.inflow.curve.points c.args.horizon)))
    c.link.view_is c.load_trace.ensures.list)
