use Rattle.std.proofs.Common.{◌≤◌, length, arith}
use Rattle.nf_residual.proofs.Common.{IfOk-from_err}
use Rattle.nf_residual.proofs.LegByLeg.{legs_first, legs_more, legs_all, all_led}
use Rattle.nf_residual.proofs.legs.legs_of.Goals as goal

pub loop-e-preserved : goal.loop-e-preserved
loop-e-preserved c = legs_more c.args.net.now.net.links c.args.flows.now c.loop-e.legs.items c.loop-e.e c.loop-e.invariant c.link-link.result c.link-link.ensures.link
    c.flow_at-flow.result c.flow_at-flow.ensures c.add_leg.new.legs.items c.add_leg-in-loop-e.new.legs.items c.in_ok-add_leg.ensures c.in_ok-add_leg-2.ensures

pub returns-clause-within : goal.returns-clause-within
returns-clause-within c =
    let past : length c.args.net.now.net.links ≤ c.loop-e.e = omega arith in
    all_led c.args.net.now.net c.args.flows.now c.loop-e.legs.items c.recall.ensures.network
    (legs_all c.args.net.now.net.links c.args.flows.now c.loop-e.legs.items c.loop-e.e c.loop-e.invariant past)

pub returns-in_err-legs : goal.returns-in_err-legs
returns-in_err-legs c = record { legs = IfOk-from_err c.from_residual.result _ c.from_residual.ensures.0; within = IfOk-from_err c.from_residual.result _ c.from_residual.ensures.0 }

pub returns-in_err-add_leg : goal.returns-in_err-add_leg
returns-in_err-add_leg c =
    record {
      legs = IfOk-from_err c.from_residual-in_err-add_leg.result _ c.from_residual-in_err-add_leg.ensures.0;
      within =
          IfOk-from_err c.from_residual-in_err-add_leg.result _ c.from_residual-in_err-add_leg.ensures.0;
    }

pub returns-in_err-add_leg-2 : goal.returns-in_err-add_leg-2
returns-in_err-add_leg-2 c =
    record {
      legs = IfOk-from_err c.from_residual-in_err-add_leg-2.result _ c.from_residual-in_err-add_leg-2.ensures.0;
      within =
          IfOk-from_err c.from_residual-in_err-add_leg-2.result _ c.from_residual-in_err-add_leg-2.ensures.0;
    }

pub returns-clause-legs : goal.returns-clause-legs
returns-clause-legs c =
    let past : length c.args.net.now.net.links ≤ c.loop-e.e = omega arith in
    legs_all c.args.net.now.net.links c.args.flows.now c.loop-e.legs.items c.loop-e.e c.loop-e.invariant past

pub loop-e-init : goal.loop-e-init
loop-e-init c = legs_first c.args.net.now.net.links c.args.flows.now c.in_ok-legs.legs.items c.in_ok-legs.ensures.items
