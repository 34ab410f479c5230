use Rattle.std.proofs.Common.{refl, inl, inr}
use Rattle.nf_app.proofs.Common.{err_from_is_err_and}
use Rattle.nf_app.proofs.QuickTold.{from_0, departure_passes, quickest_given}
use Rattle.nf_app.proofs.answering.beside_arrival.Goals as goal

pub find_arrival-requires : goal.find_arrival-requires
find_arrival-requires c = from_0 c.args.net.now.net c.args.amount c.in_ok-departs.departs c.in_ok-departs.ensures.least

pub flow_text-requires : goal.flow_text-requires
flow_text-requires c = c.requires.flow.cut.count

pub returns-in_err-departs : goal.returns-in_err-departs
returns-in_err-departs c file other augments h pushes =
    let p = err_from_is_err_and c.from_residual.result c.from_residual.ensures.1 in
    rw (p.1, p.2) (inr (departure_passes c.args.net.now file other c.args.amount augments c.args.quick h c.in_err-departs.field-0.0 c.in_err-departs.ensures.list))

pub returns-in_err-arrival : goal.returns-in_err-arrival
returns-in_err-arrival c file other augments h pushes =
    let p = err_from_is_err_and c.from_residual-in_err-arrival.result c.from_residual-in_err-arrival.ensures.1 in
    rw (p.1, p.2) (inl refl)

pub returns-in_err-text : goal.returns-in_err-text
returns-in_err-text c file other augments h pushes =
    let p = err_from_is_err_and c.from_residual-in_err-text.result c.from_residual-in_err-text.ensures.1 in
    rw (p.1, p.2) (inl refl)

pub returns : goal.returns
returns c file other augments h pushes = (
  quickest_given c.args.net.now file other c.args.amount augments c.args.quick h c.requires.flow pushes c.in_ok-departs.departs c.in_ok-departs.ensures.list c.in_ok-departs.ensures.least
      c.in_ok-arrival.arrival c.in_ok-arrival.ensures,
  c.in_ok-text.ensures,
)
