use Rattle.std.proofs.Common.{refl}
use Rattle.nf_linear.proofs.Common.{err_from_is_err_and, seen_passed_at, meant}
use Rattle.nf_linear.proofs.Taken.{takes_first, fits_next, takes_stops, takes_more, takes_all, meant_below, meant_read, meant_past}
use Rattle.nf_linear.proofs.row.Row.subtract.Goals as goal

pub loop-other-init : goal.loop-other-init
loop-other-init g c = takes_first g.C.Number.Scalar.passes (g.C.Number.Scalar.means c.args.factor) (meant g.C.Number.Scalar.means c.args.others.now) c.args.self.now c.requires

pub at-value-requires : goal.at-value-requires
at-value-requires g c =
    fits_next g.C.Number.Scalar.passes (g.C.Number.Scalar.means c.args.factor)
    (meant g.C.Number.Scalar.means c.args.others.now) c.args.self.now c.loop-other.self c.loop-other.other-index
    (c.other-item.result.0, g.C.Number.Scalar.means c.other-item.result.1) c.other-item.result.0 (g.C.Number.Scalar.means c.other-item.result.1)
    (meant_below g.C.Number.Scalar.means c.args.others.now c.loop-other.other-index c.loop-other-test.true)
    (meant_read g.C.Number.Scalar.means c.args.others.now c.loop-other.other-index c.other-item.result c.other-item.is) refl c.loop-other.invariant

pub returns-in_err-value : goal.returns-in_err-value
returns-in_err-value g c =
    let p = err_from_is_err_and c.from_residual.result c.from_residual.ensures.1 in
    rw (p.1, p.2) (takes_stops g.C.Number.Scalar.passes (g.C.Number.Scalar.means c.args.factor)
    (meant g.C.Number.Scalar.means c.args.others.now) c.args.self.now c.loop-other.self c.loop-other.other-index
    (c.other-item.result.0, g.C.Number.Scalar.means c.other-item.result.1) c.other-item.result.0 (g.C.Number.Scalar.means c.other-item.result.1)
    (g.C.Number.Scalar.means c.at-value.result) (seen_passed_at g.C.Number.Scalar.means c.in_err-value.field-0.0)
    (meant_below g.C.Number.Scalar.means c.args.others.now c.loop-other.other-index c.loop-other-test.true)
    (meant_read g.C.Number.Scalar.means c.args.others.now c.loop-other.other-index c.other-item.result c.other-item.is) refl c.at-value.ensures
    c.in_err-value.ensures c.loop-other.invariant)

pub set-requires : goal.set-requires
set-requires g c =
    fits_next g.C.Number.Scalar.passes (g.C.Number.Scalar.means c.args.factor)
    (meant g.C.Number.Scalar.means c.args.others.now) c.args.self.now c.loop-other.self c.loop-other.other-index
    (c.other-item.result.0, g.C.Number.Scalar.means c.other-item.result.1) c.other-item.result.0 (g.C.Number.Scalar.means c.other-item.result.1)
    (meant_below g.C.Number.Scalar.means c.args.others.now c.loop-other.other-index c.loop-other-test.true)
    (meant_read g.C.Number.Scalar.means c.args.others.now c.loop-other.other-index c.other-item.result c.other-item.is) refl c.loop-other.invariant

pub loop-other-preserved : goal.loop-other-preserved
loop-other-preserved g c =
    takes_more g.C.Number.Scalar.passes (g.C.Number.Scalar.means c.args.factor)
    (meant g.C.Number.Scalar.means c.args.others.now) c.args.self.now c.loop-other.self c.loop-other.other-index
    (c.other-item.result.0, g.C.Number.Scalar.means c.other-item.result.1) c.other-item.result.0 (g.C.Number.Scalar.means c.other-item.result.1)
    (g.C.Number.Scalar.means c.at-value.result) (g.C.Number.Scalar.means c.in_ok-value.value) c.set.new.self
    (meant_below g.C.Number.Scalar.means c.args.others.now c.loop-other.other-index c.loop-other-test.true)
    (meant_read g.C.Number.Scalar.means c.args.others.now c.loop-other.other-index c.other-item.result c.other-item.is) refl c.at-value.ensures
    c.in_ok-value.ensures c.set.ensures c.loop-other.invariant

pub returns : goal.returns
returns g c =
    takes_all g.C.Number.Scalar.passes (g.C.Number.Scalar.means c.args.factor)
    (meant g.C.Number.Scalar.means c.args.others.now) c.args.self.now c.loop-other.self c.loop-other.other-index
    (meant_past g.C.Number.Scalar.means c.args.others.now c.loop-other.other-index c.loop-other-test.false) c.loop-other.invariant
