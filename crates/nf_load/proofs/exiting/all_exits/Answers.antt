use Rattle.std.proofs.Common.{suc, List, drop, refl, sym, ap, ◌∙◌, add-one}
use Rattle.nf_load.proofs.Common.{drop_all, slice_get_read, err_from_is_err_and, Load, passes_Q, each, with_front, Waits, exit_of, each_goes, each_stops}
use Rattle.nf_load.proofs.Common.{each_ends, drop_entry}
use Rattle.nf_load.proofs.exiting.all_exits.Goals as goal

pub returns-in_err-one : goal.returns-in_err-one
returns-in_err-one c =
    let p = err_from_is_err_and c.from_residual-in_err-one.result c.from_residual-in_err-one.ensures.1 in
    let g = slice_get_read c.args.waits.now _ c.loop-moment.moment-index c.moment-item.result refl c.loop-moment-test.true c.moment-item.is in
    let d = drop_entry c.args.waits.now c.loop-moment.moment-index c.moment-item.result g in
    rw (p.1, p.2) (each_stops Load (exit_of passes_Q c.args.capacity.now c.args.transit) c.loop-moment.all.items _ c.moment-item.result
    (drop (suc c.loop-moment.moment-index) c.args.waits.now)
    (ap (λ (l : List Waits). with_front c.loop-moment.all.items (each (exit_of passes_Q c.args.capacity.now c.args.transit) l)) (sym d) ∙ c.loop-moment.invariant)
    c.in_err-one.field-0.0 (sym c.in_err-one.ensures))

pub loop-moment-preserved : goal.loop-moment-preserved
loop-moment-preserved c =
    let g = slice_get_read c.args.waits.now _ c.loop-moment.moment-index c.moment-item.result refl c.loop-moment-test.true c.moment-item.is in
    let d = drop_entry c.args.waits.now c.loop-moment.moment-index c.moment-item.result g in
    rw (c.in_ok-push.ensures.items, add-one) (each_goes Load (exit_of passes_Q c.args.capacity.now c.args.transit) c.loop-moment.all.items _
    c.moment-item.result (drop (suc c.loop-moment.moment-index) c.args.waits.now)
    (ap (λ (l : List Waits). with_front c.loop-moment.all.items (each (exit_of passes_Q c.args.capacity.now c.args.transit) l)) (sym d) ∙ c.loop-moment.invariant)
    c.in_ok-one.one (sym c.in_ok-one.ensures))

pub returns : goal.returns
returns c =
    let f = exit_of passes_Q c.args.capacity.now c.args.transit in
    each_ends f c.loop-moment.all.items _ Load
    (ap (λ (l : List Waits). with_front c.loop-moment.all.items (each f l))
    (sym (drop_all c.loop-moment.moment-index c.args.waits.now c.loop-moment-test.false)) ∙ c.loop-moment.invariant)
