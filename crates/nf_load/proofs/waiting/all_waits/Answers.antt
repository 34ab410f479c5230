use Rattle.std.proofs.Common.{◌≡◌, ℕ, ◌+◌, ◌-◌, suc, ◌≤◌, Option, length, append-nil, subst, List, drop, refl, sym, ap, ◌∙◌, arith, Ok, Some, slice_get}
use Rattle.nf_load.proofs.Common.{ℚ, drop_all, err_from_is_err_and, Load, passes_Q, at_part, Point, with_front, Waits, waits_after, IsRate, IsPaceIf}
use Rattle.nf_load.proofs.Alongs.{linked_along}
use Rattle.nf_load.proofs.Pacing.{first_pace, paces_on}
use Rattle.nf_load.proofs.RatesInTurn.{rate_there}
use Rattle.nf_load.proofs.QueueSteps.{begins, goes_on, stops, later_first, later_here, later_next}
use Rattle.nf_load.proofs.waiting.all_waits.Goals as goal

pub loop-i-init : goal.loop-i-init
loop-i-init c =
    let first : Waits = record { time = c.point-time.result.0; amount = c.point-time.result.1; queue = c.zero.result } in
    record {
      moments = begins passes_Q c.args.capacity.now c.args.inflow.now.points c.point-time.result c.zero.result c.in_ok-moments.moments.waits.items c.point-time.ensures c.zero.ensures
          c.in_ok-moments.ensures.waits;
      paces = first_pace c.args.capacity.now c.in_ok-moments.moments.waits.items c.in_ok-moments.moments.paces.items first c.in_ok-moments.ensures.waits c.in_ok-moments.ensures.paces;
      later = later_first c.args.inflow.now.points c.point-time.result c.zero.result c.len-count.ensures.curve c.point-time.ensures;
      before = record { number = 0; next = refl; is = c.point-time.ensures };
    }

pub overflow_sub-i : goal.overflow_sub-i
overflow_sub-i c = omega (arith, c.loop-i.invariant.before.next)

pub over_piece-requires-clause-later : goal.over_piece-requires-clause-later
over_piece-requires-clause-later c = later_here c.loop-i.last c.args.inflow.now.points c.loop-i.i c.point-end.result c.point-end.ensures c.loop-i.invariant.later

pub over_piece-requires-clause-known : goal.over_piece-requires-clause-known
over_piece-requires-clause-known c =
    let before = c.loop-i.invariant.before in
    let number : c.loop-i.i - 1 ≡ before.number = omega (arith, before.next) in
    subst (λ (r : Option ℚ). IsRate r (c.loop-i.last.time, c.loop-i.last.amount) c.point-end.result) (sym (c.rate_at.ensures ∙ ap (slice_get c.args.rates.now) number))
    (rate_there c.args.inflow.now.points c.args.rates.now before.number _ c.point-end.result c.requires before.is
    (ap (slice_get c.args.inflow.now.points) (sym before.next) ∙ c.point-end.ensures))

pub returns-in_err-over-clause-list : goal.returns-in_err-over-clause-list
returns-in_err-over-clause-list c =
    let p = err_from_is_err_and c.from_residual-in_err-over.result c.from_residual-in_err-over.ensures.1 in
    rw (p.1, p.2) (stops passes_Q c.args.capacity.now Load c.loop-i.moments.waits.items c.loop-i.last c.args.inflow.now.points c.loop-i.i (suc c.loop-i.i) c.point-end.result _
    c.point-end.ensures refl c.loop-i.invariant.moments c.in_err-over.field-0.0 (sym c.in_err-over.ensures.list))

pub loop-i-preserved : goal.loop-i-preserved
loop-i-preserved c = record {
  moments =
      ap (λ (l : List Waits). with_front l (waits_after passes_Q c.args.capacity.now c.in_ok-over.over.end
      (drop (c.loop-i.i + 1) c.args.inflow.now.points))) c.in_ok-put.ensures.waits
      ∙ goes_on passes_Q c.args.capacity.now Load c.loop-i.moments.waits.items c.loop-i.last c.args.inflow.now.points c.loop-i.i (c.loop-i.i + 1) c.point-end.result _
      c.point-end.ensures (omega arith) c.loop-i.invariant.moments c.in_ok-over.over (sym c.in_ok-over.ensures.list);
  paces = paces_on c.args.capacity.now c.loop-i.moments.waits.items c.loop-i.moments.paces.items c.loop-i.last c.loop-i.invariant.paces _ _ c.in_ok-over.over
      c.in_ok-put.ensures.waits c.in_ok-put.ensures.paces c.in_ok-over.ensures.pace;
  later =
      later_next c.loop-i.last c.in_ok-over.over.end c.args.inflow.now.points c.loop-i.i (c.loop-i.i + 1) c.point-end.result c.point-end.ensures
      (omega arith) c.in_ok-over.ensures.end c.loop-i.invariant.later;
  before = record {
    number = c.loop-i.i;
    next = omega arith;
    is = c.point-end.ensures ∙ (λ j. Some (sym c.in_ok-over.ensures.end j, sym c.in_ok-over.ensures.amount j));
  };
}

pub returns-clause-list : goal.returns-clause-list
returns-clause-list c =
    let so_far : List Waits = c.loop-i.moments.waits.items in
    let past : length c.args.inflow.now.points ≤ c.loop-i.i = subst (λ (count : ℕ). count ≤ c.loop-i.i) c.len-count.ensures.count c.loop-i-test.false in
    ap (at_part Load) (sym c.loop-i.invariant.moments)
    ∙ ap (λ (l : List Point). at_part Load (with_front so_far (waits_after passes_Q c.args.capacity.now c.loop-i.last l))) (drop_all c.loop-i.i c.args.inflow.now.points past)
    ∙ ap Ok (append-nil so_far)

pub returns-clause-paces : goal.returns-clause-paces
returns-clause-paces c = linked_along (IsPaceIf c.args.capacity.now) c.loop-i.moments.waits.items c.loop-i.moments.paces.items c.loop-i.last c.loop-i.invariant.paces
