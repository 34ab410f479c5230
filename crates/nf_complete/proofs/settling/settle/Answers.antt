use Rattle.std.proofs.Common.{◌∙◌, List, length, Vec, Global, ap, subst, arith}
use Rattle.nf_complete.proofs.Common.{IfOk-from_err, err_from_is_err_and, ℚ, passes_Q, fulls_list, Settles, IsSettledPattern, few_links, fulls_count}
use Rattle.nf_complete.specs.declared.settled.Settled.{Settled}
use Rattle.nf_complete.proofs.GoodSets.{good_sets}
use Rattle.nf_complete.proofs.CancelsOn.{halts_of, settles_stop, settles_on, fulls_read, with_fulls, settled_by, settled_listed, settled_solution}
use Rattle.nf_complete.proofs.settling.settle.Goals as goal

pub fulls-requires-clause-sets : goal.fulls-requires-clause-sets
fulls-requires-clause-sets c = c.requires.sets.sets_are.count

pub fulls-requires-clause-slopes : goal.fulls-requires-clause-slopes
fulls-requires-clause-slopes c = c.requires.thin.slope_count

pub cancelled-requires-clause-sets : goal.cancelled-requires-clause-sets
cancelled-requires-clause-sets c = good_sets c.args.net.now c.args.sets.now c.recall.ensures c.requires.sets

pub cancelled-requires-clause-thin : goal.cancelled-requires-clause-thin
cancelled-requires-clause-thin c = (
  c.args.slopes.now,
  with_fulls passes_Q c.args.net.now.net c.args.sets.now c.args.rate c.args.flows.now c.args.slopes.now c.requires.thin c.in_ok-fulls.fulls.items
      c.deref.result.now c.in_ok-fulls.ensures c.deref.ensures.value,
)

pub settled_pattern-requires-clause-sets : goal.settled_pattern-requires-clause-sets
settled_pattern-requires-clause-sets c = c.requires.sets.sets_are.count

pub settled_pattern-requires-clause-slopes : goal.settled_pattern-requires-clause-slopes
settled_pattern-requires-clause-slopes c = c.requires.thin.slope_count

pub settled_pattern-requires-clause-fulls : goal.settled_pattern-requires-clause-fulls
settled_pattern-requires-clause-fulls c =
    fulls_read passes_Q c.args.net.now.net c.args.sets.now c.args.slopes.now c.in_ok-fulls.fulls.items c.deref-2.result.now c.in_ok-fulls.ensures c.deref-2.ensures.value

pub returns-in_err-fulls-clause-pattern : goal.returns-in_err-fulls-clause-pattern
returns-in_err-fulls-clause-pattern c = IfOk-from_err c.from_residual.result _ c.from_residual.ensures.0

pub returns-in_err-fulls-clause-thin : goal.returns-in_err-fulls-clause-thin
returns-in_err-fulls-clause-thin c = IfOk-from_err c.from_residual.result _ c.from_residual.ensures.0

pub returns-in_err-fulls-clause-listed : goal.returns-in_err-fulls-clause-listed
returns-in_err-fulls-clause-listed c = IfOk-from_err c.from_residual.result _ c.from_residual.ensures.0

pub returns-in_err-fulls-clause-solution : goal.returns-in_err-fulls-clause-solution
returns-in_err-fulls-clause-solution c = IfOk-from_err c.from_residual.result _ c.from_residual.ensures.0

pub returns-in_err-flows-clause-pattern : goal.returns-in_err-flows-clause-pattern
returns-in_err-flows-clause-pattern c = IfOk-from_err c.from_residual-in_err-flows.result _ c.from_residual-in_err-flows.ensures.0

pub returns-in_err-flows-clause-thin : goal.returns-in_err-flows-clause-thin
returns-in_err-flows-clause-thin c = IfOk-from_err c.from_residual-in_err-flows.result _ c.from_residual-in_err-flows.ensures.0

pub returns-in_err-flows-clause-listed : goal.returns-in_err-flows-clause-listed
returns-in_err-flows-clause-listed c = IfOk-from_err c.from_residual-in_err-flows.result _ c.from_residual-in_err-flows.ensures.0

pub returns-in_err-flows-clause-solution : goal.returns-in_err-flows-clause-solution
returns-in_err-flows-clause-solution c = IfOk-from_err c.from_residual-in_err-flows.result _ c.from_residual-in_err-flows.ensures.0

pub returns-in_err-pattern-clause-pattern : goal.returns-in_err-pattern-clause-pattern
returns-in_err-pattern-clause-pattern c = IfOk-from_err c.from_residual-in_err-pattern.result _ c.from_residual-in_err-pattern.ensures.0

pub returns-in_err-pattern-clause-thin : goal.returns-in_err-pattern-clause-thin
returns-in_err-pattern-clause-thin c = IfOk-from_err c.from_residual-in_err-pattern.result _ c.from_residual-in_err-pattern.ensures.0

pub returns-in_err-pattern-clause-listed : goal.returns-in_err-pattern-clause-listed
returns-in_err-pattern-clause-listed c = IfOk-from_err c.from_residual-in_err-pattern.result _ c.from_residual-in_err-pattern.ensures.0

pub returns-in_err-pattern-clause-solution : goal.returns-in_err-pattern-clause-solution
returns-in_err-pattern-clause-solution c = IfOk-from_err c.from_residual-in_err-pattern.result _ c.from_residual-in_err-pattern.ensures.0

pub returns-in_err-fulls-clause-list : goal.returns-in_err-fulls-clause-list
returns-in_err-fulls-clause-list c =
    let p = err_from_is_err_and c.from_residual.result c.from_residual.ensures.1 in
    rw (p.1, p.2) (halts_of (Settles passes_Q c.args.net.now.net c.args.sets.now c.args.slopes.now c.args.flows.now) (λ (s : Settled). s.flows.items)
    (fulls_list passes_Q c.args.net.now.net c.args.sets.now c.args.slopes.now) c.in_err-fulls.field-0.0
    (λ q e. settles_stop passes_Q c.args.net.now.net c.args.sets.now c.args.slopes.now c.args.flows.now q e) c.in_err-fulls.ensures)

pub returns-in_err-flows-clause-list : goal.returns-in_err-flows-clause-list
returns-in_err-flows-clause-list c =
    let p = err_from_is_err_and c.from_residual-in_err-flows.result c.from_residual-in_err-flows.ensures.1 in
    rw (p.1, p.2) (settles_on passes_Q c.args.net.now.net c.args.sets.now c.args.slopes.now c.args.flows.now (λ (v : Vec ℚ Global). v.items) c.deref.result.now
    (fulls_read passes_Q c.args.net.now.net c.args.sets.now c.args.slopes.now c.in_ok-fulls.fulls.items c.deref.result.now c.in_ok-fulls.ensures c.deref.ensures.value)
    c.in_err-flows.field-0.0 (c.in_err-flows.ensures c.args.slopes.now (with_fulls passes_Q c.args.net.now.net c.args.sets.now c.args.rate c.args.flows.now
    c.args.slopes.now c.requires.thin c.in_ok-fulls.fulls.items c.deref.result.now
    c.in_ok-fulls.ensures c.deref.ensures.value)) (λ (s : Settled). s.flows.items))

pub cancelled-requires-clause-fewer : goal.cancelled-requires-clause-fewer
cancelled-requires-clause-fewer c =
    let read = fulls_read passes_Q c.args.net.now.net c.args.sets.now c.args.slopes.now c.in_ok-fulls.fulls.items c.deref.result.now c.in_ok-fulls.ensures c.deref.ensures.value in
    omega (arith, fulls_count passes_Q c.args.net.now.net c.args.sets.now c.args.slopes.now c.deref.result.now read, few_links c.args.net.now c.recall.ensures)

pub settled_pattern-requires-clause-flows : goal.settled_pattern-requires-clause-flows
settled_pattern-requires-clause-flows c =
    let s = settled_by passes_Q c.args.net.now.net c.args.sets.now c.args.rate c.args.flows.now c.args.slopes.now
    (good_sets c.args.net.now c.args.sets.now c.recall.ensures c.requires.sets) c.requires.thin c.in_ok-fulls.fulls.items c.deref.result.now
    c.in_ok-fulls.ensures
    c.deref.ensures.value c.in_ok-flows.flows.items c.in_ok-flows.ensures in
    ap length c.deref-3.ensures.value ∙ s.thin.flow_count

pub returns-clause-list : goal.returns-clause-list
returns-clause-list c =
    (settled_by passes_Q c.args.net.now.net c.args.sets.now c.args.rate c.args.flows.now c.args.slopes.now
    (good_sets c.args.net.now c.args.sets.now c.recall.ensures c.requires.sets) c.requires.thin c.in_ok-fulls.fulls.items c.deref.result.now
    c.in_ok-fulls.ensures
    c.deref.ensures.value c.in_ok-flows.flows.items c.in_ok-flows.ensures).settles_it

pub returns-clause-thin : goal.returns-clause-thin
returns-clause-thin c =
    (settled_by passes_Q c.args.net.now.net c.args.sets.now c.args.rate c.args.flows.now c.args.slopes.now
    (good_sets c.args.net.now c.args.sets.now c.recall.ensures c.requires.sets) c.requires.thin c.in_ok-fulls.fulls.items c.deref.result.now
    c.in_ok-fulls.ensures
    c.deref.ensures.value c.in_ok-flows.flows.items c.in_ok-flows.ensures).thin

pub returns-clause-pattern : goal.returns-clause-pattern
returns-clause-pattern c =
    subst (λ (f : List ℚ). IsSettledPattern c.args.net.now.net c.args.sets.now f c.args.slopes.now c.in_ok-pattern.pattern) c.deref-3.ensures.value
    c.in_ok-pattern.ensures

pub returns-clause-listed : goal.returns-clause-listed
returns-clause-listed c =
    let s = settled_by passes_Q c.args.net.now.net c.args.sets.now c.args.rate c.args.flows.now c.args.slopes.now
    (good_sets c.args.net.now c.args.sets.now c.recall.ensures c.requires.sets) c.requires.thin c.in_ok-fulls.fulls.items c.deref.result.now
    c.in_ok-fulls.ensures
    c.deref.ensures.value c.in_ok-flows.flows.items c.in_ok-flows.ensures in
    settled_listed passes_Q c.args.net.now.net c.args.sets.now c.args.rate c.args.flows.now c.args.slopes.now c.in_ok-flows.flows.items
    (good_sets c.args.net.now c.args.sets.now c.recall.ensures c.requires.sets) c.requires.rate s c.in_ok-pattern.pattern
    c.deref-3.result.now c.deref-3.ensures.value c.in_ok-pattern.ensures

pub returns-clause-solution : goal.returns-clause-solution
returns-clause-solution c =
    let s = settled_by passes_Q c.args.net.now.net c.args.sets.now c.args.rate c.args.flows.now c.args.slopes.now
    (good_sets c.args.net.now c.args.sets.now c.recall.ensures c.requires.sets) c.requires.thin c.in_ok-fulls.fulls.items c.deref.result.now
    c.in_ok-fulls.ensures
    c.deref.ensures.value c.in_ok-flows.flows.items c.in_ok-flows.ensures in
    settled_solution passes_Q c.args.net.now.net c.args.sets.now c.args.rate c.args.flows.now c.args.slopes.now c.in_ok-flows.flows.items
    (good_sets c.args.net.now c.args.sets.now c.recall.ensures c.requires.sets) c.requires.rate s c.in_ok-pattern.pattern
    c.deref-3.result.now c.deref-3.ensures.value c.in_ok-pattern.ensures
