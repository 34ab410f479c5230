use Rattle.std.proofs.Common.{◌≡◌, ℕ, ◌+◌, ◌<◌, List, length, set, refl, sym, ap, subst, ◌∙◌, Result, Ok, Err}
use Rattle.nf_quick_walks.proofs.Common.{ℚ, Difference, passes_Q, at_part, checked, ◌>>=◌, number_at, take_link, FoldsOn, all_at, fold_all, fold_stops}
use Rattle.nf_quick_walks.proofs.Common.{fold_more}
use Rattle.std.proofs.Math.ListN.{length-set}
use Rattle.nf_frac_def.specs.declared.Passed.{Passed}
use Rattle.nf_frac_def.specs.declared.Part.TheVariants as Part
use Rattle.nf_quick_walks.proofs.walks.take.Goals as goal

pub loop-link-init : goal.loop-link-init
loop-link-init c = record { folds = record { same = refl }; count = refl }

pub flow_at-before-requires : goal.flow_at-before-requires
flow_at-before-requires c =
    let inside : c.link-item.result < length c.loop-link.flows.items = subst (λ (n : ℕ). c.link-item.result < n) (sym c.loop-link.invariant.count)
    (all_at (λ e. e < length c.args.flows.now.items) c.args.way.now c.loop-link.link-index c.link-item.result c.requires c.loop-link-test.true c.link-item.is) in
    subst (λ (l : List ℚ). c.link-item.result < length l) (sym c.deref.ensures.value) inside

pub returns-in-loop-link-clause-count : goal.returns-in-loop-link-clause-count
returns-in-loop-link-clause-count c = c.loop-link.invariant.count

pub put_flow-requires : goal.put_flow-requires
put_flow-requires c =
    subst (λ (n : ℕ). c.link-item.result < n) (sym c.loop-link.invariant.count)
    (all_at (λ e. e < length c.args.flows.now.items) c.args.way.now c.loop-link.link-index c.link-item.result c.requires c.loop-link-test.true c.link-item.is)

pub returns-clause-list : goal.returns-clause-list
returns-clause-list c =
    ap (at_part Part.Quick) (sym (fold_all (take_link passes_Q c.args.rate) c.args.way.now c.args.flows.now.items c.loop-link.flows.items
    c.loop-link.link-index c.loop-link.invariant.folds c.loop-link-test.false))

pub returns-clause-count : goal.returns-clause-count
returns-clause-count c = c.loop-link.invariant.count

pub returns-in-loop-link-clause-list : goal.returns-in-loop-link-clause-list
returns-in-loop-link-clause-list c =
    let flows : List ℚ = c.loop-link.flows.items in
    let link : ℕ = c.link-item.result in
    let before : c.flow_at-before.result ≡ number_at flows link = c.flow_at-before.ensures ∙ ap (λ (l : List ℚ). number_at l link) c.deref.ensures.value in
    let passes : checked passes_Q Difference c.flow_at-before.result c.args.rate ≡ Err c.in-Err-at.field-0 = sym c.difference.ensures ∙ c.in-Err-at.is in
    fold_stops (take_link passes_Q c.args.rate) c.args.way.now c.args.flows.now.items flows c.loop-link.link-index c.loop-link.invariant.folds link
    c.loop-link-test.true c.link-item.is c.at-from.result
    (ap Err c.at-from.ensures ∙ sym (ap (λ (x : ℚ). at_part Part.Quick (checked passes_Q Difference x c.args.rate >>= λ left. Ok (set flows link left))) (sym before)
    ∙ ap (λ (r : Result ℚ (Passed ℚ)). at_part Part.Quick (r >>= λ left. Ok (set flows link left))) passes))

pub loop-link-preserved : goal.loop-link-preserved
loop-link-preserved c =
    let flows : List ℚ = c.loop-link.flows.items in
    let link : ℕ = c.link-item.result in
    let before : c.flow_at-before.result ≡ number_at flows link = c.flow_at-before.ensures ∙ ap (λ (l : List ℚ). number_at l link) c.deref.ensures.value in
    let fits : checked passes_Q Difference c.flow_at-before.result c.args.rate ≡ Ok c.in-Ok-at.field-0 = cc in
    record {
      folds = subst (λ (l : List ℚ). FoldsOn (take_link passes_Q c.args.rate) c.args.way.now c.args.flows.now.items l (c.loop-link.link-index + 1)) (sym c.put_flow.ensures)
          (fold_more (take_link passes_Q c.args.rate) c.args.way.now c.args.flows.now.items flows c.loop-link.link-index c.loop-link.invariant.folds link
          c.loop-link-test.true c.link-item.is (set flows link c.in-Ok-at.field-0)
          (sym (ap (λ (x : ℚ). at_part Part.Quick (checked passes_Q Difference x c.args.rate >>= λ left. Ok (set flows link left))) (sym before)
          ∙ ap (λ (r : Result ℚ (Passed ℚ)). at_part Part.Quick (r >>= λ left. Ok (set flows link left))) fits)));
      count = ap (length {A = ℚ}) c.put_flow.ensures ∙ length-set flows link c.in-Ok-at.field-0 ∙ c.loop-link.invariant.count;
    }
