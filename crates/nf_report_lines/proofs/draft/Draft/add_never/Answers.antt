use Rattle.std.proofs.Common.{◌≡◌, ℕ, ◌+◌, [], ◌∷◌, length, None, sym, ap, subst, ◌∙◌, arith, length-append, length-drop}
use Rattle.nf_report_lines.proofs.Common.{IfOk-from_err, curve_keys, key_of, OfNever, key_at, begun_count}
use Rattle.nf_report_lines.proofs.DraftSteps.{never_is, within_by, never_some, never_at, idle_passed}
use Rattle.nf_report_lines.proofs.draft.Draft.add_never.Goals as goal

pub returns-in_err-close-clause-draft : goal.returns-in_err-close-clause-draft
returns-in_err-close-clause-draft c = λ n within fits. IfOk-from_err c.from_residual.result _ c.from_residual.ensures.0

pub returns-in_err-close-clause-within : goal.returns-in_err-close-clause-within
returns-in_err-close-clause-within c = λ n within fits. IfOk-from_err c.from_residual.result _ c.from_residual.ensures.0

pub returns-in_err-push-clause-draft : goal.returns-in_err-push-clause-draft
returns-in_err-push-clause-draft c = λ n within fits. IfOk-from_err c.from_residual-in_err-push.result _ c.from_residual-in_err-push.ensures.0

pub returns-in_err-push-clause-within : goal.returns-in_err-push-clause-within
returns-in_err-push-clause-within c = λ n within fits. IfOk-from_err c.from_residual-in_err-push.result _ c.from_residual-in_err-push.ensures.0

pub returns-clause-draft : goal.returns-clause-draft
returns-clause-draft c = λ n within fits.
    never_is n c.args.self.now c.close.new.self (c.in_ok-close.ensures.draft n) c.in_ok-close.ensures.shut c.in_ok-close.ensures.count
    (let many = length-drop (begun_count c.args.self.now) (curve_keys n) in
    let some = never_some _ fits in omega (arith, some, many))
    c.push.new.self.items c.in_ok-push.ensures.items

pub returns-clause-within : goal.returns-clause-within
returns-clause-within c = λ n within fits.
    let many = length-drop (begun_count c.args.self.now) (curve_keys n) in
    let some = never_some _ fits in
    let here : (key_at n (begun_count c.args.self.now)).kind ≡ OfNever = never_at (curve_keys n) (begun_count c.args.self.now) (key_of OfNever []) fits in
    within_by n _ (begun_count c.args.self.now + 1) c.in_ok-close.ensures.shut
    (ap length c.in_ok-push.ensures.items ∙ length-append c.close.new.self.done.items (None ∷ []) ∙ ap (λ k. k + 1) c.in_ok-close.ensures.count)
    (omega (arith, some, many))
    (idle_passed n c.close.new.self.done.items c.push.new.self.items c.in_ok-push.ensures.items
    (subst (λ (k : ℕ). (key_at n k).kind ≡ OfNever) (sym c.in_ok-close.ensures.count) here)
    (c.in_ok-close.ensures.idle n within.idle))
    (ap length c.close.ensures.states ∙ within.states)
