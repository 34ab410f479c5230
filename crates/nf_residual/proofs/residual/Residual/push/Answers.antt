use Rattle.std.proofs.Common.{◌≡◌, List, length, Vec, Global, sym, ap, subst, ◌∙◌, Ok}
use Rattle.nf_residual.proofs.Common.{err_from_is_err_and, at_part, fold_checked, push_step, ℚ, passes_Q, Walk}
use Rattle.nf_frac_def.specs.declared.Part.TheVariants as Part
use Rattle.nf_residual.proofs.Fits.{fits, pushed_sound}
use Rattle.nf_residual.proofs.residual.Residual.push.Goals as goal

pub move_along-requires : goal.move_along-requires
move_along-requires c = fits c.args.net.now.net c.args.self.now c.args.walk.now c.deref-2.result.now (length c.copy_from_slice.new.self.items) c.requires.sound c.requires.walk
    (c.deref-2.ensures.value ∙ ap (λ (w : Walk). w.steps) c.walk.view_is)
    (ap (λ (l : List ℚ). length l) (c.copy_from_slice.ensures.items ∙ c.deref.ensures.value ∙ c.self.view_is))

pub returns-in_err-move_along-clause-as_it_was : goal.returns-in_err-move_along-clause-as_it_was
returns-in_err-move_along-clause-as_it_was c =
    let p = err_from_is_err_and c.from_residual.result c.from_residual.ensures.1 in
    rw p.1 c.self.view_is

pub returns-in_err-move_along-clause-sound : goal.returns-in_err-move_along-clause-sound
returns-in_err-move_along-clause-sound c =
    let p = err_from_is_err_and c.from_residual.result c.from_residual.ensures.1 in
    rw p.1 tt

pub returns-clause-sound : goal.returns-clause-sound
returns-clause-sound c = pushed_sound passes_Q c.args.net.now.net c.args.self.now c.swap.new.x.items c.copy_from_slice.new.self.items c.args.walk.now c.deref-2.result.now c.args.amount
    c.recall.ensures.network c.requires.sound c.requires.walk c.requires.some c.requires.room
    (c.copy_from_slice.ensures.items ∙ c.deref.ensures.value ∙ c.self.view_is)
    (c.deref-2.ensures.value ∙ ap (λ (w : Walk). w.steps) c.walk.view_is)
    (subst (λ (l : List ℚ). Ok l ≡ at_part Part.Quick (fold_checked (push_step passes_Q c.args.amount) c.copy_from_slice.new.self.items
    c.deref-2.result.now)) (ap (λ (v : Vec ℚ Global). v.items) (sym c.swap.ensures.x_after)) c.in_ok-move_along.ensures.moved)

pub invariant_of-self : goal.invariant_of-self
invariant_of-self c =
    let moved = c.in_err-move_along.ensures {u = tt} in
    moved.count ∙ ap (length {A = ℚ}) (c.copy_from_slice.ensures.items ∙ c.deref.ensures.value)

pub invariant_of-self-2 : goal.invariant_of-self-2
invariant_of-self-2 c =
    let moved = c.in_ok-move_along.ensures {u = tt} in
    ap (λ (v : Vec ℚ Global). length v.items) c.swap.ensures.y_after
    ∙ sym (moved.count ∙ ap (length {A = ℚ}) (c.copy_from_slice.ensures.items ∙ c.deref.ensures.value))
    ∙ sym (ap (λ (v : Vec ℚ Global). length v.items) c.swap.ensures.x_after)
