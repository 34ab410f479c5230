use Rattle.std.proofs.Common.{◌≡◌, ◌<◌, ℕ, length, refl, sym, ap, subst, ◌∙◌, Option, Some, slice_get}
use Rattle.nf_phase.proofs.Common.{slice_get_read, State}
use Rattle.nf_phase.proofs.Opened.{apart_by, apart_with_state}
use Rattle.nf_phase.proofs.open_runs.is_apart.Goals as goal

pub returns-in-Some : goal.returns-in-Some
returns-in-Some c = apart_with_state c.args.slacks.now c.args.last.now c.args.link c.in-Some.field-0 (c.state.ensures ∙ ap (λ (o : Option State). Some o) c.in-Some.is)

pub returns-in-None : goal.returns-in-None
returns-in-None c =
    let inside : c.index.result < length c.args.slacks.now = subst (λ (i : ℕ). i < length c.args.slacks.now) (sym c.index.ensures) c.requires.slacks in
    let here = slice_get_read c.args.slacks.now _ c.index.result c.index-slacks-index.result refl inside c.index-slacks-index.is in
    apart_by c.args.slacks.now c.args.last.now c.args.link c.index-slacks-index.result c.is_zero.result
    (subst (λ (i : ℕ). slice_get c.args.slacks.now i ≡ Some c.index-slacks-index.result) c.index.ensures here)
    c.is_zero.ensures.zero (c.state.ensures ∙ ap (λ (o : Option State). Some o) c.in-None.is)
