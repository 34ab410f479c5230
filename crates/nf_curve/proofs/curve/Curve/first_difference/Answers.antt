use Rattle.std.proofs.Common.{◌≡◌, Some, sym, ap, subst, ◌∙◌, Option, None, Result, Ok, option_map}
use Rattle.nf_curve.proofs.Common.{ℚ, passes_Q, PassedAt, at_part, checked_difference, sides_of}
use Rattle.nf_curve_def.specs.Lines as lists
use Rattle.nf_curve_def.specs.Meanings.{DifferFirst}
use Rattle.nf_curve_laws.proofs.Differences.{checked_difference-is}
use Rattle.nf_curve.specs.declared.lines.Sides.{Sides}
use Rattle.nf_curve.proofs.Exits.{was_ok}
use Rattle.nf_curve.proofs.Points.{points_seen, curve_seen}
use Rattle.nf_curve.proofs.curve.Curve.first_difference.Goals as goal

pub returns-in-Some-clause-difference : goal.returns-in-Some-clause-difference
returns-in-Some-clause-difference c =
    let left = curve_seen _ _ _ c.left.invariant c.left.view_is in
    let right = curve_seen _ _ _ c.right.invariant c.right.view_is in
    let l : c.deref.result.now ≡ c.args.left.now.points = points_seen _ _ _ _ c.deref.ensures.value c.left.view_is in
    let r : c.deref-2.result.now ≡ c.args.right.now.points = points_seen _ _ _ _ c.deref-2.ensures.value c.right.view_is in
    let e : ◌≡◌ {A = Result (Option lists.Sides) (PassedAt ℚ)} (Ok (option_map sides_of c.in_ok-sides.field-0))
    (at_part c.args.part (checked_difference passes_Q c.args.left.now.points c.args.right.now.points c.args.until)) =
    rw (l, r) at c.in_ok-sides.ensures in
    subst (λ (s : lists.Sides). DifferFirst c.args.left.now.points c.args.right.now.points c.args.until s) (sym c.of.ensures)
    (checked_difference-is passes_Q c.args.left.now.points c.args.right.now.points left right c.args.until c.requires (Some (sides_of c.in-Some.sides))
    (was_ok c.args.part (checked_difference passes_Q c.args.left.now.points c.args.right.now.points c.args.until) (Some (sides_of c.in-Some.sides))
    (sym e ∙ ap (λ (o : Option Sides). Ok (option_map sides_of o)) c.in-Some.is)))

pub returns-in-None-clause-difference : goal.returns-in-None-clause-difference
returns-in-None-clause-difference c =
    let left = curve_seen _ _ _ c.left.invariant c.left.view_is in
    let right = curve_seen _ _ _ c.right.invariant c.right.view_is in
    let l : c.deref.result.now ≡ c.args.left.now.points = points_seen _ _ _ _ c.deref.ensures.value c.left.view_is in
    let r : c.deref-2.result.now ≡ c.args.right.now.points = points_seen _ _ _ _ c.deref-2.ensures.value c.right.view_is in
    let e : ◌≡◌ {A = Result (Option lists.Sides) (PassedAt ℚ)} (Ok (option_map sides_of c.in_ok-sides.field-0))
    (at_part c.args.part (checked_difference passes_Q c.args.left.now.points c.args.right.now.points c.args.until)) =
    rw (l, r) at c.in_ok-sides.ensures in
    checked_difference-is passes_Q c.args.left.now.points c.args.right.now.points left right c.args.until c.requires None
    (was_ok c.args.part (checked_difference passes_Q c.args.left.now.points c.args.right.now.points c.args.until) None
    (sym e ∙ ap (λ (o : Option Sides). Ok (option_map sides_of o)) c.in-None.is))
