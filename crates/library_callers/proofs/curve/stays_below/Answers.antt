use Rattle.std.proofs.Common.{subst}
use Rattle.std.specs.Prelude.{option_map, Option}
use Rattle.nf_curve_def.specs.Meanings.{IsDifference}
use Rattle.nf_curve.specs.declared.curve.Difference.{Difference}
use Rattle.nf_curve.specs.Differences.{difference_of}
use Rattle.library_callers.proofs.Curves.{below, not_below}
use Rattle.library_callers.proofs.curve.stays_below.Goals as goal

pub returns-in-Some : goal.returns-in-Some
returns-in-Some c =
    not_below c.args.lower.now.points c.args.upper.now.points c.in_ok-least.least.points c.args.until (difference_of c.in-Some.field-0) c.requires c.in_ok-least.ensures.least
    (subst (λ (d : Option Difference). IsDifference c.in_ok-least.least.points c.args.lower.now.points c.args.until (option_map difference_of d))
    c.in-Some.is c.in_ok-first_difference.ensures.difference)

pub returns : goal.returns
returns c =
    below c.args.lower.now.points c.args.upper.now.points c.in_ok-least.least.points c.args.until c.in_ok-least.ensures.least
    (subst (λ (d : Option Difference). IsDifference c.in_ok-least.least.points c.args.lower.now.points c.args.until (option_map difference_of d))
    c.in-None.is c.in_ok-first_difference.ensures.difference)
