use Rattle.std.proofs.Common.{IfSome, subst}
use Rattle.nf_frac_def.specs.Passing.{passes_Q}
use Rattle.nf_thin_one.specs.Trying.{AreValuesOf}
use Rattle.nf_thin_guess.proofs.guessing.solved_pattern.Goals as goal

pub returns-in-Some : goal.returns-in-Some
returns-in-Some c = record {
  pattern_in = c.requires;
  values_are =
      subst (λ found. IfSome found (λ values. AreValuesOf passes_Q c.args.net.now.net c.args.sets.now c.args.rate c.args.pattern values.items)) c.in-Some.is
      c.in_ok-values.ensures;
}
