use Rattle.std.proofs.Common.{◌≡◌, refl, sym, ap, subst, ◌∙◌}
use Rattle.nf_pattern.proofs.Common.{Pattern, Given, IsNext, UpTo, next_place}
use Rattle.nf_pattern.proofs.Seeking.{current_is}
use Rattle.nf_pattern.proofs.patterns.Patterns.next.Goals as goal

pub returns-then-step : goal.returns-then-step
returns-then-step c =
    let told = c.if-step.ensures in
    let same : c.self.inside.current ≡ told.0 = current_is c.self.inside.stand c.self.inside.current told.0 (ap (λ (g : Given). g.last) (c.self.view_is ∙ told.1.1)) in (
      (
        refl,
        (λ _. tt),
        (
          subst (λ (p : Pattern). IsNext c.args.self.now.question c.args.self.now.last p) (sym same) told.1.0,
          c.self.view_is ∙ (told.1.1 ∙ ap (λ (p : Pattern). record { question = c.args.self.now.question; last = UpTo p; place = next_place c.args.self.now.place }) (sym same)),
        ),
      ),
      tt,
    )
