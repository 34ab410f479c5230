use Rattle.std.proofs.Common.{Bool, Option, Some, inl, inr, ap, ◌∙◌}
use Rattle.nf_thin_one.proofs.Common.{false≢true, State}
use Rattle.nf_thin_one.proofs.led.may_carry.Goals as goal

pub returns-in-Some-Tight : goal.returns-in-Some-Tight
returns-in-Some-Tight c = λ _. inr (inl (c.state.ensures ∙ (ap (λ (s : Option State). Some s) c.in-Some-Tight.is ∙ ap (λ (s : State). Some (Some s)) c.in-Some-Tight.field-0-is)))

pub returns-in-Some-Full : goal.returns-in-Some-Full
returns-in-Some-Full c = λ _. inr (inr (c.state.ensures ∙ (ap (λ (s : Option State). Some s) c.in-Some-Full.is ∙ ap (λ (s : State). Some (Some s)) c.in-Some-Full.field-0-is)))

pub returns-then-resetting : goal.returns-then-resetting
returns-then-resetting c = λ _. inl (c.resetting.ensures.flag ∙ ap (λ (b : Bool). Some b) c.if-resetting.true)

pub returns-in_default : goal.returns-in_default
returns-in_default c = λ f. absurd (false≢true f)
