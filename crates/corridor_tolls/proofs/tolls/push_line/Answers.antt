use Rattle.std.proofs.Common.{◌++◌, List, ℕ, ◌∙◌, ap}
use Rattle.corridor_tolls.proofs.TollLines.{line_pushed}
use Rattle.corridor_tolls.proofs.tolls.push_line.Goals as goal

pub returns : goal.returns
returns c =
    line_pushed c.args.out.now.items c.args.name.now c.args.time c.args.toll _ _ _ _ _ _ _
    c.in_ok-push.ensures
    (c.in_ok-push-2.ensures ∙ ap (λ (w : List ℕ). c.push.new.out.items ++ w) c.as_bytes.ensures.value)
    c.in_ok-push-3.ensures
    (c.in_ok-push-4.ensures ∙ ap (λ (w : List ℕ). c.push-3.new.out.items ++ w) (c.text.ensures ∙ c.write.ensures.text))
    c.in_ok-push-5.ensures
    (c.in_ok-push-6.ensures ∙ ap (λ (w : List ℕ). c.push-5.new.out.items ++ w) (c.text-2.ensures ∙ c.write-2.ensures.text))
    c.in_ok-push-7.ensures
