use Rattle.std.proofs.Common.{◌++◌, ◌∷◌, List, ℕ, ◌∙◌, ap}
use Rattle.nf_net.proofs.LinkLine.{link_line}
use Rattle.nf_net.proofs.printing.push_link.Goals as goal

pub returns : goal.returns
returns c =
    link_line c.args.out.now.items c.args.name.now c.args.tail.now c.args.head.now c.args.transit c.args.capacity _ _ _ _ _ _ _
    c.in_ok-push_bytes.ensures
    (c.in_ok-push_word.ensures ∙ ap (λ (w : List ℕ). c.push_bytes.new.text.items ++ 32 ∷ w) c.as_bytes.ensures.value)
    (c.in_ok-push_word-2.ensures ∙ ap (λ (w : List ℕ). c.push_word.new.text.items ++ 32 ∷ w) c.as_bytes-2.ensures.value)
    (c.in_ok-push_word-3.ensures ∙ ap (λ (w : List ℕ). c.push_word-2.new.text.items ++ 32 ∷ w) c.as_bytes-3.ensures.value)
    (c.in_ok-push_word-4.ensures ∙ ap (λ (w : List ℕ). c.push_word-3.new.text.items ++ 32 ∷ w) (c.text.ensures ∙ c.write.ensures.text))
    (c.in_ok-push_word-5.ensures ∙ ap (λ (w : List ℕ). c.push_word-4.new.text.items ++ 32 ∷ w) c.capacity_text-capacity.ensures)
    c.in_ok-push_bytes-2.ensures
