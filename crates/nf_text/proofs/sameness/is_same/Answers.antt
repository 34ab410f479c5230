use Rattle.std.proofs.Common.{◌≡◌, ℕ, ◌+◌, ◌<◌, List, ◌∷◌, length, get_or, drop, sym, ap, ◌∙◌, ◌&&◌}
use Rattle.nf_text.proofs.Common.{eq-eqb, drop_more, bytes_eq}
use Rattle.nf_text.proofs.sameness.is_same.Goals as goal

-- a byte that both have in one place makes no difference
bytes_eq_past : (left right : List ℕ) (place : ℕ) → place < length left → length left ≡ length right → get_or left place 0 ≡ get_or right place 0
    → bytes_eq (drop place left) (drop place right) ≡ bytes_eq (drop (place + 1) left) (drop (place + 1) right)
bytes_eq_past left right place h e same =
    ap (λ l. bytes_eq l (drop place right)) (drop_more left place 0 h) ∙ ap (bytes_eq (get_or left place 0 ∷ drop (place + 1) left)) (drop_more right place 0 (rw (sym e) h))
    ∙ ap (λ b. b && bytes_eq (drop (place + 1) left) (drop (place + 1) right)) (eq-eqb (get_or left place 0) (get_or right place 0) same)

pub loop-place-preserved : goal.loop-place-preserved
loop-place-preserved c =
    c.loop-place.invariant ∙ bytes_eq_past c.args.left.now c.args.right.now c.loop-place.place c.loop-place-test.true c.if-left-right.false c.if-byte-right.false
