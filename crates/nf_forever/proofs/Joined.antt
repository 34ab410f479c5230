-- Lists of lines, concatenated in another grouping.
use Rattle.std.proofs.Common.{◌≡◌, List, ◌++◌, ap, ◌∙◌, append_assoc}
use Rattle.nf_forever.proofs.Common.{right_first}

-- Two parts, of which the second has three parts.
pub one_by_one : {A : Type 0} (head flow states tail end : List A) → head ++ flow ++ (states ++ tail ++ end) ≡ head ++ (flow ++ states ++ tail ++ end)
one_by_one {A} head flow states tail end =
    append_assoc head flow (states ++ tail ++ end)
    ∙ ap (λ (l : List A). head ++ l) (right_first flow (states ++ tail) end ∙ ap (λ (l : List A). l ++ end) (right_first flow states tail))
