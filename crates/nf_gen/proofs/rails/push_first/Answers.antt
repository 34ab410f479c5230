use Rattle.std.proofs.Common.{[], ◌∷◌, codes, refl, ◌∙◌}
use Rattle.nf_gen.proofs.Common.{upper, lower, link_from}
use Rattle.nf_gen.proofs.Written.{writes_more, renamed}
use Rattle.nf_gen.proofs.rails.push_first.Goals as goal

pub returns : goal.returns
returns c =
    writes_more (link_from (codes "su") (codes "s") (upper 1) ∷ []) (link_from (codes "sl") (codes "s") (lower 1) ∷ []) _ _ _ _ _ _
    (renamed _ _ _ _ _ _ _ _ _ _ refl refl (c.deref.ensures.value ∙ c.in_ok-above.ensures) c.in_ok-push_link.ensures)
    (renamed _ _ _ _ _ _ _ _ _ _ refl refl (c.deref-2.ensures.value ∙ c.in_ok-below.ensures) c.in_ok-push_link-2.ensures)
