use Rattle.std.proofs.Common.{[], ◌∷◌, codes, refl, ◌∙◌}
use Rattle.nf_gen.proofs.Common.{upper, lower, link_from}
use Rattle.nf_gen.proofs.Written.{writes_more, renamed}
use Rattle.nf_gen.proofs.rails.push_last.Goals as goal

pub returns : goal.returns
returns c =
    let out = c.args.out.now.items in
    let middle = c.push_link.new.out.items in
    let new = c.push_link-2.new.out.items in
    let draws = c.args.draws.now in
    let between = c.push_link.new.draws in
    let after = c.push_link-2.new.draws in
    writes_more (link_from (codes "ut") (upper c.args.rungs) (codes "t") ∷ []) (link_from (codes "lt") (lower c.args.rungs) (codes "t") ∷ []) out middle new draws between after
    (renamed (codes "ut") (codes "ut") c.deref.result.now (upper c.args.rungs) (codes "t") (codes "t") out middle draws between refl (c.deref.ensures.value ∙ c.in_ok-above.ensures) refl c.in_ok-push_link.ensures)
    (renamed (codes "lt") (codes "lt") c.deref-2.result.now (lower c.args.rungs) (codes "t") (codes "t") middle new between after refl (c.deref-2.ensures.value ∙ c.in_ok-below.ensures) refl c.in_ok-push_link-2.ensures)
