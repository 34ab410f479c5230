use Rattle.std.proofs.Common.{◌∙◌}
use Rattle.nf_gen.proofs.Written.{renamed}
use Rattle.nf_gen.proofs.rails.push_rung.Goals as goal

pub returns : goal.returns
returns c =
    renamed _ _ _ _ _ _ c.args.out.now.items c.push_link.new.out.items c.args.draws.now c.push_link.new.draws (c.deref.ensures.value ∙ c.in_ok-name.ensures)
    (c.deref-2.ensures.value ∙ c.in_ok-above.ensures) (c.deref-3.ensures.value ∙ c.in_ok-below.ensures) c.in_ok-push_link.ensures
