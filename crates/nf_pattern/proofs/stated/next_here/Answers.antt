use Rattle.std.proofs.Common.{None, ap, sym, ◌∙◌, arith, Option, Some}
use Rattle.nf_pattern.proofs.Common.{slice_get-get_or, State}
use Rattle.nf_pattern.proofs.Filling.{no_state}
use Rattle.nf_pattern.proofs.Stating.{next_more}
use Rattle.nf_pattern.proofs.stated.next_here.Goals as goal

pub returns-then-is_some : goal.returns-then-is_some
returns-then-is_some c = (omega arith, (let below = c.requires.link in omega arith), λ e from less. absurd (omega arith))

pub returns-else-is_some : goal.returns-else-is_some
returns-else-is_some c = next_more c.args.base.now c.args.link c.args.behind c.requires.behind
    (slice_get-get_or c.args.base.now c.args.link None c.requires.link ∙ ap (λ (s : Option State). Some s) (no_state _ (sym c.is_some.ensures ∙ c.if-is_some.false)))
