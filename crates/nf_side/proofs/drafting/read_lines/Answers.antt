use Rattle.std.proofs.Common.{sym, ◌∙◌}
use Rattle.nf_side.proofs.Frame.{same_read, head_then}
use Rattle.nf_side.proofs.drafting.read_lines.Goals as goal

pub add_lines-requires : goal.add_lines-requires
add_lines-requires g c = c.in_ok-new.ensures.fits

pub returns-clause-reads : goal.returns-clause-reads
returns-clause-reads g c =
    same_read (λ draft. draft) c.add_lines.result _ _
    (head_then (g.D.SideDraft.frame c.args.net.now) c.head-head.result (c.head-head.ensures c.args.net.now) c.args.lines.now c.first-item.result c.in-len1-up.len_at_least c.first-item.is
    c.in_ok-new.field-0 c.in_ok-new.ensures.empty (sym c.is_head.ensures ∙ c.if-not-is_head.false))
    c.add_lines.ensures.adds
