use Rattle.std.proofs.Common.{sym, ◌∙◌, ap, bytes_eq}
use Rattle.nf_net_file.proofs.Common.{NamedLink}
use Rattle.nf_net_file.proofs.LinkNames.{name_later, name_here}
use Rattle.nf_net_file.proofs.draft.has_link.Goals as goal

pub loop-link-preserved : goal.loop-link-preserved
loop-link-preserved c =
    sym (name_later c.args.links.now c.args.name.now c.loop-link.link-index c.link-item.result c.loop-link-test.true c.link-item.is
    (ap (λ (l : NamedLink). bytes_eq c.args.name.now l.name) (sym c.link.view_is) ∙ sym c.eq.ensures ∙ c.if-eq.false))
    ∙ c.loop-link.invariant

pub returns-then-eq : goal.returns-then-eq
returns-then-eq c =
    sym (name_here c.args.links.now c.args.name.now c.loop-link.link-index c.link-item.result c.loop-link-test.true c.link-item.is
    (ap (λ (l : NamedLink). bytes_eq c.args.name.now l.name) (sym c.link.view_is) ∙ sym c.eq.ensures ∙ c.if-eq.true))
    ∙ c.loop-link.invariant
