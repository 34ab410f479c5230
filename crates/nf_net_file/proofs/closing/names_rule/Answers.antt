use Rattle.std.proofs.Common.{Some, refl, sym, ◌∙◌, ap}
use Rattle.nf_net_file.proofs.Common.{same_names, seen_draft}
use Rattle.nf_net_file.proofs.FirstRule.{first_apart}
use Rattle.nf_net_file.proofs.closing.names_rule.Goals as goal

pub returns-then-eq : goal.returns-then-eq
returns-then-eq c =
    first_apart (seen_draft c.args.draft.now) c.if-not-draft.false (rw (c.in-Some.is, c.in-Some-sink.is) refl)
    (c.in-Some.is ∙ ap Some (same_names _ _ (sym c.eq.ensures ∙ c.if-eq.true)) ∙ sym c.in-Some-sink.is)
