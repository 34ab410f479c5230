use Rattle.std.proofs.Common.{List, ℕ, sym, ap, subst, ◌∙◌, arith}
use Rattle.nf_complete_read.proofs.Common.{result_ok, err_from_is_err_and, number_of, has_name, greatest, IsNameAt, FlowOf, number_entry}
use Rattle.nf_complete_read.proofs.FlowWords.{count_wrong, not_named, named}
use Rattle.nf_complete_read.proofs.entry.read_flow.Goals as goal

pub returns-then-len-ne3-clause-says : goal.returns-then-len-ne3-clause-says
returns-then-len-ne3-clause-says c =
    count_wrong (λ place number. FlowOf place number) c.args.net.now.link_names c.args.line.now.words c.requires (λ e. c.if-len-ne3.true (c.len.ensures ∙ e))

pub at-requires : goal.at-requires
at-requires c = omega (arith, c.len.ensures, c.if-len-ne3.false)

pub at-requires-2 : goal.at-requires-2
at-requires-2 c = omega (arith, c.len.ensures, c.if-len-ne3.false)

pub returns-in_default-clause-says : goal.returns-in_default-clause-says
returns-in_default-clause-says c =
    not_named (λ place number. FlowOf place number) c.args.net.now.link_names c.args.line.now.words (sym c.len.ensures ∙ c.if-len-ne3.false)
    (ap (λ (w : List ℕ). has_name c.args.net.now.link_names w) (sym c.at.ensures) ∙ c.in_default.ensures)

pub returns-in_err-flow-clause-says : goal.returns-in_err-flow-clause-says
returns-in_err-flow-clause-says c =
    let p = err_from_is_err_and c.from_residual.result c.from_residual.ensures.1 in
    rw (p.1, p.2) (named (λ place number. FlowOf place number) c.args.net.now.link_names c.args.line.now.words c.in-Some.link
    (sym c.len.ensures ∙ c.if-len-ne3.false) (subst (λ (w : List ℕ). IsNameAt c.args.net.now.link_names w c.in-Some.link) c.at.ensures
    c.in-Some.ensures)
    ∙ ap (λ (w : List ℕ). number_entry (FlowOf c.in-Some.link) (result_ok (number_of greatest w))) (sym c.at-2.ensures) ∙ c.in_err-flow.ensures (FlowOf c.in-Some.link))

pub returns-clause-says : goal.returns-clause-says
returns-clause-says c =
    named (λ place number. FlowOf place number) c.args.net.now.link_names c.args.line.now.words c.in-Some.link (sym c.len.ensures ∙ c.if-len-ne3.false)
    (subst (λ (w : List ℕ). IsNameAt c.args.net.now.link_names w c.in-Some.link) c.at.ensures c.in-Some.ensures)
    ∙ ap (λ (w : List ℕ). number_entry (FlowOf c.in-Some.link) (result_ok (number_of greatest w))) (sym c.at-2.ensures) ∙ c.in_ok-flow.ensures (FlowOf c.in-Some.link)

pub returns-clause-link : goal.returns-clause-link
returns-clause-link c = c.in-Some.ensures.within
