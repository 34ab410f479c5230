use Rattle.std.proofs.Common.{◌≡◌, ℕ, true, false, List, sym, subst, ◌∙◌}
use Rattle.nf_report_lines.proofs.Common.{curve_keys, key_of_number, is_some_key, begun_count}
use Rattle.nf_report_def.specs.ReportLines as lines
use Rattle.nf_report_lines.proofs.DraftSteps.{never_next, never_there, never_elsewhere}
use Rattle.nf_report_lines.proofs.draft.Draft.read_never.Goals as goal

pub returns-then-not-never_comes-clause-says : goal.returns-then-not-never_comes-clause-says
returns-then-not-never_comes-clause-says c =
    never_elsewhere c.args.net.now c.args.self.now c.args.line.now.words (sym c.len.ensures ∙ c.if-len-ne2.false)
    (subst (λ (name : List ℕ). is_some_key lines.OfNever name (key_of_number c.args.net.now (begun_count c.args.self.now)) ≡ false) c.at.ensures (sym c.if-not-never_comes.ensures))

pub returns-clause-says : goal.returns-clause-says
returns-clause-says c =
    never_there c.args.net.now c.args.self.now c.args.line.now.words (sym c.len.ensures ∙ c.if-len-ne2.false)
    (subst (λ (name : List ℕ). is_some_key lines.OfNever name (key_of_number c.args.net.now (begun_count c.args.self.now)) ≡ true) c.at.ensures (sym c.if-not-never_comes.ensures))

pub returns-clause-fits : goal.returns-clause-fits
returns-clause-fits c =
    never_next (curve_keys c.args.net.now) (begun_count c.args.self.now) c.at.result.now (sym c.if-not-never_comes.ensures)
