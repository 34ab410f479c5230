use Rattle.std.proofs.Common.{ℕ, List, [], ◌∷◌, ◌++◌, refl, ap}
use Rattle.std.specs.Prelude.{codes}
use Rattle.std.specs.Option.{option_copied}
use Rattle.nf_frac_words.specs.Digits.{digits_of}
use Rattle.nf_frac_words.specs.Printed.{printed}
use Rattle.nf_net_def.specs.Causes.{cause_words}
use Rattle.nf_report_pages.specs.Written.{Line}
use Rattle.nf_report_pages.proofs.Gathering.{gathered_next, gathered_failed, gathered_then_failed}
use Rattle.nf_report.specs.Parts.{head_lines}
use Rattle.nf_report.proofs.report.put_head.Goals as goal

pub returns-in_err-put_version : goal.returns-in_err-put_version
returns-in_err-put_version g c =
    let all = head_lines c.args.net.now.version c.args.horizon c.args.flow.now.reached (option_copied c.args.stopped) in
    let version : List Line = (codes "report" ∷ digits_of c.version.result ∷ []) ∷ [] in
    let rest : List Line = (codes "horizon" ∷ printed c.args.horizon ∷ []) ∷ (codes "reached" ∷ printed c.args.flow.now.reached ∷ []) ∷ (codes "cause" ∷ cause_words (option_copied c.args.stopped)) ∷ [] in
    gathered_failed version rest all _ (ap (λ (v : ℕ). head_lines v c.args.horizon c.args.flow.now.reached (option_copied c.args.stopped))
    c.version.ensures.value) c.from_residual.ensures.0 c.in_err-put_version.ensures

pub returns-in_err-put_number : goal.returns-in_err-put_number
returns-in_err-put_number g c =
    let all = head_lines c.args.net.now.version c.args.horizon c.args.flow.now.reached (option_copied c.args.stopped) in
    let version : List Line = (codes "report" ∷ digits_of c.version.result ∷ []) ∷ [] in
    let horizon : List Line = (codes "horizon" ∷ printed c.args.horizon ∷ []) ∷ [] in
    let rest : List Line = (codes "reached" ∷ printed c.args.flow.now.reached ∷ []) ∷ (codes "cause" ∷ cause_words (option_copied c.args.stopped)) ∷ [] in
    gathered_then_failed version horizon rest all _ (ap (λ (v : ℕ). head_lines v c.args.horizon c.args.flow.now.reached (option_copied c.args.stopped)) c.version.ensures.value)
    c.from_residual-in_err-put_number.ensures.0 c.in_ok-put_version.ensures c.in_err-put_number.ensures

pub returns-in_err-put_number-2 : goal.returns-in_err-put_number-2
returns-in_err-put_number-2 g c =
    let all = head_lines c.args.net.now.version c.args.horizon c.args.flow.now.reached (option_copied c.args.stopped) in
    let version : List Line = (codes "report" ∷ digits_of c.version.result ∷ []) ∷ [] in
    let horizon : List Line = (codes "horizon" ∷ printed c.args.horizon ∷ []) ∷ [] in
    let reached : List Line = (codes "reached" ∷ printed c.args.flow.now.reached ∷ []) ∷ [] in
    let cause : List Line = (codes "cause" ∷ cause_words (option_copied c.args.stopped)) ∷ [] in
    gathered_then_failed (version ++ horizon) reached cause all _ (ap (λ (v : ℕ). head_lines v c.args.horizon c.args.flow.now.reached
    (option_copied c.args.stopped)) c.version.ensures.value)
    c.from_residual-in_err-put_number-2.ensures.0 (gathered_next version horizon
    (version ++ horizon) refl c.in_ok-put_version.ensures c.in_ok-put_number.ensures) c.in_err-put_number-2.ensures

pub returns : goal.returns
returns g c =
    let all = head_lines c.args.net.now.version c.args.horizon c.args.flow.now.reached (option_copied c.args.stopped) in
    let version : List Line = (codes "report" ∷ digits_of c.version.result ∷ []) ∷ [] in
    let horizon : List Line = (codes "horizon" ∷ printed c.args.horizon ∷ []) ∷ [] in
    let reached : List Line = (codes "reached" ∷ printed c.args.flow.now.reached ∷ []) ∷ [] in
    let cause : List Line = (codes "cause" ∷ cause_words (option_copied c.args.stopped)) ∷ [] in
    gathered_next (version ++ horizon ++ reached) cause all (ap (λ (v : ℕ). head_lines v c.args.horizon c.args.flow.now.reached (option_copied c.args.stopped)) c.version.ensures.value)
    (gathered_next (version ++ horizon) reached (version ++ horizon ++ reached) refl
    (gathered_next version horizon (version ++ horizon) refl c.in_ok-put_version.ensures c.in_ok-put_number.ensures) c.in_ok-put_number-2.ensures)
    c.put_cause.ensures
