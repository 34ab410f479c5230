use Rattle.std.proofs.Common.{List, ℕ, sym, ap, ◌∙◌, codes}
use Rattle.nf_app_answers.proofs.Common.{broken_line}
use Rattle.nf_app_answers.specs.declared.refusal.Refusal.{Refusal}
use Rattle.nf_app_answers.specs.Answers.{err_text}
use Rattle.nf_app_answers.specs.Refusals.{refused_answer}
use Rattle.nf_app_answers.proofs.ErrorTexts.{same_text}
use Rattle.nf_app_answers.proofs.telling.write_refusal.Goals as goal

pub returns-in-Malformed : goal.returns-in-Malformed
returns-in-Malformed g c = same_text _ _
    (ap (λ (rule : List ℕ). broken_line (codes "network") c.in-Malformed.line rule) c.network_rule_text.ensures
    ∙ sym (ap (λ (r : Refusal). err_text (refused_answer r)) c.in-Malformed.is)) c.write_broken.ensures

pub returns-in-MalformedLoads : goal.returns-in-MalformedLoads
returns-in-MalformedLoads g c = same_text _ _
    (ap (λ (rule : List ℕ). broken_line (codes "loads") c.in-MalformedLoads.line rule) c.load_rule_text.ensures
    ∙ sym (ap (λ (r : Refusal). err_text (refused_answer r)) c.in-MalformedLoads.is)) c.write_broken-in-MalformedLoads.ensures

pub returns-in-MalformedFlows : goal.returns-in-MalformedFlows
returns-in-MalformedFlows g c = same_text _ _
    (ap (λ (rule : List ℕ). broken_line (codes "flows") c.in-MalformedFlows.line rule) c.flows_rule_text.ensures
    ∙ sym (ap (λ (r : Refusal). err_text (refused_answer r)) c.in-MalformedFlows.is)) c.write_broken-in-MalformedFlows.ensures

pub returns-in-MalformedRoutes : goal.returns-in-MalformedRoutes
returns-in-MalformedRoutes g c = same_text _ _
    (ap (λ (rule : List ℕ). broken_line (codes "routes") c.in-MalformedRoutes.line rule) c.routes_rule_text.ensures
    ∙ sym (ap (λ (r : Refusal). err_text (refused_answer r)) c.in-MalformedRoutes.is)) c.write_broken-in-MalformedRoutes.ensures

pub returns-in-MalformedReport : goal.returns-in-MalformedReport
returns-in-MalformedReport g c = same_text _ _
    (ap (λ (rule : List ℕ). broken_line (codes "report") c.in-MalformedReport.line rule) c.report_rule_text.ensures
    ∙ sym (ap (λ (r : Refusal). err_text (refused_answer r)) c.in-MalformedReport.is)) c.write_broken-in-MalformedReport.ensures

pub returns-in-Passes : goal.returns-in-Passes
returns-in-Passes g c = same_text _ _ (sym (ap (λ (r : Refusal). err_text (refused_answer r)) c.in-Passes.is)) c.write_passed.ensures

pub returns-in-NoMemory : goal.returns-in-NoMemory
returns-in-NoMemory g c = same_text _ _ (sym (ap (λ (r : Refusal). err_text (refused_answer r)) c.in-NoMemory.is)) c.write_text.ensures

pub returns-in-NoRequest : goal.returns-in-NoRequest
returns-in-NoRequest g c = same_text _ _ (sym (ap (λ (r : Refusal). err_text (refused_answer r)) c.in-NoRequest.is)) c.write_text-in-NoRequest.ensures

pub returns-in-ShelfFailed : goal.returns-in-ShelfFailed
returns-in-ShelfFailed g c = same_text _ _ (sym (ap (λ (r : Refusal). err_text (refused_answer r)) c.in-ShelfFailed.is)) c.write_text-in-ShelfFailed.ensures

pub returns-in-ShelfTooLong : goal.returns-in-ShelfTooLong
returns-in-ShelfTooLong g c = same_text _ _ (sym (ap (λ (r : Refusal). err_text (refused_answer r)) c.in-ShelfTooLong.is)) c.write_text-in-ShelfTooLong.ensures

pub returns-in-Unbounded : goal.returns-in-Unbounded
returns-in-Unbounded g c = same_text _ _ (sym (ap (λ (r : Refusal). err_text (refused_answer r)) c.in-Unbounded.is)) c.write_text-in-Unbounded.ensures

pub returns-in-NotThin : goal.returns-in-NotThin
returns-in-NotThin g c = same_text _ _ (sym (ap (λ (r : Refusal). err_text (refused_answer r)) c.in-NotThin.is)) c.write_text-in-NotThin.ensures

pub returns-in-Earlier : goal.returns-in-Earlier
returns-in-Earlier g c = same_text _ _ (sym (ap (λ (r : Refusal). err_text (refused_answer r)) c.in-Earlier.is)) c.write_text-in-Earlier.ensures
