use Rattle.std.proofs.Common.{◌≡◌, ◌<◌, ℕ, ◌+◌, true, false, sym, subst, ◌∙◌, Option, length, drop}
use Rattle.nf_report_lines.proofs.Common.{Trace, curve_keys, seen_kind, key_of_number, is_some_key, with_open}
use Rattle.nf_report_lines.proofs.DraftSteps.{some_left, begins_first, none_begins, begins_next, other_curve}
use Rattle.nf_report_lines.proofs.draft.Draft.opened.Goals as goal

pub returns-in-Some-2-clause-says : goal.returns-in-Some-2-clause-says
returns-in-Some-2-clause-says c =
    begins_next c.args.net.now c.args.self.now c.requires (seen_kind c.args.kind) c.args.name.now c.in-Some.field-0 c.in-Some.is
    (subst (λ (k : ℕ). is_some_key (seen_kind c.args.kind) c.args.name.now (key_of_number c.args.net.now k) ≡ false) c.done_count-done.ensures
    (sym c.is_key_at.ensures ∙ c.if-is_key_at.false))
    (subst (λ (k : ℕ). is_some_key (seen_kind c.args.kind) c.args.name.now (key_of_number c.args.net.now (k + 1)) ≡ true) c.done_count-done.ensures (sym c.if-is_key_at-2.ensures))

pub returns-in-Some-2-clause-can : goal.returns-in-Some-2-clause-can
returns-in-Some-2-clause-can c =
    subst (λ (o : Option Trace). 0 < length (drop (with_open (length c.args.self.now.done.items) o) (curve_keys c.args.net.now))) (sym c.in-Some.is)
    (some_left (curve_keys c.args.net.now) (length c.args.self.now.done.items + 1) (seen_kind c.args.kind) c.args.name.now
    (subst (λ (k : ℕ). is_some_key (seen_kind c.args.kind) c.args.name.now (key_of_number c.args.net.now (k + 1)) ≡ true) c.done_count-done.ensures (sym c.if-is_key_at-2.ensures)))

pub returns-in-None-clause-says : goal.returns-in-None-clause-says
returns-in-None-clause-says c =
    begins_first c.args.net.now c.args.self.now c.requires (seen_kind c.args.kind) c.args.name.now c.in-None.is
    (subst (λ (k : ℕ). is_some_key (seen_kind c.args.kind) c.args.name.now (key_of_number c.args.net.now k) ≡ true) c.done_count-done.ensures (sym c.if-is_key_at-3.ensures))

pub returns-in-None-clause-can : goal.returns-in-None-clause-can
returns-in-None-clause-can c =
    subst (λ (o : Option Trace). 0 < length (drop (with_open (length c.args.self.now.done.items) o) (curve_keys c.args.net.now))) (sym c.in-None.is)
    (some_left (curve_keys c.args.net.now) (length c.args.self.now.done.items) (seen_kind c.args.kind) c.args.name.now
    (subst (λ (k : ℕ). is_some_key (seen_kind c.args.kind) c.args.name.now (key_of_number c.args.net.now k) ≡ true) c.done_count-done.ensures (sym c.if-is_key_at-3.ensures)))

pub returns-in_default-clause-says : goal.returns-in_default-clause-says
returns-in_default-clause-says c =
    other_curve c.args.net.now c.args.self.now c.requires (seen_kind c.args.kind) c.args.name.now c.in-Some.field-0 c.in-Some.is
    (subst (λ (k : ℕ). is_some_key (seen_kind c.args.kind) c.args.name.now (key_of_number c.args.net.now k) ≡ false) c.done_count-done.ensures
    (sym c.is_key_at.ensures ∙ c.if-is_key_at.false))
    (subst (λ (k : ℕ). is_some_key (seen_kind c.args.kind) c.args.name.now (key_of_number c.args.net.now (k + 1)) ≡ false) c.done_count-done.ensures (sym c.if-is_key_at-2.ensures))

pub returns-in_default-2-clause-says : goal.returns-in_default-2-clause-says
returns-in_default-2-clause-says c =
    none_begins c.args.net.now c.args.self.now c.requires (seen_kind c.args.kind) c.args.name.now c.in-None.is
    (subst (λ (k : ℕ). is_some_key (seen_kind c.args.kind) c.args.name.now (key_of_number c.args.net.now k) ≡ false) c.done_count-done.ensures (sym c.if-is_key_at-3.ensures))
