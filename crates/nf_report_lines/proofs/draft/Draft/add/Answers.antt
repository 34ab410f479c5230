use Rattle.std.proofs.Common.{◌≡◌, sym, ap, subst, OnOk}
use Rattle.nf_report_lines.proofs.Common.{Entry, seen_draft, drafted, FitsDraft}
use Rattle.nf_report_lines.proofs.draft.Draft.add.Goals as goal

pub add_state-requires-clause-within : goal.add_state-requires-clause-within
add_state-requires-clause-within c = c.requires.within

pub add_state-requires-clause-fits : goal.add_state-requires-clause-fits
add_state-requires-clause-fits c = subst (FitsDraft c.args.net.now (seen_draft c.args.net.now c.args.self.now)) c.in-OfLink.is c.requires.fits

pub returns-in-Never-clause-draft : goal.returns-in-Never-clause-draft
returns-in-Never-clause-draft c =
    subst (λ (e : Entry). OnOk c.add_never.result (seen_draft c.args.net.now c.add_never.new.self ≡ drafted c.args.net.now
    (seen_draft c.args.net.now c.args.self.now) e)) (sym c.in-Never.is)
    (c.add_never.ensures.draft c.args.net.now c.requires.within (subst (FitsDraft c.args.net.now (seen_draft c.args.net.now c.args.self.now)) c.in-Never.is c.requires.fits))

pub returns-in-Never-clause-within : goal.returns-in-Never-clause-within
returns-in-Never-clause-within c =
    c.add_never.ensures.within c.args.net.now c.requires.within (subst (FitsDraft c.args.net.now (seen_draft c.args.net.now c.args.self.now)) c.in-Never.is c.requires.fits)

pub returns-in-OfLink-clause-draft : goal.returns-in-OfLink-clause-draft
returns-in-OfLink-clause-draft c =
    subst (λ (e : Entry). OnOk c.add_state.result (seen_draft c.args.net.now c.add_state.new.self ≡ drafted c.args.net.now
    (seen_draft c.args.net.now c.args.self.now) e)) (sym c.in-OfLink.is) c.add_state.ensures.draft

pub returns-in-OfLink-clause-within : goal.returns-in-OfLink-clause-within
returns-in-OfLink-clause-within c = c.add_state.ensures.within

pub returns-in-End-clause-draft : goal.returns-in-End-clause-draft
returns-in-End-clause-draft c =
    subst (λ (e : Entry). OnOk c.add_end.result (seen_draft c.args.net.now c.add_end.new.self ≡ drafted c.args.net.now
    (seen_draft c.args.net.now c.args.self.now) e)) (sym c.in-End.is) (c.add_end.ensures.draft c.args.net.now)

pub returns-in-End-clause-within : goal.returns-in-End-clause-within
returns-in-End-clause-within c = c.add_end.ensures.within c.args.net.now c.requires.within

pub returns-in-Version-clause-draft : goal.returns-in-Version-clause-draft
returns-in-Version-clause-draft c = ap (drafted c.args.net.now (seen_draft c.args.net.now c.args.self.now)) (sym c.in-Version.is)

pub returns-in-Horizon-clause-draft : goal.returns-in-Horizon-clause-draft
returns-in-Horizon-clause-draft c = ap (drafted c.args.net.now (seen_draft c.args.net.now c.args.self.now)) (sym c.in-Horizon.is)

pub returns-in-Reached-clause-draft : goal.returns-in-Reached-clause-draft
returns-in-Reached-clause-draft c = ap (drafted c.args.net.now (seen_draft c.args.net.now c.args.self.now)) (sym c.in-Reached.is)

pub returns-in-Cause-clause-draft : goal.returns-in-Cause-clause-draft
returns-in-Cause-clause-draft c = ap (drafted c.args.net.now (seen_draft c.args.net.now c.args.self.now)) (sym c.in-Cause.is)
