use Rattle.std.proofs.Common.{◌∙◌}
use Rattle.nf_report_lines.proofs.Common.{option_copied, words_behind, seen_draft}
use Rattle.nf_report_lines.specs.declared.body.LineKind.TheVariants.{Label, Inflow, Outflow, Queue, Never, State, End}
use Rattle.nf_report_lines.proofs.BodyLines.{of_kind, of_none}
use Rattle.nf_report_lines.proofs.draft.Draft.read_body.Goals as goal

pub read_point-requires-clause-words : goal.read_point-requires-clause-words
read_point-requires-clause-words c = c.requires.words

pub read_point-requires-clause-within : goal.read_point-requires-clause-within
read_point-requires-clause-within c = c.requires.within

pub read_rated-requires-clause-words : goal.read_rated-requires-clause-words
read_rated-requires-clause-words c = c.requires.words

pub read_rated-requires-clause-within : goal.read_rated-requires-clause-within
read_rated-requires-clause-within c = c.requires.within

pub read_rated-requires-in-Outflow-clause-words : goal.read_rated-requires-in-Outflow-clause-words
read_rated-requires-in-Outflow-clause-words c = c.requires.words

pub read_rated-requires-in-Outflow-clause-within : goal.read_rated-requires-in-Outflow-clause-within
read_rated-requires-in-Outflow-clause-within c = c.requires.within

pub read_point-requires-in-Queue-clause-words : goal.read_point-requires-in-Queue-clause-words
read_point-requires-in-Queue-clause-words c = c.requires.words

pub read_point-requires-in-Queue-clause-within : goal.read_point-requires-in-Queue-clause-within
read_point-requires-in-Queue-clause-within c = c.requires.within

pub read_never-requires-clause-words : goal.read_never-requires-clause-words
read_never-requires-clause-words c = c.requires.words

pub read_never-requires-clause-within : goal.read_never-requires-clause-within
read_never-requires-clause-within c = c.requires.within

pub read_state-requires-clause-words : goal.read_state-requires-clause-words
read_state-requires-clause-words c = c.requires.words

pub read_state-requires-clause-within : goal.read_state-requires-clause-within
read_state-requires-clause-within c = c.requires.within

pub read_end-requires-clause-words : goal.read_end-requires-clause-words
read_end-requires-clause-words c = c.requires.words

pub read_end-requires-clause-within : goal.read_end-requires-clause-within
read_end-requires-clause-within c = c.requires.within

pub returns-in_default-clause-says : goal.returns-in_default-clause-says
returns-in_default-clause-says c =
    of_none c.args.net.now (seen_draft c.args.net.now c.args.self.now) (words_behind (option_copied c.args.next)) c.args.line.now.words c.requires.words
    c.version.result c.version.ensures.value c.at.result.now c.at.ensures c.in_default.ensures

pub returns-in-Label-clause-says : goal.returns-in-Label-clause-says
returns-in-Label-clause-says c =
    of_kind c.args.net.now (seen_draft c.args.net.now c.args.self.now) (words_behind (option_copied c.args.next)) c.args.line.now.words c.requires.words
    c.version.result c.version.ensures.value c.at.result.now c.at.ensures
    c.in-Some.kind Label c.in-Some.ensures c.in-Label.is ∙ c.read_point.ensures.says

pub returns-in-Label-clause-fits : goal.returns-in-Label-clause-fits
returns-in-Label-clause-fits c = c.read_point.ensures.fits

pub returns-in-Inflow-clause-says : goal.returns-in-Inflow-clause-says
returns-in-Inflow-clause-says c =
    of_kind c.args.net.now (seen_draft c.args.net.now c.args.self.now) (words_behind (option_copied c.args.next)) c.args.line.now.words c.requires.words
    c.version.result c.version.ensures.value c.at.result.now c.at.ensures
    c.in-Some.kind Inflow c.in-Some.ensures c.in-Inflow.is ∙ c.read_rated.ensures.says

pub returns-in-Inflow-clause-fits : goal.returns-in-Inflow-clause-fits
returns-in-Inflow-clause-fits c = c.read_rated.ensures.fits

pub returns-in-Outflow-clause-says : goal.returns-in-Outflow-clause-says
returns-in-Outflow-clause-says c =
    of_kind c.args.net.now (seen_draft c.args.net.now c.args.self.now) (words_behind (option_copied c.args.next)) c.args.line.now.words c.requires.words
    c.version.result c.version.ensures.value c.at.result.now c.at.ensures
    c.in-Some.kind Outflow c.in-Some.ensures c.in-Outflow.is ∙ c.read_rated-in-Outflow.ensures.says

pub returns-in-Outflow-clause-fits : goal.returns-in-Outflow-clause-fits
returns-in-Outflow-clause-fits c = c.read_rated-in-Outflow.ensures.fits

pub returns-in-Queue-clause-says : goal.returns-in-Queue-clause-says
returns-in-Queue-clause-says c =
    of_kind c.args.net.now (seen_draft c.args.net.now c.args.self.now) (words_behind (option_copied c.args.next)) c.args.line.now.words c.requires.words
    c.version.result c.version.ensures.value c.at.result.now c.at.ensures
    c.in-Some.kind Queue c.in-Some.ensures c.in-Queue.is ∙ c.read_point-in-Queue.ensures.says

pub returns-in-Queue-clause-fits : goal.returns-in-Queue-clause-fits
returns-in-Queue-clause-fits c = c.read_point-in-Queue.ensures.fits

pub returns-in-Never-clause-says : goal.returns-in-Never-clause-says
returns-in-Never-clause-says c =
    of_kind c.args.net.now (seen_draft c.args.net.now c.args.self.now) (words_behind (option_copied c.args.next)) c.args.line.now.words c.requires.words
    c.version.result c.version.ensures.value c.at.result.now c.at.ensures
    c.in-Some.kind Never c.in-Some.ensures c.in-Never.is ∙ c.read_never.ensures.says

pub returns-in-Never-clause-fits : goal.returns-in-Never-clause-fits
returns-in-Never-clause-fits c = c.read_never.ensures.fits

pub returns-in-State-clause-says : goal.returns-in-State-clause-says
returns-in-State-clause-says c =
    of_kind c.args.net.now (seen_draft c.args.net.now c.args.self.now) (words_behind (option_copied c.args.next)) c.args.line.now.words c.requires.words
    c.version.result c.version.ensures.value c.at.result.now c.at.ensures
    c.in-Some.kind State c.in-Some.ensures c.in-State.is ∙ c.read_state.ensures.says

pub returns-in-State-clause-fits : goal.returns-in-State-clause-fits
returns-in-State-clause-fits c = c.read_state.ensures.fits

pub returns-in-End-clause-says : goal.returns-in-End-clause-says
returns-in-End-clause-says c =
    of_kind c.args.net.now (seen_draft c.args.net.now c.args.self.now) (words_behind (option_copied c.args.next)) c.args.line.now.words c.requires.words
    c.version.result c.version.ensures.value c.at.result.now c.at.ensures
    c.in-Some.kind End c.in-Some.ensures c.in-End.is ∙ c.read_end.ensures.says

pub returns-in-End-clause-fits : goal.returns-in-End-clause-fits
returns-in-End-clause-fits c = c.read_end.ensures.fits
