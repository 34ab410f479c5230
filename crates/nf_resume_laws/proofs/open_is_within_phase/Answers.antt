use Rattle.nf_resume_laws.proofs.Common.{closed-at_start}
use Rattle.nf_resume_laws.proofs.CutPhase.{IsOpen-cut, closed-at_extension}
use Rattle.nf_resume_laws.proofs.open_is_within_phase.Goals as goal

pub returns : goal.returns
returns c = record {
  within = λ net time labels slopes pattern done s good part whole lasts some short.
      IsOpen-cut net good labels slopes time done pattern part.is_pattern part.count part.not_negative s part.labels_are part.time_is part.last_is whole lasts some short;
  ended = λ net time labels slopes pattern done s good part extension.
      closed-at_extension net good labels slopes time done pattern part.is_pattern part.count part.not_negative s part.labels_are part.time_is part.last_is extension;
  at_start = closed-at_start;
}
