use Rattle.nf_thin_laws.proofs.Accepted.{IsThinFlow-accepted}
use Rattle.nf_thin_laws.proofs.accepted_pattern_is_thin.Goals as goal

pub returns : goal.returns
returns c = record {
  listed = λ net sets rate pattern flows slopes good are listed solves meets.
      IsThinFlow-accepted net sets rate pattern flows slopes good are listed.states listed.entered solves meets;
  led = λ net sets rate pattern flows slopes good are is_pattern leads solves meets.
      IsThinFlow-accepted net sets rate pattern flows slopes good are is_pattern leads solves meets;
}
