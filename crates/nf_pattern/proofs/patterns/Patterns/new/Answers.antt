use Rattle.std.proofs.Common.{refl, subst}
use Rattle.nf_pattern.proofs.Common.{IsQuestion}
use Rattle.nf_pattern.proofs.Seeking.{standing_start}
use Rattle.nf_pattern.proofs.patterns.Patterns.new.Goals as goal

pub invariant_of-result : goal.invariant_of-result
invariant_of-result c = standing_start c.in_ok-question.question _ c.in_ok-current.current c.in_ok-trail.trail _ c.in_ok-question.ensures
    (record {
      ends = c.requires.ends;
      active = c.requires.active;
      resetting = c.requires.resetting;
      unbounded = c.requires.unbounded;
      base = c.requires.base;
      fewer = c.requires.fewer;
      nodes = c.ranges.nodes.fits;
    })
    c.in_ok-current.ensures c.in_ok-trail.ensures refl refl

pub trail-requires : goal.trail-requires
trail-requires c = record { question = subst IsQuestion c.question.view_is c.question.invariant.0 }
