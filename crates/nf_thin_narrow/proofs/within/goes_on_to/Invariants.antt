use Rattle.std.proofs.Common.{◌-◌, ◌<◌, IfSome}
use Rattle.nf_thin_narrow.proofs.Common.{GoesThrough}
use Rattle.nf_thin_narrow.proofs.Going.{IsAhead}
use Rattle.nf_thin_narrow.proofs.within.goes_on_to.Given as goal

-- The first patterns are enumerated, and this pattern is not among them.
abbrev pub invariant-loop-last : goal.invariant-loop-last
invariant-loop-last l = record {
  through : GoesThrough l.fn.patterns.question l.patterns;
  later : IsAhead l.fn.patterns.question l.patterns l.pattern;
  last : IfSome l.last (λ link. link < l.links);
}

abbrev pub decreases-loop-last : goal.decreases-loop-last
decreases-loop-last l = l.budget - l.patterns.place
