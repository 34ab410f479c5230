use Rattle.nf_pattern.proofs.OnTrail.{trail_seen}
use Rattle.nf_pattern.proofs.question.Question.trail.Goals as goal

pub returns : goal.returns
returns c =
    trail_seen _ c.args.self.now c.self.view_is c.deref.result.now c.deref-2.result.now c.deref.ensures.value c.deref-2.ensures.value c.states.result.now
    c.states.ensures c.new.result
    c.new.ensures.follows c.new.ensures.nodes c.new.ensures.ends c.new.ensures.lost
