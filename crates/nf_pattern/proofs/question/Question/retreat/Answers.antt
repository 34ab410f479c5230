use Rattle.std.proofs.Common.{ap, subst}
use Rattle.nf_pattern.proofs.Common.{Pattern, Question, AreStated}
use Rattle.nf_pattern.proofs.OnTrail.{come_back, follows_on, left_seen}
use Rattle.nf_pattern.proofs.Stating.{stated_too}
use Rattle.nf_pattern.proofs.question.Question.retreat.Goals as goal

pub retreat-requires-clause-left : goal.retreat-requires-clause-left
retreat-requires-clause-left c =
    let before = c.requires.left.0 in
    let stated = stated_too c.args.self.now.base c.args.self.now.unbounded before c.self.inside.stated c.requires.left.1
    (subst (λ (base : Pattern). AreStated base c.self.inside.stated) (ap (λ (q : Question). q.base) c.self.view_is) c.self.invariant.1) in
    left_seen _ c.args.self.now c.self.view_is c.deref.result.now c.deref.ensures.value c.self.inside.stated before c.args.trail.now stated c.requires.left.2.follows

pub returns : goal.returns
returns c = λ before after is assigned same.
    let stated = stated_too c.args.self.now.base c.args.self.now.unbounded before c.self.inside.stated assigned
    (subst (λ (base : Pattern). AreStated base c.self.inside.stated) (ap (λ (q : Question). q.base) c.self.view_is) c.self.invariant.1) in
    come_back c.args.self.now before after c.args.link c.args.trail.now c.retreat.new.self is
    (follows_on _ c.args.self.now c.self.view_is c.deref.result.now c.deref.ensures.value c.args.trail.now c.retreat.new.self before
    (λ source resetting follows. c.retreat.ensures.kept source resetting before stated follows) is.follows)
    c.retreat.ensures.way c.retreat.ensures.depth same
