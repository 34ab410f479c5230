use Rattle.std.proofs.Common.{ℕ, ◌<◌, List, length, sym, ap, subst, arith}
use Rattle.nf_pattern.proofs.Common.{DoEndsCarry}
use Rattle.nf_pattern.proofs.Following.{way_same, way_on}
use Rattle.nf_pattern.proofs.trail.Trail.extend.Goals as goal

pub loop-source-init : goal.loop-source-init
loop-source-init c = record { follows = c.requires.follows; way = way_same c.args.self.now; ends = c.requires.ends }

pub enter-requires-clause-follows : goal.enter-requires-clause-follows
enter-requires-clause-follows c =
    (c.pass.ensures.kept c.args.source c.args.resetting.now c.args.states.now c.requires.stated c.requires.states c.loop-source.invariant.ends
    c.loop-source.invariant.follows).0

pub returns-then-not-enter-clause-way : goal.returns-then-not-enter-clause-way
returns-then-not-enter-clause-way c = way_on (way_on c.loop-source.invariant.way c.pass.ensures.way) c.enter.ensures.way

pub loop-source-preserved : goal.loop-source-preserved
loop-source-preserved c =
    let way = way_on (way_on c.loop-source.invariant.way c.pass.ensures.way) c.enter.ensures.way in record {
      follows = c.enter.ensures.follows;
      way = way;
      ends = subst (λ (es : List ℕ). DoEndsCarry c.args.resetting.now c.args.states.now es) (sym (ap (λ (x : _). x.items) way.ends)) c.requires.ends;
    }

pub returns-clause-follows : goal.returns-clause-follows
returns-clause-follows c =
    (c.pass.ensures.kept c.args.source c.args.resetting.now c.args.states.now c.requires.stated c.requires.states c.loop-source.invariant.ends
    c.loop-source.invariant.follows).0

pub returns-clause-way : goal.returns-clause-way
returns-clause-way c = way_on c.loop-source.invariant.way c.pass.ensures.way

pub returns-clause-extended : goal.returns-clause-extended
returns-clause-extended c =
    let follows = (c.pass.ensures.kept c.args.source c.args.resetting.now c.args.states.now c.requires.stated c.requires.states c.loop-source.invariant.ends
    c.loop-source.invariant.follows).0 in
    let few = follows.depth in let end = c.loop-source-test.ensures.left in omega arith

pub returns-then-not-enter-clause-extended : goal.returns-then-not-enter-clause-extended
returns-then-not-enter-clause-extended c =
    let told = c.if-not-enter.ensures.entered in (subst (λ (n : ℕ). n < length c.args.hops.now) (sym told.0) c.loop-source-test.ensures.left, told.1)

pub loop-source-smaller : goal.loop-source-smaller
loop-source-smaller c =
    let on = (c.pass.ensures.kept c.args.source c.args.resetting.now c.args.states.now c.requires.stated c.requires.states c.loop-source.invariant.ends
    c.loop-source.invariant.follows).1 in
    let left = c.loop-source-test.ensures.left in
    let next = c.if-not-enter.ensures.entered in omega arith
