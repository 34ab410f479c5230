use Rattle.std.proofs.Common.{◌<◌, ◌∙◌, ℕ, Option, Some, get_or, ap, sym, subst, arith}
use Rattle.nf_pattern.proofs.Common.{slice_get-get_or}
use Rattle.nf_pattern.proofs.Entries.{IsBack, left_back_to, back_first, back_none, back_enters, back_more, back_fewer, back_within}
use Rattle.nf_pattern.proofs.entered.is_entered_before.Goals as goal

pub loop-at-init : goal.loop-at-init
loop-at-init c = λ hops head chained leads. back_first hops c.args.resetting.now c.args.states.now c.args.link head c.args.chain.now c.index-chain-index.result chained
    (slice_get-get_or c.args.chain.now c.args.link c.index-chain-index.result c.requires.link
    ∙ ap (λ (o : Option ℕ). Some o) (sym (c.index-chain-index.is ∙ ap (λ (k : ℕ). get_or c.args.chain.now k c.index-chain-index.result) c.index.ensures))) leads

pub may_carry-requires-clause-states : goal.may_carry-requires-clause-states
may_carry-requires-clause-states c =
    let within = back_within c.requires.chained.0 c.args.resetting.now c.args.states.now c.args.link c.requires.chained.1 c.in-Some.before
    (subst (IsBack c.requires.chained.0 c.args.resetting.now c.args.states.now c.args.link c.requires.chained.1) c.in-Some.is
    (c.loop-at.invariant c.requires.chained.0 c.requires.chained.1 c.requires.chained.2 c.requires.chained.3)) in
    let few = c.requires.link in let count = c.requires.states in omega arith

pub may_carry-requires-clause-resetting : goal.may_carry-requires-clause-resetting
may_carry-requires-clause-resetting c =
    let within = back_within c.requires.chained.0 c.args.resetting.now c.args.states.now c.args.link c.requires.chained.1 c.in-Some.before
    (subst (IsBack c.requires.chained.0 c.args.resetting.now c.args.states.now c.args.link c.requires.chained.1) c.in-Some.is
    (c.loop-at.invariant c.requires.chained.0 c.requires.chained.1 c.requires.chained.2 c.requires.chained.3)) in
    let few = c.requires.link in let count = c.requires.resetting in omega arith

pub bounds-chain-index-in-Some : goal.bounds-chain-index-in-Some
bounds-chain-index-in-Some c =
    let within = back_within c.requires.chained.0 c.args.resetting.now c.args.states.now c.args.link c.requires.chained.1 c.in-Some.before
    (subst (IsBack c.requires.chained.0 c.args.resetting.now c.args.states.now c.args.link c.requires.chained.1) c.in-Some.is
    (c.loop-at.invariant c.requires.chained.0 c.requires.chained.1 c.requires.chained.2 c.requires.chained.3)) in
    let few = c.requires.link in let at = c.index-in-Some.ensures in omega arith

pub returns-then-may_carry : goal.returns-then-may_carry
returns-then-may_carry c = λ hops head chained leads. back_enters hops c.args.resetting.now c.args.states.now c.args.link head c.in-Some.before
    (subst (IsBack hops c.args.resetting.now c.args.states.now c.args.link head) c.in-Some.is (c.loop-at.invariant hops head chained leads)) c.if-may_carry.ensures

pub loop-at-smaller : goal.loop-at-smaller
loop-at-smaller c =
    subst (λ (o : Option ℕ). left_back_to c.index-chain-index-in-Some.result < left_back_to o) (sym c.in-Some.is)
    (back_fewer c.requires.chained.0 c.args.resetting.now c.args.states.now c.args.link c.requires.chained.1 c.in-Some.before
    (subst (IsBack c.requires.chained.0 c.args.resetting.now c.args.states.now c.args.link c.requires.chained.1) c.in-Some.is
    (c.loop-at.invariant c.requires.chained.0 c.requires.chained.1 c.requires.chained.2 c.requires.chained.3))
    c.args.chain.now c.index-chain-index-in-Some.result c.requires.chained.2
    (slice_get-get_or c.args.chain.now c.in-Some.before c.index-chain-index-in-Some.result
    (let within = back_within c.requires.chained.0 c.args.resetting.now c.args.states.now c.args.link c.requires.chained.1 c.in-Some.before
    (subst (IsBack c.requires.chained.0 c.args.resetting.now c.args.states.now c.args.link c.requires.chained.1) c.in-Some.is
    (c.loop-at.invariant c.requires.chained.0 c.requires.chained.1 c.requires.chained.2 c.requires.chained.3)) in
    let few = c.requires.link in omega arith)
    ∙ ap (λ (o : Option ℕ). Some o) (sym (c.index-chain-index-in-Some.is ∙ ap (λ (k : ℕ). get_or c.args.chain.now k c.index-chain-index-in-Some.result) c.index-in-Some.ensures))))

pub loop-at-preserved : goal.loop-at-preserved
loop-at-preserved c = λ hops head chained leads.
    back_more hops c.args.resetting.now c.args.states.now c.args.link head c.in-Some.before
    (subst (IsBack hops c.args.resetting.now c.args.states.now c.args.link head) c.in-Some.is (c.loop-at.invariant hops head chained leads))
    c.args.chain.now c.index-chain-index-in-Some.result chained
    (slice_get-get_or c.args.chain.now c.in-Some.before c.index-chain-index-in-Some.result
    (let within = back_within c.requires.chained.0 c.args.resetting.now c.args.states.now c.args.link c.requires.chained.1 c.in-Some.before
    (subst (IsBack c.requires.chained.0 c.args.resetting.now c.args.states.now c.args.link c.requires.chained.1) c.in-Some.is
    (c.loop-at.invariant c.requires.chained.0 c.requires.chained.1 c.requires.chained.2 c.requires.chained.3)) in
    let few = c.requires.link in omega arith)
    ∙ ap (λ (o : Option ℕ). Some o) (sym (c.index-chain-index-in-Some.is ∙ ap (λ (k : ℕ). get_or c.args.chain.now k c.index-chain-index-in-Some.result) c.index-in-Some.ensures)))
    c.if-may_carry.ensures

pub returns : goal.returns
returns c = λ hops head chained leads. back_none hops c.args.resetting.now c.args.states.now c.args.link head
    (subst (IsBack hops c.args.resetting.now c.args.states.now c.args.link head) c.in_default.is (c.loop-at.invariant hops head chained leads))
