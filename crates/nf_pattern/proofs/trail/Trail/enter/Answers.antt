use Rattle.std.proofs.Common.{ℕ, refl, inl, inr, sym, subst, add-one, arith}
use Rattle.nf_pattern.proofs.Common.{AreBelow, FirmLinks, Follows}
use Rattle.nf_pattern.specs.declared.walking.TightLinks.{TightLinks}
use Rattle.nf_pattern.proofs.Entries.{carries_keeps}
use Rattle.nf_pattern.proofs.Holding.{holds_loose, clear_more}
use Rattle.nf_pattern.proofs.Calming.{calm_loose}
use Rattle.nf_pattern.proofs.Following.{entered_on}
use Rattle.nf_pattern.proofs.trail.Trail.enter.Goals as goal

pub returns-then-not-enter-clause-entered : goal.returns-then-not-enter-clause-entered
returns-then-not-enter-clause-entered c = (refl, inr c.if-not-enter.ensures.entered.2)

pub returns-then-is_tight-clause-follows : goal.returns-then-is_tight-clause-follows
returns-then-is_tight-clause-follows c =
    entered_on c.args.source c.args.hops.now c.args.resetting.now c.args.states.now c.requires.follows c.requires.more (omega arith)
    c.if-not-enter.ensures.entered.0 c.if-not-enter.ensures.entered.1 c.enter.ensures.nodes refl refl
    (carries_keeps c.args.hops.now c.args.resetting.now c.args.states.now c.args.source c.args.self.now.ends.items c.args.self.now.depth (inr (inl c.if-is_tight.ensures)))
    c.if-not-enter.ensures.entered.2

pub returns-then-is_tight-clause-way : goal.returns-then-is_tight-clause-way
returns-then-is_tight-clause-way c = record { nodes = c.enter.ensures.nodes; ends = refl; lost = refl }

pub returns-then-is_tight-clause-entered : goal.returns-then-is_tight-clause-entered
returns-then-is_tight-clause-entered c = add-one c.args.self.now.depth

pub returns-clause-follows : goal.returns-clause-follows
returns-clause-follows c =
    entered_on c.args.source c.args.hops.now c.args.resetting.now c.args.states.now c.requires.follows c.requires.more (omega arith)
    (holds_loose c.args.hops.now c.args.states.now c.args.self.now.depth c.args.self.now.tight.last.items c.args.self.now.tight.tails.items c.args.self.now.tight.heads.items
    c.requires.follows.tight c.if-is_tight.ensures)
    (clear_more c.args.hops.now c.args.states.now c.args.self.now.depth c.requires.follows.clear (λ closes. c.if-is_tight.ensures closes.0)) refl refl refl
    c.if-strands.ensures
    (calm_loose c.args.hops.now c.args.states.now c.args.self.now.depth c.args.self.now.firm c.requires.follows.calm c.if-is_tight.ensures)

pub strands-requires-clause-link : goal.strands-requires-clause-link
strands-requires-clause-link c = c.requires.more

pub strands-requires-clause-below : goal.strands-requires-clause-below
strands-requires-clause-below c = subst (λ (n : ℕ). AreBelow n c.args.hops.now) (sym c.requires.follows.count_ends) c.requires.follows.tight.below

pub strands-requires-clause-chain : goal.strands-requires-clause-chain
strands-requires-clause-chain c = c.requires.follows.chain

pub strands-requires-clause-count : goal.strands-requires-clause-count
strands-requires-clause-count c = c.requires.follows.count_chain

pub returns-then-strands-clause-follows : goal.returns-then-strands-clause-follows
returns-then-strands-clause-follows c = c.requires.follows

pub returns-then-strands-clause-way : goal.returns-then-strands-clause-way
returns-then-strands-clause-way c = record { nodes = refl; ends = refl; lost = refl }

pub returns-then-strands-clause-entered : goal.returns-then-strands-clause-entered
returns-then-strands-clause-entered c = (refl, inl c.if-strands.ensures)

pub enter-requires-clause-link : goal.enter-requires-clause-link
enter-requires-clause-link c = c.requires.more

pub enter-requires-clause-holds : goal.enter-requires-clause-holds
enter-requires-clause-holds c = c.requires.follows.tight

pub enter-requires-clause-calm : goal.enter-requires-clause-calm
enter-requires-clause-calm c = c.requires.follows.calm

pub enter-requires-clause-clear : goal.enter-requires-clause-clear
enter-requires-clause-clear c = c.requires.follows.clear

pub returns-then-not-enter-clause-follows : goal.returns-then-not-enter-clause-follows
returns-then-not-enter-clause-follows c =
    subst (λ (f : FirmLinks). Follows c.args.source c.args.hops.now c.args.resetting.now c.args.states.now
    (record { depth = c.args.self.now.depth; tight = c.enter.new.self; firm = f; chain = c.args.self.now.chain; ends = c.args.self.now.ends; lost = c.args.self.now.lost }))
    (sym c.if-not-enter.ensures.entered.1)
    (subst (λ (t : TightLinks). Follows c.args.source c.args.hops.now c.args.resetting.now c.args.states.now
    (record { depth = c.args.self.now.depth; tight = t; firm = c.args.self.now.firm; chain = c.args.self.now.chain; ends = c.args.self.now.ends; lost = c.args.self.now.lost }))
    (sym c.if-not-enter.ensures.entered.0) c.requires.follows)

pub returns-then-not-enter-clause-way : goal.returns-then-not-enter-clause-way
returns-then-not-enter-clause-way c = record { nodes = c.enter.ensures.nodes; ends = refl; lost = refl }

pub returns-clause-way : goal.returns-clause-way
returns-clause-way c = record { nodes = refl; ends = refl; lost = refl }

pub returns-clause-entered : goal.returns-clause-entered
returns-clause-entered c = add-one c.args.self.now.depth

pub enter-requires-clause-tight : goal.enter-requires-clause-tight
enter-requires-clause-tight c = c.if-is_tight.ensures

pub strands-requires-clause-resetting : goal.strands-requires-clause-resetting
strands-requires-clause-resetting c = c.requires.resetting

pub strands-requires-clause-states : goal.strands-requires-clause-states
strands-requires-clause-states c = c.requires.states
