use Rattle.std.proofs.Common.{◌<◌, length, ap, subst, ◌∙◌, arith, ℕ, ◌+◌, List, Bool, sym, refl, MatchOption}
use Rattle.nf_complete_cycles.proofs.Common.{IfOk-from_err, Hop, IsHop, Has_from_read, not_Has_from_read, IsHop-read, IsWay, AreApart, IsClosedTrail}
use Rattle.nf_complete_cycles.proofs.Cycling.{AreBefore, before_first, before_same, before_more, before_known, forest_before, closed-way, forest-end}
use Rattle.nf_complete_cycles.proofs.cycle.first_cycle.Goals.{then-chosen-e+then-e-known, else-chosen-e+then-chosen-e-2+in_ok-steps+in-None}
use Rattle.nf_complete_cycles.proofs.cycle.first_cycle.Goals.{else-chosen-e+else-chosen-e-2}
use Rattle.nf_complete_cycles.proofs.cycle.first_cycle.Goals as goal

pub returns-in_err-before : goal.returns-in_err-before
returns-in_err-before c = IfOk-from_err c.from_residual.result _ c.from_residual.ensures.0

pub loop-e-init : goal.loop-e-init
loop-e-init c = before_first c.args.hops.now c.args.chosen.now c.in_ok-before.before.items (c.in_ok-before.ensures.items_if_clones_equal (λ y e. e))

pub overflow_cast-e : goal.overflow_cast-e
overflow_cast-e c = omega (arith, c.requires.fewer, c.loop-e-test.true)

pub bounds-chosen-e : goal.bounds-chosen-e
bounds-chosen-e c = let n = c.requires.count in let t = c.loop-e-test.true in omega arith

pub index_mut-requires : goal.index_mut-requires
index_mut-requires c = let n = c.loop-e.invariant.count in let t = c.loop-e-test.true in omega arith

pub bounds-chosen-e-else-chosen-e : goal.bounds-chosen-e-else-chosen-e
bounds-chosen-e-else-chosen-e c = let n = c.requires.count in let t = c.loop-e-test.true in omega arith

pub way-requires-clause-ends : goal.way-requires-clause-ends
way-requires-clause-ends c = c.requires.ends

pub way-requires-clause-count : goal.way-requires-clause-count
way-requires-clause-count c = ap length c.deref.ensures.value ∙ c.loop-e.invariant.count

pub way-requires-clause-fewer : goal.way-requires-clause-fewer
way-requires-clause-fewer c = c.requires.fewer

pub way-requires-clause-from : goal.way-requires-clause-from
way-requires-clause-from c = subst (λ (h : Hop). h.tail < c.args.nodes) (sym c.hop.view_is)
    (c.requires.ends.tails c.loop-e.e c.index-hops-e.result (IsHop-read c.args.hops.now c.loop-e.e c.index-hops-e.result c.loop-e-test.true c.index-hops-e.is))

pub way-requires-clause-to : goal.way-requires-clause-to
way-requires-clause-to c = subst (λ (h : Hop). h.head < c.args.nodes) (sym c.hop.view_is)
    (c.requires.ends.heads c.loop-e.e c.index-hops-e.result (IsHop-read c.args.hops.now c.loop-e.e c.index-hops-e.result c.loop-e-test.true c.index-hops-e.is))

pub returns-in_err-steps : goal.returns-in_err-steps
returns-in_err-steps c = IfOk-from_err c.from_residual-in_err-steps.result _ c.from_residual-in_err-steps.ensures.0

pub returns-in_err-push-in-Some : goal.returns-in_err-push-in-Some
returns-in_err-push-in-Some c = IfOk-from_err c.from_residual-in_err-push-in-Some.result _ c.from_residual-in_err-push-in-Some.ensures.0

pub returns-in_err-steps-in-Some : goal.returns-in_err-steps-in-Some
returns-in_err-steps-in-Some c = IfOk-from_err c.from_residual-in_err-steps-in-Some.result _ c.from_residual-in_err-steps-in-Some.ensures.0

pub index_mut-requires-in-None : goal.index_mut-requires-in-None
index_mut-requires-in-None c = let n = c.loop-e.invariant.count in let t = c.loop-e-test.true in omega arith

pub returns-in-Some : goal.returns-in-Some
returns-in-Some c =
    let p : IsHop c.args.hops.now c.loop-e.e c.index-hops-e.result = IsHop-read c.args.hops.now c.loop-e.e c.index-hops-e.result c.loop-e-test.true c.index-hops-e.is in
    let w : IsWay c.args.hops.now c.deref.result.now c.hop.inside.tail c.hop.inside.head c.in-Some.steps.items =
    subst (λ o. MatchOption o (AreApart c.args.hops.now c.deref.result.now c.hop.inside.tail c.hop.inside.head)
    (λ steps. IsWay c.args.hops.now c.deref.result.now c.hop.inside.tail c.hop.inside.head steps.items)) c.in-Some.is c.in_ok-steps.ensures in
    record {
      is_first = c.in_ok-steps-in-Some.ensures c.args.hops.now c.args.chosen.now
          (subst (λ (s : List (ℕ × Bool)). IsClosedTrail c.args.hops.now c.args.chosen.now s) (sym c.in_ok-push-in-Some.ensures.items)
          (closed-way c.args.hops.now c.args.chosen.now c.loop-e.e c.loop-e.before.items c.loop-e.invariant c.index-hops-e.result c.in-Some.steps.items p
          (Has_from_read c.args.chosen.now c.loop-e.e c.if-chosen-e-2.true)
          (subst (λ (h : Hop). IsWay c.args.hops.now c.loop-e.before.items h.tail h.head c.in-Some.steps.items) c.hop.view_is
          (subst (λ (f : List Bool). IsWay c.args.hops.now f c.hop.inside.tail c.hop.inside.head c.in-Some.steps.items) c.deref.ensures.value w))));
      before = forest_before c.args.hops.now c.args.chosen.now c.loop-e.e c.loop-e.before.items c.loop-e.invariant;
    }

pub loop-e-preserved : goal.loop-e-preserved
loop-e-preserved c =
    let p : IsHop c.args.hops.now c.loop-e.e c.index-hops-e.result = IsHop-read c.args.hops.now c.loop-e.e c.index-hops-e.result (omega arith) c.index-hops-e.is in
    elim c.if-chosen-e.branch [
      | then-chosen-e+then-e-known w ↦
          subst (λ b. AreBefore c.args.hops.now c.args.chosen.now (c.loop-e.e + 1) b.items) (sym w.before-is)
          (before_known c.args.hops.now c.args.chosen.now c.loop-e.e c.loop-e.before.items c.loop-e.invariant c.index-hops-e.result c.loop-e.e refl p
          (Has_from_read c.args.chosen.now c.loop-e.e w.if-chosen-e.true) c.args.known w.if-e-known.true c.requires.known)
      | else-chosen-e+then-chosen-e-2+in_ok-steps+in-None w ↦
          let a : AreApart c.args.hops.now w.deref.result.now c.hop.inside.tail c.hop.inside.head =
          subst (λ o. MatchOption o (AreApart c.args.hops.now w.deref.result.now c.hop.inside.tail c.hop.inside.head)
          (λ steps. IsWay c.args.hops.now w.deref.result.now c.hop.inside.tail c.hop.inside.head steps.items)) w.in-None.is w.in_ok-steps.ensures in
          subst (λ b. AreBefore c.args.hops.now c.args.chosen.now (c.loop-e.e + 1) b.items) (sym w.before-is)
          (before_more c.args.hops.now c.args.chosen.now c.loop-e.e c.loop-e.before.items c.loop-e.invariant c.index-hops-e.result c.loop-e.e refl p
          (Has_from_read c.args.chosen.now c.loop-e.e w.if-chosen-e-2.true)
          (subst (λ (h : Hop). AreApart c.args.hops.now c.loop-e.before.items h.tail h.head) c.hop.view_is
          (subst (λ (f : List Bool). AreApart c.args.hops.now f c.hop.inside.tail c.hop.inside.head) w.deref.ensures.value a)))
      | else-chosen-e+else-chosen-e-2 w ↦ subst (λ b. AreBefore c.args.hops.now c.args.chosen.now (c.loop-e.e + 1) b.items) (sym w.before-is)
          (before_same c.args.hops.now c.args.chosen.now c.loop-e.e c.loop-e.before.items c.loop-e.invariant (not_Has_from_read c.args.chosen.now c.loop-e.e w.if-chosen-e-2.false))
    ]

pub returns : goal.returns
returns c = forest-end c.args.hops.now c.args.chosen.now c.loop-e.e c.loop-e.before.items c.loop-e.invariant c.requires.count (omega arith)
