use Rattle.std.proofs.Common.{ℕ, List, Bool, length, ap, refl, sym, subst, length-set, ◌∙◌, ◌+◌, arith}
use Rattle.nf_pattern.proofs.Common.{NoneCloses, IsTightStack}
use Rattle.nf_pattern.proofs.Calming.{AreMarked, calm_marked, marked_none, marked_set}
use Rattle.nf_pattern.proofs.firming.firm_links.Goals as goal

pub loop-e-init : goal.loop-e-init
loop-e-init c = record {
  holds = c.in_ok-tight.ensures.holds c.args.base.now;
  clear = λ e less closes. absurd (omega arith);
  count = c.in_ok-firm.ensures.count;
  marked = marked_none c.args.base.now c.in_ok-firm.firm.flags.items c.in_ok-firm.ensures.none;
}

pub returns : goal.returns
returns c p = calm_marked c.args.hops.now c.args.base.now p c.loop-e.e c.loop-e.firm c.loop-e.invariant.count c.loop-e.invariant.clear c.loop-e.invariant.marked

pub returns-then-not-enter_by_walk : goal.returns-then-not-enter_by_walk
returns-then-not-enter_by_walk c p = calm_marked c.args.hops.now c.args.base.now p c.loop-e.e c.loop-e.firm c.loop-e.invariant.count c.loop-e.invariant.clear c.loop-e.invariant.marked

pub loop-e-preserved : goal.loop-e-preserved
loop-e-preserved c = record {
  holds = subst (λ (n : ℕ). IsTightStack c.args.hops.now c.args.base.now n c.enter_by_walk.new.self) (omega arith) c.if-not-enter_by_walk.ensures.0;
  clear = subst (λ (n : ℕ). NoneCloses c.args.hops.now c.args.base.now n) (omega arith) c.if-not-enter_by_walk.ensures.1;
  count = ap (λ (flags : List Bool). length flags) c.mark.ensures ∙ (length-set c.loop-e.firm.flags.items c.loop-e.e c.is_tight.result ∙ c.loop-e.invariant.count);
  marked = subst (λ (flags : List Bool). AreMarked c.args.base.now (c.loop-e.e + 1) flags) (sym c.mark.ensures)
      (marked_set c.args.base.now c.loop-e.e c.loop-e.e c.loop-e.firm.flags.items c.is_tight.result refl
      (let n = c.loop-e.invariant.count in omega arith) c.is_tight.ensures c.loop-e.invariant.marked);
}

pub mark-requires : goal.mark-requires
mark-requires c = let n = c.loop-e.invariant.count in omega arith
