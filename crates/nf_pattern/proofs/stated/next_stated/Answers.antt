use Rattle.std.proofs.Common.{ℕ, ◌-◌, sym, subst, ◌∙◌, length-set, arith}
use Rattle.nf_pattern.proofs.Common.{slice_get_within, IsNextFrom}
use Rattle.nf_pattern.proofs.Stating.{next_set}
use Rattle.nf_pattern.proofs.stated.next_stated.Goals as goal

pub loop-e-init : goal.loop-e-init
loop-e-init c =
    let count = sym c.in_ok-next.next.ok.0 ∙ c.in_ok-next.ensures.len in record {
      within = omega arith;
      count = count;
      found = (omega arith, omega arith, λ e from less. absurd (omega arith));
      next = λ k n from at. absurd (let inside = slice_get_within c.in_ok-next.next.items k n at in omega arith);
    }

pub next_here-found-requires-clause-behind : goal.next_here-found-requires-clause-behind
next_here-found-requires-clause-behind c =
    subst (λ (k : ℕ). IsNextFrom c.args.base.now k c.loop-e.found) (let some = c.loop-e-test.true in omega arith) c.loop-e.invariant.found

pub loop-e-preserved : goal.loop-e-preserved
loop-e-preserved c =
    let few = c.loop-e.invariant.within in
    let count = c.loop-e.invariant.count in record {
      within = omega arith;
      count = length-set c.loop-e.next.items (c.loop-e.e - 1) c.next_here-found.result ∙ count;
      found = c.next_here-found.ensures;
      next = next_set c.args.base.now c.loop-e.next.items (c.loop-e.e - 1) c.next_here-found.result (let some = c.loop-e-test.true in omega arith) c.next_here-found.ensures
          (λ k n from at. c.loop-e.invariant.next k n (omega arith) at);
    }

pub returns-clause-count : goal.returns-clause-count
returns-clause-count c = c.loop-e.invariant.count

pub returns-clause-next : goal.returns-clause-next
returns-clause-next c e n at = c.loop-e.invariant.next e n (omega arith) at
