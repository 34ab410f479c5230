use Rattle.std.proofs.Common.{◌≡◌, ℕ, List, length, ap, arith}
use Rattle.nf_pattern.proofs.Common.{IsLastTo}
use Rattle.nf_pattern.proofs.Each.{each_pushed, length_pushed, each_none}
use Rattle.nf_pattern.proofs.stated.last_stated.Goals as goal

pub loop-e-init : goal.loop-e-init
loop-e-init c = record {
  count = ap (λ (last : List ℕ). length last) c.new-last.ensures.items;
  found = (omega arith, λ e from less. absurd (omega arith));
  last = each_none (IsLastTo c.args.base.now) c.new-last.result.items c.new-last.ensures.items;
}

pub last_here-found-requires-clause-before : goal.last_here-found-requires-clause-before
last_here-found-requires-clause-before c = c.loop-e.invariant.found

pub loop-e-preserved : goal.loop-e-preserved
loop-e-preserved c = rw c.in_ok-push.ensures.items (record {
  count = length_pushed c.loop-e.last.items c.last_here-found.result c.loop-e.e c.loop-e.invariant.count;
  found = ((let l = c.last_here-found.ensures.0 in omega arith), λ e from less. c.last_here-found.ensures.1 e from (omega arith));
  last = each_pushed (IsLastTo c.args.base.now) c.loop-e.last.items c.last_here-found.result c.loop-e.e c.loop-e.invariant.count c.loop-e.invariant.last c.last_here-found.ensures;
})

pub returns-clause-count : goal.returns-clause-count
returns-clause-count c =
    let n : length c.loop-e.last.items ≡ c.loop-e.e = c.loop-e.invariant.count in
    let all = c.loop-e-test.false in let most = c.loop-e.auto.e-end in omega arith

pub returns-clause-last : goal.returns-clause-last
returns-clause-last c = c.loop-e.invariant.last
