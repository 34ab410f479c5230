use Rattle.std.proofs.Common.{◌≡◌, ℕ, List, length, sym, ap, subst, ◌∙◌, arith}
use Rattle.nf_thin_narrow.proofs.Common.{changes, ways, ways_fewer, choices_of, CountsCapped, first_ways}
use Rattle.nf_thin_narrow.proofs.Capping.{first_fewer}
use Rattle.nf_thin_narrow.proofs.Stepping.{refilled}
use Rattle.nf_thin_narrow.proofs.row.ways_before.Goals as goal

pub returns : goal.returns
returns c =
    let row = c.deref.ensures.value ∙ refilled c.in_ok-row.row.len c.in_ok-row.row.items c.count_earlier-earlier.new.row (let n = c.in_ok-row.row.ok.0 in omega arith)
    (c.count_earlier-earlier.ensures.count ∙ ap (λ (l : List ℕ). length l) c.deref_mut.ensures.value) in
    let sum = c.sum_of.ensures (ways (choices_of c.args.base.now c.args.unbounded.now c.args.sole.now) c.args.base.now)
    (subst (λ (l : List ℕ). CountsCapped l (ways (choices_of c.args.base.now c.args.unbounded.now c.args.sole.now) c.args.base.now)) (sym row) c.count_earlier-earlier.ensures.ways) in
    let fewer : first_ways (ways (choices_of c.args.base.now c.args.unbounded.now c.args.sole.now) c.args.base.now) c.count_changes-changes.result
    ≡ ways_fewer (choices_of c.args.base.now c.args.unbounded.now c.args.sole.now) c.args.base.now (changes c.args.base.now c.args.pattern.now) =
    first_fewer (choices_of c.args.base.now c.args.unbounded.now c.args.sole.now) c.args.base.now c.count_changes-changes.result
    ∙ ap (ways_fewer (choices_of c.args.base.now c.args.unbounded.now c.args.sole.now) c.args.base.now) c.count_changes-changes.ensures.changes in
    let earlier = c.count_earlier-earlier.ensures.earlier in
    let all = c.saturating_add.ensures in
    omega arith
