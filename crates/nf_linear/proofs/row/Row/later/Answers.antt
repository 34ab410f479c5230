use Rattle.std.proofs.Common.{◌≡◌, ℕ, suc, ◌+◌, ◌<◌, List, ◌++◌, length, take, drop, ap, refl, sym, ◌∙◌, arith}
use Rattle.nf_linear.proofs.Common.{ℚ, number_at, meant, some_from}
use Rattle.nf_linear.proofs.Skips.{some_skipped}
use Rattle.nf_linear.proofs.Taken.{some_more, all_some}
use Rattle.nf_linear.proofs.row.Row.later.Goals as goal

pub loop-at-init : goal.loop-at-init
loop-at-init g c =
    let whole = c.requires.right in
    let column = c.requires.column in
    let from = c.next_some-at.ensures.later.0 in
    let end = c.next_some-at.ensures.later.1 in (
      some_skipped c.args.self.now (c.args.column + 1) c.next_some-at.result from (omega arith) c.next_some-at.ensures.zero,
      omega arith,
      end,
      refl,
    )

pub loop-at-preserved : goal.loop-at-preserved
loop-at-preserved g c =
    let test = c.loop-at-test.true in
    let whole = c.requires.right in
    let within : c.loop-at.at < length c.args.self.now = omega arith in
    let count = c.push_some-count.ensures.count in
    let bound = c.loop-at.invariant.1 in
    let from = c.next_some-at-in-loop-at.ensures.later.0 in
    let end = c.next_some-at-in-loop-at.ensures.later.1 in (
      ap (λ (l : List (ℕ × ℚ)). meant g.C.Number.Scalar.means (take c.push_some-count.result c.push_some-count.new.entries) ++ l)
          (some_skipped c.args.self.now (c.loop-at.at + 1) c.next_some-at-in-loop-at.result from (omega arith) c.next_some-at-in-loop-at.ensures.zero)
          ∙ ap (λ (l : List (ℕ × ℚ)). l ++ some_from (c.loop-at.at + 1) (drop (c.loop-at.at + 1) c.args.self.now)) c.push_some-count.ensures.value
          ∙ some_more (meant g.C.Number.Scalar.means (take c.loop-at.count c.loop-at.entries)) c.args.self.now c.loop-at.at (number_at c.args.self.now c.loop-at.at) within refl
          ∙ c.loop-at.invariant.0,
      omega arith,
      end,
      c.push_some-count.auto.entries ∙ c.loop-at.invariant.3,
    )

pub push_some-count-requires : goal.push_some-count-requires
push_some-count-requires g c =
    let test = c.loop-at-test.true in
    let whole = c.requires.right in
    let bound = c.loop-at.invariant.1 in
    let long = c.loop-at.invariant.3 in
    let room = c.requires.room in
    record { column = omega arith; room = omega arith }

pub push_some-requires : goal.push_some-requires
push_some-requires g c =
    let test = c.loop-at-test.false in
    let whole = c.requires.right in
    let bound = c.loop-at.invariant.1 in
    let most = c.loop-at.invariant.2 in
    let long = c.loop-at.invariant.3 in
    let room = c.requires.room in
    record { column = omega arith; room = omega arith }

pub returns-clause-value : goal.returns-clause-value
returns-clause-value g c =
    let test = c.loop-at-test.false in
    let whole = c.requires.right in
    let most = c.loop-at.invariant.2 in
    let here : c.loop-at.at ≡ c.args.right = omega arith in
    let one : c.args.right + 1 ≡ suc c.args.right = omega arith in
    all_some (meant g.C.Number.Scalar.means (take c.push_some.result c.push_some.new.entries)) c.args.self.now (c.args.right + 1) _ (omega arith)
    (ap (λ (l : List (ℕ × ℚ)). l ++ some_from (c.args.right + 1) (drop (c.args.right + 1) c.args.self.now)) c.push_some.ensures.value
    ∙ some_more (meant g.C.Number.Scalar.means (take c.loop-at.count c.loop-at.entries)) c.args.self.now c.args.right (number_at c.args.self.now c.args.right) (omega arith) refl
    ∙ ap (λ (k : ℕ). meant g.C.Number.Scalar.means (take c.loop-at.count c.loop-at.entries) ++ some_from k (drop k c.args.self.now)) (sym here)
    ∙ c.loop-at.invariant.0)

pub returns-clause-within : goal.returns-clause-within
returns-clause-within g c =
    let bound = c.loop-at.invariant.1 in
    let most = c.loop-at.invariant.2 in
    let long = c.loop-at.invariant.3 in
    let more = c.push_some.ensures.count in
    let same = c.push_some.auto.entries in
    let room = c.requires.room in
    omega arith
