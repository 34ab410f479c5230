use Rattle.std.proofs.Common.{◌≡◌, ℕ, ◌<◌, length, subst, sym, ap, ◌∙◌, length-set, rules}
use Rattle.nf_linear.proofs.Common.{AllByRecursion, ℚ, Quotient, checked, seen, number_at, meant}
use Rattle.nf_linear.proofs.row.Row.clear.Goals as goal

pub subtract-requires : goal.subtract-requires
subtract-requires g c =
    let same : length c.set.new.self ≡ length c.args.self.now = ap length c.set.ensures ∙ length-set c.args.self.now c.args.column (g.C.Number.Scalar.means c.zero.result) in
    subst (λ (n : ℕ). AllByRecursion (λ (other : ℕ × ℚ). other.0 < n) (meant g.C.Number.Scalar.means c.args.later.now)) (sym same) c.requires.later

pub returns : goal.returns
returns g c =
    let quotient : seen g.C.Number.Scalar.means g.C.Number.Scalar.means c.quotient.result ≡ checked g.C.Number.Scalar.passes Quotient
    (number_at c.args.self.now c.args.column) (g.C.Number.Scalar.means c.args.own) =
    c.quotient.ensures ∙ ap (λ (x : ℚ). checked g.C.Number.Scalar.passes Quotient x (g.C.Number.Scalar.means c.args.own)) c.at.ensures in
    search rules

pub returns-2 : goal.returns-2
returns-2 g c =
    let quotient : seen g.C.Number.Scalar.means g.C.Number.Scalar.means c.quotient.result ≡ checked g.C.Number.Scalar.passes Quotient
    (number_at c.args.self.now c.args.column) (g.C.Number.Scalar.means c.args.own) =
    c.quotient.ensures ∙ ap (λ (x : ℚ). checked g.C.Number.Scalar.passes Quotient x (g.C.Number.Scalar.means c.args.own)) c.at.ensures in
    search rules
