use Rattle.std.proofs.Common.{sym, ◌∙◌}
use Rattle.nf_linear.proofs.Taken.{tests_zero}
use Rattle.nf_linear.proofs.table_cells.is_zero.Goals as goal

pub returns : goal.returns
returns g c =
    let same = g.met.S.Scalar.equal_by_meaning c.args.value c.zero.result in
    tests_zero c.eq.result (g.S.Scalar.means c.args.value) (λ h. same.0 (sym c.eq.ensures ∙ h) ∙ c.zero.ensures) (λ h. c.eq.ensures ∙ same.1 (h ∙ sym c.zero.ensures))
