use Rattle.std.proofs.Common.{◌<◌, List, length, sym, subst, ap, arith}
use Rattle.nf_linear.proofs.Common.{Row}
use Rattle.nf_linear.proofs.Clearing.{row_read}
use Rattle.nf_linear.proofs.Changed.{changed_row, still_square}
use Rattle.nf_linear.proofs.table.Table.set.Goals as goal

pub invariant_of-self : goal.invariant_of-self
invariant_of-self g c =
    still_square c.self.inside.rows.items c.args.self.now c.args.row c.args.column (g.S.Scalar.means c.args.value) c.index_mut-changed.result.now c.set.new.self
    c.self.invariant c.self.view_is c.requires.row c.index_mut-changed.ensures.value c.set.ensures

pub returns : goal.returns
returns g c =
    changed_row c.self.inside.rows.items c.args.self.now c.args.row c.args.column (g.S.Scalar.means c.args.value) c.index_mut-changed.result.now c.set.new.self
    c.self.view_is c.requires.row c.index_mut-changed.ensures.value c.set.ensures

pub set-requires : goal.set-requires
set-requires g c =
    let below : c.args.row < length c.self.inside.rows.items = subst (λ (l : List Row). c.args.row < length l) (sym c.self.view_is) c.requires.row in
    let row = ap length (row_read c.self.inside.rows.items c.args.row c.index_mut-changed.result.now below c.index_mut-changed.ensures.value) in
    let wide = c.self.invariant c.args.row below in
    let seen = ap length c.self.view_is in
    let column = c.requires.column in
    omega arith
