use Rattle.std.proofs.Common.{◌≡◌, ◌<◌, ◌≤◌, List, length, take, sym, subst, ap, arith}
use Rattle.nf_linear.proofs.Common.{Row}
use Rattle.nf_linear.proofs.Written.{set_seen, set_square}
use Rattle.nf_linear.proofs.grid.Grid.set.Goals as goal

pub whole_as_front-set_at : goal.whole_as_front-set_at
whole_as_front-set_at g c = let few = c.self.invariant.0 in (c.self.invariant.1, omega arith)

pub set_at-requires : goal.set_at-requires
set_at-requires g c =
    let few = c.self.invariant.0 in
    let below : c.args.row < length (take c.self.inside.size c.self.inside.rows) = subst (λ (l : List Row). c.args.row < length l) (sym c.self.view_is) c.requires.row in
    let wide = c.self.invariant.2 c.args.row below in
    let seen : length (take c.self.inside.size c.self.inside.rows) ≡ length c.args.self.now = ap length c.self.view_is in
    let column = c.requires.column in
    (omega arith, (below, omega arith))

pub invariant_of-self : goal.invariant_of-self
invariant_of-self g c =
    let within = c.self.invariant.1 in
    let told = c.self.told in
    let long : c.self.inside.size ≤ length c.self.inside.rows = omega arith in (
      c.self.invariant.0,
      within,
      set_square c.self.inside.rows c.args.self.now c.self.inside.size c.args.row c.args.column c.args.value c.set_at.new.rows _
          long c.self.view_is c.set_at.ensures c.self.invariant.2 c.requires.row,
    )

pub returns : goal.returns
returns g c =
    let within = c.self.invariant.1 in
    let told = c.self.told in
    let long : c.self.inside.size ≤ length c.self.inside.rows = omega arith in
    set_seen c.self.inside.rows c.args.self.now c.self.inside.size c.args.row c.args.column c.args.value c.set_at.new.rows _ long c.self.view_is c.set_at.ensures
