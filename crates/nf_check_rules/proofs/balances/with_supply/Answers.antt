use Rattle.std.proofs.Common.{◌==◌, if◌then◌else◌, Ok, ◌≡◌, ℕ, List, Bool, true, sym, ap, subst, ◌∙◌}
use Rattle.nf_check_rules.proofs.Common.{Grown, checked_sum, Point, Checked, Gives, at_part, Check, passes_Q, ℚ}
use Rattle.nf_check_rules.proofs.balances.with_supply.Goals as goal

pub returns-then-eq : goal.returns-then-eq
returns-then-eq c =
    let sum : Checked (List Point) = checked_sum passes_Q c.args.total.points c.args.supplied.now.points in
    let stay : Checked (List Point) = Ok c.args.total.points in
    let source : (c.args.node == c.args.net.now.net.source) ≡ true = ap (λ (k : ℕ). c.args.node == k) (sym c.source.ensures.value) ∙ sym c.eq.ensures ∙ c.if-eq.true in
    let chosen : (if c.args.node == c.args.net.now.net.source then sum else stay) ≡ sum = ap (λ (b : Bool). if b then sum else stay) source in
    subst (λ (r : Checked (List Point)). Gives (λ (g : Grown). g.points) (λ (q : ℚ). q) c.sum.result (at_part Check r)) (sym chosen) c.sum.ensures.list
