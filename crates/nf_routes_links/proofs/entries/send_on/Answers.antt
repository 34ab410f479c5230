use Rattle.std.proofs.Common.{◌≡◌, ℕ, true, List, sym, ap, subst, ◌∙◌}
use Rattle.nf_routes_links.proofs.Common.{err_from_is_err_and, Load, passes_Q, at_part, stops_on, ℚ, goes_over, next_if, next_entry, IsAmountCurve}
use Rattle.nf_routes_links.proofs.Passed.{next_passes}
use Rattle.nf_routes_links.proofs.Sound.{last_amount}
use Rattle.nf_routes_links.proofs.entries.send_on.Goals as goal

pub next_entry-requires-clause-amount : goal.next_entry-requires-clause-amount
next_entry-requires-clause-amount c =
    subst (λ (l : List (ℚ × ℚ)). IsAmountCurve l) (sym c.last.ensures)
    (last_amount c.args.sent.now c.requires.sends.amounts
    (c.requires.sends.some (ap (λ (l : List ℕ). goes_over l c.args.link) (sym c.links.ensures) ∙ sym c.goes_over.ensures ∙ c.if-goes_over.true)))

pub next_entry-requires-clause-exits : goal.next_entry-requires-clause-exits
next_entry-requires-clause-exits c = c.requires.exits

pub returns-in_err-next-clause-list : goal.returns-in_err-next-clause-list
returns-in_err-next-clause-list c =
    let p = err_from_is_err_and c.from_residual.result c.from_residual.ensures.1 in
    let yes : goes_over c.args.route.now.route.links c.args.link ≡ true = ap (λ (l : List ℕ). goes_over l c.args.link) (sym c.links.ensures)
    ∙ sym c.goes_over.ensures ∙ c.if-goes_over.true in
    rw (p.1, p.2) (stops_on c.in_err-next.field-0.0 (at_part Load (next_entry passes_Q c.args.exit.now.points c.last.result.now.points))
    (at_part Load (next_if passes_Q (goes_over c.args.route.now.route.links c.args.link) c.args.exit.now.points c.args.sent.now))
    (λ q e. next_passes passes_Q _ yes q c.args.exit.now.points c.last.result.now.points c.args.sent.now c.last.ensures e) c.in_err-next.ensures.list)
