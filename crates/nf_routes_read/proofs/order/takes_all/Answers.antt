use Rattle.std.proofs.Common.{List, ℕ, sym, ap, ◌∙◌, arith}
use Rattle.nf_routes_read.proofs.Common.{list_all, range_with_len, is_taken}
use Rattle.nf_routes_def.specs.Routes.{takes_all}
use Rattle.nf_routes_read.proofs.Taking.{all-on, all-off, all-end}
use Rattle.nf_routes_read.proofs.order.takes_all.Goals as goal

pub returns-then-not-is_taken : goal.returns-then-not-is_taken
unfolding takes_all
returns-then-not-is_taken c =
    all-off c.in_ok-order.order.items _ c.loop-number.number c.args.link_count c.loop-number.invariant (omega arith)
    (ap (λ (l : List ℕ). is_taken l c.loop-number.number) (sym c.deref.ensures.value) ∙ sym c.is_taken.ensures ∙ c.if-not-is_taken.true)
    ∙ ap (λ (l : List ℕ). list_all (λ (e : ℕ). is_taken l e) (range_with_len 0 c.args.link_count)) c.in_ok-order.ensures

pub loop-number-preserved : goal.loop-number-preserved
loop-number-preserved c =
    all-on c.in_ok-order.order.items _ c.loop-number.number c.args.link_count c.loop-number.invariant (omega arith)
    (ap (λ (l : List ℕ). is_taken l c.loop-number.number) (sym c.deref.ensures.value) ∙ sym c.is_taken.ensures ∙ c.if-not-is_taken.false)

pub returns : goal.returns
unfolding takes_all
returns c =
    all-end c.in_ok-order.order.items _ c.loop-number.number c.args.link_count c.loop-number.invariant (omega arith)
    ∙ ap (λ (l : List ℕ). list_all (λ (e : ℕ). is_taken l e) (range_with_len 0 c.args.link_count)) c.in_ok-order.ensures
