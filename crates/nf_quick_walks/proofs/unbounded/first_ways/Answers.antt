use Rattle.std.proofs.Common.{◌≡◌, ℕ, ◌+◌, List, [], ◌∷◌, ◌++◌, length, replicate, Some, None, ap, ◌∙◌, arith, set}
use Rattle.nf_quick_walks.proofs.Common.{replicate_more, length_push, err_from_is_err_and, Ways}
use Rattle.nf_quick_walks.proofs.unbounded.first_ways.Goals as goal

pub returns-in_err-ways : goal.returns-in_err-ways
returns-in_err-ways c =
    let p = err_from_is_err_and c.from_residual.result c.from_residual.ensures.1 in
    rw p.1 tt

pub loop-init : goal.loop-init
loop-init c = record { items = c.in_ok-ways.ensures.items; count = ap (λ (w : Ways). length w) c.in_ok-ways.ensures.items }

pub returns-in_err-push : goal.returns-in_err-push
returns-in_err-push c =
    let p = err_from_is_err_and c.from_residual-in_err-push.result c.from_residual-in_err-push.ensures.1 in
    rw p.1 tt

pub loop-preserved : goal.loop-preserved
loop-preserved c = record {
  items = c.in_ok-push.ensures.items ∙ ap (λ (w : Ways). w ++ None ∷ []) c.loop.invariant.items ∙ replicate_more c.loop.counter None;
  count = ap (λ (w : Ways). length w) c.in_ok-push.ensures.items ∙ length_push c.loop.ways.items None ∙ ap (λ (n : ℕ). n + 1) c.loop.invariant.count;
}

pub index_mut-requires : goal.index_mut-requires
index_mut-requires c = omega (arith, c.index.ensures, c.source-source.ensures.node, c.loop.ways.ok.0, c.loop.invariant.count, c.loop-test.false, c.node_count-end.ensures)

pub returns : goal.returns
returns c =
    let all : c.loop.counter ≡ c.args.net.now.net.nodes = omega (arith, c.loop-test.false, c.loop.auto.counter-end, c.node_count-end.ensures) in
    ap (λ (w : Ways). set w c.index.result (Some c.new.result.items)) (c.loop.invariant.items ∙ ap (λ (n : ℕ). replicate n None) all)
    ∙ ap (λ (i : ℕ). set (replicate c.args.net.now.net.nodes None) i (Some c.new.result.items)) (c.index.ensures ∙ c.source-source.ensures.value)
    ∙ ap (λ (l : List ℕ). set (replicate c.args.net.now.net.nodes None) c.args.net.now.net.source (Some l)) c.new.ensures.items
