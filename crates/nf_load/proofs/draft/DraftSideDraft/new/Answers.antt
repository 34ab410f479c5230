use Rattle.std.proofs.Common.{false, ◌≡◌, List, [], ◌∷◌, ◌++◌, length, replicate, ap, ◌∙◌, arith}
use Rattle.nf_load.proofs.Common.{length-replicate, replicate_more, splat_is_map, Piece, LoadsDraft, as_many_names}
use Rattle.nf_load.proofs.draft.DraftSideDraft.new.Goals as goal

abbrev made : List (List Piece) → LoadsDraft
made pieces = record { pieces = pieces; ended = false }

pub loop-init : goal.loop-init
loop-init c = c.new-pieces.ensures.items

pub loop-preserved : goal.loop-preserved
loop-preserved c =
    c.in_ok-push.ensures.items
    ∙ ap (λ (l : List (List Piece)). l ++ c.new.result ∷ []) c.loop.invariant
    ∙ ap (λ (p : List Piece). replicate c.loop.counter [] ++ p ∷ []) c.new.ensures
    ∙ replicate_more c.loop.counter []

pub returns-clause-empty : goal.returns-clause-empty
returns-clause-empty c =
    let all : length c.args.net.now.link_names ≡ c.loop.counter = omega (arith, as_many_names c.args.net.now c.recall.ensures) in
    ap made (c.loop.invariant ∙ splat_is_map c.args.net.now.link_names c.loop.counter [] all)

pub returns-clause-fits : goal.returns-clause-fits
returns-clause-fits c =
    let all : c.loop.counter ≡ length c.args.net.now.link_names = omega (arith, as_many_names c.args.net.now c.recall.ensures) in
    ap (λ (l : List (List Piece)). length l) c.loop.invariant ∙ length-replicate c.loop.counter [] ∙ all
