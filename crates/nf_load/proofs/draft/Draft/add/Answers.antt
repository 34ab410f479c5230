use Rattle.std.proofs.Common.{List, length, ◌<◌, sym, ap, subst, ◌∙◌}
use Rattle.nf_load.proofs.Common.{Piece, LoadsDraft, load_after, Entry, HasLink, seen_entry}
use Rattle.nf_load.proofs.Pushed.{pushed_at}
use Rattle.nf_load.proofs.draft.Draft.add.Goals as goal

pub returns-in_ok-push-in-Rate : goal.returns-in_ok-push-in-Rate
returns-in_ok-push-in-Rate c =
    let all = c.self.inside.pieces.items in
    let drafted : List (List Piece) → LoadsDraft = λ (l : List (List Piece)). record { pieces = l; ended = c.self.inside.ended } in
    let within = subst (λ (e : Entry). HasLink (length c.args.self.now.pieces) (seen_entry e)) c.in-Rate.is c.requires in
    let lt = subst (λ (d : LoadsDraft). c.in-Rate.link < length d.pieces) (sym c.self.view_is) within in
    ap drafted (pushed_at all c.index.result c.in-Rate.link c.index_mut.result.now c.push.new.self c.in-Rate.piece c.index.ensures lt
    c.index_mut.ensures.value c.in_ok-push-in-Rate.ensures)
    ∙ ap (λ (e : Entry). load_after (drafted all) (seen_entry e)) (sym c.in-Rate.is)
    ∙ ap (λ (d : LoadsDraft). load_after d (seen_entry c.args.entry)) c.self.view_is
