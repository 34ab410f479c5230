use Rattle.std.proofs.Common.{List, length, ◌<◌, sym, ap, subst, ◌∙◌}
use Rattle.nf_load.proofs.Common.{Piece, LoadsDraft, rule_behind, load_rule_of, Entry, HasLink, seen_entry}
use Rattle.nf_load.proofs.Pushed.{read_at}
use Rattle.nf_load.proofs.draft.Draft.rule.Goals as goal

pub returns-in-Rate : goal.returns-in-Rate
returns-in-Rate c =
    let all = c.self.inside.pieces.items in
    let within = subst (λ (e : Entry). HasLink (length c.args.self.now.pieces) (seen_entry e)) c.in-Rate.is c.requires in
    let lt = subst (λ (d : LoadsDraft). c.in-Rate.link < length d.pieces) (sym c.self.view_is) within in
    c.piece_rule.ensures
    ∙ ap (λ (l : List Piece). rule_behind l c.in-Rate.piece)
    (c.as_slice.ensures ∙ read_at all c.index.result c.in-Rate.link c.index-in-Rate.result.now c.index.ensures lt c.index-in-Rate.ensures)
    ∙ ap (λ (e : Entry). load_rule_of (record { pieces = all; ended = c.self.inside.ended }) (seen_entry e)) (sym c.in-Rate.is)
    ∙ ap (λ (d : LoadsDraft). load_rule_of d (seen_entry c.args.entry.now)) c.self.view_is
