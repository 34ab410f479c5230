use Rattle.std.proofs.Common.{List, length, sym, ap, subst, ◌∙◌, Bool, MatchBool}
use Rattle.nf_phase.proofs.Common.{ℚ, passes_Q, Piece, Pattern, Standing, IsOpen, none_starts, HaveStateOrSlack}
use Rattle.nf_phase.proofs.Reached.{Stands-reached, slacks_count}
use Rattle.nf_phase.proofs.Opened.{open_if, not_started}
use Rattle.nf_phase.proofs.run.Run.is_open.Goals as goal

pub are_apart-apart-requires-clause-last : goal.are_apart-apart-requires-clause-last
are_apart-apart-requires-clause-last c =
    ap (λ (s : Standing). length s.last) c.self.view_is ∙ (Stands-reached passes_Q c.args.net.now.net c.requires.named.network c.args.self.now c.requires.reaches).last_count

pub returns-then-starts : goal.returns-then-starts
returns-then-starts c =
    open_if c.args.net.now.net c.args.self.now c.args.slacks.now c.requires.slacks
    (Stands-reached passes_Q c.args.net.now.net c.requires.named.network c.args.self.now c.requires.reaches).last_count c.none_starts-starts.result
    (c.none_starts-starts.ensures ∙ ap (λ (p : List Piece). none_starts p c.self.inside.reached) c.pieces.ensures.value
    ∙ ap (λ (s : Standing). none_starts c.args.net.now.net.pieces s.time) c.self.view_is)
    c.if-starts.true c.are_apart-apart.result
    (subst (λ (p : Pattern). MatchBool c.are_apart-apart.result (HaveStateOrSlack c.args.slacks.now p) (HaveStateOrSlack c.args.slacks.now p → ⊥))
    (ap (λ (s : Standing). s.last) c.self.view_is) c.are_apart-apart.ensures)

pub returns-else-starts : goal.returns-else-starts
returns-else-starts c =
    subst (λ (b : Bool). MatchBool b (IsOpen c.args.net.now.net c.args.self.now) (IsOpen c.args.net.now.net c.args.self.now → ⊥)) (sym c.if-starts.false)
    (not_started c.args.net.now.net c.args.self.now c.args.slacks.now c.requires.slacks c.none_starts-starts.result
    (c.none_starts-starts.ensures ∙ ap (λ (p : List Piece). none_starts p c.self.inside.reached) c.pieces.ensures.value
    ∙ ap (λ (s : Standing). none_starts c.args.net.now.net.pieces s.time) c.self.view_is)
    c.if-starts.false)

pub are_apart-apart-requires-clause-slacks : goal.are_apart-apart-requires-clause-slacks
are_apart-apart-requires-clause-slacks c = ap (λ (l : List ℚ). length l) c.requires.slacks ∙ slacks_count c.args.net.now.net c.args.self.now.labels
