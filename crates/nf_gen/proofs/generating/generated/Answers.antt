use Rattle.std.proofs.Common.{ℕ, ◌∙◌, ap}
use Rattle.nf_gen.proofs.Common.{canonical, ladder}
use Rattle.nf_gen.proofs.Read.{can_be_read, net_is, none_broken}
use Rattle.nf_gen.proofs.generating.generated.Goals as goal

pub parse-requires : goal.parse-requires
parse-requires c =
    can_be_read c.args.number c.args.rungs c.requires.some c.requires.few c.deref.result.now
    (c.deref.ensures.value ∙ c.in_ok-text.ensures ∙ ap (λ (r : ℕ). canonical (ladder c.args.number r)) c.from.ensures)

pub returns-in-Ok : goal.returns-in-Ok
returns-in-Ok c =
    net_is c.args.number c.args.rungs c.requires.some c.requires.few c.deref.result.now
    (c.deref.ensures.value ∙ c.in_ok-text.ensures ∙ ap (λ (r : ℕ). canonical (ladder c.args.number r)) c.from.ensures)
    c.in-Ok.net c.in-Ok.ensures

pub unreachable-requires : goal.unreachable-requires
unreachable-requires c =
    let broken = rw c.in-Err-Broken.field-0-is at (c.in-Err-Broken.ensures {u = tt}) in
    none_broken c.args.number c.args.rungs c.requires.some c.requires.few c.deref.result.now
    (c.deref.ensures.value ∙ c.in_ok-text.ensures ∙ ap (λ (r : ℕ). canonical (ladder c.args.number r)) c.from.ensures)
    (record { rule = c.in-Err-Broken.field-0-0; line = c.in-Err-Broken.field-0-1 }) broken
