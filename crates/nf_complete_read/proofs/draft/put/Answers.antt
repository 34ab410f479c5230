use Rattle.std.proofs.Common.{Bool, set, Some, Ok, Err, sym, ap, ◌∙◌, if◌then◌else◌}
use Rattle.nf_complete_read.proofs.Common.{S10}
use Rattle.nf_complete_read.proofs.Giving.{given_read}
use Rattle.nf_complete_read.proofs.draft.put.Goals as goal

pub returns-clause-puts : goal.returns-clause-puts
returns-clause-puts c =
    ap (λ (b : Bool). if b then Err S10 else Ok (set c.args.numbers.now.items c.args.place (Some c.args.number)))
    (given_read c.args.numbers.now.items c.args.place c.index.result.now c.requires c.index.ensures ∙ (sym c.is_some.ensures ∙ c.if-is_some.false))

pub returns-then-is_some-clause-puts : goal.returns-then-is_some-clause-puts
returns-then-is_some-clause-puts c =
    ap (λ (b : Bool). if b then Err S10 else Ok (set c.args.numbers.now.items c.args.place (Some c.args.number)))
    (given_read c.args.numbers.now.items c.args.place c.index.result.now c.requires c.index.ensures ∙ (sym c.is_some.ensures ∙ c.if-is_some.true))
