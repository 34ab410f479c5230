use Rattle.std.proofs.Common.{ℕ, Some, ap, sym, ◌∙◌, arith}
use Rattle.nf_pattern.proofs.Common.{slice_get-get_or}
use Rattle.nf_pattern.proofs.stated.StatedLinks.up_to.Goals as goal

pub returns-then-link-len : goal.returns-then-link-len
returns-then-link-len c p stated = stated.last c.args.link _
    (slice_get-get_or c.args.self.now.last.items c.args.link c.index.result.now
    (let inside = c.if-link-len.true in let len = c.len.ensures in let count = c.args.self.now.last.ok.0 in omega arith)
    ∙ ap (λ (k : ℕ). Some k) (sym c.index.ensures))

pub returns-else-link-len : goal.returns-else-link-len
returns-else-link-len c p stated = (omega arith, λ e from less. absurd (omega arith))
