use Rattle.std.proofs.Common.{ℕ, List, refl, subst, Ok}
use Rattle.nf_app.proofs.Common.{Reads}
use Rattle.nf_app.proofs.answering.show.Goals as goal

pub returns : goal.returns
returns c file other =
    let e = c.in_ok-text.ensures in (record { is = refl; reads_back = subst (λ (text : List ℕ). Reads text (Ok c.args.net.now)) e.canonical e.reads_back }, e.canonical)
