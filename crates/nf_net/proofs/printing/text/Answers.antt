use Rattle.std.proofs.Common.{ℕ, List, Ok, sym, subst}
use Rattle.nf_net.proofs.Common.{Reads}
use Rattle.nf_net_laws.proofs.CanonicalBack.{canonical_back}
use Rattle.nf_net.proofs.printing.text.Goals as goal

pub returns-clause-reads_back : goal.returns-clause-reads_back
returns-clause-reads_back c =
    subst (λ (t : List ℕ). Reads t (Ok c.args.net.now)) (sym c.in_ok-text.ensures.canonical) (canonical_back c.args.net.now c.in_ok-text.ensures.named)
