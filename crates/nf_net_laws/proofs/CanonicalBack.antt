-- A canonical text is read as the network that it is the text of.
use Rattle.std.proofs.Common.{◌≡◌, None, Ok, sym, ◌∙◌, ap, subst}
use Rattle.nf_net_laws.proofs.Common.{read_lines, content_lines, first_fault, Named, draft_from, by_bytes, Reads, canonical_lines, canonical, IsNamed}
use Rattle.nf_net_laws.proofs.ClosesBack.{draft_of, closes_back}
use Rattle.nf_net_laws.proofs.LinesBack.{content_back}
use Rattle.nf_net_laws.proofs.TextBack.{contents_back, no_fault_back}
use Rattle.nf_net_laws.proofs.PlainCanonical.{plain_canonical}

pub canonical_back : (n : Named) → IsNamed n → Reads (canonical n) (Ok n)
canonical_back n h =
    let read : draft_from (content_lines (read_lines (canonical n))) ≡ Ok (draft_of n) = ap draft_from (contents_back (canonical_lines n) (plain_canonical n h)) ∙ content_back n h in
    let fine : first_fault (canonical n) ≡ None = no_fault_back (canonical_lines n) (plain_canonical n h) in
    subst (λ fault. by_bytes fault (draft_from (content_lines (read_lines (canonical n)))) (Ok n)) (sym fine)
    (subst (λ lines. by_bytes None lines (Ok n)) (sym read) (closes_back n h))
