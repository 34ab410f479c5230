use Rattle.std.proofs.Common.{ℕ, List, [], ◌∷◌, length, ap, ◌∙◌, codes}
use Rattle.nf_app_answers.proofs.Common.{digits_of, wrote_next, wrote_failed, size_lines}
use Rattle.nf_app_answers.proofs.gen_text.write_size.Goals as goal

abbrev nodes_line : ℕ → List (List ℕ)
nodes_line count = codes "nodes" ∷ digits_of count ∷ []

abbrev links_line : ℕ → List (List ℕ)
links_line count = codes "links" ∷ digits_of count ∷ []

pub returns-in_err-write_counted : goal.returns-in_err-write_counted
returns-in_err-write_counted g c =
    wrote_failed (nodes_line c.from.result ∷ []) (links_line (length c.args.net.now.net.links) ∷ []) (size_lines c.args.net.now) c.from_residual.result
    (ap (λ (count : ℕ). nodes_line count ∷ links_line (length c.args.net.now.net.links) ∷ []) (c.from.ensures ∙ c.node_count.ensures)) c.from_residual.ensures.0
    c.in_err-write_counted.ensures

pub returns : goal.returns
returns g c =
    wrote_next (nodes_line c.from.result ∷ []) (links_line c.from-2.result ∷ []) (size_lines c.args.net.now)
    (ap (λ (count : ℕ). nodes_line count ∷ links_line c.from-2.result ∷ []) (c.from.ensures ∙ c.node_count.ensures)
    ∙ ap (λ (count : ℕ). nodes_line c.args.net.now.net.nodes ∷ links_line count ∷ []) (c.from-2.ensures ∙ c.link_count.ensures)) c.in_ok-write_counted.ensures c.write_counted-2.ensures
