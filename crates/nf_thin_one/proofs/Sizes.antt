-- How many unknowns a table has, and at most.
use Rattle.std.proofs.Common.{◌≡◌, ℕ, ◌+◌, ◌≤◌, List, length, Bool, ap, ◌∙◌, arith}
use Rattle.nf_thin_one.proofs.Common.{Network, hops, Sets, Named, IsNamed, most_unknowns, unknowns, unknowns-length, few_nodes, few_links}
use Rattle.nf_model.specs.Walk.{Hop}
use Rattle.nf_graph.proofs.NetworkHops.{hops_length}
use Rattle.nf_thin_one.proofs.ActivePlaces.{active_before, few_before, all_before}

module _ (n : Named) (named : IsNamed n) (flags : List Bool) where
  pub few_columns : (e column : ℕ) → e ≤ length n.net.links → column ≡ n.net.nodes + active_before flags e → column ≤ most_unknowns
  few_columns e column inside is =
      let a = few_nodes n named in let b = few_links n named in let c = few_before flags e in let d = named.numbered.nodes in omega arith

pub as_many_hops : (n : Named) (seen : List Hop) → seen ≡ hops n.net → length seen ≡ length n.net.links
as_many_hops n seen e = ap length e ∙ hops_length n.net

pub counted : (net : Network) (sets : Sets) (e count : ℕ) → length sets.active ≤ e → count ≡ net.nodes + active_before sets.active e → count ≡ length (unknowns net sets)
counted net sets e count all is = let a = all_before sets.active 0 e all in let u = unknowns-length net sets in omega arith
