-- Sums of the flows of the links with one end at a node.
use Rattle.std.specs.Prelude.{ℕ, List}
use Rattle.nf_rational.specs.Rational.{ℚ}
use Rattle.nf_frac_def.specs.Passing.{Passing}
use Rattle.nf_frac_def.specs.Checked.{Checked}
use Rattle.nf_model.specs.Network.{Link, Network}
use Rattle.nf_model.specs.ThinFlow.{Sets}
use Rattle.nf_complete_def.specs.ThinList.{in_more, out_more}
use Rattle.nf_complete_conditions.specs.declared.node_sums.End.{End}
use Rattle.nf_complete_conditions.specs.declared.node_sums.End.TheVariants.{Head, Tail}

-- the node at an end of a link
abbrev pub node_by : End → Link → ℕ
node_by Head link = link.head
node_by Tail link = link.tail

-- one link more in the sum of those with this end at a node
abbrev pub more_at : Passing → Network → Sets → ℚ → List ℚ → End → ℕ → ℚ → ℕ × Link → Checked ℚ
more_at passes net sets rate flows Head = in_more passes net sets rate flows
more_at passes net sets rate flows Tail = out_more passes net sets rate flows
