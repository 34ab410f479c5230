use Rattle.std.proofs.Common.{List, subst}
use Rattle.nf_net.proofs.Common.{NamedLink, seen_draft, AreTablesOf}
use Rattle.nf_net.proofs.Built.{few_names, are_parts}
use Rattle.nf_net.proofs.building.parts_of.Goals as goal

pub tables_of-requires : goal.tables_of-requires
tables_of-requires c =
    few_names (seen_draft c.args.draft.now) c.args.flags.now c.requires.read c.requires.ends c.requires.fine c.requires.flags
    c.in_ok-links.links c.in_ok-nodes.nodes c.in_ok-links.ensures c.in_ok-nodes.ensures

pub returns : goal.returns
returns c =
    are_parts (seen_draft c.args.draft.now) c.args.flags.now c.requires.read c.requires.ends c.requires.fine c.requires.flags
    c.in_ok-links.links c.in_ok-nodes.nodes c.in_ok-links.ensures c.in_ok-nodes.ensures c.in_ok-tables.tables
    (subst (λ (l : List NamedLink). AreTablesOf c.in_ok-nodes.nodes.active l c.in_ok-tables.tables) c.deref.ensures.value c.in_ok-tables.ensures)
