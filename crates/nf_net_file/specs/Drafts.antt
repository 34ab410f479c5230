-- What the lines of a network file say, as the definitions have it.
use Rattle.std.specs.Prelude.{ℕ, Bool, if◌then◌else◌}
use Rattle.nf_net_def.specs.NetLines as lines
use Rattle.nf_net_file.specs.declared.draft.Draft.{Draft}

abbrev pub seen_draft : Draft → lines.Draft
seen_draft d = record {
  version = d.version;
  source = d.source;
  sink = d.sink;
  nodes = d.nodes;
  links = d.links.items;
  pieces = d.pieces.items;
  ended = d.ended;
}

-- how many names more there are with one that is known already, or isn't
abbrev pub one_unless : Bool → ℕ
one_unless known = if known then 0 else 1
