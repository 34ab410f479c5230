-- What is read of a network file, as the definitions have it.
use Rattle.std.specs.Prelude.{Result, Ok, Err}
use Rattle.nf_net_def.specs.declared.NetRule.{NetRule}
use Rattle.nf_net_def.specs.NetLines as lines
use Rattle.nf_net_file.specs.declared.entry.Entry.{Entry}
use Rattle.nf_net_file.specs.declared.entry.Entry.TheVariants.{Source, Sink, Link, Inflow, End}

-- what a line says
abbrev pub seen_entry : Entry → lines.Entry
seen_entry (Source name) = lines.Source name
seen_entry (Sink name) = lines.Sink name
seen_entry (Link l) = lines.LinkLine l
seen_entry (Inflow piece) = lines.InflowLine piece
seen_entry End = lines.End

-- of a line that says such a thing, or breaks a rule
abbrev pub said_by : {A B : Type 0} → (A → B) → Result A NetRule → Result B NetRule
said_by f (Ok x) = Ok (f x)
said_by f (Err rule) = Err rule
