-- What a line of a loads file says, as the definitions have it.
use Rattle.std.specs.Prelude.{ℕ, ◌<◌}
use Rattle.nf_report_def.specs.LoadsFile as file
use Rattle.nf_load.specs.declared.entry.Entry.{Entry}
use Rattle.nf_load.specs.declared.entry.Entry.TheVariants.{Rate, End}

abbrev pub seen_entry : Entry → file.LoadEntry
seen_entry (Rate link piece) = file.Rate link piece
seen_entry End = file.End

-- the link of a piece is one of so many
abbrev pub HasLink : ℕ → file.LoadEntry → Type 0
HasLink count (file.Rate link piece) = link < count
HasLink count file.End = Unit {0}
