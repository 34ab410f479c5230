-- Values of the code, as values of the definitions.
use Rattle.std.specs.Prelude.{List, map, Option, option_map}
use Rattle.std.specs.Borrow.{Bor}
use Rattle.clap.specs.Walk.{Text, Row, rows_of}
use Rattle.clap.specs.Simple.{App, app_of}
use Rattle.clap.specs.Matches.{found_of}
use Rattle.clap.specs.declared.builder.command.Command.{Command}
use Rattle.clap.specs.declared.parser.matches.ArgMatches.{ArgMatches}
use Rattle.nf_app_words.specs.declared.commands.Line as code
use Rattle.nf_app_words.specs.declared.commands.Need.{Need}
use Rattle.nf_app_words.specs.Commands.{CommandRow}

-- the command as the parser reads it
unfoldable pub app_in : Command → App
app_in command = app_of command

-- the matches, argument by argument
unfoldable pub rows_in : ArgMatches → List Row
rows_in matches = rows_of (found_of matches)

-- an option of a command, with its need
abbrev pub wanted_of : Bor Text × Need → Text × Need
wanted_of option = (option.0.now, option.1)

-- a line of the table of commands
abbrev pub line_of : code.Line → CommandRow
line_of line = record { name = line.name.now; task = line.task; files = line.files; options = map wanted_of line.options.now }

-- the text of a reference
abbrev pub text_in : Option (Bor Text) → Option Text
text_in word = option_map (λ text. text.now) word
