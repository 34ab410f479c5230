-- The words of the command line, as clap reads them.
use Rattle.std.specs.Prelude.{ℕ, true, List, [], ◌∷◌, ◌++◌, map, Option, Some, None, unwrap_or, slice_get, if◌then◌else◌, codes}
use Rattle.clap.specs.Lexer.{usize_max}
use Rattle.clap.specs.declared.builder.action.ArgAction.TheVariants.{SetTrue}
use Rattle.clap.specs.Walk.{Row, Rule, Text, first_of, all_of}
use Rattle.clap.specs.Simple.{App, new_rule, new_shape, matches_of, with_rule}
use Rattle.clap.specs.Takes.{takes}

-- ---- the command
-- the required positional argument COMMAND
abbrev pub command_rule : Rule
command_rule = record (new_rule (codes "command")) { required = true }

-- the last positional argument FILES, with any number of values
abbrev pub files_rule : Rule
files_rule = record (new_rule (codes "files")) { range = Some (record { start_inclusive = 0; end_inclusive = usize_max }) }

-- an option `--name` with one value; it may be given once
abbrev pub option_rule : Text → Rule
option_rule name = record (new_rule name) { long = Some name }

-- a flag `--name` without a value; it may be given once
abbrev pub flag_rule : Text → Rule
flag_rule name = record (new_rule name) { long = Some name; action = Some SetTrue }

-- the command `nfot` without arguments, help flag, version flag or subcommands
unfoldable pub bare : App
bare = record { top = record (new_shape (codes "nfot")) { disable_help_flag = true }; subs = [] }

-- the command with an option of one value for each name
abbrev pub with_options : List Text → App → App
with_options [] app = app
with_options (name ∷ names) app = with_options names (with_rule app (option_rule name))

-- the options with one value
abbrev pub options : List Text
options =
    codes "horizon"
    ∷ codes "phases"
    ∷ codes "patterns"
    ∷ codes "amount"
    ∷ codes "augments"
    ∷ codes "number"
    ∷ codes "rungs"
    ∷ []

-- the arguments of `nfot`
abbrev pub arguments : List Rule
arguments = command_rule ∷ (map option_rule options ++ (flag_rule (codes "forever") ∷ files_rule ∷ []))

unfoldable pub nfot : App
nfot = record { top = record (new_shape (codes "nfot")) { disable_help_flag = true; rules = arguments }; subs = [] }

-- ---- the matches
-- clap's matches of the words, if it accepts them; the first word is the program's name
unfoldable pub matches_on : List Text → Option (List Row)
matches_on words = if takes nfot words then Some (matches_of nfot words) else None

-- the word of an argument, if the argument is given
unfoldable pub word_in : Text → List Row → Option Text
word_in name rows = first_of name rows

-- the words of FILES, in order
unfoldable pub files_in : List Row → List Text
files_in rows = unwrap_or (all_of (codes "files") rows) []

-- the file at an index, counted from 0
unfoldable pub file_in : ℕ → List Row → Option Text
file_in place rows = slice_get (files_in rows) place
