-- A loads file gives each link its pieces, or breaks a first rule in some line.
use Rattle.std.specs.Prelude.{ℕ, Bool, true, false, if◌then◌else◌, List, [], ◌∷◌, ◌++◌, map, set, Option, None, Result, Ok, Err, codes, slice_get, unwrap_or}
use Rattle.std.specs.Str.{bytes_eq}
use Rattle.nf_frac_def.specs.Checked.{◌>>=◌}
use Rattle.nf_model.specs.Network.{Piece}
use Rattle.nf_net_def.specs.Names.{Name}
use Rattle.nf_net_def.specs.Named.{Named}
use Rattle.nf_side_def.specs.Lines as lines
use Rattle.nf_side_def.specs.Frame.{Broken, Frame, file_in}
use Rattle.nf_report_def.specs.declared.LoadRule.{LoadRule}
use Rattle.nf_report_def.specs.declared.LoadRule.TheVariants.{L1, L2, L3, L4, L5, L6, L7, L8, L9, L10, L11, L12}

-- the greatest number of lines of a link
abbrev pub most_lines_of_a_link : ℕ
most_lines_of_a_link = 200

abbrev pub LoadsBroken : Type 0
LoadsBroken = Broken LoadRule

-- ---- the meaning of a single line: a piece of a link, or the end
pub data LoadEntry : Type 0 where
  Rate : ℕ → Piece → LoadEntry
  End : LoadEntry

-- reads `rate LINK START RATE`
abbrev pub rate_line : List Name → List (List ℕ) → Result LoadEntry LoadRule
rate_line names words = lines.rate_line (λ e piece. Rate e piece) L6 L7 L8 names words

abbrev pub end_line : List (List ℕ) → Result LoadEntry LoadRule
end_line words = lines.end_line End L6 words

abbrev pub load_entry : List Name → List (List ℕ) → Result LoadEntry LoadRule
load_entry names [] = Err L5
load_entry names (key ∷ words) =
    if bytes_eq key (codes "rate") then rate_line names words
    else (if bytes_eq key (codes "end") then end_line words else Err L5)

-- ---- the parser state after some lines: the pieces of each link, and whether an `end` line was read
pub record LoadsDraft : Type 0 where
  pub pieces : List (List Piece)
  pub ended : Bool

abbrev pub pieces_at : List (List Piece) → ℕ → List Piece
pieces_at pieces e = unwrap_or (slice_get pieces e) []

-- returns the first rule that a piece breaks after the previous pieces of its link
abbrev pub rule_behind : List Piece → Piece → Option LoadRule
rule_behind before piece = lines.piece_rule most_lines_of_a_link L9 L10 L11 before piece

abbrev pub load_rule_of : LoadsDraft → LoadEntry → Option LoadRule
load_rule_of draft (Rate e piece) = rule_behind (pieces_at draft.pieces e) piece
load_rule_of draft End = None

abbrev pub load_after : LoadsDraft → LoadEntry → LoadsDraft
load_after draft (Rate e piece) = record draft { pieces = set draft.pieces e (pieces_at draft.pieces e ++ piece ∷ []) }
load_after draft End = record draft { ended = true }

abbrev pub add_load : List Name → LoadsDraft → List (List ℕ) → Result LoadsDraft LoadRule
add_load names draft words = if draft.ended then Err L4
    else (load_entry names words >>= λ entry. lines.unless_rule (load_rule_of draft entry) (load_after draft entry))

-- ---- the whole file
abbrev pub empty_loads : Named → LoadsDraft
empty_loads n = record { pieces = map (λ _. []) n.link_names; ended = false }

abbrev pub if_ended : LoadsDraft → Result (List (List Piece)) LoadsBroken
if_ended draft = if draft.ended then Ok draft.pieces else Err (record { rule = L12; line = 0 })

abbrev pub loads_frame : Named → Frame LoadRule LoadsDraft (List (List Piece))
loads_frame n = record {
  not_ascii = L1;
  long_line = L2;
  no_head = L3;
  keyword = codes "loads";
  empty = empty_loads n;
  add = add_load n.link_names;
  close = if_ended;
}

-- returns the pieces of each link, in the order of links, or the first broken rule with its line
unfoldable pub loads_in : Named → List ℕ → Result (List (List Piece)) LoadsBroken
loads_in n text = file_in (loads_frame n) text
