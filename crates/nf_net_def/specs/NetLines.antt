-- The lines of a network file. Each line has a meaning, or breaks one of the rules N3 to N16.
use Rattle.std.specs.Prelude.{ℕ, Bool, true, false, ◌&&◌, ◌||◌, nat_lt, nat_le, if◌then◌else◌, List, [], ◌∷◌, ◌++◌, length, Option, Some, None, is_some, Result, Ok, Err, codes}
use Rattle.std.specs.List.{last_or}
use Rattle.std.specs.Str.{bytes_eq}
use Rattle.nf_rational.specs.Rational.{ℚ}
use Rattle.nf_rational.specs.Operations.{0ℚ}
use Rattle.nf_rational.specs.Order.{le_ℚ, lt_ℚ}
use Rattle.nf_frac_def.specs.Checked.{◌>>=◌}
use Rattle.nf_model.specs.Network.{Piece}
use Rattle.nf_net_def.specs.declared.NetRule.{NetRule}
use Rattle.nf_net_def.specs.declared.NetRule.TheVariants.{N3, N4, N5, N6, N7, N8, N9, N10, N11, N12, N13, N14, N15, N16}
use Rattle.nf_text_def.specs.Words.{ReadLine}
use Rattle.nf_net_def.specs.Names.{Name, is_name, has_name, with_names}
use Rattle.nf_net_def.specs.Numbers.{number_in, capacity_in}
use Rattle.nf_net_def.specs.Named.{NamedLink, names_of}
use Rattle.nf_net_def.specs.Limits.{most_nodes, most_links, most_pieces}

-- a broken rule and its line
pub record Broken : Type 0 where
  pub rule : NetRule
  pub line : ℕ

-- ---- the meaning of a single line
pub data Entry : Type 0 where
  Source : Name → Entry
  Sink : Name → Entry
  LinkLine : NamedLink → Entry
  InflowLine : Piece → Entry
  End : Entry

-- reads `source NODE` and `sink NODE`
abbrev pub node_line : (Name → Entry) → List (List ℕ) → Result Entry NetRule
node_line make (name ∷ []) = if is_name name then Ok (make name) else Err N7
node_line make words = Err N6

abbrev pub link_entry : Name → Name → Name → Option ℚ → Option (Option ℚ) → Result Entry NetRule
link_entry name tail head (Some transit) (Some capacity) =
    Ok (LinkLine (record { name = name; tail = tail; head = head; transit = transit; capacity = capacity }))
link_entry name tail head transit capacity = Err N8

-- reads `link NAME TAIL HEAD TRANSIT CAPACITY`
abbrev pub link_line : ℕ → List (List ℕ) → Result Entry NetRule
link_line version (name ∷ tail ∷ head ∷ transit ∷ capacity ∷ []) =
    if is_name name && (is_name tail && is_name head)
    then link_entry name tail head (number_in version transit) (capacity_in version capacity) else Err N7
link_line version words = Err N6

abbrev pub inflow_entry : Option ℚ → Option ℚ → Result Entry NetRule
inflow_entry (Some start) (Some rate) = Ok (InflowLine (record { start = start; rate = rate }))
inflow_entry start rate = Err N8

-- reads `inflow START RATE`
abbrev pub inflow_line : ℕ → List (List ℕ) → Result Entry NetRule
inflow_line version (start ∷ rate ∷ []) = inflow_entry (number_in version start) (number_in version rate)
inflow_line version words = Err N6

-- reads `end`
abbrev pub end_line : List (List ℕ) → Result Entry NetRule
end_line [] = Ok End
end_line words = Err N6

-- returns the meaning of a line's words, or the first of N5 to N8 that they break
abbrev pub entry_of : ℕ → List (List ℕ) → Result Entry NetRule
entry_of version [] = Err N5
entry_of version (key ∷ words) =
    if bytes_eq key (codes "source") then node_line (λ name. Source name) words
    else (if bytes_eq key (codes "sink") then node_line (λ name. Sink name) words
    else (if bytes_eq key (codes "link") then link_line version words
    else (if bytes_eq key (codes "inflow") then inflow_line version words
    else (if bytes_eq key (codes "end") then end_line words
    else Err N5))))

-- ---- the parser state after some lines
pub record Draft : Type 0 where
  pub version : ℕ
  pub source : Option Name
  pub sink : Option Name
  -- the nodes that the lines name, in order of first appearance
  pub nodes : List Name
  pub links : List NamedLink
  pub pieces : List Piece
  -- whether an `end` line was read
  pub ended : Bool

abbrev pub empty_draft : ℕ → Draft
empty_draft version = record { version = version; source = None; sink = None; nodes = []; links = []; pieces = []; ended = false }

-- the parser state after one more line
abbrev pub after : Draft → Entry → Draft
after draft (Source name) = record draft { source = Some name; nodes = with_names draft.nodes (name ∷ []) }
after draft (Sink name) = record draft { sink = Some name; nodes = with_names draft.nodes (name ∷ []) }
after draft (LinkLine l) = record draft { nodes = with_names draft.nodes (l.tail ∷ l.head ∷ []); links = draft.links ++ l ∷ [] }
after draft (InflowLine piece) = record draft { pieces = draft.pieces ++ piece ∷ [] }
after draft End = record draft { ended = true }

-- ---- rules of a line that depend on earlier lines
-- the rule of the first true test
abbrev pub first_rule : List (Bool × NetRule) → Option NetRule
first_rule [] = None
first_rule (test ∷ rest) = if test.0 then Some test.1 else first_rule rest

-- these names make the number of nodes exceed the limit
abbrev pub too_many_nodes : Draft → List Name → Bool
too_many_nodes draft names = nat_lt most_nodes (length (with_names draft.nodes names))

abbrev pub is_negative : ℚ → Bool
is_negative x = lt_ℚ x 0ℚ

-- a given capacity is not greater than 0
abbrev pub is_no_capacity : Option ℚ → Bool
is_no_capacity None = false
is_no_capacity (Some capacity) = le_ℚ capacity 0ℚ

-- a start is not greater than that of the previous piece
abbrev pub is_not_after : ℚ → Option Piece → Bool
is_not_after start None = false
is_not_after start (Some before) = le_ℚ start before.start

abbrev pub broken_rule : Draft → Entry → Option NetRule
broken_rule draft (Source name) = first_rule ((is_some draft.source, N9) ∷ (too_many_nodes draft (name ∷ []), N10) ∷ [])
broken_rule draft (Sink name) = first_rule ((is_some draft.sink, N9) ∷ (too_many_nodes draft (name ∷ []), N10) ∷ [])
broken_rule draft (LinkLine l) = first_rule (
    (has_name (names_of draft.links) l.name, N9) ∷ (too_many_nodes draft (l.tail ∷ l.head ∷ []), N10)
    ∷ (nat_le most_links (length draft.links), N11)
    ∷ (is_negative l.transit, N13) ∷ (is_no_capacity l.capacity, N14) ∷ [])
broken_rule draft (InflowLine piece) = first_rule (
    (nat_le most_pieces (length draft.pieces), N12) ∷ (is_negative piece.start || is_negative piece.rate, N15)
    ∷ (is_not_after piece.start (last_or None draft.pieces), N16) ∷ [])
broken_rule draft End = None

-- ---- line by line
abbrev pub unless : Option NetRule → Draft → Result Draft NetRule
unless None draft = Ok draft
unless (Some rule) draft = Err rule

-- returns the parser state after one more line, or the first of N4 to N16 that the line breaks
abbrev pub add_line : Draft → List (List ℕ) → Result Draft NetRule
add_line draft words = if draft.ended then Err N4
    else (entry_of draft.version words >>= λ entry. unless (broken_rule draft entry) (after draft entry))

abbrev pub in_line : ℕ → Result Draft NetRule → Result Draft Broken
in_line number (Ok draft) = Ok draft
in_line number (Err rule) = Err (record { rule = rule; line = number })

abbrev pub add_lines : Draft → List ReadLine → Result Draft Broken
add_lines draft [] = Ok draft
add_lines draft (line ∷ rest) = do
  next ← in_line line.number (add_line draft line.words)
  add_lines next rest

-- ---- the first content line: `nfot 1` or `nfot 2`
abbrev pub version_of : List (List ℕ) → Option ℕ
version_of (key ∷ version ∷ []) =
    if bytes_eq key (codes "nfot") && bytes_eq version (codes "1") then Some 1
    else (if bytes_eq key (codes "nfot") && bytes_eq version (codes "2") then Some 2 else None)
version_of words = None

abbrev pub draft_after : Option ℕ → ℕ → List ReadLine → Result Draft Broken
draft_after None number rest = Err (record { rule = N3; line = number })
draft_after (Some version) number rest = add_lines (empty_draft version) rest

-- returns the parser state after all content lines, or the first line that breaks one of N3 to N16, with its first broken rule
abbrev pub draft_from : List ReadLine → Result Draft Broken
draft_from [] = Err (record { rule = N3; line = 1 })
draft_from (first ∷ rest) = draft_after (version_of first.words) first.number rest
