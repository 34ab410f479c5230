-- The lines of a report. Each line changes the parser state, or breaks a first rule.
use Rattle.std.specs.Prelude.{ℕ, suc, Bool, true, false, not, ◌&&◌, ◌||◌, ◌==◌, nat_lt, if◌then◌else◌, List, [], ◌∷◌, ◌++◌, length, map, flat_map, replicate, set, Option, Some, None, is_none, slice_get, Result, Ok, Err, codes}
use Rattle.std.specs.List.{last_or}
use Rattle.std.specs.Str.{bytes_eq}
use Rattle.nf_rational.specs.Rational.{ℚ}
use Rattle.nf_rational.specs.Operations.{0ℚ}
use Rattle.nf_rational.specs.Order.{lt_ℚ}
use Rattle.nf_frac_def.specs.Checked.{◌>>=◌}
use Rattle.nf_frac_words.specs.Digits.{digits_of}
use Rattle.nf_model.specs.declared.State.{State}
use Rattle.nf_model.specs.declared.State.TheVariants.{Tight, Full, Zero}
use Rattle.nf_model.specs.Curve.{Point}
use Rattle.nf_model.specs.Network.{Link}
use Rattle.nf_model.specs.Pattern.{Pattern}
use Rattle.nf_net_def.specs.declared.Cause.{Cause}
use Rattle.nf_net_def.specs.Names.{Name, has_name, place_of}
use Rattle.nf_net_def.specs.Named.{Named}
use Rattle.nf_rational.specs.Signs.{is_same}
use Rattle.nf_report_def.specs.declared.ReportRule.{ReportRule}
use Rattle.nf_report_def.specs.declared.ReportRule.TheVariants.{P3, P4, P5, P6, P7, P8, P9, P10, P11, P12, P13, P14}
use Rattle.nf_report_def.specs.ReportCauses.{or_rule, printed_number, cause_in, first_named}

-- ---- the curves of a report, in order
pub data Kind : Type 0 where
  OfLabel : Kind
  OfNever : Kind
  OfInflow : Kind
  OfOutflow : Kind
  OfQueue : Kind

pub record CurveKey : Type 0 where
  pub kind : Kind
  pub name : Name

abbrev pub key_word : Kind → List ℕ
key_word OfLabel = codes "label"
key_word OfNever = codes "never"
key_word OfInflow = codes "inflow"
key_word OfOutflow = codes "outflow"
key_word OfQueue = codes "queue"

abbrev pub key_of : Kind → Name → CurveKey
key_of kind name = record { kind = kind; name = name }

-- lists the labels of the nodes, the unreached nodes, and for each link its inflow, outflow and queue
abbrev pub curve_keys : Named → List CurveKey
curve_keys n = map (key_of OfLabel) n.node_names ++ map (key_of OfNever) n.idle_nodes
    ++ flat_map (λ name. key_of OfInflow name ∷ key_of OfOutflow name ∷ key_of OfQueue name ∷ []) n.link_names

-- ---- the parser state
-- the expected line: one of the head, one after the head, or one after `end`
pub data Stage : Type 0 where
  AtVersion : Stage
  AtHorizon : Stage
  AtReached : Stage
  AtCause : Stage
  InBody : Stage
  AtEnd : Stage

-- a curve has the points read so far, and rates if its kind has any
pub record ReadCurve : Type 0 where
  pub key : CurveKey
  pub points : List Point
  pub rates : List ℚ

pub record ReportDraft : Type 0 where
  pub stage : Stage
  pub horizon : ℚ
  pub reached : ℚ
  pub stop : Option (Cause ℚ)
  -- `done` holds the complete curves, and `keys` the keys of the curves after the current one
  pub done : List ReadCurve
  pub current : Option ReadCurve
  pub keys : List CurveKey
  -- `next_state` is the number after that of the link of the last `state` line
  pub next_state : ℕ
  pub states : Pattern

abbrev pub empty_report : Named → ReportDraft
empty_report n = record {
  stage = AtVersion;
  horizon = 0ℚ;
  reached = 0ℚ;
  stop = None;
  done = [];
  current = None;
  keys = curve_keys n;
  next_state = 0;
  states = replicate (length n.link_names) None;
}

-- tests whether both are equal
abbrev pub are_alike : Bool → Bool → Bool
are_alike true b = b
are_alike false b = not b

-- ---- the head
abbrev pub is_version : Named → List (List ℕ) → Bool
is_version n (key ∷ version ∷ []) = bytes_eq key (codes "report") && bytes_eq version (digits_of n.version)
is_version n words = false

abbrev pub version_line : Named → ReportDraft → List (List ℕ) → Result ReportDraft ReportRule
version_line n draft words = if is_version n words then Ok (record draft { stage = AtHorizon }) else Err P4

-- returns the words after a keyword
abbrev pub after_keyword : List ℕ → List (List ℕ) → Result (List (List ℕ)) ReportRule
after_keyword key [] = Err P5
after_keyword key (word ∷ words) = if bytes_eq word key then Ok words else Err P5

abbrev pub number_alone : List (List ℕ) → Result ℚ ReportRule
number_alone (word ∷ []) = or_rule P8 (printed_number word)
number_alone words = Err P6

abbrev pub horizon_line : ReportDraft → List (List ℕ) → Result ReportDraft ReportRule
horizon_line draft words = do
  rest ← after_keyword (codes "horizon") words
  horizon ← number_alone rest
  if lt_ℚ horizon 0ℚ then Err P10 else Ok (record draft { stage = AtReached; horizon = horizon })

abbrev pub reached_line : ReportDraft → List (List ℕ) → Result ReportDraft ReportRule
reached_line draft words = do
  rest ← after_keyword (codes "reached") words
  reached ← number_alone rest
  if lt_ℚ reached 0ℚ || lt_ℚ draft.horizon reached then Err P10 else Ok (record draft { stage = AtCause; reached = reached })

abbrev pub cause_line : ReportDraft → List (List ℕ) → Result ReportDraft ReportRule
cause_line draft words = do
  rest ← after_keyword (codes "cause") words
  stop ← cause_in rest
  if are_alike (is_none stop) (is_same draft.reached draft.horizon) then Ok (record draft { stage = InBody; stop = stop }) else Err P10

-- ---- a point of a curve
-- tests whether a line begins with these two words
abbrev pub begins_with : List ℕ → List ℕ → Option (List (List ℕ)) → Bool
begins_with key name None = false
begins_with key name (Some (word ∷ other ∷ words)) = bytes_eq word key && bytes_eq other name
begins_with key name (Some words) = false

abbrev pub is_key : Kind → Name → CurveKey → Bool
is_key kind name key = bytes_eq (key_word key.kind) (key_word kind) && bytes_eq key.name name

-- lists the complete curves, followed by the current one
abbrev pub with_current : List ReadCurve → Option ReadCurve → List ReadCurve
with_current done None = done
with_current done (Some curve) = done ++ curve ∷ []

-- a line extends `curve`; the curves `done` precede it, and those of `keys` follow
pub record Opened : Type 0 where
  pub curve : ReadCurve
  pub done : List ReadCurve
  pub keys : List CurveKey

-- begins the next curve
abbrev pub begun : List ReadCurve → Kind → Name → List CurveKey → Result Opened ReportRule
begun done kind name [] = Err P7
begun done kind name (key ∷ keys) = if is_key kind name key
    then Ok (record { curve = record { key = key; points = []; rates = [] }; done = done; keys = keys }) else Err P7

-- P7: the line belongs to the current curve, or begins the next one
abbrev pub opened : ReportDraft → Kind → Name → Option ReadCurve → Result Opened ReportRule
opened draft kind name None = begun draft.done kind name draft.keys
opened draft kind name (Some curve) =
    if is_key kind name curve.key then Ok (record { curve = curve; done = draft.done; keys = draft.keys })
    else begun (draft.done ++ curve ∷ []) kind name draft.keys

-- P11: the first time is 0, and each later time is greater than the one before
abbrev pub comes_after : Option Point → ℚ → Bool
comes_after None time = is_same time 0ℚ
comes_after (Some p) time = lt_ℚ p.0 time

abbrev pub with_point : ReportDraft → Opened → Point → List ℚ → ReportDraft
with_point draft o p rates =
    record draft {
      done = o.done;
      current = Some (record { key = o.curve.key; points = o.curve.points ++ p ∷ []; rates = rates });
      keys = o.keys;
    }

-- reads a time and a value
abbrev pub point_numbers : List ℕ → List ℕ → Result Point ReportRule
point_numbers time value = do
  t ← or_rule P8 (printed_number time)
  y ← or_rule P8 (printed_number value)
  Ok (t, y)

-- reads a rate, or `-`
abbrev pub some_rate : ℚ → Result (Option ℚ) ReportRule
some_rate q = Ok (Some q)

abbrev pub rate_word : List ℕ → Result (Option ℚ) ReportRule
rate_word word = if bytes_eq word (codes "-") then Ok None else (or_rule P8 (printed_number word) >>= some_rate)

abbrev pub with_rate : List ℚ → Option ℚ → List ℚ
with_rate rates None = rates
with_rate rates (Some rate) = rates ++ rate ∷ []

-- reads `label NODE TIME VALUE` and `queue LINK TIME VALUE`
abbrev pub point_line : Kind → ReportDraft → List (List ℕ) → Result ReportDraft ReportRule
point_line kind draft (name ∷ time ∷ value ∷ []) = do
  o ← opened draft kind name draft.current
  p ← point_numbers time value
  if comes_after (last_or None o.curve.points) p.0 then Ok (with_point draft o p o.curve.rates) else Err P11
point_line kind draft words = Err P6

-- reads `inflow LINK TIME VALUE RATE` and `outflow ..`; the rate is `-` exactly if the next line does not continue this curve
abbrev pub trace_line : Kind → ReportDraft → Option (List (List ℕ)) → List (List ℕ) → Result ReportDraft ReportRule
trace_line kind draft next (name ∷ time ∷ value ∷ rate ∷ []) = do
  o ← opened draft kind name draft.current
  p ← point_numbers time value
  r ← rate_word rate
  if not (comes_after (last_or None o.curve.points) p.0) then Err P11
      else (if are_alike (is_none r) (begins_with (key_word kind) name next) then Err P12
      else Ok (with_point draft o p (with_rate o.curve.rates r)))
trace_line kind draft next words = Err P6

-- reads `never NODE` of version 2: a curve that consists of this line
abbrev pub never_line : ReportDraft → List (List ℕ) → Result ReportDraft ReportRule
never_line draft (name ∷ []) = do
  o ← begun (with_current draft.done draft.current) OfNever name draft.keys
  Ok (record draft { done = o.done ++ o.curve ∷ []; current = None; keys = o.keys })
never_line draft words = Err P6

-- ---- after the curves
abbrev pub has_all : List CurveKey → Bool
has_all [] = true
has_all (key ∷ keys) = false

abbrev pub state_in : List ℕ → Option State
state_in word = first_named word ((codes "tight", Tight) ∷ (codes "full", Full) ∷ (codes "zero", Zero) ∷ [])

-- P9: a state of a link; an unbounded link must not be Full
abbrev pub state_of_link : Option ℚ → State → Result State ReportRule
state_of_link None Full = Err P9
state_of_link capacity state = Ok state

abbrev pub capacity_of : Option Link → Option ℚ
capacity_of None = None
capacity_of (Some link) = link.capacity

abbrev pub capacity_at : List Link → ℕ → Option ℚ
capacity_at links e = capacity_of (slice_get links e)

-- reads `state LINK STATE`
abbrev pub state_line : Named → ReportDraft → List (List ℕ) → Result ReportDraft ReportRule
state_line n draft (name ∷ word ∷ []) =
    let e = place_of n.link_names name in
    if not (has_name n.link_names name) || nat_lt e draft.next_state then Err P7
    else (or_rule P9 (state_in word) >>= λ word. (state_of_link (capacity_at n.net.links e) word >>= λ state.
    if has_all draft.keys then Ok (record draft {
      done = with_current draft.done draft.current;
      current = None;
      next_state = suc e;
      states = set draft.states e (Some state);
    }) else Err P13))
state_line n draft words = Err P6

-- reads `end`
abbrev pub end_line : ReportDraft → List (List ℕ) → Result ReportDraft ReportRule
end_line draft [] = if has_all draft.keys
    then Ok (record draft { stage = AtEnd; done = with_current draft.done draft.current; current = None }) else Err P13
end_line draft words = Err P6

-- ---- any line after the head
-- the first word of a line decides its kind; `never` is a kind from version 2 on
pub data LineKind : Type 0 where
  OfCurve : Kind → LineKind
  OfState : LineKind
  OfEnd : LineKind

abbrev pub never_kinds : Bool → List (List ℕ × LineKind)
never_kinds true = []
never_kinds false = (codes "never", OfCurve OfNever) ∷ []

abbrev pub line_kind : ℕ → List ℕ → Option LineKind
line_kind version word = first_named word (
    (codes "label", OfCurve OfLabel) ∷ (codes "inflow", OfCurve OfInflow) ∷ (codes "outflow", OfCurve OfOutflow)
    ∷ (codes "queue", OfCurve OfQueue)
    ∷ (codes "state", OfState) ∷ (codes "end", OfEnd) ∷ never_kinds (version == 1))

abbrev pub line_of_kind : Named → ReportDraft → Option (List (List ℕ)) → List (List ℕ) → LineKind → Result ReportDraft ReportRule
line_of_kind n draft next words (OfCurve OfLabel) = point_line OfLabel draft words
line_of_kind n draft next words (OfCurve OfNever) = never_line draft words
line_of_kind n draft next words (OfCurve OfInflow) = trace_line OfInflow draft next words
line_of_kind n draft next words (OfCurve OfOutflow) = trace_line OfOutflow draft next words
line_of_kind n draft next words (OfCurve OfQueue) = point_line OfQueue draft words
line_of_kind n draft next words OfState = state_line n draft words
line_of_kind n draft next words OfEnd = end_line draft words

abbrev pub body_line : Named → ReportDraft → Option (List (List ℕ)) → List (List ℕ) → Result ReportDraft ReportRule
body_line n draft next [] = Err P3
body_line n draft next (key ∷ words) = or_rule P5 (line_kind n.version key) >>= λ kind. line_of_kind n draft next words kind

-- no line may follow `end`
abbrev pub nothing_more : Result ReportDraft ReportRule → Result ReportDraft ReportRule
nothing_more (Ok draft) = Err P14
nothing_more (Err rule) = Err rule

abbrev pub staged_line : Named → ReportDraft → Option (List (List ℕ)) → List (List ℕ) → Stage → Result ReportDraft ReportRule
staged_line n draft next words AtVersion = version_line n draft words
staged_line n draft next words AtHorizon = horizon_line draft words
staged_line n draft next words AtReached = reached_line draft words
staged_line n draft next words AtCause = cause_line draft words
staged_line n draft next words InBody = body_line n draft next words
staged_line n draft next words AtEnd = nothing_more (body_line n draft next words)

-- P3: a line is equal to its words, and has at least one word
abbrev pub is_line_of_words : Bool → List (List ℕ) → Bool
is_line_of_words plain [] = false
is_line_of_words plain (word ∷ words) = plain

-- returns the parser state after one more line, or the first rule that the line breaks; `next` holds the words of the next line
abbrev pub report_line : Named → ReportDraft → Bool → Option (List (List ℕ)) → List (List ℕ) → Result ReportDraft ReportRule
report_line n draft plain next words = if is_line_of_words plain words then staged_line n draft next words draft.stage else Err P3
