-- The flows file and its rules.
use Rattle.std.specs.Prelude.{ℕ, Bool, true, false, if◌then◌else◌, List, [], ◌∷◌, map, set, Option, Some, None, is_some, Result, Ok, Err, codes, slice_get, unwrap_or}
use Rattle.std.specs.Result.{result_ok}
use Rattle.std.specs.Str.{bytes_eq}
use Rattle.nf_rational.specs.Rational.{ℚ}
use Rattle.nf_rational.specs.Operations.{0ℚ}
use Rattle.nf_frac_def.specs.Checked.{◌>>=◌}
use Rattle.nf_frac_words.specs.Numbers.{number_of}
use Rattle.nf_net_def.specs.Names.{Name, has_name, place_of}
use Rattle.nf_net_def.specs.Numbers.{greatest}
use Rattle.nf_net_def.specs.NetLines.{is_negative}
use Rattle.nf_net_def.specs.Named.{Named}
use Rattle.nf_side_def.specs.Lines as lines
use Rattle.nf_side_def.specs.Frame.{Broken, Frame, file_in}
use Rattle.nf_complete_def.specs.declared.FlowsRule.{FlowsRule}
use Rattle.nf_complete_def.specs.declared.FlowsRule.TheVariants.{S1, S2, S3, S4, S5, S6, S7, S8, S9, S10, S11}

abbrev pub FlowsBroken : Type 0
FlowsBroken = Broken FlowsRule

-- flows of the links and slopes of the nodes; 0 for each that the file does not name
pub record GivenFlows : Type 0 where
  pub flows : List ℚ
  pub slopes : List ℚ

-- ---- the entry of a single line: the flow of a link or the slope of a node, by number; or the end
pub data FlowsEntry : Type 0 where
  FlowOf : ℕ → ℚ → FlowsEntry
  SlopeOf : ℕ → ℚ → FlowsEntry
  End : FlowsEntry

abbrev pub number_entry : (ℚ → FlowsEntry) → Option ℚ → Result FlowsEntry FlowsRule
number_entry make (Some x) = if is_negative x then Err S9 else Ok (make x)
number_entry make None = Err S8

-- `flow LINK X` and `slope NODE L`
abbrev pub named_line : (ℕ → ℚ → FlowsEntry) → List Name → List (List ℕ) → Result FlowsEntry FlowsRule
named_line make names (name ∷ number ∷ []) = if has_name names name
    then number_entry (make (place_of names name)) (result_ok (number_of greatest number)) else Err S7
named_line make names words = Err S6

abbrev pub end_line : List (List ℕ) → Result FlowsEntry FlowsRule
end_line words = lines.end_line End S6 words

abbrev pub flows_entry : Named → List (List ℕ) → Result FlowsEntry FlowsRule
flows_entry n [] = Err S5
flows_entry n (key ∷ words) =
    if bytes_eq key (codes "flow") then named_line (λ e x. FlowOf e x) n.link_names words
    else (if bytes_eq key (codes "slope") then named_line (λ v x. SlopeOf v x) n.node_names words
    else (if bytes_eq key (codes "end") then end_line words else Err S5))

-- ---- parser state: the numbers read so far, and whether `end` was read
pub record FlowsDraft : Type 0 where
  pub flows : List (Option ℚ)
  pub slopes : List (Option ℚ)
  pub ended : Bool

abbrev pub is_given : List (Option ℚ) → ℕ → Bool
is_given numbers i = is_some (unwrap_or (slice_get numbers i) None)

-- the state after one more line
abbrev pub with_entry : FlowsDraft → FlowsEntry → Result FlowsDraft FlowsRule
with_entry draft (FlowOf e x) = if is_given draft.flows e then Err S10 else Ok (record draft { flows = set draft.flows e (Some x) })
with_entry draft (SlopeOf v x) = if is_given draft.slopes v then Err S10 else Ok (record draft { slopes = set draft.slopes v (Some x) })
with_entry draft End = Ok (record draft { ended = true })

abbrev pub add_flows : Named → FlowsDraft → List (List ℕ) → Result FlowsDraft FlowsRule
add_flows n draft words = if draft.ended then Err S4 else (flows_entry n words >>= with_entry draft)

-- ---- the whole file
abbrev pub empty_flows : Named → FlowsDraft
empty_flows n = record { flows = map (λ _. None) n.link_names; slopes = map (λ _. None) n.node_names; ended = false }

abbrev pub or_nothing : List (Option ℚ) → List ℚ
or_nothing numbers = map (λ number. unwrap_or number 0ℚ) numbers

abbrev pub if_ended : FlowsDraft → Result GivenFlows FlowsBroken
if_ended draft = if draft.ended then Ok (record { flows = or_nothing draft.flows; slopes = or_nothing draft.slopes })
    else Err (record { rule = S11; line = 0 })

abbrev pub flows_frame : Named → Frame FlowsRule FlowsDraft GivenFlows
flows_frame n = record {
  not_ascii = S1;
  long_line = S2;
  no_head = S3;
  keyword = codes "flows";
  empty = empty_flows n;
  add = add_flows n;
  close = if_ended;
}

-- the flows and slopes, or the first broken rule with its line
unfoldable pub flows_in : Named → List ℕ → Result GivenFlows FlowsBroken
flows_in n text = file_in (flows_frame n) text
