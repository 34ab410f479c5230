-- What a network file as a whole says, as it is found out.
use Rattle.std.specs.Prelude.{◌≡◌, ℕ, Bool, true, false, not, ◌||◌, ◌==◌, if◌then◌else◌, List, length, map, is_none, slice_get, unwrap_or}
use Rattle.std.specs.List.{AllByRecursion, list_any}
use Rattle.nf_net_def.specs.declared.NetRule.{NetRule}
use Rattle.nf_net_def.specs.Names.{Name, place_of}
use Rattle.nf_net_def.specs.Named.{NamedLink}
use Rattle.nf_net_def.specs.NetLines.{Draft}
use Rattle.nf_net_def.specs.NetClosing.{BreaksRule, closing_rules, IsFirst, draft_hops, source_place}
use Rattle.nf_graph.specs.Graph.{AreReached}
use Rattle.nf_graph.specs.declared.distance.DistanceFault.{DistanceFault}
use Rattle.nf_graph.specs.declared.distance.DistanceFault.TheVariants.{Passed, Memory}
use Rattle.nf_frac_def.specs.Passing.{is_wide}
use Rattle.nf_net_def.specs.Numbers.{greatest}

-- there is an `end`, a source and another node as sink
pub record HasEnds (draft : Draft) : Type 0 where
  pub ended : draft.ended ≡ true
  pub named : (is_none draft.source || is_none draft.sink) ≡ false
  pub apart : draft.source ≡ draft.sink → ⊥

-- none of the rules N17 to N22 is broken, or this is the first
abbrev pub BreaksNone : Draft → Type 0
BreaksNone draft = AllByRecursion (λ rule. ¬ BreaksRule draft rule) closing_rules

abbrev pub BreaksFirstAtEnd : Draft → NetRule → Type 0
BreaksFirstAtEnd draft rule = IsFirst (BreaksRule draft) closing_rules rule

-- the flag of a node
abbrev pub flag_at : List Bool → ℕ → Bool
flag_at flags v = unwrap_or (slice_get flags v) false

-- a node, or from version 2 on the sink, has no flag
abbrev pub some_unreached : ℕ → List Bool → ℕ → Bool
some_unreached version flags sink = if version == 1 then list_any not flags else not (flag_at flags sink)

-- of each link, the flag of its tail
abbrev pub tail_flags : List Name → List Bool → List NamedLink → List Bool
tail_flags nodes flags links = map (λ l. flag_at flags (place_of nodes l.tail)) links

-- a flag for each node that the file names: whether a walk from the source reaches it
abbrev pub AreFlags : Draft → List Bool → Type 0
AreFlags draft flags = AreReached (length draft.nodes) (draft_hops draft) (source_place draft) flags

-- a sum passes, and its left side is a fraction that fits
abbrev pub HasFraction : DistanceFault → Type 0
HasFraction (Passed link left right) = is_wide greatest left ≡ false
HasFraction Memory = ⊥

-- the file as a whole breaks no rule, and these are its flags
pub record IsWhole (draft : Draft) (flags : List Bool) : Type 0 where
  pub ends : HasEnds draft
  pub fine : BreaksNone draft
  pub reached : AreFlags draft flags
