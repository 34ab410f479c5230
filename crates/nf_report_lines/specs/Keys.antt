-- The keys of a report's curves, by number.
use Rattle.std.specs.Prelude.{ℕ, zero, suc, Bool, false, List, [], ◌∷◌, flat_map, Option, Some, None, slice_get, unwrap_or}
use Rattle.nf_net_def.specs.Names.{Name}
use Rattle.nf_net_def.specs.Named.{Named}
use Rattle.nf_report_def.specs.ReportLines as lines
use Rattle.nf_report_def.specs.ReportLines.{CurveKey, key_of, curve_keys, is_key}
use Rattle.nf_report_lines.specs.declared.keys.Kind.{Kind}
use Rattle.nf_report_lines.specs.declared.keys.Kind.TheVariants.{Label, Never, Inflow, Outflow, Queue}
use Rattle.nf_report_lines.specs.declared.keys.Key.{Key}

abbrev pub seen_kind : Kind → lines.Kind
seen_kind Label = lines.OfLabel
seen_kind Never = lines.OfNever
seen_kind Inflow = lines.OfInflow
seen_kind Outflow = lines.OfOutflow
seen_kind Queue = lines.OfQueue

abbrev pub seen_key : Key → CurveKey
seen_key key = key_of (seen_kind key.kind) key.name.now

-- the keys of the curves of links
abbrev pub link_keys : List Name → List CurveKey
link_keys names = flat_map (λ name. key_of lines.OfInflow name ∷ key_of lines.OfOutflow name ∷ key_of lines.OfQueue name ∷ []) names

-- returns the key of the curve with this number, if there is one
abbrev pub key_of_number : Named → ℕ → Option CurveKey
key_of_number n index = slice_get (curve_keys n) index

-- returns the key of the curve with this number, or an arbitrary key
abbrev pub key_at : Named → ℕ → CurveKey
key_at n index = unwrap_or (slice_get (curve_keys n) index) (key_of lines.OfNever [])

-- the key exists and has this kind and name
abbrev pub is_some_key : lines.Kind → Name → Option CurveKey → Bool
is_some_key kind name None = false
is_some_key kind name (Some key) = is_key kind name key

-- returns the kind of a link's curve, by its number among the three
abbrev pub kind_of_three : ℕ → lines.Kind
kind_of_three zero = lines.OfInflow
kind_of_three (suc zero) = lines.OfOutflow
kind_of_three (suc (suc k)) = lines.OfQueue
