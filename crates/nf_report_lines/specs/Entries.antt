-- Lines of a report, and their effects.
use Rattle.std.specs.Prelude.{◌≡◌, suc, ◌<◌, true, List, [], ◌∷◌, ◌++◌, length, set, Option, Some, None, IsSome}
use Rattle.std.specs.List.{last_or}
use Rattle.nf_net_def.specs.Named.{Named}
use Rattle.nf_report_def.specs.ReportLines as lines
use Rattle.nf_report_def.specs.ReportLines.{CurveKey, ReadCurve, ReportDraft, Opened, key_of, with_current, with_point, with_rate, comes_after}
use Rattle.nf_report_lines.specs.declared.entry.Opening.{Opening}
use Rattle.nf_report_lines.specs.declared.entry.Opening.TheVariants.{GoesOn, Begins}
use Rattle.nf_report_lines.specs.declared.entry.Entry.{Entry}
use Rattle.nf_report_lines.specs.declared.entry.Entry.TheVariants.{Version, Horizon, Reached, Cause, OfCurve, Never, OfLink, End}

-- ---- the curve that a line extends
-- the next curve, without points, after the complete ones
abbrev pub begun_by : List ReadCurve → List CurveKey → Opened
begun_by done [] = record { curve = record { key = key_of lines.OfNever []; points = []; rates = [] }; done = done; keys = [] }
begun_by done (key ∷ keys) = record { curve = record { key = key; points = []; rates = [] }; done = done; keys = keys }

-- the current curve
abbrev pub going_on : List ReadCurve → Option ReadCurve → List CurveKey → Opened
going_on done None keys = begun_by done keys
going_on done (Some curve) keys = record { curve = curve; done = done; keys = keys }

abbrev pub opened_by : ReportDraft → Opening → Opened
opened_by draft Begins = begun_by (with_current draft.done draft.current) draft.keys
opened_by draft GoesOn = going_on draft.done draft.current draft.keys

-- the current or next curve exists
abbrev pub CanOpen : ReportDraft → Opening → Type 0
CanOpen draft Begins = 0 < length draft.keys
CanOpen draft GoesOn = IsSome draft.current

-- ---- the parser state after a line
-- completes the current curve
abbrev pub closed : ReportDraft → ReportDraft
closed draft = record draft { done = with_current draft.done draft.current; current = None }

abbrev pub drafted : Named → ReportDraft → Entry → ReportDraft
drafted n draft Version = record draft { stage = lines.AtHorizon }
drafted n draft (Horizon horizon) = record draft { stage = lines.AtReached; horizon = horizon }
drafted n draft (Reached reached) = record draft { stage = lines.AtCause; reached = reached }
drafted n draft (Cause stop) = record draft { stage = lines.InBody; stop = stop }
drafted n draft (OfCurve opening p) =
    let o = opened_by draft opening in with_point draft o (p.time, p.value) (with_rate o.curve.rates p.rate)
drafted n draft Never =
    let o = begun_by (with_current draft.done draft.current) draft.keys in
    record draft { done = o.done ++ o.curve ∷ []; current = None; keys = o.keys }
drafted n draft (OfLink link state) =
    record (closed draft) { next_state = suc link; states = set draft.states link (Some state) }
drafted n draft End = record (closed draft) { stage = lines.AtEnd }

-- the next curve is an idle node
abbrev pub IsNeverNext : List CurveKey → Type 0
IsNeverNext [] = ⊥
IsNeverNext (key ∷ keys) = key.kind ≡ lines.OfNever

-- times of points increase, a `never` line belongs to the next curve, and a link belongs to the network
abbrev pub FitsDraft : Named → ReportDraft → Entry → Type 0
FitsDraft n draft (OfCurve opening p) = CanOpen draft opening × (comes_after (last_or None (opened_by draft opening).curve.points) p.time ≡ true)
FitsDraft n draft Never = IsNeverNext draft.keys
FitsDraft n draft (OfLink link state) = link < length n.net.links
FitsDraft n draft entry = Unit {0}
