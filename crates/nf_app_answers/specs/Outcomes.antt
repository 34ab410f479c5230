-- Outcomes of the code, as answers of the definitions.
use Rattle.std.specs.Prelude.{◌≡◌, ℕ, List, [], length, map, Option, None}
use Rattle.nf_rational.specs.Rational.{ℚ}
use Rattle.nf_net_def.specs.declared.Cause.{Cause}
use Rattle.nf_net_def.specs.Named.{Named}
use Rattle.nf_net_def.specs.NetText.{canonical}
use Rattle.nf_net_def.specs.Report.{IsWellFormed, report_text}
use Rattle.nf_report_def.specs.Texts.{load_text, answer_text}
use Rattle.nf_load.specs.Loadings.{loaded_of}
use Rattle.nf_phase.specs.Solution.{solution_report}
use Rattle.nf_complete_def.specs.SettleText.{settled_text}
use Rattle.nf_forever_def.specs.ForeverText.{HasForm, forever_text}
use Rattle.nf_routes_def.specs.RoutesFile.{routes_of}
use Rattle.nf_routes_def.specs.RoutesText.{routed_text}
use Rattle.nf_routes.specs.Carried.{with_kept_entries, carried_of}
use Rattle.nf_forever.specs.Seen.{forever_in}
use Rattle.nf_app_answers.specs.declared.outcome.Computed.{Computed}
use Rattle.nf_app_answers.specs.declared.outcome.Outcome.{Outcome}
use Rattle.nf_app_answers.specs.Answers.{ProgramAnswer, Solved, SolvedForever, Shown, Loaded, Checked, Quickest, TooManyWalks, Generated, Settled, Distributed}
use Rattle.nf_app_answers.specs.QuickText.{flow_text, quick_text, augments_text}
use Rattle.nf_app_answers.specs.GenText.{last_arrival, gen_text}

abbrev pub answer_with : Named → Computed → ProgramAnswer
answer_with net (Computed.Solved horizon s) = Solved net (solution_report horizon s)
answer_with net (Computed.SolvedForever forever) = SolvedForever net (forever_in forever)
answer_with net (Computed.Shown text) = Shown net
answer_with net (Computed.Loaded horizon links) = Loaded net horizon (map loaded_of links.items)
answer_with net (Computed.Checked verdict) = Checked net verdict
answer_with net (Computed.Quickest quick arrival text) = Quickest net quick arrival
answer_with net (Computed.TooManyWalks augments walks text) = TooManyWalks net augments walks.items
answer_with net (Computed.Generated ladder horizon s arrival) = Generated ladder.number ladder.rungs net s.phases (solution_report horizon s)
answer_with net (Computed.Settled settled) = Settled net settled.pattern settled.flows.items
answer_with net (Computed.Distributed routes horizon routed) = Distributed net routes horizon (carried_of net.net (routes_of routes) horizon routed)

-- The result satisfies the conditions of its text. A report, and a run without a horizon, are well formed. The canonical text is that of
-- the network. Each link has a loading. The text of a quickest flow holds all but the arrival. The arrival of a generated run is that of
-- the last departure. Settled flows and their pattern have an entry for each link. A loading by route has curves for each link and for each
-- route.
abbrev pub HasTextWith : Named → Computed → Type 0
HasTextWith net (Computed.Solved horizon s) = IsWellFormed net.net (solution_report horizon s)
HasTextWith net (Computed.SolvedForever forever) = HasForm net.net (forever_in forever)
HasTextWith net (Computed.Shown text) = text.items ≡ canonical net
HasTextWith net (Computed.Loaded horizon links) = length links.items ≡ length net.net.links
HasTextWith net (Computed.Checked verdict) = Unit {0}
HasTextWith net (Computed.Quickest quick arrival text) = text.items ≡ flow_text net quick
HasTextWith net (Computed.TooManyWalks augments walks text) = text.items ≡ augments_text net walks.items
HasTextWith net (Computed.Generated ladder horizon s arrival) = arrival ≡ last_arrival net (solution_report horizon s)
HasTextWith net (Computed.Settled settled) = (length settled.flows.items ≡ length net.net.links)
    × (length settled.pattern ≡ length net.net.links)
HasTextWith net (Computed.Distributed routes horizon routed) =
    (length routed.links.items ≡ length net.net.links) × (length routed.arrivals.items ≡ length routes)
    × (length routed.travels.items ≡ length routes)

abbrev pub text_with : Named → Computed → List ℕ
text_with net (Computed.Solved horizon s) = report_text net (solution_report horizon s)
text_with net (Computed.SolvedForever forever) = forever_text net (forever_in forever)
text_with net (Computed.Shown text) = text.items
text_with net (Computed.Loaded horizon links) = load_text net horizon (map loaded_of links.items)
text_with net (Computed.Checked verdict) = answer_text net verdict
text_with net (Computed.Quickest quick arrival text) = quick_text net quick arrival
text_with net (Computed.TooManyWalks augments walks text) = text.items
text_with net (Computed.Generated ladder horizon s arrival) = gen_text ladder.number ladder.rungs net s.phases (solution_report horizon s)
text_with net (Computed.Settled settled) = settled_text net settled.pattern settled.flows.items
text_with net (Computed.Distributed routes horizon routed) = routed_text net routes horizon (with_kept_entries [] routed)

-- why the run of the result stopped, if it did
abbrev pub stop_of : Computed → Option (Cause ℚ)
stop_of (Computed.Solved horizon s) = s.stopped
stop_of (Computed.SolvedForever forever) = forever.stopped
stop_of (Computed.Shown text) = None
stop_of (Computed.Loaded horizon links) = None
stop_of (Computed.Checked verdict) = None
stop_of (Computed.Quickest quick arrival text) = None
stop_of (Computed.TooManyWalks augments walks text) = None
stop_of (Computed.Generated ladder horizon s arrival) = s.stopped
stop_of (Computed.Settled settled) = None
stop_of (Computed.Distributed routes horizon routed) = None

-- ---- the same for an outcome
abbrev pub answer_in : Outcome → ProgramAnswer
answer_in outcome = answer_with outcome.net outcome.found

abbrev pub HasText : Outcome → Type 0
HasText outcome = HasTextWith outcome.net outcome.found
