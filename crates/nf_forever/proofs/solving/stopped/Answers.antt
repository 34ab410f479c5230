use Rattle.std.proofs.Common.{◌≡◌, ℕ, ap, ◌∙◌, Some, None}
use Rattle.nf_forever.proofs.Common.{ℚ, Flow, Pattern, Cause, Standing, flow_of, Forever, Stops, forever_of}
use Rattle.nf_forever.proofs.solving.stopped.Goals as goal

-- The result of a stopped run has its flow, its phases, its last pattern and the stop.
told : (s : Standing) (flow : Flow) (phases : ℕ) (last : Pattern) (stop : Cause ℚ) → flow ≡ flow_of s → phases ≡ s.made → last ≡ s.last
    → ◌≡◌ {A = Forever} (record { flow = flow; phases = phases; last = last; stop = Some stop; tail = None }) (forever_of s (Stops stop))
told s flow phases last stop e f g =
    ap (λ (x : Flow). record { flow = x; phases = phases; last = last; stop = Some stop; tail = None }) e
    ∙ ap (λ (n : ℕ). record { flow = flow_of s; phases = n; last = last; stop = Some stop; tail = None }) f
    ∙ ap (λ (p : Pattern). record { flow = flow_of s; phases = s.made; last = p; stop = Some stop; tail = None }) g

pub returns : goal.returns
returns c = told c.args.run.now _ c.phases.result _ c.args.stop c.in_ok-flow.ensures c.phases.ensures (c.in_ok-last.ensures ∙ c.last.ensures)
