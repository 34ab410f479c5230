use Rattle.std.proofs.Common.{◌≡◌, ℕ, ap, ◌∙◌, Some, None}
use Rattle.nf_forever.proofs.Common.{Flow, Pattern, Standing, flow_of, tail_by, Tail, Forever, NeverEnds, forever_of}
use Rattle.nf_forever.proofs.solving.endless.Goals as goal

-- The result of a run that never ends has its flow, its phases, its last pattern and its tail.
told : (s : Standing) (flow : Flow) (phases : ℕ) (last : Pattern) (tail : Tail) → flow ≡ flow_of s → phases ≡ s.made
    → ◌≡◌ {A = Forever} (record { flow = flow; phases = phases; last = last; stop = None; tail = Some tail }) (forever_of s (NeverEnds last tail))
told s flow phases last tail e f =
    ap (λ (x : Flow). record { flow = x; phases = phases; last = last; stop = None; tail = Some tail }) e
    ∙ ap (λ (n : ℕ). record { flow = flow_of s; phases = n; last = last; stop = None; tail = Some tail }) f

pub returns : goal.returns
returns c = told c.args.run.now _ c.phases-phases.result c.args.thin.pattern (tail_by c.args.thin) c.in_ok-flow.ensures c.phases-phases.ensures
