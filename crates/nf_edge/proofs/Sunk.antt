-- A sink in memory after a write.
use Rattle.std.specs.Prelude.{◌≡◌, ℕ}
use Rattle.std.proofs.Common.{ap, ◌∙◌}
use Rattle.nf_edge.specs.Faults.{one_more}
use Rattle.nf_edge.specs.Memory.{MemorySink}

-- a write that failed
pub failed : (sink old : MemorySink) (calls faults : ℕ) → sink ≡ old → calls ≡ one_more sink.calls → faults ≡ one_more sink.faults
    → record sink { calls = calls; faults = faults } ≡ record old { calls = one_more old.calls; faults = one_more old.faults }
failed sink old calls faults same e h = ap (λ (n : ℕ). record sink { calls = n; faults = faults }) e
    ∙ ap (λ (n : ℕ). record sink { calls = one_more sink.calls; faults = n }) h
    ∙ ap (λ (s : MemorySink). record s { calls = one_more s.calls; faults = one_more s.faults }) same
