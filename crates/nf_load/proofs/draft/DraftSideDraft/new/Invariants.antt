use Rattle.std.proofs.Common.{◌≡◌, [], replicate}
use Rattle.nf_load.proofs.draft.DraftSideDraft.new.Given as goal

abbrev pub invariant-loop : goal.invariant-loop
invariant-loop l = l.pieces.items ≡ replicate l.counter []
