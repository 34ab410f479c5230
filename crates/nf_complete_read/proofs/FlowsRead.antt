-- The reading of a text, from that of its lines.
use Rattle.std.proofs.Common.{◌≡◌, ℕ, List, Result}
use Rattle.nf_complete_read.proofs.Common.{◌>>=◌, Named, file_closed, FlowsDraft, FlowsBroken, if_ended, flows_frame}
use Rattle.nf_side.specs.Drafted.{open_frame, drafted_in}
use Rattle.nf_complete_def.specs.FlowsFile.{flows_in}

pub flows_read : (n : Named) (text : List ℕ) (read : Result FlowsDraft FlowsBroken) → drafted_in (open_frame (flows_frame n)) text ≡ read → flows_in n text ≡ (read >>= if_ended)
unfolding flows_in
flows_read n text read e = file_closed (flows_frame n) text read e
