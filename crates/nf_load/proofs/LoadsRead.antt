-- The reading of a text, from that of its lines.
use Rattle.std.proofs.Common.{◌≡◌, ℕ, List, Result}
use Rattle.nf_load.proofs.Common.{◌>>=◌, file_closed, LoadsDraft, LoadsBroken, if_ended, loads_frame}
use Rattle.nf_net_def.specs.Named.{Named}
use Rattle.nf_side.specs.Drafted.{open_frame, drafted_in}
use Rattle.nf_report_def.specs.LoadsFile.{loads_in}

pub loads_read : (n : Named) (text : List ℕ) (read : Result LoadsDraft LoadsBroken) → drafted_in (open_frame (loads_frame n)) text ≡ read → loads_in n text ≡ (read >>= if_ended)
unfolding loads_in
loads_read n text read e = file_closed (loads_frame n) text read e
