-- What the loads of a network keep.
use Rattle.std.specs.Prelude.{ℕ, List}
use Rattle.nf_model.specs.Network.{Piece, ArePieces}
use Rattle.nf_report_def.specs.LoadsFile.{pieces_at}

-- of each link, pieces whose starts rise
pub record AreLoads (links : List (List Piece)) : Type 0 where
  pub each : (e : ℕ) → ArePieces (pieces_at links e)
