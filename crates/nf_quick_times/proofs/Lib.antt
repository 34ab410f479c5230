mod Common
pub mod NodeByNode
pub mod SupplyOn
pub mod PieceByPiece
