pub mod EquilibriumLaws
