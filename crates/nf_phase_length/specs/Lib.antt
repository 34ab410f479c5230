pub mod Lengths
pub mod StepCodes
