mod Common
pub mod ThinAnswers
pub mod CancelsOn
pub mod GoodSets
