pub mod LoadsFile
pub mod ReportCauses
pub mod ReportLines
pub mod ReportFile
pub mod Texts
pub mod RuleWords
