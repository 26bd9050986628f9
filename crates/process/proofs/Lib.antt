pub mod Arrivals
pub mod Calls
pub mod Courses
pub mod Formats
pub mod HandlingBytes
pub mod HandlingLaws
pub mod Histories
pub mod Laws
mod ReportExamples
pub mod ReportBytes
pub mod Rollbacks
pub mod Sound
