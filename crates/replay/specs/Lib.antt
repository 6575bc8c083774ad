pub mod Answers
pub mod Probes
pub mod ScheduleText
pub mod Mirror
