-- What the laws speak of beside the definitions of `written`, and value words worked out.
pub mod Valid
pub mod Calls
pub mod Reasons
pub mod Demands
pub mod ReadCalls
pub mod NumberedCalls
pub mod FlipCalls
pub mod Joined
pub mod PinCalls
pub mod WalkCalls
pub mod Sheets
pub mod RunCalls
pub mod Competing
pub mod Excess
pub mod NumberedOutcomes
pub mod WordExamples
