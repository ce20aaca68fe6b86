-- Calls with their answers.
pub mod Trace
pub mod SheetCalls
