pub mod Parts
pub mod FromRecord
pub mod FromRecordSteps
pub mod ToRecord
pub mod ToRecordSteps
