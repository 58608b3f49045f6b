pub mod Buffer
pub mod Read
pub mod ReadSteps
pub mod Segment
pub mod SegmentSteps
pub mod Write
pub mod WriteSteps
