pub mod Builder
pub mod BuilderStored
