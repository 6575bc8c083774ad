pub mod ColumnShape
pub mod SequencerLayer
pub mod Mirror
