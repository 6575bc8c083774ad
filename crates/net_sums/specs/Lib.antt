pub mod NodeSums
