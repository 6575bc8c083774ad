pub mod Chosen
pub mod Cuts
pub mod Filled
pub mod Keyed
pub mod Labelled
pub mod Layered
pub mod Links
