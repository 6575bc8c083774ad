pub mod Alone
pub mod Built
pub mod Connected
pub mod NarrowWaits
pub mod Placed
pub mod Totals
pub mod TwoWayWhole
