pub mod WeighedLists
pub mod Bases
pub mod OneWaitSum
pub mod RoundsSum
pub mod TokenSum
pub mod WeaveSum
pub mod PlainSum
