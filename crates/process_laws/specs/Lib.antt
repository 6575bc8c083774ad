pub mod Steady
pub mod Shape
pub mod GrantForms
pub mod Granting
pub mod Phased
pub mod Insensitive
