pub mod Each
pub mod Fronts
pub mod Puts
pub mod Prints
pub mod Rises
