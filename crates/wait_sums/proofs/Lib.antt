pub mod WaitLayers
pub mod Renamed
pub mod ConnectedParts
pub mod OwnShape
