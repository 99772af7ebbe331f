pub mod Maps
pub mod Libraries
pub mod TouchedIds
pub mod HeldIds
pub mod Moves
