pub mod Ascending
pub mod RowPlaces
pub mod ThreePlaces
