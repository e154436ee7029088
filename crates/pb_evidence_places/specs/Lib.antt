pub mod CallPlaces
