mod FirstPlaces
mod GreatestNumbers
mod Indexes
mod Kept
