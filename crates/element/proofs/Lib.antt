pub mod NameReading
pub mod PointedNames
pub mod ElementNames
