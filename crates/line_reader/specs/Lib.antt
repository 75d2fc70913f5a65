pub mod Cut
pub mod Book
pub mod Damage
pub mod Calls
