pub mod Firsts
pub mod Telling
pub mod Allotting
