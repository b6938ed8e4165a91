pub mod Shelves
pub mod ShelvesLemmas
