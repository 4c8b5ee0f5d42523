pub mod Epigraphs
pub mod Places
pub mod Numbers
pub mod Steps
pub mod Forms
