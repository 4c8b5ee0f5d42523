pub mod Kinds
pub mod Expr
pub mod File
pub mod Reader
pub mod Finder
pub mod Same
