pub mod Scripting
pub mod Rows
pub mod Checks
pub mod Checked
pub mod Playing
pub mod Places
pub mod Procs
