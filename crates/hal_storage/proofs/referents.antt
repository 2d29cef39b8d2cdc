mod Counted
mod Listed
