mod Removing
mod Blocks
mod Rows
