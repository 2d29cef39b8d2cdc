pub mod Digits
pub mod Faults
pub mod Files
pub mod Shelf
pub mod Sink
pub mod MemShelf
pub mod MemSink
