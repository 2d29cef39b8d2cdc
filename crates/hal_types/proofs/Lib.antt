pub mod Tables
mod Silent
