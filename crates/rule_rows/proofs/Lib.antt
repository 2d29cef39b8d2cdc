pub mod Rules32
pub mod Rules50
pub mod Rules60
pub mod Rules70
pub mod Rules71
pub mod Rules72
pub mod Rules80
pub mod Rules90
