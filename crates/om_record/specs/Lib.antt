pub mod Kernel
pub mod Recording
pub mod Progress
