-- In the order in which one reads them; each file ends with its theorem.
pub mod Plans
pub mod CodeInPlace
pub mod StackBytes
pub mod Frames
pub mod Jumps
pub mod Expressions
pub mod Simulation
pub mod Matching
pub mod Commands
pub mod Functions
pub mod Calls
pub mod Programs
pub mod Endings
pub mod Sizes
pub mod Fitting
pub mod Linking
pub mod Promises
