pub mod CommandLine
pub mod Listing
