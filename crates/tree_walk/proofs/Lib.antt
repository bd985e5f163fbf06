pub mod Pinning
