pub mod Apart
mod Orders
