pub mod Truths
pub mod Laws
pub mod Numbers
pub mod Rows
pub mod Lists
pub mod Lengths
pub mod Values
pub mod Loops
