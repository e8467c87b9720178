mod Sets
mod Walks
mod ByList
mod Reaching
mod Offering
mod Looking
