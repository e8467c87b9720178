mod Saying
mod Dropping
mod OneByOne
mod Naming
