mod Events
mod Responses
mod Same
mod Behind
mod Streams
mod Standing
mod ReadSteps
mod Fairness
