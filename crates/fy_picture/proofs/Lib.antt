mod Acking
mod Afters
mod Folding
mod Laying
mod Losing
mod Marking
pub mod Moving
pub mod Recorders
mod Recordings
pub mod SoFar
