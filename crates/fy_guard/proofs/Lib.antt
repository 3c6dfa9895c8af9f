pub mod Behind
mod Going
mod Made
mod Guarding
mod Heading
mod CutLemmas
mod Whole
pub mod Without
