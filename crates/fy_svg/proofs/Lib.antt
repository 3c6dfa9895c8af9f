mod Marking
mod Places
