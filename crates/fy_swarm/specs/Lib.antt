pub mod Swarm
