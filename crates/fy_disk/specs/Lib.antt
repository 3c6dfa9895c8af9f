pub mod Disk
pub mod Disks
pub mod Holders
