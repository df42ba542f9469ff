pub mod Arp
pub mod Forms
