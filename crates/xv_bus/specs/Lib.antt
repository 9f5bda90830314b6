pub mod Access
pub mod Below
pub mod Device
pub mod Finisher
pub mod Memory
pub mod Plic
pub mod Uart
