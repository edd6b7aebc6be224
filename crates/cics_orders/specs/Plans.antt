pub mod Firsts
pub mod Defining
pub mod Taking
pub mod Proper
