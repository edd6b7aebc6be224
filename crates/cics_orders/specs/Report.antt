pub mod Along
pub mod Findings
pub mod Amiss
pub mod Leads
pub mod Open
pub mod Parts
pub mod Reporting
pub mod PlainFaults
