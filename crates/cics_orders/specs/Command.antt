pub mod Leads
pub mod Surveys
pub mod Written
