pub mod Firsts
pub mod Leads
pub mod Letters
pub mod Tables
pub mod Texts
pub mod Values
