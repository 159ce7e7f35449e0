pub mod Register
pub mod Laying
