pub mod Tables
pub mod Images
pub mod Words
pub mod Demands
