-- Laws of the tables.
pub mod Tables
