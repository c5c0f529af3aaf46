pub mod EventCall
