pub mod Computus
