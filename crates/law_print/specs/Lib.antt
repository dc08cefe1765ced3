pub mod Lexemes
pub mod Printed
