pub mod Reading
pub mod DescentParts
pub mod Descent
pub mod Spelling
pub mod TreeOfText
pub mod ParsingLaws
pub mod Greedy
pub mod FirstFault
