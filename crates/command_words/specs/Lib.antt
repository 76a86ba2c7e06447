pub mod KeptLaws
pub mod KeptTaken
pub mod KeptWords
pub mod Taken
pub mod WordByWord
pub mod Words
