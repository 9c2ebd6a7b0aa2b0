-- What a program did, and the words of its command line.
pub mod Programs
pub mod Words
