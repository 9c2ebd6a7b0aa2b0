-- What contracts cite, and then lemmas that crates above cite: numbers that are printed, and the words of a line, taken one by one.
pub mod Fronts
pub mod NumberLemmas
pub mod PieceLemmas
