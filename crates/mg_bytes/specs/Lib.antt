-- A lemma that crates above cite. It is part of no statement.
pub mod WordLemmas
