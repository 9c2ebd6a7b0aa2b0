-- Lemmas of the tests.
mod Found
