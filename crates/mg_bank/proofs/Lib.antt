-- Lemmas.
mod Pages
