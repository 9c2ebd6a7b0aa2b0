-- What takes and puts do to the bytes left and the bytes taken, if those are told, and how this adds up over a run of calls.
use Rattle.std.{proofs.Common.{refl, sym, ap, ◌∙◌, append_assoc, append-nil}, specs.Io.KnownBytes.{Appends, Keeps}}
use Rattle.std.specs.{Io.KnownBytes.Consumes, Prelude.{◌≡◌, ◌≤◌, ◌+◌, ℕ, List, [], ◌++◌, length, Option, Some, None}}
use Rattle.std.specs.Prelude.{IfSome, IsSomeAnd}

-- some first bytes of the text were taken, and no others
abbrev pub AppendsPrefix : Option (List ℕ) → Option (List ℕ) → List ℕ → Type 0
AppendsPrefix old new text = (put more : List ℕ) × (put ++ more ≡ text) × Appends old new put

-- at most this many bytes were taken of what was left
abbrev pub TakesAtMost : ℕ → Option (List ℕ) → Option (List ℕ) → Type 0
TakesAtMost limit left left' = IfSome left (λ input. IsSomeAnd left' (λ rest. length input ≤ limit + length rest))

-- one text is taken after another
pub Appends-then : (a b c : Option (List ℕ)) (p q : List ℕ) → Appends a b p → Appends b c q → Appends a c (p ++ q)
Appends-then None b c p q h k = tt
Appends-then (Some x) None c p q h k = absurd h
Appends-then (Some x) (Some y) None p q h k = absurd k
Appends-then (Some x) (Some y) (Some z) p q h k = k ∙ ap (λ v. v ++ q) h ∙ append_assoc x p q

pub Appends-none : (a : Option (List ℕ)) → Appends a a []
Appends-none None = tt
Appends-none (Some x) = sym (append-nil x)

-- nothing is a prefix of each text
pub AppendsPrefix-none : (a : Option (List ℕ)) (p : List ℕ) → AppendsPrefix a a p
AppendsPrefix-none a p = ([], p, refl, Appends-none a)

-- a prefix of a text is one of each longer text
pub AppendsPrefix-longer : (a b : Option (List ℕ)) (p q : List ℕ) → AppendsPrefix a b p → AppendsPrefix a b (p ++ q)
AppendsPrefix-longer a b p q (put, more, parts, h) =
    (put, more ++ q, sym (append_assoc put more q) ∙ ap (λ v. v ++ q) parts, h)

-- one piece is given after another
pub Consumes-then : (a b c : Option (List ℕ)) (p q : List ℕ) → Consumes a b p → Consumes b c q → Consumes a c (p ++ q)
Consumes-then None b c p q h k = tt
Consumes-then (Some x) None c p q h k = absurd h
Consumes-then (Some x) (Some y) None p q h k = absurd k
Consumes-then (Some x) (Some y) (Some z) p q h k = h ∙ ap (λ v. p ++ v) k ∙ sym (append_assoc p q z)

pub Consumes-kept : (a b c : Option (List ℕ)) (p : List ℕ) → Consumes a b p → Keeps b c → Consumes a c p
Consumes-kept None b c p h k = tt
Consumes-kept (Some x) None c p h k = absurd h
Consumes-kept (Some x) (Some y) None p h k = absurd k
Consumes-kept (Some x) (Some y) (Some z) p h k = h ∙ ap (λ v. p ++ v) (sym k)

pub Consumes-none : (a : Option (List ℕ)) → Consumes a a []
Consumes-none None = tt
Consumes-none (Some x) = refl
