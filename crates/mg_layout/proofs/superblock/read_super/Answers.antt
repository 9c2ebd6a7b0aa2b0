use Rattle.{mg_layout.proofs.superblock.read_super.Goals.Else-number_at-lt-VERSION, mg_model.specs.{Bytes.{bytes_at, number_at}, Layout.magic}}
use Rattle.mg_model.specs.{Layout.version, Settings.Settings, Spelling.{are_settings, super_bytes, super_fields, super_read, BadSuper, Spells}}
use Rattle.mg_model.specs.{SuperblockLemmas.{super_read-bad, super_read-not, super_read-old, super_read-spells}, Words.same_bytes}
use Rattle.std.proofs.{Common.{◌≡◌, ◌≤◌, ℕ, List, true, false, Some, None, if◌then◌else◌, sym, ap, subst, ◌∙◌, ⊎_elim, arith}, lemmas.Bool.and_left}
use Rattle.std.proofs.lemmas.Bool.{and_right, cases_Bool, not-true, not-false, Decides.nat_tests}
use Rattle.mg_layout.proofs.superblock.read_super.Goals as goal

-- it begins with the eight bytes, and its version is not below 2
record IsRecent (bytes : List ℕ) : Type 0 where
  begins : same_bytes magic (bytes_at bytes 0 8) ≡ true
  recent : version ≤ number_at bytes 8

module _ (bytes : List ℕ) (is : IsRecent bytes) where
  none : None ≡ (if are_settings (super_fields bytes) then Some (super_fields bytes) else None) → super_read bytes ≡ BadSuper
  none read = grind (arith, nat_tests, super_read-bad, and_left)

  module _ (p : Settings) (read : Some p ≡ (if are_settings (super_fields bytes) then Some (super_fields bytes) else None)) where
    record AreFields : Type 0 where
      rule : are_settings (super_fields bytes) ≡ true
      same : p ≡ super_fields bytes

    fields_are : AreFields
    fields_are = ⊎_elim kept broken (cases_Bool (are_settings (super_fields bytes)))
      where
        kept : are_settings (super_fields bytes) ≡ true → AreFields
        kept t = let e : Some p ≡ Some (super_fields bytes) = read ∙ ap (λ b. if b then Some (super_fields bytes) else None) t in record { rule = t; same = (cc) }

        broken : are_settings (super_fields bytes) ≡ false → AreFields
        broken f = let e : Some p ≡ None = read ∙ ap (λ b. if b then Some (super_fields bytes) else None) f in absurd (cc)

    spelled : same_bytes (super_bytes p) bytes ≡ true → super_read bytes ≡ Spells p
    spelled t =
        super_read-spells bytes is.begins is.recent fields_are.rule (subst (λ (f : Settings). same_bytes (super_bytes f) bytes ≡ true) fields_are.same t)
        ∙ ap Spells (sym fields_are.same)

    other : same_bytes (super_bytes p) bytes ≡ false → super_read bytes ≡ BadSuper
    other f =
        super_read-bad bytes is.begins is.recent
        (and_right (are_settings (super_fields bytes)) (same_bytes (super_bytes (super_fields bytes)) bytes) (subst (λ (s : Settings). same_bytes (super_bytes s) bytes ≡ false) fields_are.same f))

pub returns-then-ne : goal.returns-then-ne
returns-then-ne c = super_read-not c.args.block.now (not-true (same_bytes magic (bytes_at c.args.block.now 0 8)) (sym c.ne.ensures ∙ c.if-ne.true))

pub returns-then-number_at-lt-VERSION : goal.returns-then-number_at-lt-VERSION
returns-then-number_at-lt-VERSION c =
    let word : c.number_at.result ≡ number_at c.args.block.now 8 = c.number_at.ensures in
    super_read-old c.args.block.now (not-false (same_bytes magic (bytes_at c.args.block.now 0 8)) (sym c.ne.ensures ∙ c.if-ne.false)) (omega arith)

is_recent : (c : goal.Else-number_at-lt-VERSION) → IsRecent c.args.block.now
is_recent c =
    let word : c.number_at.result ≡ number_at c.args.block.now 8 = c.number_at.ensures in
    record { begins = not-false (same_bytes magic (bytes_at c.args.block.now 0 8)) (sym c.ne.ensures ∙ c.if-ne.false); recent = omega arith }

pub returns-then-is_spelling : goal.returns-then-is_spelling
returns-then-is_spelling c = spelled c.args.block.now (is_recent (goal.at.returns-then-is_spelling c).Else-number_at-lt-VERSION) c.in-Some.params c.in-Some.ensures (sym c.is_spelling.ensures ∙ c.if-is_spelling.true)

pub returns-else-is_spelling : goal.returns-else-is_spelling
returns-else-is_spelling c = other c.args.block.now (is_recent (goal.at.returns-else-is_spelling c).Else-number_at-lt-VERSION) c.in-Some.params c.in-Some.ensures (sym c.is_spelling.ensures ∙ c.if-is_spelling.false)

pub returns-in-None : goal.returns-in-None
returns-in-None c = none c.args.block.now (is_recent (goal.at.returns-in-None c).Else-number_at-lt-VERSION) c.in-None.ensures
