use Rattle.mg_layout.proofs.FreshBlocks.{at_accounts, at_frame, at_gate, at_globals, at_objects, at_other, at_super, at_table, at_threads}
use Rattle.{mg_layout.specs.FreshImage.fresh_bytes, mg_model.specs.Settings.Settings, std.proofs.Common.{rules, ◌≡◌, ℕ, List, sym, subst, arith}}
use Rattle.mg_layout.proofs.fresh.fresh_block.Goals as goal

-- the bytes of block i, if i is this number
at_number : (settings : Settings) (i n : ℕ) (bytes : List ℕ) → i ≡ n → bytes ≡ fresh_bytes settings n → bytes ≡ fresh_bytes settings i
at_number settings i n bytes is same = let P : ℕ → Type 0 = λ k. bytes ≡ fresh_bytes settings k in subst P (sym is) same

pub returns-then-i-eq-GATE_BLOCK : goal.returns-then-i-eq-GATE_BLOCK
returns-then-i-eq-GATE_BLOCK c = search (rules, at_number, at_gate)

pub returns-then-i-eq-SUPER_BLOCK : goal.returns-then-i-eq-SUPER_BLOCK
returns-then-i-eq-SUPER_BLOCK c = search (rules, at_number, at_super)

pub returns-then-i-eq-GLOBALS_BLOCK : goal.returns-then-i-eq-GLOBALS_BLOCK
returns-then-i-eq-GLOBALS_BLOCK c = search (rules, at_number, at_globals)

pub returns-then-i-eq-FIRST_ACCOUNT_BLOCK : goal.returns-then-i-eq-FIRST_ACCOUNT_BLOCK
returns-then-i-eq-FIRST_ACCOUNT_BLOCK c = search (rules, at_number, at_accounts)

pub returns-then-i-eq-FIRST_THREAD_BLOCK : goal.returns-then-i-eq-FIRST_THREAD_BLOCK
returns-then-i-eq-FIRST_THREAD_BLOCK c = search (rules, at_number, at_threads)

pub returns-then-i-eq-FIRST_OBJECT_BLOCK : goal.returns-then-i-eq-FIRST_OBJECT_BLOCK
returns-then-i-eq-FIRST_OBJECT_BLOCK c = search (rules, at_number, at_objects)

pub returns-then-i-eq-TABLE_BLOCK : goal.returns-then-i-eq-TABLE_BLOCK
returns-then-i-eq-TABLE_BLOCK c = search (rules, at_number, at_table)

pub returns-then-i-geometry : goal.returns-then-i-geometry
returns-then-i-geometry c = grind (arith, at_number, at_frame)

pub returns-else-i-geometry : goal.returns-else-i-geometry
returns-else-i-geometry c = grind (arith, at_other)
