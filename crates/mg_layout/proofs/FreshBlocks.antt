-- Each block of a fresh volume by its number.
use Rattle.mg_layout.specs.FreshImage.{accounts_bytes, block_bytes, frame_bytes, gate_bytes, objects_bytes, table_bytes, threads_bytes}
use Rattle.mg_model.specs.Layout.{first_account_block, first_frame, first_object_block, first_thread_block, gate_block, globals_block, super_block}
use Rattle.{mg_model.specs.{Layout.table_block, Settings.Settings, Spelling.{globals_bytes, super_bytes}, State.State}, std.proofs.Common.refl}
use Rattle.std.{proofs.{Common.arith, lemmas.Bool.{eq-eqb, ne_eqb}}, specs.Prelude.{◌≡◌, ◌≢◌, ℕ, ◌≤◌, ◌==◌, if◌then◌else◌, replicate}}

module _ (settings : Settings) (state : State) where
  pub at_gate : block_bytes settings state gate_block ≡ gate_bytes
  unfolding block_bytes
  at_gate = refl

  pub at_super : block_bytes settings state super_block ≡ super_bytes settings
  unfolding block_bytes
  at_super = refl

  pub at_globals : block_bytes settings state globals_block ≡ globals_bytes state.counters
  unfolding block_bytes
  at_globals = refl

  pub at_accounts : block_bytes settings state first_account_block ≡ accounts_bytes state
  unfolding block_bytes
  at_accounts = refl

  pub at_threads : block_bytes settings state first_thread_block ≡ threads_bytes state
  unfolding block_bytes
  at_threads = refl

  pub at_objects : block_bytes settings state first_object_block ≡ objects_bytes state
  unfolding block_bytes
  at_objects = refl

  pub at_table : block_bytes settings state table_block ≡ table_bytes state
  unfolding block_bytes
  at_table = refl

  -- a block after the first of the frame table
  behind_table : (i : ℕ) → table_block ≢ i → table_block ≤ i → block_bytes settings state i ≡ (if i == first_frame settings.frames then frame_bytes state else replicate 4096 0)
  unfolding block_bytes
  behind_table i other behind = grind (arith, ne_eqb)

  pub at_frame : 1 ≤ settings.frames → block_bytes settings state (first_frame settings.frames) ≡ frame_bytes state
  at_frame some = grind (arith, eq-eqb, behind_table)

  -- any other block
  pub record IsOther (i : ℕ) : Type 0 where
    pub gate : i ≢ gate_block
    pub super : i ≢ super_block
    pub globals : i ≢ globals_block
    pub accounts : i ≢ first_account_block
    pub threads : i ≢ first_thread_block
    pub objects : i ≢ first_object_block
    pub table : i ≢ table_block
    pub frame : i ≢ first_frame settings.frames

  pub at_other : (i : ℕ) → IsOther i → block_bytes settings state i ≡ replicate 4096 0
  unfolding block_bytes
  at_other i is =
      let a = ne_eqb i gate_block is.gate in
      let b = ne_eqb i super_block is.super in
      let c = ne_eqb i globals_block is.globals in
      let d = ne_eqb i first_account_block is.accounts in
      let f = ne_eqb i first_thread_block is.threads in
      let g = ne_eqb i first_object_block is.objects in
      let h = ne_eqb i table_block is.table in
      let k = ne_eqb i (first_frame settings.frames) is.frame in
      rw (a, b, c, d, f, g, h, k)
