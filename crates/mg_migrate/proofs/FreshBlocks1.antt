-- Each block of a fresh volume of version 1 by its number.
use Rattle.{mg_layout.specs.FreshImage.fresh_bytes, mg_migrate.specs.{Fresh1.{fresh1_bytes, objects1_bytes}, Layout1.table1_block}}
use Rattle.{mg_migrate.specs.Spelling1.super1_bytes, mg_model.specs.{Layout.{first_object_block, super_block}, Settings.Settings}}
use Rattle.std.{proofs.{Common.{refl, sym, subst}, lemmas.Bool.{le-ltb, lt-ltb, ne_eqb}}, specs.Prelude.{◌≡◌, ◌≢◌, ℕ, ◌+◌, ◌<◌, ◌≤◌}}

module _ (settings : Settings) where
  is_super : fresh1_bytes settings super_block ≡ super1_bytes settings
  unfolding fresh1_bytes
  is_super = refl

  pub fresh_super : (i : ℕ) → i ≡ super_block → super1_bytes settings ≡ fresh1_bytes settings i
  fresh_super i is = let P : ℕ → Type 0 = λ k. super1_bytes settings ≡ fresh1_bytes settings k in subst P (sym is) (sym is_super)

  is_objects : fresh1_bytes settings first_object_block ≡ objects1_bytes settings
  unfolding fresh1_bytes
  is_objects = refl

  pub fresh_objects : (i : ℕ) → i ≡ first_object_block → objects1_bytes settings ≡ fresh1_bytes settings i
  fresh_objects i is = let P : ℕ → Type 0 = λ k. objects1_bytes settings ≡ fresh1_bytes settings k in subst P (sym is) (sym is_objects)

  pub fresh_before : (i : ℕ) → i ≢ super_block → i ≢ first_object_block → i < table1_block → fresh1_bytes settings i ≡ fresh_bytes settings i
  unfolding fresh1_bytes
  fresh_before i super objects low = let a = ne_eqb i super_block super in let b = ne_eqb i first_object_block objects in let c = lt-ltb i table1_block low in rw (a, b, c)

  pub fresh_behind : (i : ℕ) → i ≢ super_block → i ≢ first_object_block → table1_block ≤ i → fresh1_bytes settings i ≡ fresh_bytes settings (i + 512)
  unfolding fresh1_bytes
  fresh_behind i super objects high = let a = ne_eqb i super_block super in let b = ne_eqb i first_object_block objects in let c = le-ltb i table1_block high in rw (a, b, c)
