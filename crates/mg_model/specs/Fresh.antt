-- The fresh state.
use Rattle.std.specs.Prelude.{ℕ, List, [], ◌∷◌, replicate}
use Rattle.mg_model.specs.{Draw.password_drawn, Objects.new_object, Settings.Settings, State.{State, Object, Thread}}
use Rattle.mg_model.specs.{Threads.new_thread, declared.limits.TheConstants.ROOT_BASE}
use Rattle.mg_model.specs.declared.threads.ThrState.TheVariants.{Stopped}

-- the base of the root object
abbrev pub root_base : ℕ
root_base = ROOT_BASE

-- the root's words: a capability list with one entry, for the root itself
abbrev pub root_words : ℕ → List ℕ
root_words password = 1 ∷ 0 ∷ root_base ∷ password ∷ replicate 508 0

-- one page, paid by account 1, with all rights for password 0
abbrev pub root_object : ℕ → Object
root_object password = record { row = (new_object root_base 1 1 password).row; words = root_words password }

-- the first thread is Stopped, and runs under the root's own password
abbrev pub first_thread : ℕ → Thread
first_thread password =
    let new = new_thread 1 1 0 0 (record { base = root_base; password = password } ∷ []) in
    record new { row = record new.row { state = Stopped } }

-- the fresh state of these settings: two passwords are drawn, for the root object and for the treasury
abbrev pub fresh : Settings → State
fresh settings = record {
  settings = settings;
  counters = record { draws = 2; period = 0; cursor = 0; births = 1 };
  objects = root_object (password_drawn settings.seed 0) ∷ [];
  accounts = record { password = password_drawn settings.seed 1; balance = settings.credits; owed = 0 } ∷ [];
  threads = first_thread (password_drawn settings.seed 0) ∷ [];
}
