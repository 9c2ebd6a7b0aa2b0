-- Under which keys rights are kept, and the one seat of 256 that a key can have.
use Rattle.std.specs.{List.list_all, Option.option_to_list, Prelude.{ℕ, ◌+◌, ◌*◌, ◌/◌, ◌%◌, ◌==◌, ◌&&◌, ◌||◌, Bool}}
use Rattle.std.specs.Prelude.{not, List, [], ◌∷◌, ◌++◌, if◌then◌else◌, find, Option, option_map}
use Rattle.mg_model.specs.{Access.{allowed, at}, Accesses.Access, Rights.right_number, State.{Object, State}}
use Rattle.mg_model.specs.declared.limits.TheConstants.{PAGE_SIZE as page_size, PAGE_STRIDE as page_stride}
use Rattle.mg_model.specs.declared.limits.TheConstants.{RIGHT_STRIDE as right_stride, SEAT_COUNT as seat_count}
use Rattle.mg_model.specs.declared.rights.Right.{Right}

-- a thread, the base of an object, and a right: all addresses of the object have one key
pub record Key : Type 0 where
  pub thread : ℕ
  pub base : ℕ
  pub right : Right

abbrev pub seat_of : Key → ℕ
seat_of key = (key.thread + page_stride * (key.base / page_size) + right_stride * right_number key.right) % seat_count

-- whether two keys are one
abbrev pub is_key : Key → Key → Bool
is_key key other = key.thread == other.thread && (key.base == other.base && right_number key.right == right_number other.right)

-- the key of an access; an access to an address of no object has none
abbrev pub key_of : State → Access → Option Key
key_of state access =
    option_map (λ (object : Object). record { thread = access.thread; base = object.row.base; right = access.right })
    (at state.objects access.address)

-- the key that takes its seat by an access; an access that is not allowed gives no key
abbrev pub key_taken : State → Access → List Key
key_taken state access = if allowed state access.thread access.address access.right then option_to_list (key_of state access) else []

-- the keys that take their seats by accesses one after another, the last one first
abbrev pub keys_taken : State → List Access → List Key
keys_taken state [] = []
keys_taken state (access ∷ more) = keys_taken state more ++ key_taken state access

-- of keys that took their seats, the last one first, the key that has this seat now
abbrev pub first_at : ℕ → List Key → Option Key
first_at seat keys = find (λ key. seat_of key == seat) keys

-- whether the key's seat was taken by none of these but the key itself
abbrev pub has_seat : List Key → Key → Bool
has_seat keys key = list_all (λ other. is_key other key || not (seat_of other == seat_of key)) keys
