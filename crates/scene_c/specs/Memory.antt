-- The memory that C lends a call, or gives it to write a handle.
use Rattle.std.specs.Prelude.{ℕ, List, [], ◌++◌, zero, suc, ◌^◌, length, take, drop}
use base.Fraction.{full_share}
use base.Fml.{Fml, feq, fsep, flt}
use denote.Array.{Array}
use denote.Builtin.{u8}
use denote.RawPtr.{Ptr, lies_at}

-- so many bytes at a pointer, which may be null where there are none
abbrev pub bytes_at : Ptr → ℕ → List ℕ → Fml
bytes_at p zero bytes = feq (List ℕ) bytes []
bytes_at p (suc n) bytes = fsep (flt (suc n) (2 ^ 63)) (lies_at (Array u8 (suc n)) full_share p bytes)

-- as much of a list as there is room for, and then the room as it was
abbrev pub copied : {A : Type 0} → List A → List A → List A
copied items room = take (length room) items ++ drop (length items) room
