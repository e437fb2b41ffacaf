-- A resource that is put by a name and a value that may mean nothing.
use Rattle.std.proofs.Common.{◌≡◌, ℕ, List, true, false, Option, Some, None, refl, sym, subst, inl}
use Rattle.std.specs.Prelude.{if◌then◌else◌}
use Rattle.std.specs.Str.{is_utf8}
use Rattle.scene_kinds.specs.declared.value.Value.{Value}
use Rattle.scene_c.specs.Arguments.{put_of, text_of}
use Rattle.scene_c.specs.Calls.{AsksText}
use Rattle.scene_c.specs.declared.held_scene.HeldScene.{HeldScene}

-- the name is no text
pub bad_name : (v : Option Value) (name : List ℕ) (d : Option HeldScene) → is_utf8 name ≡ false → AsksText (put_of v (text_of name)) d d 4
bad_name None name d e = (refl, refl)
bad_name (Some v) name d e = subst (λ b. AsksText (put_of (Some v) (if b then Some name else None)) d d 4) (sym e) (refl, refl)

-- both mean something, and no memory was found for the value
pub no_room : (value : Option Value) (v : Value) (name : List ℕ) (d : Option HeldScene) → value ≡ Some v → is_utf8 name ≡ true → AsksText (put_of value (text_of name)) d d 1
no_room value v name d is e =
    subst (λ o. AsksText (put_of o (text_of name)) d d 1) (sym is) (subst (λ b. AsksText (put_of (Some v) (if b then Some name else None)) d d 1) (sym e) (inl (refl, refl)))
