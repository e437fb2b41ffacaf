-- Laws of the commands: an accepted one keeps a valid world valid, and a recursive despawn is accepted or refused as a
-- whole.
use Rattle.std.specs.Prelude.{◌≡◌, true, Option, Ok}
use Rattle.scene_kinds.specs.declared.entity.Entity.{Entity}
use Rattle.scene_model.specs.World.{World, is_live}
use Rattle.scene_model.specs.Commands.{raise_tick, despawn_recursive}
use Rattle.scene_model.specs.Perform.{Command, perform, are_in_range}
use Rattle.scene_model.specs.Valid.{IsValid}

-- raising the tick keeps a valid world valid
abbrev pub RaiseKeeps : Type 0
RaiseKeeps = (w v : World) → IsValid w → raise_tick w ≡ Ok (tt, v) → IsValid v

-- an accepted command keeps a valid world valid, whichever it is, given values that their types can hold
abbrev pub CommandsKeep : Type 0
CommandsKeep = (w v : World) (c : Command) (a : Option Entity) → IsValid w → are_in_range c ≡ true → perform w c ≡ Ok (a, v) → IsValid v

-- a recursive despawn of a live entity is accepted: no despawn on the way is refused
abbrev pub DespawnRecursiveIsWhole : Type 0
DespawnRecursiveIsWhole = (w : World) (e : Entity) → IsValid w → is_live w e ≡ true → (v : World) × (despawn_recursive w e ≡ Ok (tt, v))
