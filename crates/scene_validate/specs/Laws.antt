-- What the rules say of worlds.
use Rattle.std.specs.Prelude.{◌≡◌, None}
use Rattle.scene_model.specs.World.{World}
use Rattle.scene_model.specs.Valid.{IsValid}
use Rattle.scene_validate.specs.Parts.{Parts, AreInRange, ArePartsOf, world_of, parts_of}
use Rattle.scene_validate.specs.Rules.{first_broken}

-- parts that break no rule are those of a valid world
abbrev pub UnbrokenMakeWorlds : Type 0
UnbrokenMakeWorlds = (p : Parts) → AreInRange p → first_broken p ≡ None → IsValid (world_of p) × ArePartsOf p (world_of p)

-- the parts of a valid world break no rule, in whatever order their lists stand
abbrev pub WorldsBreakNone : Type 0
WorldsBreakNone = (p : Parts) (w : World) → IsValid w → ArePartsOf p w → first_broken p ≡ None

-- each world has parts, and they make it
abbrev pub WorldsHaveParts : Type 0
WorldsHaveParts = (w : World) → ArePartsOf (parts_of w) w × (world_of (parts_of w) ≡ w)
