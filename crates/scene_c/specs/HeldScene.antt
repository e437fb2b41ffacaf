-- A scene that one pointer of C has, or several.
use Rattle.std.specs.Prelude.{◌≡◌, ◌⊎◌, ℕ, Option, Some, None}
use Rattle.std.specs.Arc.{arc_value}
use Rattle.scene_c.specs.declared.held_scene.HeldScene.{HeldScene}
use Rattle.scene_c.specs.declared.held_scene.HeldScene.TheVariants.{Alone, Shared}
use Rattle.scene_c.specs.declared.open_scene.OpenScene.{OpenScene}

-- the scene
abbrev pub seen : HeldScene → OpenScene
seen (Alone d) = d
seen (Shared a) = arc_value a

-- a call that would change a scene leaves one that is shared, and says so
abbrev pub StaysShared : HeldScene → Option HeldScene → ℕ → Type 0
StaysShared old new code = (code ≡ 7) × (new ≡ Some old)

-- a pointer has a scene with others
abbrev pub IsSharedAs : OpenScene → Option HeldScene → Type 0
IsSharedAs d (Some (Shared a)) = arc_value a ≡ d
IsSharedAs d h = ⊥

-- a scene is shared, and stays so where it is; or no memory was found, and it is as it was
abbrev pub Shares : Option HeldScene → Option HeldScene → ℕ → Type 0
Shares None new code = (code ≡ 2) × (new ≡ None)
Shares (Some (Alone d)) new code = ((code ≡ 0) × IsSharedAs d new) ⊎ ((code ≡ 1) × (new ≡ Some (Alone d)))
Shares (Some (Shared a)) new code = (code ≡ 0) × (new ≡ Some (Shared a))

-- another pointer has a shared scene too; or it is as it was, where no memory was found, or the scene isn't shared
abbrev pub HasReader : Option HeldScene → (old new : Option HeldScene) → ℕ → Type 0
HasReader None old new code = (code ≡ 2) × (new ≡ old)
HasReader (Some (Alone d)) old new code = (code ≡ 4) × (new ≡ old)
HasReader (Some (Shared a)) old new code = ((code ≡ 0) × IsSharedAs (arc_value a) new) ⊎ ((code ≡ 1) × (new ≡ old))

-- a scene is its pointer's alone again, or others have it still, and it stays shared
abbrev pub Unshares : Option HeldScene → Option HeldScene → ℕ → Type 0
Unshares None new code = (code ≡ 2) × (new ≡ None)
Unshares (Some (Alone d)) new code = (code ≡ 0) × (new ≡ Some (Alone d))
Unshares (Some (Shared a)) new code = ((code ≡ 0) × (new ≡ Some (Alone (arc_value a)))) ⊎ ((code ≡ 3) × (new ≡ Some (Shared a)))
