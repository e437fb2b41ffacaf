-- What a handle owns.
use Rattle.std.specs.Prelude.{Option, Some, None}
use base.Fml.{Fml, feq}
use denote.RawPtr.{Ptr, null_ptr}
use Rattle.std.specs.Box.Ownership.{box_owns}
use Rattle.std.specs.declared.alloc.Global.{Global}
use Rattle.std.specs.contracts.impls.GlobalAllocator.TheImpl.{ghosts}
use Rattle.scene_c.specs.contracts.held_scene.HeldScene.{the_row}
use Rattle.scene_c.specs.declared.held_scene.HeldScene.{HeldScene}

-- null and nothing, or a scene and the right to free its block
abbrev pub held : Global → Ptr → Option HeldScene → Fml
held alloc p None = feq Ptr p null_ptr
held alloc p (Some x) = box_owns (ghosts.dealloc_token alloc) the_row p x
