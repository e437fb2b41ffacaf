-- A handle may go to another thread: so may what it owns, and any thread may free it.
use Rattle.std.specs.Prelude.{Option, Some, None}
use mir.Raw.{raw as bare}
use base.Fraction.{full_share}
use base.Shift.{Keyless}
use denote.Memory.{lone}
use denote.RawPtr.{Ptr, block_ptr, lies_at, null_ptr}
use denote.Param.Send.{IsSend, owning_send, part_keyless, sendable}
use Rattle.std.proofs.Crossing.{frees}
use Rattle.std.proofs.alloc.Global.TheSendSync as heap
use Rattle.std.specs.declared.alloc.Global.{Global}
use Rattle.scene_c.specs.Held.{held}
use Rattle.scene_c.specs.contracts.handle.Handle.{the_row, the_type}
use Rattle.scene_c.proofs.Crossing.{held_send}
use Rattle.scene_c.proofs.HandleValues.{Told}

lies : (p : Ptr) (x : Told.Denot) → Keyless (lies_at Told full_share p x)
lies (block_ptr b o) x = part_keyless Told held_send full_share x b o
lies null_ptr x = tt

keyless : (a : Global) (p : Ptr) (v : Option Told.Denot) → Keyless (held a p v)
keyless a p None = tt
keyless a p (Some x) = (lies p x, frees.frees a (bare (lone Told.mir)) p)

pub send : IsSend the_row
send = owning_send the_type (search sendable, (heap.the_field_send, tt)) (λ d. keyless d.alloc d.at d.value) (λ k x w. tt)
