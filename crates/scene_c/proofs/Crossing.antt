-- An open scene may go over to other threads, and several may see it at once: so whoever shares it may go over.
use denote.Builtin.{u64}
use denote.Struct.Declared.{shape}
use denote.Param.Send.{IsSend, IsSync, owning_send, part_keyless, recorded_send, recorded_sync, sendable, struct_send, struct_sync}
use Rattle.std.proofs.Crossing.{crosses}
use Rattle.scene_kinds.proofs.value.Value.TheSendSync as value
use Rattle.scene_undo.proofs.editor.Editor.TheSendSync as editor
use Rattle.scene_session.specs.contracts.log.Log as log
use Rattle.scene_session.specs.contracts.lone_owner.LoneOwner as owner
use Rattle.scene_interpreter.proofs.answer.LineAnswer.TheSendSync as answer
use Rattle.scene_interpreter.proofs.interpreter.Interpreter.TheSendSync as interpreter
use Rattle.scene_interpreter.specs.contracts.interpreter.Interpreter as interpreted
use Rattle.scene_c.specs.contracts.held_scene.HeldScene as held
use Rattle.scene_c.specs.contracts.open_scene.OpenScene as scene

-- a log owns nothing
log_send : IsSend log.the_row
log_send = owning_send log.the_type tt (λ d. tt) (λ k x w. tt)

log_sync : IsSync log.the_row
log_sync = record { shared = λ d b o κ q. part_keyless log.the_row log_send q d b o }

owner_send : IsSend owner.the_row
owner_send = search (sendable, crosses, editor.the_send, log_send) depth 12

owner_sync : IsSync owner.the_row
owner_sync = search (sendable, crosses, editor.the_sync, log_sync) depth 12

interpreter_send : IsSend (interpreted.the_field owner.the_row u64).row
interpreter_send = interpreter.the_field_send owner.the_row u64 owner_send (search sendable)

interpreter_sync : IsSync (interpreted.the_field owner.the_row u64).row
interpreter_sync = interpreter.the_field_sync owner.the_row u64 owner_sync (search sendable)

scene_field_send : IsSend scene.the_field.row
scene_field_send = struct_send (shape scene.the_type)
    (interpreter_send, (answer.the_field_send, (search (sendable, crosses), (search (sendable, crosses, value.the_send) depth 12, tt))))

scene_field_sync : IsSync scene.the_field.row
scene_field_sync = struct_sync (shape scene.the_type)
    (interpreter_sync, (answer.the_field_sync, (search (sendable, crosses), (search (sendable, crosses, value.the_sync) depth 12, tt))))

pub scene_send : IsSend scene.the_row
scene_send = recorded_send scene.the_field.row _ _ scene.the_type.to_one scene_field_send

pub scene_sync : IsSync scene.the_row
scene_sync = recorded_sync scene.the_field.row _ _ scene.the_type.to_one scene_field_sync

pub held_send : IsSend held.the_row
held_send = search (sendable, crosses, scene_field_send, scene_send, scene_sync) depth 12
