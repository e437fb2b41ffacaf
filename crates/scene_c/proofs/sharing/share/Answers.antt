use denote.Param.Send.{param_send, param_sync, sendable}
use Rattle.scene_c.proofs.Crossing.{scene_send, scene_sync}
use Rattle.scene_c.proofs.sharing.share.Goals as goal

pub shared-requires-send-T : goal.shared-requires-send-T
shared-requires-send-T c κs = search (sendable, param_send, scene_send)

pub shared-requires-sync-T : goal.shared-requires-sync-T
shared-requires-sync-T c κs = search (sendable, param_sync, scene_sync)
