use Rattle.scene_resources.proofs.ResourceLaws.{wider_room_holds, wider_of_wider}
use Rattle.scene_resources.proofs.laws.room_is_never_lost.Goals as goal

pub returns : goal.returns
returns c = record { holds = wider_room_holds; wider = wider_of_wider }
