use Rattle.std.proofs.Common.{◌≡◌, length, option_map}
use Rattle.serde_json.specs.Find.{get}
use Rattle.scene_json.specs.View.{fields, view}
use Rattle.scene_json.proofs.LastValues.{last_of}
use Rattle.scene_json.proofs.part.Part.get.Given as goal

abbrev pub invariant-members : goal.invariant-members
invariant-members l = get l.key (view l.self) ≡ last_of l.key (option_map view l.found) (fields l.members)

abbrev pub decreases-members : goal.decreases-members
decreases-members l = length (fields l.members)
