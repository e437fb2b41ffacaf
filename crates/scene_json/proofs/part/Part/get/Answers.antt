use Rattle.std.proofs.Common.{sym, ap, ◌∙◌, option_map}
use Rattle.serde_json.specs.Data.{no_members}
use Rattle.scene_json.specs.NodeData.{put_all}
use Rattle.scene_json.specs.View.{fields, view}
use Rattle.scene_json.proofs.LastValues.{last_found}
use Rattle.scene_json.proofs.part.Part.get.Goals as goal

pub members-init : goal.members-init
members-init c =
    let p = c.args.self.now in
    last_found c.args.key.now (view p) (fields c.in_ok-members.members)
    (ap (option_map (λ m. put_all (fields m) no_members)) (sym c.in_ok-members.was) ∙ c.members-2.ensures)
