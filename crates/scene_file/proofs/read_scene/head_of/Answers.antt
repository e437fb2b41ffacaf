use Rattle.std.proofs.Common.{Ok, ap, ◌∙◌}
use Rattle.std.proofs.lemmas.List.{map-id}
use Rattle.scene_json.specs.View.{view}
use Rattle.scene_json_forms.specs.Members.{members_in}
use Rattle.scene_file.proofs.SceneSteps.{head_said}
use Rattle.scene_file.proofs.read_scene.head_of.Goals as goal

pub returns : goal.returns
returns c =
    head_said (members_in (view c.args.scene.now)) _ _ _ _ _ c.in_ok-children.ensures (c.in_ok-free.ensures ∙ ap Ok (map-id _))
    (c.in_ok-generations.ensures ∙ ap Ok (map-id _))
    c.in_ok-schema.ensures c.in_ok-limit.ensures
