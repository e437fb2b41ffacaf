use Rattle.scene_json.specs.View.{view}
use Rattle.scene_json_forms.specs.Paths.{path_bytes}
use Rattle.scene_requests.proofs.KindNames.{kind_below}
use Rattle.scene_requests.proofs.read_words.OneKindFormForm.read.Goals as goal

pub set_with-requires : goal.set_with-requires
set_with-requires c =
    kind_below c.args.self.now.schema.now (path_bytes c.args.path.now) (view c.args.value.now) c.in_ok-kind.kind c.in_ok-kind.field-0-1
    c.len-count.ensures.sound c.in_ok-kind.ensures
