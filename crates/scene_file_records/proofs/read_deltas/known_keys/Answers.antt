use Rattle.std.proofs.Common.{subst, sym}
use Rattle.scene_json.specs.View.{view}
use Rattle.scene_json_forms.specs.Members.{members_in}
use Rattle.scene_json_forms.specs.Outcome.{ReadsAs}
use Rattle.scene_json_forms.specs.Paths.{path_bytes}
use Rattle.scene_json_forms.specs.Reading.{object_at}
use Rattle.scene_file_records.specs.declared.op.Op.{Op}
use Rattle.scene_file_records.specs.Op.{op_keys}
use Rattle.scene_file_records.proofs.read_deltas.known_keys.Goals as goal

pub returns-in-Despawned : goal.returns-in-Despawned
returns-in-Despawned c =
    let d = view c.args.value.now in
    subst (λ (o : Op). ReadsAs (λ _. members_in d) c.object_at-in-Despawned.result (object_at (op_keys o) (path_bytes c.args.path.now) d))
    (sym c.in-Despawned.is) c.object_at-in-Despawned.ensures
