use Rattle.scene_file.specs.Text.{kind_text}
use Rattle.scene_json_forms.proofs.ListsWritten.{written}
use Rattle.scene_file.proofs.write_world.write_kinds.Goals as goal

pub kinds-preserved : goal.kinds-preserved
kinds-preserved c = written c.kinds.later kind_text c.args.schema.now c.kinds.kind (c.kind_at-shape.result.0.now, c.kind_at-shape.result.1) _ _ _
    _ c.kind_at-shape.ensures c.kinds.invariant c.in_ok-write_comma.ensures c.in_ok-write_kind.ensures
