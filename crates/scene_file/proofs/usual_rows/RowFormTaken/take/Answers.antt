use Rattle.std.proofs.Common.{◌≡◌, subst, sym, ◌∙◌}
use Rattle.std.specs.List.{zip}
use Rattle.scene_file.specs.Walk.{row_at}
use Rattle.scene_json_tokens.specs.Taken.{IsTaken}
use Rattle.scene_file.proofs.RowsTaken.{row_taken}
use Rattle.scene_file.proofs.usual_rows.RowFormTaken.take.Goals as goal

pub returns : goal.returns
returns c =
    let kinds = c.args.self.now.kinds.now in
    let shapes = c.args.self.now.shapes.now in
    let found = c.in_ok-cells.ensures in
    let same : zip kinds found.0 ≡ c.from_vec.result = sym (c.from_vec.ensures ∙ found.1) in
    subst (λ cells. IsTaken (row_at kinds shapes) 4 c.args.reader.now c.take_object_end.new.reader (record { entity = c.in_ok-entity.entity; cells = cells }))
    same
    (row_taken kinds shapes c.args.reader.now c.take_object.new.reader c.take_key.new.reader c.take_cells.new.reader c.take_key-2.new.reader
    c.take.new.reader c.take_object_end.new.reader found.0 c.in_ok-entity.entity c.in_ok-take_object.ensures c.in_ok-take_key.ensures found.2
    c.in_ok-take_key-2.ensures c.in_ok-entity.ensures c.in_ok-take_object_end.ensures)
