use Rattle.std.proofs.Common.{◌<◌, ◌∙◌, length, ap, sym, arith, refl}
use Rattle.std.specs.Prelude.{slice_get}
use Rattle.std.specs.Option.{option_map}
use Rattle.std.proofs.lemmas.Option.{slice_get_read}
use Rattle.scene_kinds.specs.declared.cells.Row.{Row}
use Rattle.scene_table.proofs.TableRows.{length-rows_of}
use Rattle.scene_table.proofs.TableFacts.{entity_read}
use Rattle.scene_table.proofs.table.Table.entity_at.Goals as goal

pub index-requires : goal.index-requires
index-requires c =
    let n = ap (λ t. length t.rows) (sym c.self.view_is) ∙ length-rows_of c.self.inside.entities.items c.self.inside.columns.items c.self.invariant.long in
    omega arith

pub returns : goal.returns
returns c =
    let es = c.self.inside.entities.items in
    let n = ap (λ t. length t.rows) (sym c.self.view_is) ∙ length-rows_of es c.self.inside.columns.items c.self.invariant.long in
    let l : c.args.at < length es = omega arith in
    ap (λ t. option_map (λ (row : Row). row.entity) (slice_get t.rows c.args.at)) (sym c.self.view_is)
    ∙ entity_read es c.self.inside.columns.items c.args.at c.index.result.now c.self.invariant.long l (slice_get_read es (length es) c.args.at c.index.result.now refl l c.index.ensures)
