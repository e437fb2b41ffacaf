use Rattle.std.proofs.Common.{◌≡◌, ◌<◌, ◌∙◌, ap, sym, map, length, Some, arith}
use Rattle.std.specs.Option.{option_map}
use Rattle.std.specs.Prelude.{min}
use Rattle.std.proofs.lemmas.List.{length-map}
use Rattle.std.proofs.lemmas.Option.{slice_get-map, slice_get-get_or}
use Rattle.scene_model.specs.World.{component_of}
use Rattle.scene_c.proofs.Filled.{fill_more, fill_all}
use Rattle.scene_c.specs.Arguments.{entity_of}
use Rattle.scene_c.specs.Reads.{cell_or_absent}
use Rattle.scene_c.specs.declared.value.SceneCell.{SceneCell}
use Rattle.scene_c.specs.declared.value.SceneEntity.{SceneEntity}
use Rattle.scene_c.proofs.gathering.fill_cells.Goals as goal

pub cells-preserved : goal.cells-preserved
cells-preserved c =
    let shown : SceneEntity → SceneCell = λ e. cell_or_absent c.args.kind (component_of c.args.world.now.world (entity_of e) c.args.kind) in
    let items = c.args.entities.now in
    let there : c.cells.at < length items = omega (arith, c.min-at-end.ensures, c.cells-test.true) in
    let free : c.cells.at < length c.args.room.now = omega (arith, c.min-at-end.ensures, c.cells-test.true) in
    let read = slice_get-get_or items c.cells.at (record { index = 0; generation = 0 }) there in
    fill_more c.cells.at (map shown items) c.args.room.now c.cells.room c.cell_or_absent.result c.cells.invariant free
    (slice_get-map shown items c.cells.at ∙ ap (option_map shown) read ∙ ap (λ x. Some x) (sym c.cell_or_absent.ensures))

pub returns : goal.returns
returns c =
    let shown : SceneEntity → SceneCell = λ e. cell_or_absent c.args.kind (component_of c.args.world.now.world (entity_of e) c.args.kind) in
    let items = c.args.entities.now in
    let ends : min (length (map shown items)) (length c.args.room.now) ≡ c.cells.at =
    ap (λ n. min n (length c.args.room.now)) (length-map items shown) ∙ (let e : min (length items) (length c.args.room.now) ≡ c.cells.at = omega (arith, c.min-at-end.ensures, c.cells-test.false, c.cells.auto.at-end) in e) in
    fill_all c.cells.at (map shown items) c.args.room.now c.cells.room c.cells.invariant ends
