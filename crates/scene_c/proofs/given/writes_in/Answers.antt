use Rattle.std.proofs.Common.{◌<◌, ◌∙◌, ap, sym, length, arith, pos}
use Rattle.std.specs.Prelude.{option_map}
use Rattle.std.proofs.lemmas.Option.{slice_get-get_or}
use Rattle.scene_c.specs.Given.{write_of}
use Rattle.scene_c.specs.declared.value.SceneCell.{SceneCell}
use Rattle.scene_c.specs.declared.value.SceneEntity.{SceneEntity}
use Rattle.scene_c.proofs.GivenLaws.{both_here, given_never, with_before}
use Rattle.scene_c.proofs.given.writes_in.Goals as goal

pub returns-in_default-clause-commands : goal.returns-in_default-clause-commands
returns-in_default-clause-commands c =
    let entities = c.args.entities.now in
    let cells = c.args.cells.now in
    let none_entity : SceneEntity = record { index = 0; generation = 0 } in
    let none_cell : SceneCell = record { kind = 0; shape = 0; x = pos 0; y = pos 0; z = pos 0 } in
    let there : c.writes.at < length cells = omega (arith, c.writes-test.true, c.writes.auto.at-end) in
    let both = both_here c.args.bytes.now c.writes.at entities cells _ _ (slice_get-get_or entities c.writes.at none_entity (omega (arith, there, c.requires)))
    (slice_get-get_or cells c.writes.at none_cell there) in
    sym (c.writes.invariant.0 ∙ ap (with_before c.writes.queue.commands) both
    ∙ given_never c.writes.queue.commands _ _ (ap (option_map (write_of _)) (sym c.in_ok-component.ensures ∙ c.in_default.is)))
