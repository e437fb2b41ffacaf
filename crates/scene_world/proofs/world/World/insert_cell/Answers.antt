use Rattle.std.proofs.Common.{◌<◌, sym, subst, refl, arith}
use Rattle.scene_kinds.specs.Cells.{cell_of}
use Rattle.scene_model.specs.World.{World, IsHomeOf}
use Rattle.scene_table.specs.Tables.{Tables}
use Rattle.scene_world.specs.Stored.{world_of}
use Rattle.scene_model.specs.Valid.{IsValid}
use Rattle.scene_model.proofs.Bounds.{place_low}
use Rattle.scene_model.proofs.MoveKeeps.{with_tables, insert_made}
use Rattle.scene_model.proofs.NewCells.{insert_tests}
use Rattle.scene_world.proofs.Room.{seen_world, seen_room, wide_tables}
use Rattle.scene_world.proofs.world.World.insert_cell.Goals as goal

pub insert_at-requires-clause-kinds : goal.insert_at-requires-clause-kinds
insert_at-requires-clause-kinds c = λ row at. (c.self.invariant.valid.rows.each c.in-Some.home row at).fits.kinds

pub overflow_cast-place : goal.overflow_cast-place
overflow_cast-place c =
    let home = c.in-Some.ensures.row in
    let low : c.in-Some.home.place < 1048576 = place_low c.args.self.now.world c.in-Some.ensures.valid c.in-Some.home home.row home.there in
    omega (arith, low)

pub invariant_of-self-2 : goal.invariant_of-self-2
invariant_of-self-2 c =
    let w = c.self.inside in
    let old : World = world_of w.schema w.slots w.tick w.tables.tables w.links.forest w.resources in
    let home : IsHomeOf old c.args.entity c.in-Some.home = subst (λ (v : World). IsHomeOf v c.args.entity c.in-Some.home) (sym (seen_world c.self.view_is)) c.in-Some.ensures.row in
    let made = c.in_ok-before.ensures in
    let tests = insert_tests w.schema c.args.kind c.args.value (sym c.in_default-insert_fault.ensures) in
    record {
      valid = subst (λ (t : Tables). IsValid (with_tables old t)) (sym (made.ok home.row home.there))
          (insert_made old c.in-Some.home home.row c.args.kind c.args.value (cell_of home.row.cells c.args.kind) refl c.self.invariant.valid home.there tests.1);
      homes = omega (arith, made.homes, c.self.invariant.homes);
    }

pub returns-in_err-before-clause-wide : goal.returns-in_err-before-clause-wide
returns-in_err-before-clause-wide c = wide_tables c.self.inside.slots c.self.inside.tables c.insert_at.new.tables c.self.inside.links c.self.inside.resources c.args.self.now.room (seen_room c.self.view_is) c.insert_at.ensures.wide c.insert_at.ensures.homes

pub returns-clause-wide : goal.returns-clause-wide
returns-clause-wide c = wide_tables c.self.inside.slots c.self.inside.tables c.insert_at.new.tables c.self.inside.links c.self.inside.resources c.args.self.now.room (seen_room c.self.view_is) c.insert_at.ensures.wide c.insert_at.ensures.homes
