use Rattle.std.proofs.Common.{◌≡◌, ◌∙◌, sym, subst, refl, ap, length, arith}
use Rattle.scene_alloc.specs.Slots.{SlotState, untake_of}
use Rattle.scene_alloc.proofs.SlotParts.{untake}
use Rattle.scene_table.specs.Tables.{row_for, without_row}
use Rattle.scene_table.proofs.Homes.{live_here}
use Rattle.scene_model.specs.World.{World, IsHomeOf}
use Rattle.scene_model.specs.Raw.{cells_of, drop_last}
use Rattle.scene_model.proofs.CanParts.{drop}
use Rattle.scene_model.specs.Valid.{IsValid}
use Rattle.scene_model.proofs.Found.{stands_in}
use Rattle.scene_model.proofs.LastRows.{last_home, last_row_there}
use Rattle.scene_model.proofs.PutBack.{drop_untakes, rows_come_back}
use Rattle.scene_model.proofs.RowOf.{made_by_row}
use Rattle.scene_world.specs.Stored.{world_of}
use Rattle.scene_world.proofs.Room.{seen_world, inside_tested}
use Rattle.scene_world.proofs.SlotHomes.{no_more_untaken}
use Rattle.scene_world.proofs.world.raw.WorldRawChanges.drop_last.Goals as goal

pub home_of_live-home-requires : goal.home_of_live-home-requires
home_of_live-home-requires c =
    let v = c.args.self.now.world in
    let row = row_for c.args.entity (cells_of v c.args.entity) in
    live_here v.tables c.args.entity (last_home v.tables row) row (last_row_there v.tables row ((drop v c.args.entity (cells_of v c.args.entity) c.args.fresh).0 c.requires).row) refl

pub drop_row-requires : goal.drop_row-requires
drop_row-requires c =
    let w = c.self.inside in
    let old : World = world_of w.schema w.slots w.tick w.tables.tables w.links.forest w.resources in
    let h = c.home_of_live-home.result in
    let home : IsHomeOf old c.args.entity h = subst (λ (v : World). IsHomeOf v c.args.entity h) (sym (seen_world c.self.view_is)) c.home_of_live-home.ensures.row in
    stands_in old c.args.entity h home

pub untake-requires : goal.untake-requires
untake-requires c =
    let w = c.self.inside in
    let old : World = world_of w.schema w.slots w.tick w.tables.tables w.links.forest w.resources in
    let can = inside_tested c.self.view_is (λ v. drop v c.args.entity (cells_of v c.args.entity) c.args.fresh) c.requires in
    (untake w.slots.state c.args.entity c.args.fresh).1 (drop_untakes old c.args.entity (cells_of old c.args.entity) c.args.fresh c.self.invariant.valid can)

pub invariant_of-self : goal.invariant_of-self
invariant_of-self c =
    let w = c.self.inside in
    let old : World = world_of w.schema w.slots w.tick w.tables.tables w.links.forest w.resources in
    let h = c.home_of_live-home.result in
    let home : IsHomeOf old c.args.entity h = subst (λ (v : World). IsHomeOf v c.args.entity h) (sym (seen_world c.self.view_is)) c.home_of_live-home.ensures.row in
    let can = inside_tested c.self.view_is (λ v. drop v c.args.entity (cells_of v c.args.entity) c.args.fresh) c.requires in
    let is : drop_last old c.args.entity c.args.fresh ≡ world_of w.schema c.untake.new.self w.tick c.drop_row.new.self.tables w.links.forest w.resources =
    made_by_row old c.args.entity h home.row (λ g row. record old { slots = untake_of w.slots.state c.args.entity c.args.fresh; tables = without_row w.tables.tables g }) home.found
    ∙ (λ i. record { schema = w.schema; slots = sym c.untake.ensures.state i; tick = w.tick; tables = sym c.drop_row.ensures.tables i; children = w.links.forest; resources = w.resources.cells }) in
    record {
      valid = subst IsValid is ((rows_come_back c.args.entity (cells_of old c.args.entity) c.args.fresh).1.keeps old c.self.invariant.valid ((drop old c.args.entity (cells_of old c.args.entity) c.args.fresh).1 can));
      homes = omega (arith, no_more_untaken w.slots.state c.args.entity c.args.fresh, ap (λ (s : SlotState). length s.generations) c.untake.ensures.state, c.drop_row.ensures.homes, c.self.invariant.homes);
    }
