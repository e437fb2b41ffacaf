use Rattle.std.proofs.Common.{◌≡◌, ◌∙◌, suc, length, ap, sym, subst, arith}
use Rattle.std.specs.Cmp.{nat_cmp_total}
use Rattle.scene_kinds.specs.Cells.{mask_of}
use Rattle.scene_kinds.proofs.Lists.{list_at_same}
use Rattle.scene_links.specs.Forest.{joined_at, with_link}
use Rattle.scene_links.specs.Room.{Holds as HoldsLinks}
use Rattle.scene_links.proofs.LinkLaws.{cut_none, room_of_joined}
use Rattle.scene_alloc.specs.Slots.{SlotState}
use Rattle.scene_table.specs.Rows.{put_back}
use Rattle.scene_table.specs.Tables.{rows_at, row_for, home_for}
use Rattle.scene_table.proofs.ReturnedRows.{returned_there}
use Rattle.scene_table.proofs.Swaps.{length-put_back}
use Rattle.scene_archetypes.specs.Archetypes.{HasRoomOf}
use Rattle.scene_model.specs.World.{World}
use Rattle.scene_model.specs.Raw.{uncut_row}
use Rattle.scene_model.proofs.CanParts.{uncut}
use Rattle.scene_model.specs.Valid.{IsValid}
use Rattle.scene_model.proofs.CutBack.{index_unused, uncut_nowhere, uncut_alone, cut_rows_come_back}
use Rattle.scene_model.proofs.GoodCells.{row_of_good}
use Rattle.scene_model.proofs.Relinks.{back_relinks}
use Rattle.scene_model.proofs.RowKinds.{row_kinds_low}
use Rattle.scene_world.specs.Stored.{world_of}
use Rattle.scene_world.proofs.Room.{seen_world, inside_tested, held_inside}
use Rattle.scene_world.proofs.SlotHomes.{no_more_unreleased}
use Rattle.scene_world.proofs.world.raw.WorldRawChanges.uncut_row_reserved.Goals as goal

pub mask-mask-requires-clause-below : goal.mask-mask-requires-clause-below
mask-mask-requires-clause-below c =
    let w = c.self.inside in
    let old : World = world_of w.schema w.slots w.tick w.tables.tables w.links.forest w.resources in
    let can = inside_tested c.self.view_is (λ v. uncut v c.args.entity c.args.place c.args.cells c.args.link c.args.retired) c.requires.can in
    row_kinds_low w.schema (mask_of c.args.cells) (row_for c.args.entity c.args.cells) (row_of_good old c.args.entity c.args.cells can.good) c.self.invariant.valid.schema.few

pub put_back-requires-clause-room : goal.put_back-requires-clause-room
put_back-requires-clause-room c =
    let w = c.self.inside in
    let old : World = world_of w.schema w.slots w.tick w.tables.tables w.links.forest w.resources in
    let can = inside_tested c.self.view_is (λ v. uncut v c.args.entity c.args.place c.args.cells c.args.link c.args.retired) c.requires.can in
    let held = held_inside c.self.view_is (λ v. uncut_row v c.args.entity c.args.place c.args.cells c.args.link c.args.retired) c.requires.room in
    let row = row_for c.args.entity c.args.cells in
    let m = mask_of c.args.cells in
    let rows = rows_at w.tables.tables m in
    let fits = held.rows.rows m in
    let one = ap length (list_at_same nat_cmp_total w.tables.tables m (put_back rows c.args.place row)) in
    let home = held.rows.homes (home_for c.args.cells c.args.place) row (returned_there w.tables.tables c.args.place row can.within) in
    subst (λ k. HasRoomOf w.tables k (suc c.args.entity.index)) (sym c.mask-mask.ensures) (record { row = omega (arith, fits, one, length-put_back rows c.args.place row); homes = omega (arith, home) })

pub put_back-requires-clause-absent : goal.put_back-requires-clause-absent
put_back-requires-clause-absent c =
    let w = c.self.inside in
    let old : World = world_of w.schema w.slots w.tick w.tables.tables w.links.forest w.resources in
    let can = inside_tested c.self.view_is (λ v. uncut v c.args.entity c.args.place c.args.cells c.args.link c.args.retired) c.requires.can in
    index_unused old c.args.entity c.args.retired c.self.invariant.valid (uncut_nowhere old c.args.entity c.args.place c.args.cells c.args.link c.args.retired c.self.invariant.valid can) can.slot

pub relink_reserved-requires-clause-can : goal.relink_reserved-requires-clause-can
relink_reserved-requires-clause-can c =
    let w = c.self.inside in
    let old : World = world_of w.schema w.slots w.tick w.tables.tables w.links.forest w.resources in
    let can = inside_tested c.self.view_is (λ v. uncut v c.args.entity c.args.place c.args.cells c.args.link c.args.retired) c.requires.can in
    back_relinks old c.args.entity c.args.place c.args.cells c.args.link c.args.retired (c.in-Some.parent, c.in-Some.at) c.self.invariant.valid can c.in-Some.is

pub relink_reserved-requires-clause-room : goal.relink_reserved-requires-clause-room
relink_reserved-requires-clause-room c =
    let w = c.self.inside in
    let old : World = world_of w.schema w.slots w.tick w.tables.tables w.links.forest w.resources in
    let can = inside_tested c.self.view_is (λ v. uncut v c.args.entity c.args.place c.args.cells c.args.link c.args.retired) c.requires.can in
    let held = held_inside c.self.view_is (λ v. uncut_row v c.args.entity c.args.place c.args.cells c.args.link c.args.retired) c.requires.room in
    let none = (uncut_alone old c.args.entity c.args.place c.args.cells c.args.link c.args.retired c.self.invariant.valid can).0 in
    let joined = subst (λ l. HoldsLinks w.links.room (with_link w.links.forest c.args.entity l)) c.in-Some.is held.links in
    room_of_joined w.links.room w.links.forest c.args.entity c.in-Some.parent c.in-Some.at none
    (subst (λ f. HoldsLinks w.links.room (joined_at f c.args.entity c.in-Some.parent c.in-Some.at)) (cut_none w.links.forest c.args.entity none) joined)

pub invariant_of-self : goal.invariant_of-self
invariant_of-self c =
    let w = c.self.inside in
    let old : World = world_of w.schema w.slots w.tick w.tables.tables w.links.forest w.resources in
    let can = inside_tested c.self.view_is (λ v. uncut v c.args.entity c.args.place c.args.cells c.args.link c.args.retired) c.requires.can in
    let row = row_for c.args.entity c.args.cells in
    let tables = c.put_back.ensures.tables in
    let none = (uncut_alone old c.args.entity c.args.place c.args.cells c.args.link c.args.retired c.self.invariant.valid can).0 in
    let links : with_link w.links.forest c.args.entity c.args.link ≡ c.relink_reserved.new.self.forest = ap (with_link w.links.forest c.args.entity) c.in-Some.is
    ∙ ap (λ f. joined_at f c.args.entity c.in-Some.parent c.in-Some.at) (cut_none w.links.forest c.args.entity none) ∙ sym c.relink_reserved.ensures.forest in
    let is : uncut_row old c.args.entity c.args.place c.args.cells c.args.link c.args.retired ≡ world_of w.schema c.unrelease.new.self w.tick c.put_back.new.self.tables c.relink_reserved.new.self.forest w.resources =
    λ i. record { schema = w.schema; slots = sym c.unrelease.ensures.state i; tick = w.tick; tables = sym tables i; children = links i; resources = w.resources.cells } in
    record {
      valid = subst IsValid is ((cut_rows_come_back c.args.entity c.args.place c.args.cells c.args.link c.args.retired).1.keeps old c.self.invariant.valid ((uncut old c.args.entity c.args.place c.args.cells c.args.link c.args.retired).1 can));
      homes = omega (arith, no_more_unreleased w.slots.state c.args.entity c.args.retired, ap (λ (s : SlotState). length s.generations) c.unrelease.ensures.state, c.put_back.ensures.homes, c.self.invariant.homes);
    }

pub returns-in-Some-clause-world : goal.returns-in-Some-clause-world
returns-in-Some-clause-world c =
    let w = c.self.inside in
    let old : World = world_of w.schema w.slots w.tick w.tables.tables w.links.forest w.resources in
    let can = inside_tested c.self.view_is (λ v. uncut v c.args.entity c.args.place c.args.cells c.args.link c.args.retired) c.requires.can in
    let row = row_for c.args.entity c.args.cells in
    let tables = c.put_back.ensures.tables in
    let none = (uncut_alone old c.args.entity c.args.place c.args.cells c.args.link c.args.retired c.self.invariant.valid can).0 in
    let links : with_link w.links.forest c.args.entity c.args.link ≡ c.relink_reserved.new.self.forest = ap (with_link w.links.forest c.args.entity) c.in-Some.is
    ∙ ap (λ f. joined_at f c.args.entity c.in-Some.parent c.in-Some.at) (cut_none w.links.forest c.args.entity none) ∙ sym c.relink_reserved.ensures.forest in
    let is : uncut_row old c.args.entity c.args.place c.args.cells c.args.link c.args.retired ≡ world_of w.schema c.unrelease.new.self w.tick c.put_back.new.self.tables c.relink_reserved.new.self.forest w.resources =
    λ i. record { schema = w.schema; slots = sym c.unrelease.ensures.state i; tick = w.tick; tables = sym tables i; children = links i; resources = w.resources.cells } in
    sym is ∙ ap (λ (v : World). uncut_row v c.args.entity c.args.place c.args.cells c.args.link c.args.retired) (seen_world c.self.view_is)

pub invariant_of-self-in-None : goal.invariant_of-self-in-None
invariant_of-self-in-None c =
    let w = c.self.inside in
    let old : World = world_of w.schema w.slots w.tick w.tables.tables w.links.forest w.resources in
    let can = inside_tested c.self.view_is (λ v. uncut v c.args.entity c.args.place c.args.cells c.args.link c.args.retired) c.requires.can in
    let row = row_for c.args.entity c.args.cells in
    let tables = c.put_back.ensures.tables in
    let none = (uncut_alone old c.args.entity c.args.place c.args.cells c.args.link c.args.retired c.self.invariant.valid can).0 in
    let links : with_link w.links.forest c.args.entity c.args.link ≡ w.links.forest = ap (with_link w.links.forest c.args.entity) c.in-None.is ∙ cut_none w.links.forest c.args.entity none in
    let is : uncut_row old c.args.entity c.args.place c.args.cells c.args.link c.args.retired ≡ world_of w.schema c.unrelease.new.self w.tick c.put_back.new.self.tables w.links.forest w.resources =
    λ i. record { schema = w.schema; slots = sym c.unrelease.ensures.state i; tick = w.tick; tables = sym tables i; children = links i; resources = w.resources.cells } in
    record {
      valid = subst IsValid is ((cut_rows_come_back c.args.entity c.args.place c.args.cells c.args.link c.args.retired).1.keeps old c.self.invariant.valid ((uncut old c.args.entity c.args.place c.args.cells c.args.link c.args.retired).1 can));
      homes = omega (arith, no_more_unreleased w.slots.state c.args.entity c.args.retired, ap (λ (s : SlotState). length s.generations) c.unrelease.ensures.state, c.put_back.ensures.homes, c.self.invariant.homes);
    }

pub returns-in-None-clause-world : goal.returns-in-None-clause-world
returns-in-None-clause-world c =
    let w = c.self.inside in
    let old : World = world_of w.schema w.slots w.tick w.tables.tables w.links.forest w.resources in
    let can = inside_tested c.self.view_is (λ v. uncut v c.args.entity c.args.place c.args.cells c.args.link c.args.retired) c.requires.can in
    let row = row_for c.args.entity c.args.cells in
    let tables = c.put_back.ensures.tables in
    let none = (uncut_alone old c.args.entity c.args.place c.args.cells c.args.link c.args.retired c.self.invariant.valid can).0 in
    let links : with_link w.links.forest c.args.entity c.args.link ≡ w.links.forest = ap (with_link w.links.forest c.args.entity) c.in-None.is ∙ cut_none w.links.forest c.args.entity none in
    let is : uncut_row old c.args.entity c.args.place c.args.cells c.args.link c.args.retired ≡ world_of w.schema c.unrelease.new.self w.tick c.put_back.new.self.tables w.links.forest w.resources =
    λ i. record { schema = w.schema; slots = sym c.unrelease.ensures.state i; tick = w.tick; tables = sym tables i; children = links i; resources = w.resources.cells } in
    sym is ∙ ap (λ (v : World). uncut_row v c.args.entity c.args.place c.args.cells c.args.link c.args.retired) (seen_world c.self.view_is)
