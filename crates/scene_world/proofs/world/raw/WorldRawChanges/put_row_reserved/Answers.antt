use Rattle.std.proofs.Common.{◌≡◌, ◌∙◌, suc, ◌≤◌, ◌++◌, ◌∷◌, [], length, length-append, ap, sym, subst, arith, Ok}
use Rattle.std.specs.Cmp.{nat_cmp_total}
use Rattle.scene_kinds.specs.declared.entity.Entity.{Entity}
use Rattle.scene_kinds.specs.Answers.{Outcome}
use Rattle.scene_kinds.specs.Cells.{mask_of}
use Rattle.scene_kinds.proofs.Lists.{list_at_same}
use Rattle.scene_alloc.specs.Slots.{SlotState, take_of}
use Rattle.scene_table.specs.Tables.{rows_at, row_for}
use Rattle.scene_table.proofs.ReturnedRows.{back_last}
use Rattle.scene_table.proofs.Standing.{added_there}
use Rattle.scene_archetypes.specs.Archetypes.{HasRoomOf}
use Rattle.scene_model.specs.World.{World}
use Rattle.scene_model.specs.Raw.{put_row, taken_slots}
use Rattle.scene_model.proofs.CanParts.{put}
use Rattle.scene_model.specs.Valid.{IsValid}
use Rattle.scene_model.proofs.GoodCells.{row_of_good}
use Rattle.scene_model.proofs.LastRows.{next_home}
use Rattle.scene_model.proofs.PutBack.{took, rows_come_back}
use Rattle.scene_model.proofs.RowKinds.{row_kinds_low}
use Rattle.scene_model.proofs.SpawnKeeps.{taken_unused}
use Rattle.scene_model.proofs.TakenSlots.{taken}
use Rattle.scene_world.specs.Stored.{world_of}
use Rattle.scene_world.proofs.Room.{seen_world, inside_tested, held_inside}
use Rattle.scene_world.proofs.SlotHomes.{home_of_taken}
use Rattle.scene_world.proofs.world.raw.WorldRawChanges.put_row_reserved.Goals as goal

pub mask-mask-requires-clause-below : goal.mask-mask-requires-clause-below
mask-mask-requires-clause-below c =
    let w = c.self.inside in
    let old : World = world_of w.schema w.slots w.tick w.tables.tables w.links.forest w.resources in
    let can = inside_tested c.self.view_is (λ v. put v c.args.entity c.args.cells c.args.fresh) c.requires.can in
    row_kinds_low w.schema (mask_of c.args.cells) (row_for c.args.entity c.args.cells) (row_of_good old c.args.entity c.args.cells can.good) c.self.invariant.valid.schema.few

pub put_back-requires-clause-room : goal.put_back-requires-clause-room
put_back-requires-clause-room c =
    let w = c.self.inside in
    let old : World = world_of w.schema w.slots w.tick w.tables.tables w.links.forest w.resources in
    let held = held_inside c.self.view_is (λ v. put_row v c.args.entity c.args.cells) c.requires.room in
    let row = row_for c.args.entity c.args.cells in
    let m = mask_of c.args.cells in
    let rows = rows_at w.tables.tables m in
    let fits = held.rows.rows m in
    let one = ap length (list_at_same nat_cmp_total w.tables.tables m (rows ++ row ∷ [])) in
    let home = held.rows.homes (next_home w.tables.tables row) row (added_there w.tables.tables row) in
    subst (λ k. HasRoomOf w.tables k (suc c.args.entity.index)) (sym c.mask-mask.ensures) (record { row = omega (arith, fits, one, length-append rows (row ∷ [])); homes = omega (arith, home) })

pub put_back-requires-clause-absent : goal.put_back-requires-clause-absent
put_back-requires-clause-absent c =
    let w = c.self.inside in
    let old : World = world_of w.schema w.slots w.tick w.tables.tables w.links.forest w.resources in
    let can = inside_tested c.self.view_is (λ v. put v c.args.entity c.args.cells c.args.fresh) c.requires.can in
    let took = took w.slots.state c.args.entity can.next in
    taken_unused old (taken_slots w.slots.state (take_of w.slots.state)) c.args.entity c.self.invariant.valid (taken w.slots.state (taken_slots w.slots.state (take_of w.slots.state)) c.args.entity c.self.invariant.valid.slots took)

pub invariant_of-self : goal.invariant_of-self
invariant_of-self c =
    let w = c.self.inside in
    let old : World = world_of w.schema w.slots w.tick w.tables.tables w.links.forest w.resources in
    let can = inside_tested c.self.view_is (λ v. put v c.args.entity c.args.cells c.args.fresh) c.requires.can in
    let took = took w.slots.state c.args.entity can.next in
    let row = row_for c.args.entity c.args.cells in
    let answer : ◌≡◌ {A = Outcome Entity SlotState} (Ok (c.args.entity, taken_slots w.slots.state (take_of w.slots.state))) (Ok (c.take_reserved-entity.result, c.take_reserved-entity.new.self.state)) = sym took ∙ c.take_reserved-entity.ensures.answer in
    let slots = ap (taken_slots w.slots.state) answer in
    let tables = c.put_back.ensures.tables ∙ back_last w.tables.tables row c.mask-mask.result c.len-last.result c.mask-mask.ensures c.len-last.ensures in
    let is : put_row old c.args.entity c.args.cells ≡ world_of w.schema c.take_reserved-entity.new.self w.tick c.put_back.new.self.tables w.links.forest w.resources =
    λ i. record { schema = w.schema; slots = slots i; tick = w.tick; tables = sym tables i; children = w.links.forest; resources = w.resources.cells } in
    let home = (held_inside c.self.view_is (λ v. put_row v c.args.entity c.args.cells) c.requires.room).rows.homes (next_home w.tables.tables row) row (added_there w.tables.tables row) in
    record {
      valid = subst IsValid is ((rows_come_back c.args.entity c.args.cells c.args.fresh).0.keeps old c.self.invariant.valid ((put old c.args.entity c.args.cells c.args.fresh).1 can));
      homes = subst (λ (s : SlotState). length s.generations ≤ c.put_back.new.self.homes) slots (home_of_taken w.slots.state c.args.entity (taken_slots w.slots.state (take_of w.slots.state)) c.put_back.new.self.homes took (omega (arith, c.put_back.ensures.homes, c.self.invariant.homes)) (omega (arith, c.put_back.ensures.homes, home)));
    }

pub returns-clause-world : goal.returns-clause-world
returns-clause-world c =
    let w = c.self.inside in
    let old : World = world_of w.schema w.slots w.tick w.tables.tables w.links.forest w.resources in
    let can = inside_tested c.self.view_is (λ v. put v c.args.entity c.args.cells c.args.fresh) c.requires.can in
    let took = took w.slots.state c.args.entity can.next in
    let row = row_for c.args.entity c.args.cells in
    let answer : ◌≡◌ {A = Outcome Entity SlotState} (Ok (c.args.entity, taken_slots w.slots.state (take_of w.slots.state))) (Ok (c.take_reserved-entity.result, c.take_reserved-entity.new.self.state)) = sym took ∙ c.take_reserved-entity.ensures.answer in
    let slots = ap (taken_slots w.slots.state) answer in
    let tables = c.put_back.ensures.tables ∙ back_last w.tables.tables row c.mask-mask.result c.len-last.result c.mask-mask.ensures c.len-last.ensures in
    let is : put_row old c.args.entity c.args.cells ≡ world_of w.schema c.take_reserved-entity.new.self w.tick c.put_back.new.self.tables w.links.forest w.resources =
    λ i. record { schema = w.schema; slots = slots i; tick = w.tick; tables = sym tables i; children = w.links.forest; resources = w.resources.cells } in
    sym is ∙ ap (λ (v : World). put_row v c.args.entity c.args.cells) (seen_world c.self.view_is)
