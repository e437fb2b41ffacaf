use Rattle.std.proofs.Common.{◌≡◌, ◌<◌, ◌∙◌, ℕ, ap, sym, subst, arith, false, is_some, Some, Err}
use Rattle.scene_kinds.specs.Answers.{refuse}
use Rattle.scene_kinds.specs.Cells.{cell_of}
use Rattle.scene_kinds.specs.declared.cells.Row.{Row}
use Rattle.scene_kinds.specs.declared.entity.Entity.{Entity}
use Rattle.scene_kinds.specs.declared.fault.Fault.TheVariants.{NotPresent}
use Rattle.scene_kinds.specs.KindSet.{has_kind}
use Rattle.scene_kinds.proofs.KindSets.{has_kind-mask_of}
use Rattle.scene_model.specs.Commands.{remove}
use Rattle.scene_model.specs.World.{World, IsHomeOf, is_unknown, row_of}
use Rattle.scene_table.specs.declared.home.Home.{Home}
use Rattle.scene_table.specs.Tables.{Tables}
use Rattle.scene_world.specs.Stored.{world_of}
use Rattle.scene_model.specs.Valid.{IsValid}
use Rattle.scene_model.proofs.Bounds.{place_low}
use Rattle.scene_model.proofs.RowKinds.{row_kinds_low}
use Rattle.scene_model.proofs.MoveKeeps.{with_tables, remove_made}
use Rattle.scene_world.proofs.Room.{seen_world, seen_room, wide_tables}
use Rattle.scene_world.proofs.world.World.remove_cell.Goals as goal

pub remove_at-requires-clause-kinds : goal.remove_at-requires-clause-kinds
remove_at-requires-clause-kinds c = λ row at.
    let fits = (c.self.invariant.valid.rows.each c.in-Some.home row at).fits in
    (fits.kinds, row_kinds_low c.self.inside.schema c.in-Some.home.mask row fits c.self.invariant.valid.schema.few)

pub overflow_cast-place : goal.overflow_cast-place
overflow_cast-place c =
    let home = c.in-Some.ensures.row in
    let low : c.in-Some.home.place < 1048576 = place_low c.args.self.now.world c.in-Some.ensures.valid c.in-Some.home home.row home.there in
    omega (arith, low)

-- the row has just the kinds of its table, and so not this one
pub returns-then-not-has_kind-clause-refused : goal.returns-then-not-has_kind-clause-refused
returns-then-not-has_kind-clause-refused c =
    let home = c.in-Some.ensures.row in
    let has = (c.in-Some.ensures.valid.rows.each c.in-Some.home home.row home.there).fits.kinds in
    let absent : is_some (cell_of home.row.cells c.args.kind) ≡ false = sym (has_kind-mask_of home.row.cells c.args.kind has.ascending) ∙ ap (λ m. has_kind m c.args.kind) has.kinds ∙ sym c.has_kind.ensures ∙ c.if-not-has_kind.true in
    let known : is_unknown c.args.self.now.world.schema c.args.kind ≡ false = ap (λ (v : World). is_unknown v.schema c.args.kind) (sym (seen_world c.self.view_is)) ∙ sym c.is_unknown.ensures ∙ c.if-is_unknown.false in
    λ other. not_there c.args.self.now.world c.args.entity c.args.kind c.in-Some.home home.row home.found known absent ∙ ap Err (sym c.from-then-not-has_kind.ensures)
  where
    not_there : (w : World) (e : Entity) (kind : ℕ) (h : Home) (row : Row) → row_of w e ≡ Some (h, row) → is_unknown w.schema kind ≡ false → is_some (cell_of row.cells kind) ≡ false → remove w e kind ≡ refuse NotPresent
    not_there w e kind h row found known absent = cc

pub invariant_of-self-2 : goal.invariant_of-self-2
invariant_of-self-2 c =
    let w = c.self.inside in
    let old : World = world_of w.schema w.slots w.tick w.tables.tables w.links.forest w.resources in
    let home : IsHomeOf old c.args.entity c.in-Some.home = subst (λ (v : World). IsHomeOf v c.args.entity c.in-Some.home) (sym (seen_world c.self.view_is)) c.in-Some.ensures.row in
    let made = c.in_ok-cell.ensures in
    record {
      valid = subst (λ (t : Tables). IsValid (with_tables old t)) (sym (made.ok home.row home.there)) (remove_made old c.in-Some.home home.row c.args.kind c.self.invariant.valid home.there);
      homes = omega (arith, made.homes, c.self.invariant.homes);
    }

pub returns-in_err-cell-clause-wide : goal.returns-in_err-cell-clause-wide
returns-in_err-cell-clause-wide c = wide_tables c.self.inside.slots c.self.inside.tables c.remove_at.new.tables c.self.inside.links c.self.inside.resources c.args.self.now.room (seen_room c.self.view_is) c.remove_at.ensures.wide c.remove_at.ensures.homes

pub returns-clause-wide : goal.returns-clause-wide
returns-clause-wide c = wide_tables c.self.inside.slots c.self.inside.tables c.remove_at.new.tables c.self.inside.links c.self.inside.resources c.args.self.now.room (seen_room c.self.view_is) c.remove_at.ensures.wide c.remove_at.ensures.homes
