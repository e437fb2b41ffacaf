use Rattle.std.proofs.Common.{◌≡◌, ◌∙◌, ap, sym, subst, arith, [], false, true}
use Rattle.std.specs.Prelude.{option_map}
use Rattle.std.proofs.Common.{Bor}
use Rattle.scene_table.specs.Table.{TableState}
use Rattle.scene_table.specs.Tables.{rows_at}
use Rattle.scene_archetypes.specs.KindTables.{NoneHas}
use Rattle.scene_archetypes.proofs.Stored.{none_seen, no_rows, some_rows}
use Rattle.scene_archetypes.proofs.Rooms.{there}
use Rattle.scene_archetypes.proofs.kind_tables.KindTables.table.Goals as goal

pub returns-in_err-at-clause-rows : goal.returns-in_err-at-clause-rows
returns-in_err-at-clause-rows c =
    let none = none_seen c.args.mask c.self.inside.tables.items (subst (NoneHas c.args.mask) c.as_slice.ensures.value c.in_err-at.ensures.none) in
    ap (option_map (λ (table : Bor TableState). table.now.rows)) c.from_residual.ensures ∙ sym (no_rows c.args.self.now.tables c.args.mask (subst (λ t. rows_at t.tables c.args.mask ≡ []) c.self.view_is none))

pub index-table-requires : goal.index-table-requires
index-table-requires c = omega (arith, c.as_slice.ensures.len, c.in_ok-at.ensures.some.within)

pub returns-then-is_empty-clause-rows : goal.returns-then-is_empty-clause-rows
returns-then-is_empty-clause-rows c =
    let rows = (there c.self.inside.tables.items c.as_slice.result.now c.args.self.now c.args.mask c.in_ok-at.at c.index-table.result.now c.self.view_is c.as_slice.ensures.value c.in_ok-at.ensures.some c.index-table.ensures).rows in
    sym (no_rows c.args.self.now.tables c.args.mask (rows ∙ c.is_empty.ensures.0 c.if-is_empty.true))

pub returns-else-is_empty-clause-rows : goal.returns-else-is_empty-clause-rows
returns-else-is_empty-clause-rows c =
    let rows = (there c.self.inside.tables.items c.as_slice.result.now c.args.self.now c.args.mask c.in_ok-at.at c.index-table.result.now c.self.view_is c.as_slice.ensures.value c.in_ok-at.ensures.some c.index-table.ensures).rows in
    some_rows c.args.self.now.tables c.args.mask c.index-table.result.now.rows rows (λ e. let k : true ≡ false = sym (c.is_empty.ensures.1 e) ∙ c.if-is_empty.false in absurd (cc))

pub returns-else-is_empty-clause-mask : goal.returns-else-is_empty-clause-mask
returns-else-is_empty-clause-mask c =
    (there c.self.inside.tables.items c.as_slice.result.now c.args.self.now c.args.mask c.in_ok-at.at c.index-table.result.now c.self.view_is c.as_slice.ensures.value c.in_ok-at.ensures.some c.index-table.ensures).named
