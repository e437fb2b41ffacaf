use Rattle.std.proofs.Common.{◌++◌, ap, sym, ◌∙◌, append-nil, arith}
use Rattle.scene_kinds.specs.declared.cells.Row.{Row}
use Rattle.scene_pass.proofs.RowSteps.{read_of, row_at}
use Rattle.scene_schedule.specs.Systems.{is_zero_value}
use Rattle.scene_schedule.proofs.QueuedRows.{column_long, column_zero, despawn_if, no_despawns, row_despawned}
use Rattle.scene_schedule.proofs.queued.push_despawns_in.Goals as goal

pub returns-in_default-clause-put : goal.returns-in_default-clause-put
returns-in_default-clause-put c =
    let old = c.args.queue.now.commands in
    sym (ap (λ cs. old ++ cs) (no_despawns c.args.kind c.args.table.now.mask c.args.table.now.rows c.len-count.ensures.kinds c.in_default.ensures.none) ∙ append-nil old)

pub prove-unreachable-requires : goal.prove-unreachable-requires
prove-unreachable-requires c =
    let column = c.in-Some.column in
    let long = column_long column.values.now column.added.now column.changed.now c.args.table.now.rows c.args.kind c.in-Some.ensures.cells c.in-Some.ensures.lists.0 c.in-Some.ensures.lists.1 in
    omega (arith, long, c.len-count.ensures.count)

pub rows-preserved : goal.rows-preserved
rows-preserved c =
    let column = c.in-Some.column in
    let rows = c.args.table.now.rows in
    let r = row_at rows c.rows.at (omega (arith, c.rows-test.true, c.len-count.ensures.count)) in
    row_despawned c.rows.queue.commands _ c.args.kind rows c.rows.at r.0 c.entity_at.result c.index-column-at.result _ r.1 (read_of (λ (row : Row). row.entity) rows c.rows.at r.0 c.entity_at.result r.1 c.entity_at.ensures)
    (column_zero column.values.now column.added.now column.changed.now rows c.args.kind c.rows.at r.0 c.index-column-at.result c.in-Some.ensures.cells c.in-Some.ensures.lists.0 c.in-Some.ensures.lists.1 r.1 c.index-column-at.is)
    (c.in_ok-push_if_zero.ensures.put ∙ ap (λ v. c.rows.queue.commands ++ despawn_if (is_zero_value v) c.entity_at.result) (sym c.index-column-at.is)) c.rows.invariant
