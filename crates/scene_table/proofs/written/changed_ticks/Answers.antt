use Rattle.std.proofs.Common.{◌≡◌, ◌∙◌, List, ap, sym, arith, length, map, Some, ℕ, Vec, []}
use Rattle.std.proofs.lemmas.Option.{get_or_from_slice_get, slice_get_within}
use Rattle.std.specs.declared.alloc.Global.{Global}
use Rattle.scene_table.specs.declared.run.RunColumn.{RunColumn}
use Rattle.scene_table.specs.Runs.{changed_in, changed_of}
use Rattle.scene_table.proofs.RunFacts.{each_mapped}
use Rattle.scene_table.proofs.written.changed_ticks.Goals as goal

pub returns-then-are_changed_at : goal.returns-then-are_changed_at
returns-then-are_changed_at c number column there =
    let rows = c.args.table.now.rows in
    let columns = c.args.run.now.columns in
    ap (λ t. map (λ (tick : ℕ). Some tick) (changed_of t number (length rows))) c.same.ensures
    ∙ sym (ap (λ (x : RunColumn). changed_in rows x.kind) (sym (get_or_from_slice_get columns number column column there))
    ∙ c.are_changed_at.ensures c.if-are_changed_at.true number column (slice_get_within columns number column there))

pub returns : goal.returns
returns c number column there =
    let rows = c.args.table.now.rows in
    let columns = c.args.run.now.columns in
    let within = slice_get_within columns number column there in
    let count = ap length c.columns-column-items.ensures.columns in
    ap (λ t. map (λ (tick : ℕ). Some tick) (changed_of t number (length rows))) c.each.ensures
    ∙ each_mapped (λ (v : Vec ℕ Global). v.items) c.loop-column.columns.items number [] (λ (ticks : List ℕ). map (λ (tick : ℕ). Some tick) ticks ≡ changed_in rows column.kind) (omega arith)
    (λ v. sym (ap (λ (x : RunColumn). changed_in rows x.kind) (sym (get_or_from_slice_get columns number column column there)) ∙ c.loop-column.invariant.each number column v (omega arith)))
