use Rattle.std.proofs.Common.{◌≡◌, List, map as each, ap, subst, sym, ◌∙◌, rules, Bor}
use Rattle.std.specs.List.Sorted.{IsPermutation, IsNonDecreasing}
use Rattle.std.proofs.lemmas.List.{take_all}
use Rattle.std.proofs.lemmas.List.Sorted.{IsPermutation-map, IsNonDecreasingBy-from_sort_by_key}
use Rattle.std.proofs.lemmas.Simd.{map-map}
use Rattle.scene_table.specs.Table.{TableState}
use Rattle.scene_table.specs.Tables.{rows_at}
use Rattle.scene_archetypes.specs.KindTables.{tables_of}
use Rattle.scene_archetypes.proofs.KindSets.{with_some, numbers_in_order, sorted_masks, rows_seen}
use Rattle.scene_archetypes.proofs.kind_sets.tables_by_kind_set.Goals as goal

-- the tables that references show, and of those the kind sets
shown : List (Bor TableState) → List TableState
shown bs = each (λ b. b.now) bs

masks_shown : (bs : List (Bor TableState)) → each (λ t. t.mask) (shown bs) ≡ each (λ b. b.now.mask) bs
unfolding shown
masks_shown bs = map-map (λ (t : TableState). t.mask) (λ (b : Bor TableState). b.now) bs

rows_shown : (bs : List (Bor TableState)) → each (λ t. t.rows) (shown bs) ≡ each (λ b. b.now.rows) bs
unfolding shown
rows_shown bs = map-map (λ (t : TableState). t.rows) (λ (b : Bor TableState). b.now) bs

-- references that were moved show the same tables
after_move : (ts : List TableState) (bs cs : List (Bor TableState)) → each (λ b. b.now) bs ≡ with_some ts → IsPermutation bs cs → IsPermutation (with_some ts) (shown cs)
unfolding shown
after_move ts bs cs is h = subst (λ us. IsPermutation us (each (λ b. b.now) cs)) is (IsPermutation-map (λ (b : Bor TableState). b.now) bs cs h)

pub returns-clause-masks : goal.returns-clause-masks
returns-clause-masks c =
    let sorted = IsNonDecreasingBy-from_sort_by_key (λ b. b.now.mask) _ c.in_ok-sort_by_key.ensures.sorted (λ a r q k. search rules) in
    sym (masks_shown c.sort_by_key.new.self.items)
    ∙ sorted_masks c.args.tables.now (shown c.sort_by_key.new.self.items) c.requires
    (after_move c.args.tables.now _ _ (c.loop-table.invariant ∙ ap with_some (take_all c.loop-table.table-index c.args.tables.now c.loop-table-test.false)) c.sort_by_key.ensures.permutation)
    (subst IsNonDecreasing (sym (masks_shown c.sort_by_key.new.self.items)) (numbers_in_order (λ b. b.now.mask) c.sort_by_key.new.self.items sorted))

pub returns-clause-rows : goal.returns-clause-rows
returns-clause-rows c =
    let same = after_move c.args.tables.now _ _ (c.loop-table.invariant ∙ ap with_some (take_all c.loop-table.table-index c.args.tables.now c.loop-table-test.false)) c.sort_by_key.ensures.permutation in
    sym (rows_shown c.sort_by_key.new.self.items) ∙ (rows_seen c.args.tables.now (shown c.sort_by_key.new.self.items) c.requires same
    ∙ ap (each (rows_at (tables_of c.args.tables.now))) (masks_shown c.sort_by_key.new.self.items ∙ returns-clause-masks c))
