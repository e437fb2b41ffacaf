use Rattle.std.proofs.Common.{◌≡◌, ◌∙◌, [], ap, rules}
use Rattle.std.proofs.lemmas.List.{nil_from_length}
use Rattle.scene_archetypes.specs.Archetypes.{ArchetypesState}
use Rattle.scene_validate.specs.Seen.{lists_seen}
use Rattle.scene_world.proofs.BuiltRows.{built_can, built_more, none_built, all_built}
use Rattle.scene_world.proofs.built.build_tables.Goals as goal

pub loop-mask-init : goal.loop-mask-init
loop-mask-init c = none_built (lists_seen c.args.tables.items) _ (ap (λ (a : ArchetypesState). a.tables) c.new-built.ensures)

pub add_rows-requires : goal.add_rows-requires
add_rows-requires c = built_can c.args.count (lists_seen c.args.tables.items) c.requires _ _ c.in-Some.mask c.in-Some.rows c.in-Some.ensures.items _ c.loop-mask.invariant

pub loop-mask-preserved : goal.loop-mask-preserved
loop-mask-preserved c = built_more c.args.count (lists_seen c.args.tables.items) c.requires _ _ c.in-Some.mask c.in-Some.rows c.in-Some.ensures.items _ c.loop-mask.invariant _ c.in_ok-add_rows.ensures

pub returns-clause-tables : goal.returns-clause-tables
returns-clause-tables c =
    let none : c.loop-mask.tables.items ≡ [] = nil_from_length _ (search rules) in
    c.reserve_homes.ensures.tables ∙ all_built (lists_seen c.args.tables.items) _ _ c.loop-mask.invariant none
