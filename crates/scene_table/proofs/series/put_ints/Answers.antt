use Rattle.std.proofs.Common.{◌<◌, ◌∙◌, pos, ap, sym, arith, rules, refl, length, get_or, Some, FitsSigned, to_z, of_z, w64}
use Rattle.std.proofs.lemmas.Int.{to_z-of_z}
use Rattle.scene_kinds.specs.declared.value.Value.{Value}
use Rattle.scene_kinds.specs.declared.value.Value.TheVariants.{Int}
use Rattle.scene_table.specs.Runs.{ints_after}
use Rattle.scene_table.proofs.Fits.{int_there, int_fits, read_at, length-ints_after}
use Rattle.scene_table.proofs.Walks.{write_more}
use Rattle.scene_table.proofs.series.put_ints.Goals as goal

pub number_after-requires : goal.number_after-requires
number_after-requires c =
    let base = c.args.base.now in
    let b : FitsSigned w64 (get_or base c.loop-at.at (pos 0)) = search rules in
    let within : c.loop-at.at < length base = omega arith in
    let there = read_at base c.loop-at.at within b in
    int_fits base c.args.by c.args.turns _ _ _ c.loop-at.at there (to_z-of_z w64 _ c.ranges.by) (to_z-of_z w64 _ c.ranges.turns) c.requires.range

pub loop-at-preserved : goal.loop-at-preserved
loop-at-preserved c =
    let base = c.args.base.now in
    let b : FitsSigned w64 (get_or base c.loop-at.at (pos 0)) = search rules in
    let within : c.loop-at.at < length base = omega arith in
    let there = read_at base c.loop-at.at within b in
    let sum = to_z-of_z w64 c.number_after.result (record { sfits = c.number_after.type_inv }) ∙ c.number_after.ensures in
    let by = to_z w64 (of_z w64 c.args.by) in
    let turns = to_z w64 (of_z w64 c.args.turns) in
    let ts = ints_after base by turns in
    let next = int_there base by turns (to_z w64 (of_z w64 (get_or base c.loop-at.at (pos 0)))) by turns c.loop-at.at there refl refl ∙ (λ i. Some (Int (sym sum i))) in
    write_more c.loop-at.at ts c.args.values.now c.loop-at.values c.put_int.new.value c.loop-at.invariant (length-ints_after base by turns ∙ c.requires.long) (next ∙ ap (λ (v : Value). Some v) (sym c.put_int.ensures))
