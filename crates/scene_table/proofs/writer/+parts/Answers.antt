use Rattle.std.proofs.Common.{◌+◌, ◌≡◌, ◌++◌, ◌∙◌, length, replicate, ap, sym, subst, arith}
use Rattle.std.proofs.lemmas.List.{replicate-append-replicate}
use Rattle.scene_kinds.specs.Ranges.{is_in_range}
use Rattle.scene_table.specs.Grown.{values_in}
use Rattle.scene_table.specs.Runs.{AreInRange}
use Rattle.scene_table.proofs.Parted.{passes_take, passes_drop}
use Rattle.scene_table.proofs.writer.+parts.Goals as goal

pub put_parts-put_first-requires-clause-first_range : goal.put_parts-put_first-requires-clause-first_range
put_parts-put_first-requires-clause-first_range g t c κs within =
    subst AreInRange (sym c.split_at.ensures.front) (passes_take is_in_range _ (values_in c.args.grown) c.requires.range)

pub put_parts-put_first-requires-clause-other_range : goal.put_parts-put_first-requires-clause-other_range
put_parts-put_first-requires-clause-other_range g t c κs within =
    subst AreInRange (sym c.split_at.ensures.back) (passes_drop is_in_range _ (values_in c.args.grown) c.requires.range)

pub put_parts-returns-clause-ticks : goal.put_parts-returns-clause-ticks
put_parts-returns-clause-ticks g t c =
    let cut = c.split_at_mut-first_ticks in
    let long : length cut.result.0.now + length cut.result.1.now ≡ length c.args.ticks.now = omega (arith, cut.ensures.front_len, cut.ensures.back_len) in
    (λ i. c.put_first.ensures.first_ticks i ++ c.put_first.ensures.other_ticks i)
    ∙ replicate-append-replicate (length cut.result.0.now) (length cut.result.1.now) c.args.tick
    ∙ ap (λ n. replicate n c.args.tick) long
