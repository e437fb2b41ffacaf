use Rattle.std.proofs.Common.{ap, sym, ◌∙◌}
use Rattle.std.specs.Ordering.{nat_cmp}
use Rattle.std.specs.FinMap.Entries.{find}
use Rattle.scene_pass.specs.Changes.{values_of}
use Rattle.scene_pass.specs.InPlace.{value_or}
use Rattle.scene_pass.proofs.ReadRows.{value_here}
use Rattle.scene_pass.proofs.written.value_of.Goals as goal

pub returns-in-Some : goal.returns-in-Some
returns-in-Some c =
    let own = find nat_cmp c.args.kind (values_of c.args.row.now) in
    sym (value_here c.args.written.now c.in-Some.at c.index-written-at.result c.in-Some.ensures.within) ∙ ap (λ o. value_or c.args.written.now o own) c.in-Some.ensures.place
