use Rattle.std.proofs.Common.{◌∙◌, ap, sym}
use Rattle.std.specs.Prelude.{slice_get}
use Rattle.scene_archetypes.proofs.Stored.{listed_there}
use Rattle.scene_archetypes.proofs.kind_tables.find_table.Goals as goal

pub returns-in-Some-clause-some : goal.returns-in-Some-clause-some
returns-in-Some-clause-some c =
    let same = ap (λ keys. slice_get keys c.in-Some.at) (c.as_slice.ensures.keys ∙ c.requires.listed) in
    listed_there c.args.mask c.args.tables.now c.in-Some.at c.requires.apart (sym same ∙ c.in-Some.ensures)
