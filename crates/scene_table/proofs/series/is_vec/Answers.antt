use Rattle.std.proofs.Common.{◌∙◌, ap}
use Rattle.std.proofs.lemmas.Bool.Decides.{Decides-int_eq}
use Rattle.std.proofs.lemmas.Slice.Eq.{slice_eq-Decides}
use Rattle.scene_kinds.specs.declared.value.Value.TheVariants.{Vec3}
use Rattle.scene_table.proofs.series.is_vec.Goals as goal

pub returns-in-Vec3 : goal.returns-in-Vec3
returns-in-Vec3 c same = c.in-Vec3.is ∙ ap Vec3 ((slice_eq-Decides Decides-int_eq _ _ _ c.eq.ensures).0 same)
