use Rattle.std.proofs.Common.{◌≡◌, take, map}
use Rattle.scene_kinds.specs.declared.value.Value.TheVariants.{Vec3}
use Rattle.scene_table.proofs.run.are_vecs.Given as goal

abbrev pub invariant-loop-at : goal.invariant-loop-at
invariant-loop-at l = take l.at l.values ≡ take l.at (map Vec3 l.vectors)
