use Rattle.scene_validate.proofs.WorldRules.{valid_is, parts_are, none_broken, world_is}
use Rattle.scene_validate.proofs.OwnParts.{own_parts}
use Rattle.scene_validate.specs.Parts.{parts_of}
use Rattle.scene_validate.proofs.laws.unbroken_parts_are_those_of_valid_worlds.Goals as goal

pub returns : goal.returns
returns c = record {
  sound = λ p range h. (valid_is p range h, parts_are p h);
  complete = λ p w v a. none_broken p w v a;
  own = λ w. (own_parts w, world_is (parts_of w) w (own_parts w));
}
