use Rattle.scene_validate.proofs.SeenLists.{sets_twice, sets_once}
use Rattle.scene_validate.proofs.row_rules.tables_are_sound.Goals as goal

pub returns-then-not-branch : goal.returns-then-not-branch
returns-then-not-branch c = sets_twice c.args.parts.now _ _ _ _ c.in_ok-sets.ensures c.as_slice.ensures.value c.as_slice-2.ensures.value c.in_ok-are_distinct.ensures c.if-not-branch.true

pub returns : goal.returns
returns c = sets_once c.args.parts.now _ _ _ _ _ _ c.in_ok-sets.ensures c.as_slice.ensures.value c.as_slice-2.ensures.value c.in_ok-are_distinct.ensures c.if-not-branch.false
    c.as_slice-3.ensures.value c.tables_fit.ensures
