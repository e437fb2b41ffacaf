use Rattle.std.proofs.Common.{◌≡◌, ◌<◌, ◌∷◌, length, reverse, take, drop, ap, subst, sym, ◌∙◌}
use Rattle.scene_undo.specs.Stacks.{Stacked}
use Rattle.scene_undo.proofs.StackLaws.{has_future, one_behind, one_later, stands}
use Rattle.scene_undo.proofs.stacks.Stacks.redo.Goals as goal

pub returns-clause-moved : goal.returns-clause-moved
returns-clause-moved c =
    let xs = c.self.inside.records.items in
    let d = c.self.inside.dropped in
    let m = c.self.inside.middle in
    let past : reverse (drop d (take m xs)) ≡ c.args.self.now.past = ap (λ (s : Stacked). s.past) c.self.view_is in
    let future : drop m xs ≡ c.args.self.now.future = ap (λ (s : Stacked). s.future) c.self.view_is in
    let depth : c.self.inside.depth ≡ c.args.self.now.depth = ap (λ (s : Stacked). s.depth) c.self.view_is in
    let within : m < length xs = has_future xs m (subst (λ l. 0 < length l) (sym future) c.requires) in
    let first = stands xs m within in (
      first.0,
      (
        sym future ∙ one_behind xs m first.0 within first.1 ∙ ap (λ ys. first.0 ∷ ys) (sym c.cut.ensures.future),
        c.cut.ensures.past
            ∙ ap (take c.self.inside.depth) (one_later xs d m first.0 c.self.invariant.0 within first.1)
            ∙ (λ i. take (depth i) (first.0 ∷ past i)),
      ),
    )
