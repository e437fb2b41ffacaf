use Rattle.std.proofs.Common.{◌≡◌, ◌<◌, ◌-◌, length, reverse, take, drop, ap, subst, sym, ◌∙◌}
use Rattle.scene_undo.specs.Stacks.{Stacked}
use Rattle.scene_undo.proofs.StackLaws.{has_past, oldest_gone}
use Rattle.scene_undo.proofs.stacks.Stacks.drop_oldest.Goals as goal

pub returns-clause-past : goal.returns-clause-past
returns-clause-past c =
    let xs = c.self.inside.records.items in
    let d = c.self.inside.dropped in
    let m = c.self.inside.middle in
    let past : reverse (drop d (take m xs)) ≡ c.args.self.now.past = ap (λ (s : Stacked). s.past) c.self.view_is in
    let short = c.self.invariant.1 in
    oldest_gone xs d m c.new-2.result (has_past xs d m short (subst (λ l. 0 < length l) (sym past) c.requires)) short
    ∙ ap (λ l. take (length l - 1) l) past
