use Rattle.std.proofs.Common.{◌≡◌, ◌-◌, length, reverse, take, drop, ap, sym, ◌∙◌, rules}
use Rattle.std.proofs.lemmas.List.{take_at}
use Rattle.scene_undo.specs.Stacks.{Stacked}
use Rattle.scene_undo.proofs.StackLaws.{along}
use Rattle.scene_undo.proofs.stacks.Stacks.close_up.Goals as goal

pub returns-then-self-ge-FEW_PLACES-clause-past : goal.returns-then-self-ge-FEW_PLACES-clause-past
returns-then-self-ge-FEW_PLACES-clause-past c =
    let xs = c.self.inside.records.items in
    let d = c.self.inside.dropped in
    let m = c.self.inside.middle in
    let past : reverse (drop d (take m xs)) ≡ c.args.self.now.past = ap (λ (s : Stacked). s.past) c.self.view_is in
    let low = c.self.invariant.0 in
    let short = c.self.invariant.1 in
    let same : c.as_mut_slice.result.now ≡ xs = search rules in
    let back = c.bring_forward.new.records in
    let all : length back ≡ c.self.inside.records.len = c.bring_forward.ensures.long ∙ ap length same ∙ sym c.self.inside.records.ok.0 in
    let left : c.truncate.new.self.items ≡ drop d xs =
    c.truncate.ensures.items ∙ ap (take (c.len.result - d)) (take_at back (drop (length back) xs) c.self.inside.records.len all)
    ∙ ap (λ n. take (n - d) back) (c.len.ensures ∙ c.self.inside.records.ok.0) ∙ ap (λ ys. take (length ys - d) back) (sym same)
    ∙ c.bring_forward.ensures.front ∙ ap (drop d) same in
    ap (λ ys. reverse (take (m - d) ys)) left ∙ ap reverse (sym (along xs d m low)) ∙ past
