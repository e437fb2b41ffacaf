use Rattle.std.proofs.Common.{ap, sym, ◌∙◌, ◌++◌, ◌∷◌, []}
use Rattle.scene_pass.specs.Changes.{values_of}
use Rattle.scene_pass.proofs.ReadRows.{value_pushed, value_passed}
use Rattle.scene_pass.proofs.written.push_written.Goals as goal

pub returns-in_ok-push : goal.returns-in_ok-push
returns-in_ok-push c =
    let kind = c.nth-kind.result.0 in
    value_pushed c.args.steps.now (values_of c.args.row.now) c.args.number (kind, c.nth-kind.result.1.now) c.args.written.now.items c.push.new.self.items c.nth-kind.ensures (sym c.is_written.ensures ∙ c.if-is_written.true)
    (c.in_ok-push.ensures.items ∙ ap (λ v. c.args.written.now.items ++ (kind, v) ∷ []) c.in_ok-try_clone.ensures)

pub returns-else-is_written : goal.returns-else-is_written
returns-else-is_written c =
    value_passed c.args.steps.now (values_of c.args.row.now) c.args.number (c.nth-kind.result.0, c.nth-kind.result.1.now) c.args.written.now.items c.nth-kind.ensures (sym c.is_written.ensures ∙ c.if-is_written.false)
