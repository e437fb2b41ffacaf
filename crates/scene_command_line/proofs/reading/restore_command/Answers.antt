use Rattle.std.proofs.lemmas.Result.{IfOk-weaker}
use Rattle.scene_command_line.proofs.ArgLaws.{with_arg, without_globals}
use Rattle.scene_command_line.proofs.reading.restore_command.Goals as goal

pub returns-clause-shape : goal.returns-clause-shape
returns-clause-shape c =
    let first = with_arg _ _ _ c.in_ok-arg.ensures c.file_argument.ensures.local _ _ c.command.ensures.shape
    c.file_argument.ensures.rule in
    let second = with_arg _ _ _ c.in_ok-arg-2.ensures c.argument.ensures.local _ _ first c.argument.ensures.rule in
    IfOk-weaker c.arg-3.result _ _
    (λ made adds. with_arg _ _ _ adds c.required_option.ensures.local _ _ second c.required_option.ensures.rule)
    c.arg-3.ensures

pub returns-clause-local : goal.returns-clause-local
returns-clause-local c =
    let first = without_globals _ _ _ c.in_ok-arg.ensures c.file_argument.ensures.local c.command.ensures.local in
    let second = without_globals _ _ _ c.in_ok-arg-2.ensures c.argument.ensures.local first in
    IfOk-weaker c.arg-3.result _ _
    (λ made adds. without_globals _ _ _ adds c.required_option.ensures.local second) c.arg-3.ensures
