use Rattle.std.proofs.lemmas.Result.{IfOk-weaker}
use Rattle.scene_command_line.proofs.ArgLaws.{with_arg, without_globals}
use Rattle.scene_command_line.proofs.reading.shell_command.Goals as goal

pub returns-clause-shape : goal.returns-clause-shape
returns-clause-shape c =
    let first = with_arg _ _ _ c.in_ok-arg.ensures c.workers_option.ensures.local _ _ c.command.ensures.shape
    c.workers_option.ensures.rule in
    let second = with_arg _ _ _ c.in_ok-arg-2.ensures c.option.ensures.local _ _ first c.option.ensures.rule in
    let third = with_arg _ _ _ c.in_ok-arg-3.ensures c.flag.ensures.local _ _ second c.flag.ensures.rule in
    let fourth = with_arg _ _ _ c.in_ok-arg-4.ensures c.flag-2.ensures.local _ _ third c.flag-2.ensures.rule in
    IfOk-weaker c.arg-5.result _ _
    (λ made adds. with_arg _ _ _ adds c.option-2.ensures.local _ _ fourth c.option-2.ensures.rule) c.arg-5.ensures

pub returns-clause-local : goal.returns-clause-local
returns-clause-local c =
    let first = without_globals _ _ _ c.in_ok-arg.ensures c.workers_option.ensures.local c.command.ensures.local in
    let second = without_globals _ _ _ c.in_ok-arg-2.ensures c.option.ensures.local first in
    let third = without_globals _ _ _ c.in_ok-arg-3.ensures c.flag.ensures.local second in
    let fourth = without_globals _ _ _ c.in_ok-arg-4.ensures c.flag-2.ensures.local third in
    IfOk-weaker c.arg-5.result _ _
    (λ made adds. without_globals _ _ _ adds c.option-2.ensures.local fourth) c.arg-5.ensures
