use Rattle.std.proofs.Common.{rules, ◌+◌, drop, map}
use Rattle.scene_print.specs.Shown.{names_from}
use Rattle.scene_print.specs.ShowSteps.{name_in, one_name}
use Rattle.scene_print.proofs.ShowLaws.{names_step, moved}
use Rattle.scene_print.proofs.show.names_of.Goals as goal

pub kinds-preserved : goal.kinds-preserved
kinds-preserved c =
    let kinds = c.args.schema.now in
    let mask = c.args.mask in
    let k = c.kinds.kind in
    let step = names_step kinds k mask (search rules) in
    let more = one_name (name_in kinds mask k) in
    let rest = names_from (drop (k + 1) kinds) (k + 1) mask in
    let pushed = c.in_ok-push_some.ensures in
    let found = c.name_in.ensures in
    (moved (map (λ n. n.now) c.kinds.names.items) more _ rest _ _ c.kinds.invariant.0 step (cc (pushed, found)), search rules)
