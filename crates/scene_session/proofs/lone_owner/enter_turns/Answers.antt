use Rattle.std.proofs.Common.{◌++◌, ◌∷◌, [], replicate, ap, ◌∙◌, arith}
use Rattle.std.proofs.lemmas.List.{append_assoc, replicate_more}
use Rattle.scene_session.specs.Turns.{turned}
use Rattle.scene_session.proofs.lone_owner.enter_turns.Goals as goal

pub turns-preserved : goal.turns-preserved
turns-preserved c =
    let call = turned c.args.session c.args.way in
    let n = c.turns.counter in
    let before = c.turns.invariant.1 in
    let taken = c.enter-reply.ensures.room in (
      c.enter-reply.ensures.entered ∙ ap (λ l. c.turns.log.calls ++ l ∷ []) c.done_by.ensures ∙ ap (λ calls. calls ++ call ∷ []) c.turns.invariant.0
          ∙ append_assoc c.args.log.now.calls (replicate n call) (call ∷ []) ∙ ap (λ calls. c.args.log.now.calls ++ calls) (replicate_more n call),
      omega (arith, before, taken),
    )
