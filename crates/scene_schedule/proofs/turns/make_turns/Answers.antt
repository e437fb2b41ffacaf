use Rattle.std.proofs.Common.{◌≡◌, ◌+◌, ◌<◌, ℕ, [], ◌∷◌, length, get_or, sym, subst, ap, ◌∙◌, arith, Some, None}
use Rattle.std.specs.Prelude.{slice_get}
use Rattle.std.proofs.lemmas.List.{length-append}
use Rattle.scene_systems.specs.declared.system_rule.SystemRule.{SystemRule}
use Rattle.scene_schedule.specs.Turns.{IsTurn}
use Rattle.std.proofs.lemmas.Option.{slice_get_within}
use Rattle.scene_schedule.proofs.Outputs.{few_steps}
use Rattle.scene_schedule.proofs.Shares.{turn_pushed}
use Rattle.scene_schedule.proofs.turns.make_turns.Goals as goal

pub turn-requires-clause-few : goal.turn-requires-clause-few
turn-requires-clause-few g c = (
  omega (arith, c.systems-test.true, c.requires.sound.few),
  few_steps c.args.gated.now.world.now.world.schema c.args.rules.now c.systems.at c.index-rules-at.result c.requires.sound (omega (arith, c.systems-test.true)) c.index-rules-at.is,
)

pub systems-preserved : goal.systems-preserved
systems-preserved g c =
    let turns = c.systems.list.items in
    let pushed = c.in_ok-push.ensures.items in
    record {
      count = ap length pushed ∙ length-append turns (c.turn.result ∷ []) ∙ ap (λ n. n + 1) c.systems.invariant.count;
      turns = subst (λ list. (i : ℕ) (r : SystemRule) → i < c.systems.at + 1 → slice_get c.args.rules.now i ≡ Some r → IsTurn (g.G.Gate.passed c.args.gated.now.gate.now) c.args.workers c.args.worker c.args.gated.now.world.now.world i r (get_or list i None))
          (sym pushed)
          (turn_pushed (g.G.Gate.passed c.args.gated.now.gate.now) c.args.workers c.args.worker c.args.gated.now.world.now.world c.systems.at c.args.rules.now turns c.index-rules-at.result c.turn.result c.systems.invariant.count
          (omega (arith, c.systems-test.true)) c.index-rules-at.is c.turn.ensures c.systems.invariant.turns);
    }

pub returns : goal.returns
returns g c = λ i rule less there.
    c.systems.invariant.turns i rule (let within = slice_get_within c.args.rules.now i rule there in omega (arith, within, c.systems-test.false)) there
