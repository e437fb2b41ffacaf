use Rattle.std.proofs.Common.{◌≡◌, arith, rules, string_bytes}
use Rattle.scene_kept_lines.proofs.Agreement.{same_texts}
use Rattle.scene_kept_lines.proofs.agree.same_editors.Goals as goal

pub returns-clause-same : goal.returns-clause-same
returns-clause-same c = λ t.
    let same : string_bytes c.in_ok-again.again ≡ c.args.scene.now = search rules in
    same_texts c.args.scene.now (string_bytes c.in_ok-again.again) c.args.one.now c.args.other.now same (omega (arith, c.if-depth.false, c.depth.ensures, c.depth-2.ensures)) c.requires c.in_ok-again.ensures.loads
