-- What want of memory leaves of an open scene.
use Rattle.std.proofs.Common.{◌≡◌, ◌≢◌, ℕ, arith, Result, Ok, Err, refl, sym, ap, ◌∙◌}
use Rattle.std.specs.Prelude.{IfErr}
use Rattle.scene_interpreter.specs.Interpreter.{Interpreter, LineReply, Setting, Playing, halted, interpreter_of, lone_interpreter}
use Rattle.scene_interpreter.specs.declared.halt.Halt.{Halt}
use Rattle.scene_interpreter.specs.declared.halt.Halt.TheVariants.{Before, Begun, After, Lost}
use Rattle.scene_c.specs.OpenScene.{HasHalted, KeepsAnswer}
use Rattle.scene_c.specs.declared.open_scene.OpenScene.{OpenScene}

-- a setup that can't be ended isn't left behind a line: it would be each interpreter at once
never_after : (h : Halt) (p q : Interpreter) → ((next : Interpreter) → q ≡ halted h p next) → h ≢ After
never_after h p q e is = absurd (differ (sym (at (lone_interpreter 1 1)) ∙ at (lone_interpreter 2 1)))
  where
    at : (next : Interpreter) → q ≡ next
    at next = e next ∙ ap (λ (k : Halt). halted k p next) is

    depth_of : Interpreter → ℕ
    depth_of (Setting s) = s.depth
    depth_of (Playing s) = 0

    differ : lone_interpreter 1 1 ≡ lone_interpreter 2 1 → ⊥
    differ same = omega (arith, ap depth_of same)

pub never_untold : (p q : Interpreter) (result : Result (Unit {0}) Halt) → IfErr result (λ h. (next : Interpreter) → q ≡ halted h p next) → IfErr result (λ h. h ≢ After)
never_untold p q (Ok u) err = tt
never_untold p q (Err h) err = never_after h p q err

-- a call that was halted before it was done has left the last answer
pub has_halted : (h : Halt) (old new : OpenScene) (r : LineReply) → h ≢ After
    → ((next : Interpreter) → interpreter_of new.interpreter ≡ halted h (interpreter_of old.interpreter) next) → KeepsAnswer old new → HasHalted h old new r
has_halted Before old new r early is kept = (is r.interpreter, kept)
has_halted Begun old new r early is kept = (is r.interpreter, kept)
has_halted After old new r early is kept = absurd (early refl)
has_halted Lost old new r early is kept = (is r.interpreter, kept)
