-- Checkpoints among lines.
use Rattle.std.proofs.Common.{◌≡◌, ◌⊎◌, ℕ, List, [], ◌∷◌, ◌++◌, Some, length, map, inl, inr, refl, sym, ap, subst, ◌∙◌}
use Rattle.scene_interpreter.specs.declared.progress.Progress.{Progress}
use Rattle.scene_interpreter.specs.Apart.{SameApart}
use Rattle.scene_interpreter.specs.Interpreter.{Interpreter}
use Rattle.scene_interpreter.proofs.Apart.{apart_refl}
use Rattle.scene_interpreter.specs.Progress.{progress_in}
use Rattle.scene_kept_lines.specs.Checkpoints.{AllHonest, BeginsAt, Checkpoint, IsCheckpointOf, IsCheckpointText, Starts, end_of, marked}
use Rattle.scene_kept_lines.specs.Compacted.{LeadTo}
use Rattle.scene_shell.specs.Shell.{interpreter_after}
use Rattle.scene_kept_lines.proofs.Apart.{lines_apart, resumed_apart}
use Rattle.scene_kept_lines.proofs.Comments.{sign_leaves}
use Rattle.scene_shell.proofs.KeptLead.{after_append}

-- ---- checkpoints say nothing

marked_leave : (p : Interpreter) (ls : List (List ℕ)) → interpreter_after p (map marked ls) ≡ p
marked_leave p [] = refl
marked_leave p (l ∷ ls) = ap (λ q. interpreter_after q (map marked ls)) (sign_leaves p (marked l) _ refl) ∙ marked_leave p ls

-- behind a checkpoint, an interpreter is where it was before
checkpoint_leaves : (p : Interpreter) (ls rest : List (List ℕ)) (n : ℕ) (x : Progress)
    → interpreter_after p (map marked ls ++ end_of n x ∷ rest) ≡ interpreter_after p rest
checkpoint_leaves p ls rest n x =
    after_append p (map marked ls) (end_of n x ∷ rest)
    ∙ ap (λ q. interpreter_after q (end_of n x ∷ rest)) (marked_leave p ls)
    ∙ ap (λ q. interpreter_after q rest) (sign_leaves p (end_of n x) _ refl)

behind_checkpoint : (first : Interpreter) (all rest : List (List ℕ)) (c : Checkpoint all rest)
    → interpreter_after first all ≡ interpreter_after (interpreter_after first c.front) rest
behind_checkpoint first all rest c =
    ap (interpreter_after first) c.parted
    ∙ after_append first c.front (map marked c.ls ++ end_of (length c.ls) c.progress ∷ rest)
    ∙ checkpoint_leaves (interpreter_after first c.front) c.ls rest (length c.ls) c.progress

module _ (first : Interpreter) (all : List (List ℕ)) (start : Interpreter) (rest : List (List ℕ)) where
  begun_alike : (before : List (List ℕ)) → all ≡ before ++ rest → AllHonest first all
      → ((before ≡ []) × (start ≡ first)) ⊎ ((c : Checkpoint all rest) × BeginsAt first c start)
      → SameApart (interpreter_after first all) (interpreter_after start rest)
  begun_alike before parted honest (inl none) =
      let whole : all ≡ rest = parted ∙ ap (λ ls. ls ++ rest) none.0 in
      subst (λ q. SameApart (interpreter_after first all) q)
      (ap (interpreter_after first) whole ∙ ap (λ q. interpreter_after q rest) (sym none.1))
      (apart_refl (interpreter_after first all))
  begun_alike before parted honest (inr at) =
      let p = interpreter_after first at.0.front in
      let led = honest rest at.0 in
      let same : SameApart p start = resumed_apart p (interpreter_after first at.0.ls) start at.0.progress led.lead.1 led.progress at.1.resumed in
      subst (λ q. SameApart q (interpreter_after start rest)) (sym (behind_checkpoint first all rest at.0)) (lines_apart p start rest same).interpreter

  pub honest_alike : (skipped : ℕ) → Starts first all start skipped rest → AllHonest first all
      → SameApart (interpreter_after first all) (interpreter_after start rest)
  honest_alike skipped starts honest = begun_alike starts.before starts.parted honest starts.begins

-- a checkpoint of these lines, which lead to the interpreter
pub checkpoint_is : (first p : Interpreter) (ls : List (List ℕ)) (x : Progress) (text : List (List ℕ)) → IsCheckpointText ls x text → LeadTo first ls p
    → progress_in p ≡ Some x → IsCheckpointOf first p text
checkpoint_is first p ls x text is lead came = record { ls = ls; progress = x; is = is; led = record { lead = lead; progress = came } }
