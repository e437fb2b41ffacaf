-- Lists of which each item names something.
use Rattle.std.proofs.Common.{◌≢◌, ◌≡◌, ◌+◌, ℕ, suc, List, [], ◌∷◌, ◌++◌, length, drop, refl, ap, ◌∙◌, Option, Some, None}
use Rattle.std.specs.Prelude.{option_map, slice_get}
use Rattle.scene_commands.specs.declared.command.Command.{Command}
use Rattle.scene_pass.proofs.RowSteps.{drop_at}
use Rattle.scene_c.specs.Given.{before_all, component_in, write_of, writes_in}
use Rattle.scene_c.specs.declared.value.SceneCell.{SceneCell}
use Rattle.scene_c.specs.declared.value.SceneEntity.{SceneEntity}

-- what a list gives behind what was given before
abbrev pub with_before : {A : Type 0} → List A → Option (List A) → Option (List A)
with_before given rest = option_map (λ l. given ++ l) rest

-- one that gives nothing
pub given_never : {A : Type 0} (given : List A) (first : Option A) (rest : Option (List A)) → first ≡ None
    → with_before given (before_all first rest) ≡ None
given_never given first rest is = ap (λ f. with_before given (before_all f rest)) is

-- lists that aren't as long as one another name nothing
pub unlike : (bytes : List ℕ) (es : List SceneEntity) (cs : List SceneCell) → length es ≢ length cs → writes_in bytes es cs ≡ None
unlike bytes [] [] ne = absurd (ne refl)
unlike bytes [] (c ∷ cs) ne = refl
unlike bytes (e ∷ es) [] ne = refl
unlike bytes (e ∷ es) (c ∷ cs) ne =
    ap (before_all (option_map (write_of e) (component_in bytes c))) (unlike bytes es cs (λ is. ne (ap suc is))) ∙ by (option_map (write_of e) (component_in bytes c))
  where
    by : (first : Option Command) → before_all first None ≡ None
    by None = refl
    by (Some x) = refl

-- the rest of both from a place on
pub both_here : (bytes : List ℕ) (n : ℕ) (es : List SceneEntity) (cs : List SceneCell) (e : SceneEntity) (c : SceneCell)
    → slice_get es n ≡ Some e → slice_get cs n ≡ Some c
    → writes_in bytes (drop n es) (drop n cs)
    ≡ before_all (option_map (write_of e) (component_in bytes c)) (writes_in bytes (drop (n + 1) es) (drop (n + 1) cs))
both_here bytes n es cs e c at_e at_c =
    drop_at (λ l. writes_in bytes l (drop n cs)) es n e at_e ∙ drop_at (λ l. writes_in bytes (e ∷ drop (n + 1) es) l) cs n c at_c
