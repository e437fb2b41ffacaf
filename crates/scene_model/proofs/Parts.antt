-- What an accepted outcome says of a part of the world that answered it, and of the tests before it.
use Rattle.std.proofs.Common.{◌≡◌, Bool, true, false, cond, refl, Ok}
use Rattle.std.specs.Prelude.{Err}
use Rattle.scene_kinds.specs.declared.fault.Fault.{Fault}
use Rattle.scene_kinds.specs.Answers.{Outcome, refuse}
use Rattle.scene_model.specs.World.{World}
use Rattle.scene_model.specs.Commands.{in_world, without_answer}
use Rattle.scene_model.proofs.Outcomes.{not_ok, same_world}

-- a test that would have refused didn't pass
pub asked : {A W : Type 0} (b : Bool) (f : Fault) (rest : Outcome A W) (p : A × W) → cond b (refuse f) rest ≡ Ok p → (b ≡ false) × (rest ≡ Ok p)
asked true f rest p h = absurd (not_ok p _ h)
asked false f rest p h = (refl, h)

-- a test that had to pass did
pub allowed : {A W : Type 0} (b : Bool) (f : Fault) (rest : Outcome A W) (p : A × W) → cond b rest (refuse f) ≡ Ok p → (b ≡ true) × (rest ≡ Ok p)
allowed true f rest p h = (refl, h)
allowed false f rest p h = absurd (not_ok p _ h)

-- the part that answered, and the world made of it
pub lifted_part : {A P : Type 0} (o : Outcome A P) (into : P → World) (a : A) (v : World) → in_world o into ≡ Ok (a, v) → (s : P) × ((o ≡ Ok (a, s)) × (into s ≡ v))
lifted_part (Ok p) into a v h = let k = same_world p.0 a (into p.1) v h in (p.1, (λ i. Ok (k.0 i, p.1), k.1))
lifted_part (Err r) into a v h = absurd (not_ok (a, v) r h)

-- an answer that was dropped
pub done_part : {A W : Type 0} (o : Outcome A W) (v : W) → without_answer o ≡ Ok (tt, v) → (a : A) × (o ≡ Ok (a, v))
done_part (Ok p) v h = (p.0, λ i. Ok (p.0, (same_world tt tt p.1 v h).1 i))
done_part (Err r) v h = absurd (not_ok (tt, v) r h)
