-- A target with no + is an entity or nothing.
use Rattle.std.proofs.Common.{◌≡◌, ◌≢◌, ℕ, List, [], ◌∷◌, false, refl, ap, arith}
use Rattle.std.specs.Prelude.{◌==◌}
use Rattle.std.specs.Option.{option_map}
use Rattle.std.proofs.lemmas.Bool.Decides.{nat_tests}
use Rattle.scene_commands.specs.declared.target.Target.TheVariants as target
use Rattle.scene_kinds.specs.EntityReading.{entity_in}
use Rattle.scene_script.specs.Cells.{target_in}

-- another byte fails the test
other_byte : (b : ℕ) → b ≢ 43 → (b == 43) ≡ false
other_byte b h = grind (arith, nat_tests)

-- bytes that don't begin with + (43)
pub target_in-entity : (bs : List ℕ) → ((rest : List ℕ) → bs ≢ 43 ∷ rest) → target_in bs ≡ option_map (λ e. target.Id e) (entity_in bs)
target_in-entity [] h = refl
target_in-entity (b ∷ bs) h = rw (other_byte b (λ e. h bs (ap (λ c. c ∷ bs) e))) refl
