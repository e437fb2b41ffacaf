-- The systems of a phase in their turn make what each of them makes of the opening world.
use Rattle.std.proofs.Common.{◌≡◌, ◌<◌, ◌+◌, ℕ, suc, Bool, true, false, List, [], ◌∷◌, map, refl, ap, ◌∙◌, arith, Option, Some, None, Ok}
use Rattle.std.specs.Prelude.{⊤, slice_get}
use Rattle.scene_kinds.specs.declared.entity.Entity.{Entity}
use Rattle.scene_kinds.specs.declared.refusal.Refusal.{Refusal}
use Rattle.scene_model.specs.World.{World}
use Rattle.scene_model.specs.Commands.{and_then}
use Rattle.scene_model.specs.Perform.{perform}
use Rattle.scene_model.specs.Valid.{IsValid}
use Rattle.scene_systems.specs.declared.system_rule.SystemRule.{SystemRule}
use Rattle.scene_pass.specs.Changes.{first_fault}
use Rattle.scene_schedule.specs.Schedule.{touches}
use Rattle.scene_schedule.specs.Sound.{AreApart}
use Rattle.scene_schedule.specs.Systems.{changes_of, unless_over, systems_from}
use Rattle.scene_schedule.specs.AtOnce.{output_of, first_overflow, overflow_or, refused_or, SystemsSeeTheOpeningWorld}
use Rattle.scene_schedule.proofs.WrittenCells.{AreTablesAlike, tables_themselves, tables_over}
use Rattle.scene_schedule.proofs.SystemWrites.{system_written, unwritten_alike, made_world, system_made}

-- ---- systems that are apart

-- a system is in nobody's way
abbrev ApartFrom : SystemRule → List SystemRule → Type 0
ApartFrom rule [] = ⊤
ApartFrom rule (other ∷ others) = AreApart rule other × ApartFrom rule others

abbrev EachApart : List SystemRule → Type 0
EachApart [] = ⊤
EachApart (rule ∷ rules) = ApartFrom rule rules × EachApart rules

apart_from : (rule : SystemRule) (others : List SystemRule) → ((i : ℕ) (b : SystemRule) → slice_get others i ≡ Some b → AreApart rule b) → ApartFrom rule others
apart_from rule [] h = tt
apart_from rule (o ∷ others) h = (h 0 o refl, apart_from rule others (λ i. h (suc i)))

each_apart : (rules : List SystemRule) → ((first second : ℕ) (a b : SystemRule) → first < second → slice_get rules first ≡ Some a → slice_get rules second ≡ Some b → AreApart a b)
    → EachApart rules
each_apart [] h = tt
each_apart (rule ∷ rules) h = (
  apart_from rule rules (λ i b there. h 0 (suc i) rule b (omega arith) refl there),
  each_apart rules (λ first second a b less p q. h (suc first) (suc second) a b (omega (arith, less)) p q),
)

-- ---- worlds that agree

-- a world agrees with the opening one on what each system touches
abbrev AgreesFor : World → World → List SystemRule → Type 0
AgreesFor u w [] = ⊤
AgreesFor u w (rule ∷ rules) = AreTablesAlike (touches rule) u.tables w.tables × AgreesFor u w rules

agrees_itself : (w : World) (rules : List SystemRule) → AgreesFor w w rules
agrees_itself w [] = tt
agrees_itself w (rule ∷ rules) = (tables_themselves (touches rule) w.tables, agrees_itself w rules)

not_so : (b : Bool) → (b ≡ true → ⊥) → b ≡ false
not_so true h = absurd (h refl)
not_so false h = refl

-- it still does after a system that is in nobody's way
still_agrees : (u w : World) (rule : SystemRule) (valid : IsValid u) (opening : IsValid w) (a : AreTablesAlike (touches rule) u.tables w.tables) (others : List SystemRule)
    → ApartFrom rule others → AgreesFor u w others → AgreesFor (made_world u w rule valid opening a) w others
still_agrees u w rule valid opening a [] apart agrees = tt
still_agrees u w rule valid opening a (o ∷ others) apart agrees = (
  tables_over (touches o) (system_written u rule valid).tables u.tables w.tables
      (unwritten_alike u rule valid (touches o) (λ kind t. not_so (touches o kind) (λ s. (apart.0 kind).0 t s))) agrees.0,
  still_agrees u w rule valid opening a others apart.1 agrees.1,
)

-- ---- in their turn

-- what follows an answer that may have been a refusal
rest_of : {A : Type 0} (r : Option Refusal) (outs : List A) (v : World) (out : A) → and_then (refused_or r outs v) (λ outs z. Ok (out ∷ outs, z)) ≡ refused_or r (out ∷ outs) v
rest_of None outs v out = refl
rest_of (Some r) outs v out = refl

-- a system, and then the others
abbrev Ends : ℕ → SystemRule → List SystemRule → World → World → Option (Entity × ℕ) → Type 0
Ends at rule rules w u over =
    (v : World) × (and_then (unless_over at over (Ok (output_of w rule, u))) (λ out t. and_then (systems_from perform (λ s. s) (at + 1) rules t) (λ outs z. Ok (out ∷ outs, z)))
    ≡ refused_or (overflow_or at over (first_overflow w (at + 1) rules)) (map (output_of w) (rule ∷ rules)) v)

goes_on : (at : ℕ) (rule : SystemRule) (rules : List SystemRule) (w u : World) (over : Option (Entity × ℕ))
    → (v : World) × (systems_from perform (λ s. s) (at + 1) rules u ≡ refused_or (first_overflow w (at + 1) rules) (map (output_of w) rules) v)
    → Ends at rule rules w u over
goes_on at rule rules w u None rest = (
  rest.0,
  ap (λ o. and_then o (λ outs z. Ok (output_of w rule ∷ outs, z))) rest.1 ∙ rest_of (first_overflow w (at + 1) rules) (map (output_of w) rules) rest.0 (output_of w rule),
)
goes_on at rule rules w u (Some f) rest = (u, refl)

in_turn : (at : ℕ) (rules : List SystemRule) (w u : World) (opening : IsValid w) (valid : IsValid u) → EachApart rules → AgreesFor u w rules
    → (v : World) × (systems_from perform (λ s. s) at rules u ≡ refused_or (first_overflow w at rules) (map (output_of w) rules) v)
in_turn at [] w u opening valid apart agrees = (u, refl)
in_turn at (rule ∷ rules) w u opening valid apart agrees =
    let a = agrees.0 in
    let made = made_world u w rule valid opening a in
    let rest = in_turn (at + 1) rules w made opening (system_written u rule valid).valid apart.1 (still_agrees u w rule valid opening a rules apart.0 agrees.1) in
    let k = goes_on at rule rules w made (first_fault (changes_of w rule)) rest in (
      k.0,
      ap (λ o. and_then o (λ out t. and_then (systems_from perform (λ s. s) (at + 1) rules t) (λ outs z. Ok (out ∷ outs, z)))) (system_made u w rule valid opening a at) ∙ k.1,
    )

pub systems_see : SystemsSeeTheOpeningWorld
systems_see w rules valid sound = in_turn 0 rules w w valid valid (each_apart rules sound.apart) (agrees_itself w rules)
