-- Two systems clash just where one writes a kind that the other touches.
use Rattle.std.proofs.Common.{◌≡◌, ℕ, List, [], ◌∷◌, Bool, true, false, ◌||◌, nat_eq, refl, ap, sym, ◌∙◌}
use Rattle.std.specs.List.{list_any}
use Rattle.std.proofs.lemmas.Bool.{eqb-true, eq-eqb}
use Rattle.scene_systems.specs.declared.step.Step.{Step}
use Rattle.scene_systems.specs.declared.step.Step.TheVariants.{Row, DespawnAtZero, SpawnChild, CountInto}
use Rattle.scene_systems.specs.declared.system_rule.SystemRule.{SystemRule}
use Rattle.scene_table.specs.RowStep.{target}
use Rattle.scene_schedule.specs.Schedule.{step_writes, touches, step_disturbs, disturbs, clash}
use Rattle.scene_schedule.specs.Sound.{AreApart}

not_true : (b : Bool) → (b ≡ true → ⊥) → b ≡ false
not_true true h = absurd (h refl)
not_true false h = refl

not_both : (b : Bool) → b ≡ false → b ≡ true → ⊥
not_both b p q = absurd (let e : false ≡ true = sym p ∙ q in cc)

or_true : (a b : Bool) → a ≡ true → (a || b) ≡ true
or_true a b e = ap (λ c. c || b) e

or_rest : (a b : Bool) → b ≡ true → (a || b) ≡ true
or_rest true b e = refl
or_rest false b e = e

or_false : (a b : Bool) → a ≡ false → b ≡ false → (a || b) ≡ false
or_false a b p q = ap (λ c. c || b) p ∙ q

neither_of : (a b : Bool) → (a || b) ≡ false → (a ≡ false) × (b ≡ false)
neither_of true b e = absurd (cc)
neither_of false b e = (refl, e)

-- a step that writes a kind which a system touches is in its way
step_in_the_way : (other : SystemRule) (s : Step) (kind : ℕ) → step_writes kind s ≡ true → touches other kind ≡ true → step_disturbs other s ≡ true
step_in_the_way other (Row s) kind w t = ap (touches other) (eqb-true (target s) kind w) ∙ t
step_in_the_way other (DespawnAtZero of) kind w t = absurd (cc)
step_in_the_way other (SpawnChild cells) kind w t = absurd (cc)
step_in_the_way other (CountInto name) kind w t = absurd (cc)

in_the_way : (other : SystemRule) (steps : List Step) (kind : ℕ) → list_any (step_writes kind) steps ≡ true → touches other kind ≡ true
    → list_any (step_disturbs other) steps ≡ true
in_the_way other [] kind w t = w
in_the_way other (s ∷ ss) kind w t = by_first (in_the_way other ss kind) (step_writes kind s) refl
  where
    by_first : (list_any (step_writes kind) ss ≡ true → touches other kind ≡ true → list_any (step_disturbs other) ss ≡ true)
        → (b : Bool) → step_writes kind s ≡ b → list_any (step_disturbs other) (s ∷ ss) ≡ true
    by_first later true e = or_true (step_disturbs other s) (list_any (step_disturbs other) ss) (step_in_the_way other s kind e t)
    by_first later false e =
        or_rest (step_disturbs other s) (list_any (step_disturbs other) ss)
        (later (ap (λ b. b || list_any (step_writes kind) ss) (sym e) ∙ w) t)

-- and a system in the way of another writes a kind that the other touches
abbrev Meets : SystemRule → List Step → Type 0
Meets other steps = (kind : ℕ) × (list_any (step_writes kind) steps ≡ true) × (touches other kind ≡ true)

met_later : (other : SystemRule) (s : Step) (ss : List Step) → Meets other ss → Meets other (s ∷ ss)
met_later other s ss m = (m.0, or_rest (step_writes m.0 s) (list_any (step_writes m.0) ss) m.1, m.2)

met_by : (other : SystemRule) (s : Step) (ss : List Step) → step_disturbs other s ≡ true → Meets other (s ∷ ss)
met_by other (Row s) ss d = (target s, or_true (nat_eq (target s) (target s)) (list_any (step_writes (target s)) ss) (eq-eqb (target s) (target s) refl), d)
met_by other (DespawnAtZero of) ss d = absurd (cc)
met_by other (SpawnChild cells) ss d = absurd (cc)
met_by other (CountInto name) ss d = absurd (cc)

met : (other : SystemRule) (steps : List Step) → list_any (step_disturbs other) steps ≡ true → Meets other steps
met other [] d = absurd (cc)
met other (s ∷ ss) d = by_first (met other ss) (step_disturbs other s) refl
  where
    by_first : (list_any (step_disturbs other) ss ≡ true → Meets other ss) → (b : Bool) → step_disturbs other s ≡ b → Meets other (s ∷ ss)
    by_first later true e = met_by other s ss e
    by_first later false e = met_later other s ss (later (ap (λ b. b || list_any (step_disturbs other) ss) (sym e) ∙ d))

-- systems that don't clash are apart
pub clear_apart : (a b : SystemRule) → clash a b ≡ false → AreApart a b
clear_apart a b h =
    let n = neither_of (disturbs a b) (disturbs b a) h in
    λ kind. (
      λ w t. not_both (disturbs a b) n.0 (in_the_way b a.steps kind w t),
      λ w t. not_both (disturbs b a) n.1 (in_the_way a b.steps kind w t),
    )

-- and systems that are apart don't clash
pub apart_clear : (a b : SystemRule) → AreApart a b → clash a b ≡ false
apart_clear a b h =
    or_false (disturbs a b) (disturbs b a) (not_true (disturbs a b) (λ d. let m = met b a.steps d in (h m.0).0 m.1 m.2)) (not_true (disturbs b a) (λ d. let m = met a b.steps d in (h m.0).1 m.1 m.2))
