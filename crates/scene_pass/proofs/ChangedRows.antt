-- The changes of rows, one after another and by their places.
use Rattle.std.proofs.Common.{◌≡◌, ℕ, suc, ◌+◌, List, [], ◌∷◌, ◌++◌, append_assoc, length, map, drop, refl, ap, subst, sym, ◌∙◌, arith, Option, Some, None}
use Rattle.std.specs.Prelude.{slice_get, Result, Ok, Err, IfOk, MatchResult}
use Rattle.std.specs.List.{AllZip, range_with_len}
use Rattle.scene_kinds.specs.declared.cells.Row.{Row}
use Rattle.scene_kinds.specs.declared.entity.Entity.{Entity}
use Rattle.scene_pass.specs.declared.row_change.RowChange.{RowChange}
use Rattle.scene_pass.specs.declared.row_change.Outcome.{Outcome}
use Rattle.scene_pass.specs.declared.row_change.Outcome.TheVariants.{Changed, Overflow}
use Rattle.scene_pass.specs.Changes.{fault_or, first_fault}
use Rattle.scene_pass.proofs.RowSteps.{drop_at}

-- one more row is changed
pub change_pushed : {X Y : Type 0} (f : X → Y) (rows : List X) (at : ℕ) (row : X) (y : Y) (old new all : List Y) → slice_get rows at ≡ Some row → y ≡ f row → new ≡ old ++ y ∷ []
    → old ++ map f (drop at rows) ≡ all → new ++ map f (drop (at + 1) rows) ≡ all
change_pushed f rows at row y old new all there is pushed before =
    let rest = map f (drop (at + 1) rows) in
    ap (λ ys. ys ++ rest) pushed ∙ append_assoc old (y ∷ []) rest ∙ ap (λ z. old ++ z ∷ rest) is ∙ ap (λ ys. old ++ ys) (sym (drop_at (map f) rows at row there)) ∙ before

module _ {Y : Type 0} where
  -- elements that are those of a list, place by place, are that list
  from_places : (all zs : List Y) (k : ℕ) (ys : List Y) → ((i : ℕ) → slice_get zs i ≡ slice_get all (k + i))
      → AllZip (λ at y. slice_get all at ≡ Some y) (range_with_len k (length zs)) ys → ys ≡ zs
  from_places all [] k [] same h = refl
  from_places all [] k (y ∷ ys) same h = absurd h
  from_places all (z ∷ zs) k [] same h = absurd h
  from_places all (z ∷ zs) k (y ∷ ys) same h =
      let start : k + 0 ≡ k = omega arith in
      let there : Some z ≡ Some y = same 0 ∙ ap (slice_get all) start ∙ h.0 in
      let first : y ≡ z = cc in
      let rest = from_places all zs (k + 1) ys (λ i. let next : k + suc i ≡ k + 1 + i = omega arith in same (suc i) ∙ ap (slice_get all) next) h.1 in
      λ i. first i ∷ rest i

  module _ (E : Type 0) where
    all_there : (all : List Y) (ats : List ℕ) (ys : List Y) → AllZip {B = Result Y E} (λ at r. IfOk r (λ y. slice_get all at ≡ Some y)) ats (map (λ y. Ok y) ys)
        → AllZip (λ at y. slice_get all at ≡ Some y) ats ys
    all_there all [] [] h = tt
    all_there all [] (y ∷ ys) h = absurd h
    all_there all (at ∷ ats) [] h = absurd h
    all_there all (at ∷ ats) (y ∷ ys) h = (h.0, all_there all ats ys h.1)

    -- answers that are all there, each that of its place
    pub answers_by_place : (all : List Y) (n : ℕ) (rs : List (Result Y E)) (ys : List Y) → n ≡ length all
        → AllZip (λ at r. IfOk r (λ y. slice_get all at ≡ Some y)) (range_with_len 0 n) rs → rs ≡ map (λ y. Ok y) ys → ys ≡ all
    answers_by_place all n rs ys count h ok =
        let counted = subst (λ m. AllZip {B = Result Y E} (λ at r. IfOk r (λ y. slice_get all at ≡ Some y)) (range_with_len 0 m) rs) count h in
        let there = subst (λ l. AllZip {B = Result Y E} (λ at r. IfOk r (λ y. slice_get all at ≡ Some y)) (range_with_len 0 (length all)) l) ok counted in
        from_places all all 0 ys (λ i. ap (slice_get all) (let e : i ≡ 0 + i = omega arith in e)) (all_there all (range_with_len 0 (length all)) ys there)

-- what follows from the value that is there
pub ok_from_match : {T E : Type 0} (r : Result T E) (P Q : T → Type 0) (R : E → Type 0) → MatchResult r P R → ((v : T) → P v → Q v) → IfOk r Q
ok_from_match (Ok v) P Q R h f = f v h
ok_from_match (Err e) P Q R h f = tt

-- ---- the first sum that doesn't fit

-- a row of which none overflows, and the rows behind it
pub fault_passed : (f : Row → RowChange) (rows : List Row) (at : ℕ) (row : Row) (made : RowChange) (all : Option (Entity × ℕ)) → slice_get rows at ≡ Some row → made ≡ f row
    → fault_or made.entity made.outcome None ≡ None → first_fault (map f (drop at rows)) ≡ all → first_fault (map f (drop (at + 1) rows)) ≡ all
fault_passed f rows at row made all there is fits before =
    let rest = first_fault (map f (drop (at + 1) rows)) in
    sym (later (f row).entity (f row).outcome rest (ap (λ (c : RowChange). fault_or c.entity c.outcome None) (sym is) ∙ fits))
    ∙ sym (drop_at (λ rs. first_fault (map f rs)) rows at row there) ∙ before
  where
    later : (e : Entity) (o : Outcome) (rest : Option (Entity × ℕ)) → fault_or e o None ≡ None → fault_or e o rest ≡ rest
    later e (Changed cells) rest h = refl
    later e (Overflow at) rest h = absurd (let wrong : Some (e, at) ≡ None = h in cc)

-- and one that does
pub fault_found : (f : Row → RowChange) (rows : List Row) (at : ℕ) (row : Row) (made : RowChange) (over : Entity × ℕ) (all : Option (Entity × ℕ)) → slice_get rows at ≡ Some row → made ≡ f row
    → fault_or made.entity made.outcome None ≡ Some over → first_fault (map f (drop at rows)) ≡ all → Some over ≡ all
fault_found f rows at row made over all there is found before =
    sym (here (f row).entity (f row).outcome (first_fault (map f (drop (at + 1) rows))) (ap (λ (c : RowChange). fault_or c.entity c.outcome None) (sym is) ∙ found))
    ∙ sym (drop_at (λ rs. first_fault (map f rs)) rows at row there) ∙ before
  where
    here : (e : Entity) (o : Outcome) (rest : Option (Entity × ℕ)) → fault_or e o None ≡ Some over → fault_or e o rest ≡ Some over
    here e (Changed cells) rest h = absurd (let wrong : None ≡ Some over = h in cc)
    here e (Overflow at) rest h = h
