-- The columns of a run, made kind by kind: those that its steps write.
use Rattle.std.proofs.Common.{◌≡◌, ◌<◌, ◌≤◌, ◌+◌, ◌^◌, ℕ, zero, suc, List, [], ◌∷◌, ◌++◌, length, map, refl, ap, sym, subst, ◌∙◌, arith, true, false, T, Some, None, nat_eq, nat_lt}
use Rattle.std.specs.Prelude.{All, slice_get}
use Rattle.std.specs.List.{position_from}
use Rattle.std.proofs.lemmas.Bool.{eqb-true, eq-eqb}
use Rattle.std.proofs.lemmas.Bool.Decides.{nat_tests}
use Rattle.std.proofs.lemmas.List.{map-append}
use Rattle.std.proofs.lemmas.Nat.Bits.{bit_at_above}
use Rattle.std.proofs.lemmas.Option.{get_or_from_slice_get, slice_get_within}
use Rattle.scene_kinds.specs.KindSet.{has_kind}
use Rattle.scene_kinds.proofs.Positions.{found, missed}
use Rattle.scene_table.specs.declared.row_step.RowStep.{RowStep}
use Rattle.scene_table.specs.declared.row_step.RowStep.TheVariants.{AddVec, AddInt}
use Rattle.scene_table.specs.declared.run.RunColumn.{RunColumn}
use Rattle.scene_table.specs.Columns.{rises}
use Rattle.scene_table.specs.RowStep.{is_written, target}
use Rattle.scene_table.specs.Table.{TableState}
use Rattle.scene_table.specs.Runs.{AreApart, AreColumnsFor, CanStep, IsColumnOf}
use Rattle.scene_table.proofs.KindLists.{AreLess, less_last, less_more, rises_last}
use Rattle.scene_table.proofs.RunFacts.{first_or_last}
use Rattle.scene_table.proofs.StepsInOrder.{written_there}

-- the columns of the steps that write kinds below one
pub record AreColumnsUpTo (steps : List RowStep) (columns : List RunColumn) (n : ℕ) : Type 0 where
  pub each : (at : ℕ) (s : RowStep) → slice_get steps at ≡ Some s → target s < n → (k : ℕ) × (c : RunColumn) × (slice_get columns k ≡ Some c) × IsColumnOf s c
  pub only : (k : ℕ) (c : RunColumn) → slice_get columns k ≡ Some c → is_written steps c.kind ≡ true
  pub less : AreLess (map (λ c. c.kind) columns) n
  pub up : T (rises (map (λ c. c.kind) columns))

pub no_columns : (steps : List RowStep) (columns : List RunColumn) → columns ≡ [] → AreColumnsUpTo steps columns 0
no_columns steps columns none = subst (λ (cs : List RunColumn). AreColumnsUpTo steps cs 0) (sym none) (record {
  each = λ at s is l. absurd (omega arith);
  only = λ k c is. absurd (let g : None ≡ Some c = is in cc);
  less = tt;
  up = tt;
})

get_before : {X : Type 0} (xs : List X) (x y : X) (k : ℕ) → slice_get xs k ≡ Some y → slice_get (xs ++ x ∷ []) k ≡ Some y
get_before [] x y k h = absurd (let g : None ≡ Some y = h in cc)
get_before (z ∷ xs) x y zero h = h
get_before (z ∷ xs) x y (suc k) h = get_before xs x y k h

get_last : {X : Type 0} (xs : List X) (x : X) → slice_get (xs ++ x ∷ []) (length xs) ≡ Some x
get_last [] x = refl
get_last (z ∷ xs) x = get_last xs x

before_or_last : {X : Type 0} (xs : List X) (x y : X) (k : ℕ) (P : Type 0) → slice_get (xs ++ x ∷ []) k ≡ Some y → (slice_get xs k ≡ Some y → P) → (x ≡ y → P) → P
before_or_last [] x y zero P h old new = new (let g : Some x ≡ Some y = h in cc)
before_or_last [] x y (suc k) P h old new = absurd (let g : None ≡ Some y = h in cc)
before_or_last (z ∷ xs) x y zero P h old new = old h
before_or_last (z ∷ xs) x y (suc k) P h old new = before_or_last xs x y k P h old new

-- the step that a search for a kind finds writes it
found_writes : (steps : List RowStep) (kind at : ℕ) → position_from (λ (s : RowStep). nat_eq (target s) kind) 0 steps ≡ Some at → (s : RowStep) → slice_get steps at ≡ Some s → target s ≡ kind
found_writes steps kind at h = found (λ (s : RowStep). nat_eq (target s) kind) (λ xs k. (s : RowStep) → slice_get xs k ≡ Some s → target s ≡ kind)
    (λ x xs t s is. let e : x ≡ s = (let g : Some x ≡ Some s = is in cc) in ap target (sym e) ∙ eqb-true (target x) kind t) (λ x xs k t p. p) steps at h

none_writes : (steps : List RowStep) (kind : ℕ) → position_from (λ (s : RowStep). nat_eq (target s) kind) 0 steps ≡ None → (at : ℕ) (s : RowStep) → slice_get steps at ≡ Some s → target s ≡ kind → ⊥
none_writes steps kind h = missed (λ (s : RowStep). nat_eq (target s) kind) (λ xs. (at : ℕ) (s : RowStep) → slice_get xs at ≡ Some s → target s ≡ kind → ⊥)
    (λ at s is e. let g : None ≡ Some s = is in cc) (λ x xs t p at. other x xs t p at) steps h
  where
    other : (x : RowStep) (xs : List RowStep) → nat_eq (target x) kind ≡ false → ((at : ℕ) (s : RowStep) → slice_get xs at ≡ Some s → target s ≡ kind → ⊥) → (at : ℕ) (s : RowStep) → slice_get (x ∷ xs) at ≡ Some s → target s ≡ kind → ⊥
    other x xs t p zero s is e =
        let same : x ≡ s = (let g : Some x ≡ Some s = is in cc) in
        let g : true ≡ false = sym (eq-eqb (target x) kind (ap target same ∙ e)) ∙ t in cc
    other x xs t p (suc at) s is e = p at s is e

module _ (steps : List RowStep) (columns : List RunColumn) (kind : ℕ) (so_far : AreColumnsUpTo steps columns kind) where
  -- a kind that a step writes
  pub column_more : (at : ℕ) (s : RowStep) (column : RunColumn) → AreApart steps → position_from (λ (s : RowStep). nat_eq (target s) kind) 0 steps ≡ Some at → slice_get steps at ≡ Some s → IsColumnOf s column
      → AreColumnsUpTo steps (columns ++ column ∷ []) (kind + 1)
  column_more at s column apart place is of =
      let own : target s ≡ kind = found_writes steps kind at place s is in
      let kinds : map (λ (c : RunColumn). c.kind) (columns ++ column ∷ []) ≡ map (λ (c : RunColumn). c.kind) columns ++ kind ∷ [] =
      map-append (λ (c : RunColumn). c.kind) columns (column ∷ []) ∙ ap (λ k. map (λ (c : RunColumn). c.kind) columns ++ k ∷ []) (of.kind ∙ own) in
      record {
        each = λ n t there l. first_or_last (target t) kind ((k : ℕ) × (c : RunColumn) × (slice_get (columns ++ column ∷ []) k ≡ Some c) × IsColumnOf t c) l
            (λ low. let old = so_far.each n t there low in (old.0, old.1, get_before columns column old.1 old.0 old.2, old.3))
            (λ e.
            let place : n ≡ at = apart.own n at t s there is (e ∙ sym own) in
            let same : s ≡ t = (let g : Some s ≡ Some t = sym is ∙ ap (slice_get steps) (sym place) ∙ there in cc) in
            (length columns, column, get_last columns column, subst (λ (x : RowStep). IsColumnOf x column) same of));
        only = λ k c there. before_or_last columns column c k (is_written steps c.kind ≡ true) there (λ old. so_far.only k c old)
            (λ e. ap (λ (x : RunColumn). is_written steps x.kind) (sym e) ∙ written_there steps at s column.kind is (sym of.kind));
        less = subst (λ ks. AreLess ks (kind + 1)) (sym kinds) (less_last (map (λ (c : RunColumn). c.kind) columns) kind so_far.less);
        up = subst (λ ks. T (rises ks)) (sym kinds) (rises_last (map (λ (c : RunColumn). c.kind) columns) kind so_far.less so_far.up);
      }

  -- and one that none does
  pub column_none : position_from (λ (s : RowStep). nat_eq (target s) kind) 0 steps ≡ None → AreColumnsUpTo steps columns (kind + 1)
  column_none none = record {
    each = λ n t there l. first_or_last (target t) kind ((k : ℕ) × (c : RunColumn) × (slice_get columns k ≡ Some c) × IsColumnOf t c) l
        (λ low. so_far.each n t there low) (λ e. absurd (none_writes steps kind none n t there e));
    only = so_far.only;
    less = less_more (map (λ (c : RunColumn). c.kind) columns) kind so_far.less;
    up = so_far.up;
  }

-- a set has kinds below 64
low_kind : (mask kind : ℕ) → mask < 2 ^ 64 → has_kind mask kind ≡ true → kind < 64
low_kind mask kind fits has = elim (nat_lt kind 64) as (λ b. nat_lt kind 64 ≡ b → kind < 64) [
  | true ↦ λ t. below kind t
  | false ↦ λ t. absurd (let g : false ≡ true = sym (ap (λ n. nat_eq n 1) (bit_at_above mask 64 kind fits (above kind t))) ∙ has in cc)
] refl
  where
    below : (k : ℕ) → nat_lt k 64 ≡ true → k < 64
    below k h = grind (arith, nat_tests)

    above : (k : ℕ) → nat_lt k 64 ≡ false → 64 ≤ k
    above k h = grind (arith, nat_tests)

step_can : (t : TableState) (s : RowStep) → CanStep t s → has_kind t.mask (target s) ≡ true
step_can t (AddVec to by) can = can.0
step_can t (AddInt to by) can = can.0

-- all of them
pub columns_all : (t : TableState) (steps : List RowStep) (columns : List RunColumn) (n : ℕ) → AreColumnsUpTo steps columns n → 64 ≤ n → t.mask < 2 ^ 64 → All (CanStep t) steps → AreColumnsFor steps columns
columns_all t steps columns n so_far l fits can = record {
  each = λ at s is.
      let here = subst (CanStep t) (get_or_from_slice_get steps at s s is) (can at s (slice_get_within steps at s is)) in
      so_far.each at s is (omega (arith, low_kind t.mask (target s) fits (step_can t s here)));
  only = so_far.only;
  rising = so_far.up;
}
