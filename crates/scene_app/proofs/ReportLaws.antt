-- Tallies of bad lines, one part after another.
use Rattle.std.proofs.Common.{◌≡◌, ◌+◌, List, [], ◌∷◌, ◌++◌, length, take, true, nat_lt, if◌then◌else◌, inl, inr, refl, ap, sym, ◌∙◌, arith, append_assoc, append-nil}
use Rattle.std.proofs.lemmas.Bool.{cases_lt}
use Rattle.std.proofs.lemmas.Bool.Decides.{nat_tests}
use Rattle.std.proofs.lemmas.List.{take_all, take-append-le, length-append, length-take-le}
use Rattle.scene_interpreter.specs.declared.bad_line_report.BadLineReport.{BadLineReport}
use Rattle.scene_app.specs.Reports.{Tally, tally, no_bad_lines}
use Rattle.scene_app.specs.Steps.{noted_one, noted}

-- two parts, one after the other
pub noted-append : (t : Tally) (xs ys : List BadLineReport) → noted t (xs ++ ys) ≡ noted (noted t xs) ys
noted-append t [] ys = refl
noted-append t (x ∷ xs) ys = noted-append (noted_one t x) xs ys

-- the first ten, and one more
first_more : (xs : List BadLineReport) (x : BadLineReport)
    → (if nat_lt (length (take 10 xs)) 10 then take 10 xs ++ x ∷ [] else take 10 xs) ≡ take 10 (xs ++ x ∷ [])
first_more xs x = elim (cases_lt (length xs) 10) [
  | inl few ↦
      let all : take 10 xs ≡ xs = take_all 10 xs (omega (arith, few)) in
      let more : take 10 (xs ++ x ∷ []) ≡ xs ++ x ∷ [] = take_all 10 (xs ++ x ∷ []) (omega (arith, few, length-append xs (x ∷ []))) in
      let test : nat_lt (length xs) 10 ≡ true = grind (arith, nat_tests, few) in
      rw (all, test, more) refl
  | inr many ↦
      let ten : length (take 10 xs) ≡ 10 = length-take-le 10 xs many in
      let same : take 10 (xs ++ x ∷ []) ≡ take 10 xs = take-append-le 10 xs (x ∷ []) many in
      rw (ten, same) refl
]

-- a tally of a list, and one more
tally_more : (xs : List BadLineReport) (x : BadLineReport) → noted_one (tally xs) x ≡ tally (xs ++ x ∷ [])
tally_more xs x =
    let count : length xs + 1 ≡ length (xs ++ x ∷ []) = sym (length-append xs (x ∷ [])) in
    rw (first_more xs x, count) refl

-- a tally of a list, and then of a rest
tally_rest : (xs ys : List BadLineReport) → noted (tally xs) ys ≡ tally (xs ++ ys)
tally_rest xs [] = ap tally (sym (append-nil xs))
tally_rest xs (y ∷ ys) =
    ap (λ t. noted t ys) (tally_more xs y) ∙ (tally_rest (xs ++ y ∷ []) ys ∙ ap tally (append_assoc xs (y ∷ []) ys))

-- what is noted from none on is the tally of all
pub noted_all : (rs : List BadLineReport) → noted no_bad_lines rs ≡ tally rs
noted_all rs = tally_rest [] rs
