-- Where a text is cut.
use Rattle.std.proofs.Common.{◌≡◌, ◌≢◌, ℕ, suc, ◌<◌, Bool, true, false, cond, List, ◌∷◌, ◌++◌, length, get_or, refl, ap, sym, ◌∙◌, subst, arith, Some, None}
use Rattle.std.specs.Prelude.{◌==◌, ◌≤◌, position, nat_lt, take, drop, ◌+◌}
use Rattle.std.proofs.Math.Numerals.{add-one}
use Rattle.std.specs.List.{position_or_len}
use borrow.Author.Tests.{ltb-false}
use Rattle.std.proofs.lemmas.Bool.Decides.{nat_tests}
use Rattle.std.proofs.Math.Seq.{split_at}
use Rattle.std.proofs.lemmas.List.{get_or-take, length-take-le}
use Rattle.std.proofs.lemmas.List.Quantifiers.{position-Some}
use Rattle.std.proofs.lemmas.List.Sums.{fails_before_first}
use Rattle.scene_kinds.specs.EntityReading.{cut_at}
use Rattle.scene_kinds.proofs.EntityReading.{cut_at-none, cut_at-parts}

-- a test that gave no place failed
pub none_chosen : (b : Bool) (n : ℕ) → cond b (Some n) None ≡ None → b ≡ false
none_chosen true n e = absurd (cc e)
none_chosen false n e = refl

-- where the first mark stands, the bytes are cut
pub cut_at-place : (mark at : ℕ) (bs : List ℕ) → position (λ b. b == mark) bs ≡ Some at → cut_at mark bs ≡ Some (take at bs, drop (at + 1) bs)
cut_at-place mark at bs e =
    let t = position-Some (λ b. b == mark) bs at 0 e in
    let k = t.1 in let here : get_or bs at 0 ≡ mark = grind (arith, nat_tests, k) in
    let whole : bs ≡ take at bs ++ mark ∷ drop (suc at) bs = split_at bs at 0 t.0 ∙ ap (λ m. take at bs ++ m ∷ drop (suc at) bs) here in
    let long = length-take-le at bs (omega (t.0, arith)) in
    let before : (i : ℕ) → i < length (take at bs) → get_or (take at bs) i 0 ≢ mark = λ i small is.
    let inside : i < at = omega (small, long, arith) in
    let fails = t.2 i inside in
    let same = get_or-take at bs i 0 inside in
    let k : (mark == mark) ≡ false = ap (λ m. m == mark) (sym is ∙ same) ∙ fails in
    grind (arith, nat_tests, k) in
    ap (cut_at mark) whole ∙ cut_at-parts mark (take at bs) (drop (suc at) bs) before ∙ ap (λ n. Some (take at bs, drop n bs)) (sym (add-one at))

-- the first mark stands in the bytes, and is one byte
pub mark_there : (mark at : ℕ) (bs : List ℕ) → mark < 128 → position (λ b. b == mark) bs ≡ Some at → (at < length bs) × (get_or bs at 0 < 128)
mark_there mark at bs small e =
    let t = position-Some (λ b. b == mark) bs at 0 e in
    let k = t.1 in
    (t.0, let here : get_or bs at 0 ≡ mark = grind (arith, nat_tests, k) in subst (λ b. b < 128) (sym here) small)

-- where no mark stands, they aren't
pub cut_at-nowhere : (mark : ℕ) (bs : List ℕ) → position (λ b. b == mark) bs ≡ None → cut_at mark bs ≡ None
cut_at-nowhere mark bs e =
    let t = none_chosen (nat_lt (position_or_len (λ b. b == mark) bs) (length bs)) (position_or_len (λ b. b == mark) bs) e in
    let far : length bs ≤ position_or_len (λ b. b == mark) bs = ltb-false _ _ t in
    cut_at-none mark bs (λ i small is.
    let fails = fails_before_first (λ b. b == mark) bs i 0 (omega (small, far, arith)) in
    let k : (mark == mark) ≡ false = ap (λ m. m == mark) (sym is) ∙ fails in
    grind (arith, nat_tests, k))
