-- What a kind set says of its kinds, and the kind set of cells when one comes or goes.
use Rattle.std.proofs.Common.{◌≡◌, ◌≢◌, ◌<◌, ◌≤◌, ℕ, ◌+◌, ◌-◌, ◌*◌, ◌%◌, ◌^◌, min, max, Bool, true, false, cond, T, List, [], ◌∷◌, refl, ap, sym, ◌∙◌, arith, Option, Some, None, is_some, nat_eq, nat_lt, add_comm, add-zero}
use Rattle.std.specs.Int.{bit_at, bit_not, w64}
use Rattle.std.specs.Ordering.{nat_cmp, is_eq, eq_by_cmp}
use Rattle.std.specs.declared.cmp.Ordering.TheVariants.{Less, Equal, Greater}
use Rattle.std.specs.FinMap.Entries.{below_all}
use Rattle.std.proofs.lemmas.Nat.{one_shl, pow_below, pow-add}
use Rattle.std.proofs.lemmas.Nat.Bits.{bit_at-zero, bit_at-lt, bit_at-pow_same, bit_at-pow_other, bit_at_cat_low, bit_at_cat_high, bit_at_and, bit_at_or, bit_at_not, bit_at_above, same_from_bits}
use Rattle.std.proofs.lemmas.Bool.Decides.{nat_tests}
use Rattle.scene_kinds.specs.declared.cell.Cell.{Cell}
use Rattle.scene_kinds.specs.Cells.{IsAscending, cell_of, with_cell, without_cell, mask_of}
use Rattle.scene_kinds.specs.KindLaws.{KindSetsHaveTheirKinds, CellsBringTheirKinds, CellsTakeTheirKinds}
use Rattle.scene_kinds.specs.KindSet.{has_kind, set_with, set_without}
use Rattle.scene_kinds.proofs.CellLaws.{ascending-with_cell, ascending-without_cell, first_below, rest_ascends, below_first, below_rest, before_none, cell_of-with_cell, cell_of-without_cell}
use Rattle.scene_kinds.proofs.Masks.{mask-cons, mask-below}

-- the bit of a kind, as the code shifts it
pub shifted_bit : (kind : ℕ) → kind < 64 → (1 * 2 ^ kind) % 18446744073709551616 ≡ 2 ^ kind
shifted_bit kind low = one_shl kind 64 low

pub ruleset shifts = (shifted_bit)

-- cells whose kinds are above one have a multiple of the next bit as their kind set
above : (kind : ℕ) (cells : List (ℕ × Cell)) → T (below_all nat_cmp kind cells) → (q : ℕ) × (mask_of cells ≡ q * 2 ^ (kind + 1))
above kind [] h = (0, omega arith)
above kind (e ∷ es) h =
    let l = below_first kind e es h in
    let less : kind + 1 ≤ e.0 = grind (arith, nat_tests) in
    let whole : e.0 ≡ (e.0 - (kind + 1)) + (kind + 1) = omega arith in
    let rest = above kind es (below_rest kind e es h) in
    (2 ^ (e.0 - (kind + 1)) + rest.0, omega (arith, mask-cons e es, rest.1, ap (λ (k : ℕ). 2 ^ k) whole, pow-add 2 (e.0 - (kind + 1)) (kind + 1)))

-- a bit of a power of two and of a multiple of the next one
bit_below : (a q k : ℕ) → k < a → bit_at (2 ^ a + q * 2 ^ (a + 1)) k ≡ 0
bit_below a q k l =
    let apart : k ≢ a = omega arith in
    ap (λ n. bit_at n k) (add_comm (2 ^ a) (q * 2 ^ (a + 1))) ∙ bit_at_cat_low q (a + 1) (2 ^ a) k (omega arith) ∙ bit_at-pow_other a k apart

bit_there : (a q : ℕ) → bit_at (2 ^ a + q * 2 ^ (a + 1)) a ≡ 1
bit_there a q = ap (λ n. bit_at n a) (add_comm (2 ^ a) (q * 2 ^ (a + 1))) ∙ bit_at_cat_low q (a + 1) (2 ^ a) a (omega arith) ∙ bit_at-pow_same a

bit_past : (a q k : ℕ) → a < k → bit_at (2 ^ a + q * 2 ^ (a + 1)) k ≡ bit_at (q * 2 ^ (a + 1)) k
bit_past a q k l =
    let high : a + 1 ≤ k = omega arith in
    ap (λ n. bit_at n k) (add_comm (2 ^ a) (q * 2 ^ (a + 1))) ∙ bit_at_cat_high q (a + 1) (2 ^ a) k (pow_below a (a + 1) (omega arith)) high
    ∙ sym (bit_at_cat_high q (a + 1) 0 k (omega (arith, pow_below a (a + 1) (omega arith))) high) ∙ ap (λ n. bit_at n k) (add-zero (q * 2 ^ (a + 1)))

-- the bits of a first cell and of cells above it
first_bits : (e : ℕ × Cell) (es : List (ℕ × Cell)) → IsAscending (e ∷ es) → (q : ℕ) × ((mask_of es ≡ q * 2 ^ (e.0 + 1)) × (mask_of (e ∷ es) ≡ 2 ^ e.0 + q * 2 ^ (e.0 + 1)))
first_bits e es h =
    let rest = above e.0 es (first_below e es h) in
    (rest.0, (rest.1, mask-cons e es ∙ ap (λ n. 2 ^ e.0 + n) rest.1))

-- a kind set has just the kinds of its cells
pub has_kind-mask_of : KindSetsHaveTheirKinds
has_kind-mask_of [] kind h = ap (λ n. nat_eq n 1) (bit_at-zero kind)
has_kind-mask_of (e ∷ es) kind h =
    let b = first_bits e es h in
    elim (nat_cmp kind e.0) as (λ o. nat_cmp kind e.0 ≡ o → has_kind (mask_of (e ∷ es)) kind ≡ is_some (cell_of (e ∷ es) kind)) [
      | Less ↦ λ t.
          let l : kind < e.0 = grind (arith, nat_tests) in
          ap (λ n. nat_eq n 1) (ap (λ n. bit_at n kind) b.1.1 ∙ bit_below e.0 b.0 kind l) ∙ ap is_some (sym (before_none kind e es h t))
      | Equal ↦ λ t.
          let same : kind ≡ e.0 = grind (arith, nat_tests) in
          ap (λ n. nat_eq n 1) (ap (bit_at (mask_of (e ∷ es))) same ∙ ap (λ n. bit_at n e.0) b.1.1 ∙ bit_there e.0 b.0) ∙ ap (λ o. is_some (cond (is_eq o) (Some e.1) (cell_of es kind))) (sym t)
      | Greater ↦ λ t.
          let l : e.0 < kind = grind (arith, nat_tests) in
          ap (λ n. nat_eq n 1) (ap (λ n. bit_at n kind) b.1.1 ∙ bit_past e.0 b.0 kind l ∙ ap (λ n. bit_at n kind) (sym b.1.0))
          ∙ has_kind-mask_of es kind (rest_ascends e es h) ∙ ap (λ o. is_some (cond (is_eq o) (Some e.1) (cell_of es kind))) (sym t)
    ] refl

-- two numbers that have the same kinds are one set
pub same_kinds : (a b : ℕ) → ((kind : ℕ) → has_kind a kind ≡ has_kind b kind) → a ≡ b
same_kinds a b h = same_from_bits a b (λ i. same_bit (bit_at a i) (bit_at b i) (bit_at-lt a i) (bit_at-lt b i) (h i))
  where
    same_bit : (m n : ℕ) → m < 2 → n < 2 → nat_eq m 1 ≡ nat_eq n 1 → m ≡ n
    same_bit m n p q e = grind (arith, nat_tests)

-- a set with a kind has it, and each kind that it had
pub has_kind-set_with : (set kind k : ℕ) → has_kind (set_with set kind) k ≡ cond (eq_by_cmp nat_cmp k kind) true (has_kind set k)
has_kind-set_with set kind k =
    elim (eq_by_cmp nat_cmp k kind) as (λ b. eq_by_cmp nat_cmp k kind ≡ b → has_kind (set_with set kind) k ≡ cond b true (has_kind set k)) [
      | true ↦ λ t. let same : k ≡ kind = grind (arith, nat_tests) in
          ap (λ n. nat_eq n 1) (bit_at_or set (2 ^ kind) k ∙ ap (max (bit_at set k)) (ap (bit_at (2 ^ kind)) same ∙ bit_at-pow_same kind) ∙ high (bit_at set k) (bit_at-lt set k))
      | false ↦ λ t. let apart : k ≢ kind = grind (arith, nat_tests) in
          ap (λ n. nat_eq n 1) (bit_at_or set (2 ^ kind) k ∙ ap (max (bit_at set k)) (bit_at-pow_other kind k apart) ∙ low (bit_at set k))
    ] refl
  where
    high : (n : ℕ) → n < 2 → max n 1 ≡ 1
    high n l = omega arith

    low : (n : ℕ) → max n 0 ≡ n
    low n = omega arith

-- a set of 64 kinds without a kind has every other one that it had
pub has_kind-set_without : (set kind k : ℕ) → set < 2 ^ 64 → kind < 64 → has_kind (set_without set kind) k ≡ cond (eq_by_cmp nat_cmp k kind) false (has_kind set k)
has_kind-set_without set kind k fits l =
    elim (eq_by_cmp nat_cmp k kind) as (λ b. eq_by_cmp nat_cmp k kind ≡ b → has_kind (set_without set kind) k ≡ cond b false (has_kind set k)) [
      | true ↦ λ t. let same : k ≡ kind = grind (arith, nat_tests) in
          ap (λ n. nat_eq n 1) (bit_at_and set _ k ∙ ap (λ n. min (bit_at set k) (bit_at (bit_not w64 (2 ^ kind)) n)) same
          ∙ ap (min (bit_at set k)) (bit_at_not w64 (2 ^ kind) kind (pow_below kind 64 l) l ∙ ap (λ n. 1 - n) (bit_at-pow_same kind)) ∙ none (bit_at set k))
      | false ↦ λ t. let apart : k ≢ kind = grind (arith, nat_tests) in
          elim (nat_lt k 64) as (λ b. nat_lt k 64 ≡ b → has_kind (set_without set kind) k ≡ has_kind set k) [
            | true ↦ λ u. let low : k < 64 = grind (arith, nat_tests) in
                ap (λ n. nat_eq n 1) (bit_at_and set _ k ∙ ap (min (bit_at set k)) (bit_at_not w64 (2 ^ kind) k (pow_below kind 64 l) low ∙ ap (λ n. 1 - n) (bit_at-pow_other kind k apart)) ∙ one (bit_at set k) (bit_at-lt set k))
            | false ↦ λ u. let high : 64 ≤ k = grind (arith, nat_tests) in
                ap (λ n. nat_eq n 1) (bit_at_and set _ k ∙ ap (λ n. min n (bit_at (bit_not w64 (2 ^ kind)) k)) (bit_at_above set 64 k fits high) ∙ still (bit_at (bit_not w64 (2 ^ kind)) k) ∙ sym (bit_at_above set 64 k fits high))
          ] refl
    ] refl
  where
    none : (n : ℕ) → min n 0 ≡ 0
    none n = omega arith

    one : (n : ℕ) → n < 2 → min n 1 ≡ n
    one n h = omega arith

    still : (n : ℕ) → min 0 n ≡ 0
    still n = omega arith

-- a cell that is put in brings its kind
pub mask_of-with_cell : CellsBringTheirKinds
mask_of-with_cell cells kind cell h = same_kinds _ _ (λ k.
    has_kind-mask_of (with_cell cells kind cell) k (ascending-with_cell cells kind cell h) ∙ ap is_some (cell_of-with_cell cells kind cell k)
    ∙ into (eq_by_cmp nat_cmp k kind) (cell_of cells k) ∙ ap (cond (eq_by_cmp nat_cmp k kind) true) (sym (has_kind-mask_of cells k h)) ∙ sym (has_kind-set_with (mask_of cells) kind k))
  where
    into : (b : Bool) (o : Option Cell) → is_some (cond b (Some cell) o) ≡ cond b true (is_some o)
    into true o = refl
    into false o = refl

-- a kind that is taken out leaves the others
pub mask_of-without_cell : CellsTakeTheirKinds
mask_of-without_cell cells kind h below l = same_kinds _ _ (λ k.
    has_kind-mask_of (without_cell cells kind) k (ascending-without_cell cells kind h) ∙ ap is_some (cell_of-without_cell cells kind k)
    ∙ into (eq_by_cmp nat_cmp k kind) (cell_of cells k) ∙ ap (cond (eq_by_cmp nat_cmp k kind) false) (sym (has_kind-mask_of cells k h)) ∙ sym (has_kind-set_without (mask_of cells) kind k (mask-below 64 cells h below) l))
  where
    into : (b : Bool) (o : Option Cell) → is_some (cond b None o) ≡ cond b false (is_some o)
    into true o = refl
    into false o = refl
