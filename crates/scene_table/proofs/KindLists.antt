-- The kinds of columns and of cells: those of a set stand in one order only.
use Rattle.std.proofs.Common.{◌≡◌, ℕ, ◌+◌, ◌*◌, ◌%◌, ◌^◌, ◌<◌, ◌≤◌, Bool, true, false, ◌&&◌, T, cond, List, [], ◌∷◌, ◌++◌, length, map, refl, ap, subst, sym, ◌∙◌, arith, Option, Some, None, is_some, nat_eq, add-zero}
use Rattle.std.specs.Prelude.{sum_by}
use Rattle.std.specs.Int.{bit_at}
use Rattle.std.specs.Option.{option_map}
use Rattle.std.specs.Ordering.{nat_cmp, is_lt, eq_by_cmp}
use Rattle.std.specs.declared.cmp.Ordering.TheVariants.{Equal}
use Rattle.std.specs.FinMap.Entries.{find, below_all, is_sorted, same_entries}
use Rattle.std.proofs.lemmas.Cmp.{nat_cmp_total}
use Rattle.std.proofs.lemmas.Nat.{mod-pow-add}
use Rattle.std.proofs.lemmas.Nat.Bits.{bit_at-lt}
use Rattle.std.proofs.lemmas.List.{map-append}
use Rattle.std.proofs.lemmas.List.Elements.{All-push}
use Rattle.std.proofs.lemmas.List.Sums.{sum_by-append, sum_by-cons}
use Rattle.std.proofs.lemmas.Bool.Decides.{nat_tests}
use Rattle.scene_kinds.specs.declared.cell.Cell.{Cell}
use Rattle.scene_kinds.specs.declared.cells.Row.{Row}
use Rattle.scene_kinds.specs.declared.value.Value.TheVariants.{Tag}
use Rattle.scene_kinds.specs.Cells.{HasKinds, cell_of, mask_of}
use Rattle.scene_kinds.specs.KindSet.{has_kind}
use Rattle.scene_kinds.proofs.KindSets.{has_kind-mask_of}
use Rattle.scene_kinds.proofs.Masks.{mask-cons}
use Rattle.scene_table.specs.Columns.{ColumnState, kinds_of, kinds_in, AreLong, AreColumnsOf, is_below, rises}

-- their set
abbrev pub bits : List ℕ → ℕ
bits ks = sum_by (λ k. 2 ^ k) ks

below_is : (k : ℕ) (cells : List (ℕ × Cell)) → is_below k (kinds_in cells) ≡ below_all nat_cmp k cells
below_is k [] = refl
below_is k (c ∷ cells) = ap (is_lt (nat_cmp k c.0) &&◌) (below_is k cells)

-- cells ascend where their kinds rise
pub rises_is : (cells : List (ℕ × Cell)) → rises (kinds_in cells) ≡ is_sorted nat_cmp cells
rises_is [] = refl
rises_is (c ∷ cells) = λ i. below_is c.0 cells i && rises_is cells i

-- and their set is that of their kinds
pub bits_is : (cells : List (ℕ × Cell)) → bits (kinds_in cells) ≡ mask_of cells
bits_is [] = refl
bits_is (c ∷ cells) = sum_by-cons (λ (k : ℕ). 2 ^ k) c.0 (kinds_in cells) ∙ ap (λ n. 2 ^ c.0 + n) (bits_is cells) ∙ sym (mask-cons c cells)

-- columns whose kinds rise are those of their set
pub columns_are : (mask : ℕ) (columns : List ColumnState) → T (rises (kinds_of columns)) → bits (kinds_of columns) ≡ mask → AreColumnsOf mask columns
columns_are mask columns up is row same = record {
  ascending = subst T (ap rises (sym same) ∙ rises_is row.cells) up;
  kinds = sym (bits_is row.cells) ∙ ap bits same ∙ is;
}

-- each of a list is less than a bound
abbrev pub AreLess : List ℕ → ℕ → Type 0
AreLess [] n = Unit {0}
AreLess (k ∷ ks) n = (k < n) × AreLess ks n

pub less_more : (ks : List ℕ) (n : ℕ) → AreLess ks n → AreLess ks (n + 1)
less_more [] n h = tt
less_more (k ∷ ks) n h = (omega (arith, h.0), less_more ks n h.1)

pub less_last : (ks : List ℕ) (n : ℕ) → AreLess ks n → AreLess (ks ++ n ∷ []) (n + 1)
less_last [] n h = (omega arith, tt)
less_last (k ∷ ks) n h = (omega (arith, h.0), less_last ks n h.1)

is_less : (k n : ℕ) → k < n → is_lt (nat_cmp k n) ≡ true
is_less k n l = grind (arith, nat_tests)

parts : (a b : Bool) → T (a && b) → T a × T b
parts true b h = (tt, h)
parts false b h = absurd h

both : (a b : Bool) → T a → T b → T (a && b)
both true b p q = q
both false b p q = p

below_last : (k n : ℕ) (ks : List ℕ) → k < n → T (is_below k ks) → T (is_below k (ks ++ n ∷ []))
below_last k n [] l h = both _ _ (subst T (sym (is_less k n l)) tt) tt
below_last k n (j ∷ js) l h = let p = parts _ _ h in both _ _ p.0 (below_last k n js l p.1)

-- one that is more than all others goes last
pub rises_last : (ks : List ℕ) (n : ℕ) → AreLess ks n → T (rises ks) → T (rises (ks ++ n ∷ []))
rises_last [] n h up = tt
rises_last (k ∷ ks) n h up = let p = parts _ _ up in both _ _ (below_last k n ks h.0 p.0) (rises_last ks n h.1 p.1)

bit_there : (b : ℕ) → nat_eq b 1 ≡ true → b ≡ 1
bit_there b h = grind (arith, nat_tests)

bit_none : (b : ℕ) → b < 2 → nat_eq b 1 ≡ false → b ≡ 0
bit_none b l h = grind (arith, nat_tests)

-- the rest of a set by the next power of two
next_bit : (mask n : ℕ) → mask % 2 ^ (n + 1) ≡ bit_at mask n * 2 ^ n + mask % 2 ^ n
next_bit mask n = let order : n + 1 ≡ 1 + n = omega arith in ap (λ k. mask % 2 ^ k) order ∙ mod-pow-add mask 1 n

one_more : (b p r s t : ℕ) → b ≡ 1 → s ≡ b * p + r → t ≡ r + p → t ≡ s
one_more b p r s t is e h = h ∙ omega (arith, e, ap (λ k. k * p) is)

none_more : (b p r s t : ℕ) → b ≡ 0 → s ≡ b * p + r → t ≡ r → t ≡ s
none_more b p r s t is e h = h ∙ omega (arith, e, ap (λ k. k * p) is)

-- the set of the kinds up to one that is in it
pub bits_with : (ks : List ℕ) (mask n : ℕ) → bits ks ≡ mask % 2 ^ n → has_kind mask n ≡ true → bits (ks ++ n ∷ []) ≡ mask % 2 ^ (n + 1)
bits_with ks mask n e has =
    one_more (bit_at mask n) (2 ^ n) (mask % 2 ^ n) (mask % 2 ^ (n + 1)) (bits (ks ++ n ∷ [])) (bit_there (bit_at mask n) has) (next_bit mask n)
    (sum_by-append (λ (k : ℕ). 2 ^ k) ks (n ∷ []) ∙ ap (λ t. t + bits (n ∷ [])) e ∙ ap (λ t. mask % 2 ^ n + t) (sum_by-cons (λ (k : ℕ). 2 ^ k) n [] ∙ add-zero (2 ^ n)))

-- and up to one that isn't
pub bits_without : (ks : List ℕ) (mask n : ℕ) → bits ks ≡ mask % 2 ^ n → has_kind mask n ≡ false → bits ks ≡ mask % 2 ^ (n + 1)
bits_without ks mask n e has = none_more (bit_at mask n) (2 ^ n) (mask % 2 ^ n) (mask % 2 ^ (n + 1)) (bits ks) (bit_none (bit_at mask n) (bit_at-lt mask n) has) (next_bit mask n) e

-- columns of the kinds of a set up to one, without cells
pub record AreColumnsUpTo (mask n : ℕ) (columns : List ColumnState) : Type 0 where
  pub empty : AreLong 0 columns
  pub less : AreLess (kinds_of columns) n
  pub up : T (rises (kinds_of columns))
  pub bits_so_far : bits (kinds_of columns) ≡ mask % 2 ^ n

-- and up to the next, which is in the set
pub column_with : (mask n : ℕ) (columns : List ColumnState) (column : ColumnState) → AreColumnsUpTo mask n columns → has_kind mask n ≡ true → column.kind ≡ n → column.cells ≡ [] → AreColumnsUpTo mask (n + 1) (columns ++ column ∷ [])
column_with mask n columns column so_far has kind cells =
    let kinds : kinds_of (columns ++ column ∷ []) ≡ kinds_of columns ++ n ∷ [] = map-append (λ (c : ColumnState). c.kind) columns (column ∷ []) ∙ ap (λ k. kinds_of columns ++ k ∷ []) kind in
    record {
      empty = All-push (λ (c : ColumnState). length c.cells ≡ 0) columns column so_far.empty (ap length cells);
      less = subst (λ ks. AreLess ks (n + 1)) (sym kinds) (less_last (kinds_of columns) n so_far.less);
      up = subst (λ ks. T (rises ks)) (sym kinds) (rises_last (kinds_of columns) n so_far.less so_far.up);
      bits_so_far = ap bits kinds ∙ bits_with (kinds_of columns) mask n so_far.bits_so_far has;
    }

-- or isn't
pub column_without : (mask n : ℕ) (columns : List ColumnState) → AreColumnsUpTo mask n columns → has_kind mask n ≡ false → AreColumnsUpTo mask (n + 1) columns
column_without mask n columns so_far has = record {
  empty = so_far.empty;
  less = less_more (kinds_of columns) n so_far.less;
  up = so_far.up;
  bits_so_far = bits_without (kinds_of columns) mask n so_far.bits_so_far has;
}

-- all are those of the set
pub columns_all : (mask n : ℕ) (columns : List ColumnState) → AreColumnsUpTo mask n columns → 64 ≤ n → n ≤ 64 → mask < 2 ^ 64 → AreColumnsOf mask columns
columns_all mask n columns so_far low high fits =
    let last : n ≡ 64 = omega arith in
    columns_are mask columns so_far.up (so_far.bits_so_far ∙ ap (λ k. mask % 2 ^ k) last ∙ small mask fits)
  where
    small : (m : ℕ) → m < 2 ^ 64 → m % 2 ^ 64 ≡ m
    small m l = omega arith

-- cells without what they hold
abbrev bare : List (ℕ × Cell) → List (ℕ × Unit {0})
bare [] = []
bare (c ∷ cells) = (c.0, tt) ∷ bare cells

bare_below : (k : ℕ) (cells : List (ℕ × Cell)) → below_all nat_cmp k cells ≡ below_all nat_cmp k (bare cells)
bare_below k [] = refl
bare_below k (c ∷ cells) = ap (is_lt (nat_cmp k c.0) &&◌) (bare_below k cells)

bare_sorted : (cells : List (ℕ × Cell)) → is_sorted nat_cmp cells ≡ is_sorted nat_cmp (bare cells)
bare_sorted [] = refl
bare_sorted (c ∷ cells) = λ i. bare_below c.0 cells i && bare_sorted cells i

bare_find : (k : ℕ) (cells : List (ℕ × Cell)) → find nat_cmp k (bare cells) ≡ option_map (λ _. tt) (cell_of cells k)
bare_find k [] = refl
bare_find k (c ∷ cells) = elim (eq_by_cmp nat_cmp k c.0) as (λ b. cond b (Some tt) (find nat_cmp k (bare cells)) ≡ option_map (λ _. tt) (cond b (Some c.1) (cell_of cells k))) [ true ↦ refl | false ↦ bare_find k cells ]

bare_kinds : (cells : List (ℕ × Cell)) → map (λ (c : ℕ × Unit {0}). c.0) (bare cells) ≡ kinds_in cells
bare_kinds [] = refl
bare_kinds (c ∷ cells) = ap (λ ks. c.0 ∷ ks) (bare_kinds cells)

alike : (a b : Option Cell) → is_some a ≡ is_some b → option_map (λ (_ : Cell). tt {0}) a ≡ option_map (λ (_ : Cell). tt {0}) b
alike None None e = refl
alike None (Some b) e = absurd (let g : false ≡ true = e in cc)
alike (Some a) None e = absurd (let g : true ≡ false = e in cc)
alike (Some a) (Some b) e = refl

pub same_key : (x y : ℕ) → nat_cmp x y ≡ Equal → x ≡ y
same_key x y e = grind (arith, nat_tests)

-- two rows with just the kinds of a set have the same kinds, in one order
pub same_kinds : (mask : ℕ) (a b : Row) → HasKinds mask a → HasKinds mask b → kinds_in a.cells ≡ kinds_in b.cells
same_kinds mask a b p q =
    let found : (k : ℕ) → find nat_cmp k (bare a.cells) ≡ find nat_cmp k (bare b.cells) = λ k.
    bare_find k a.cells
    ∙ alike (cell_of a.cells k) (cell_of b.cells k) (sym (has_kind-mask_of a.cells k p.ascending) ∙ ap (λ n. has_kind n k) (p.kinds ∙ sym q.kinds) ∙ has_kind-mask_of b.cells k q.ascending)
    ∙ sym (bare_find k b.cells) in
    sym (bare_kinds a.cells)
    ∙ ap (map (λ (c : ℕ × Unit {0}). c.0)) (same_entries nat_cmp nat_cmp_total same_key (bare a.cells) (bare b.cells) (subst T (bare_sorted a.cells) p.ascending) (subst T (bare_sorted b.cells) q.ascending) found)
    ∙ bare_kinds b.cells

-- a row that columns make
abbrev sample : Row → List ColumnState → Row
sample row columns = record row { cells = map (λ (column : ColumnState). (column.kind, record { value = Tag; added = 0; changed = 0 })) columns }

sample_kinds : (row : Row) (columns : List ColumnState) → kinds_in (sample row columns).cells ≡ kinds_of columns
sample_kinds row [] = refl
sample_kinds row (column ∷ columns) = ap (λ ks. column.kind ∷ ks) (sample_kinds row columns)

-- a row with just the kinds of a set has the kinds of its columns, in order
pub kinds_as_columns : (mask : ℕ) (row : Row) (columns : List ColumnState) → AreColumnsOf mask columns → HasKinds mask row → kinds_in row.cells ≡ kinds_of columns
kinds_as_columns mask row columns are has = same_kinds mask row (sample row columns) has (are (sample row columns) (sample_kinds row columns)) ∙ sample_kinds row columns
