-- Where a word is cut.
use Rattle.std.proofs.Common.{◌≡◌, ◌≢◌, ℕ, Bool, true, false, cond, List, [], ◌∷◌, length, refl, ap, sym, ◌∙◌, arith, Option, Some, None, option_map}
use Rattle.std.specs.Prelude.{◌==◌, ◌≤◌, filter, nat_lt, ◌+◌, not}
use Rattle.std.specs.List.{slice_split, onto_first}
use Rattle.std.proofs.lemmas.Bool.Decides.{nat_tests}
use Rattle.std.proofs.lemmas.List.Sums.{length-filter}
use Rattle.std.proofs.lemmas.List.Splits.{length-slice_split, slice_split-cons_no, slice_split-cons_yes}
use Rattle.std.proofs.lemmas.List.Filters.{length-filter_both}
use Rattle.scene_kinds.specs.EntityReading.{cut_at}
use Rattle.scene_kinds.proofs.EntityReading.{onto, without}
use Rattle.scene_script.specs.Words.{without_spaces, words_of}

-- a text that no space begins stands as it is
stays_at : (t : Bool) (b : ℕ) (bs : List ℕ) → (b == 32) ≡ t → ((rest : List ℕ) → b ∷ bs ≢ 32 ∷ rest) → b ∷ bs ≡ without_spaces (b ∷ bs)
stays_at true b bs e h =
    let space : b ≡ 32 = grind (arith, nat_tests, e) in
    absurd (h bs (ap (λ c. c ∷ bs) space))
stays_at false b bs e h = rw e refl

pub spaces_cut : (bs : List ℕ) → ((rest : List ℕ) → bs ≢ 32 ∷ rest) → bs ≡ without_spaces bs
spaces_cut [] h = refl
spaces_cut (b ∷ bs) h = stays_at (b == 32) b bs refl h

-- a space
abbrev is_space : ℕ → Bool
is_space b = b == 32

-- a part that is a word
abbrev is_word : List ℕ → Bool
is_word w = nat_lt 0 (length w)

-- what the spaces part, by where the first one cuts
abbrev pub parts_behind : List ℕ → Option (List ℕ × List ℕ) → List (List ℕ)
parts_behind bs None = bs ∷ []
parts_behind bs (Some p) = p.0 ∷ slice_split is_space p.1

-- one byte more before the first part
more_parts : (b : ℕ) (bs : List ℕ) (o : Option (List ℕ × List ℕ)) → onto_first b (parts_behind bs o) ≡ parts_behind (b ∷ bs) (option_map (onto b) o)
more_parts b bs None = refl
more_parts b bs (Some p) = refl

-- one byte more, be it a space or not
parts_at : (t : Bool) (b : ℕ) (bs : List ℕ) → is_space b ≡ t → slice_split is_space bs ≡ parts_behind bs (cut_at 32 bs)
    → slice_split is_space (b ∷ bs) ≡ parts_behind (b ∷ bs) (cond t (Some (without bs)) (option_map (onto b) (cut_at 32 bs)))
parts_at true b bs e later = slice_split-cons_yes is_space b bs e
parts_at false b bs e later = slice_split-cons_no is_space b bs e ∙ ap (onto_first b) later ∙ more_parts b bs (cut_at 32 bs)

-- the spaces part what the first one cuts
pub parts_cut : (bs : List ℕ) → slice_split is_space bs ≡ parts_behind bs (cut_at 32 bs)
parts_cut [] = refl
parts_cut (b ∷ bs) = parts_at (is_space b) b bs refl (parts_cut bs) ∙ ap (parts_behind (b ∷ bs)) refl

-- a part with a byte is a word
begun : (b : ℕ) (bs : List ℕ) → is_word (b ∷ bs) ≡ true
begun b bs = grind (arith, nat_tests)

-- a word stays
taken : (w : List ℕ) (ws : List (List ℕ)) → is_word w ≡ true → filter is_word (w ∷ ws) ≡ w ∷ filter is_word ws
taken w ws e = ap (λ t. cond t (w ∷ filter is_word ws) (filter is_word ws)) e

-- the words of bytes that no space begins, by where the first one cuts
first_at : (b : ℕ) (bs : List ℕ) (o : Option (List ℕ × List ℕ)) (xs ys : List ℕ) → option_map (onto b) o ≡ Some (xs, ys)
    → filter is_word (parts_behind (b ∷ bs) (option_map (onto b) o)) ≡ xs ∷ words_of ys
first_at b bs None xs ys e = absurd (let k : None ≡ Some (xs, ys) = e in cc)
first_at b bs (Some p) xs ys e =
    let k : Some (onto b p) ≡ Some (xs, ys) = e in
    let same : onto b p ≡ (xs, ys) = cc in
    taken (b ∷ p.0) (slice_split is_space p.1) (begun b p.0) ∙ ap (λ q. q.0 ∷ words_of q.1) same

-- a space before the words changes none
words_space : (b : ℕ) (bs : List ℕ) → is_space b ≡ true → words_of (b ∷ bs) ≡ words_of bs
words_space b bs e = ap (filter is_word) (slice_split-cons_yes is_space b bs e)

-- the first word, and those behind it
first_by : (t : Bool) (b : ℕ) (bs xs ys : List ℕ) → is_space b ≡ t → (cut_at 32 (without_spaces bs) ≡ Some (xs, ys) → words_of bs ≡ xs ∷ words_of ys)
    → cut_at 32 (cond t (without_spaces bs) (b ∷ bs)) ≡ Some (xs, ys) → words_of (b ∷ bs) ≡ xs ∷ words_of ys
first_by true b bs xs ys e later is = words_space b bs e ∙ later is
first_by false b bs xs ys e later is =
    let cut : cut_at 32 (b ∷ bs) ≡ option_map (onto b) (cut_at 32 bs) = ap (λ t. cond t (Some (without bs)) (option_map (onto b) (cut_at 32 bs))) e in
    ap (filter is_word) (parts_cut (b ∷ bs) ∙ ap (parts_behind (b ∷ bs)) cut) ∙ first_at b bs (cut_at 32 bs) xs ys (sym cut ∙ is)

pub first_word : (bs xs ys : List ℕ) → cut_at 32 (without_spaces bs) ≡ Some (xs, ys) → words_of bs ≡ xs ∷ words_of ys
first_word [] xs ys e = absurd (let k : None ≡ Some (xs, ys) = e in cc)
first_word (b ∷ bs) xs ys e = first_by (is_space b) b bs xs ys refl (first_word bs xs ys) e

-- the last word, where there is one
last_by : (t : Bool) (b : ℕ) (bs : List ℕ) → is_space b ≡ t → (cut_at 32 (without_spaces bs) ≡ None → words_of bs ≡ filter is_word (without_spaces bs ∷ []))
    → cut_at 32 (cond t (without_spaces bs) (b ∷ bs)) ≡ None → words_of (b ∷ bs) ≡ filter is_word (cond t (without_spaces bs) (b ∷ bs) ∷ [])
last_by true b bs e later is = words_space b bs e ∙ later is
last_by false b bs e later is = ap (filter is_word) (parts_cut (b ∷ bs) ∙ ap (parts_behind (b ∷ bs)) is)

pub last_word : (bs : List ℕ) → cut_at 32 (without_spaces bs) ≡ None → words_of bs ≡ filter is_word (without_spaces bs ∷ [])
last_word [] e = refl
last_word (b ∷ bs) e = last_by (is_space b) b bs refl (last_word bs) e

-- a part that isn't empty is a word
pub one_word : (w : List ℕ) → w ≢ [] → filter is_word (w ∷ []) ≡ w ∷ []
one_word [] h = absurd (h refl)
one_word (b ∷ bs) h = taken (b ∷ bs) [] (begun b bs)

-- there are at most as many words as spaces and one
pub few_words : (bs : List ℕ) (n : ℕ) → n ≡ length (filter is_space bs) → length (words_of bs) ≤ n + 1
few_words bs n e =
    let parts = length-slice_split is_space bs in
    let spaces = length-filter is_space bs in
    let both = length-filter_both is_word (λ w. not (is_word w)) (λ w. refl) (slice_split is_space bs) in
    omega (e, parts, spaces, both, arith)
