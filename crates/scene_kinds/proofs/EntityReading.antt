-- A number of 32 bits, an entity, and the one text of each.
use Rattle.std.proofs.Common.{◌≡◌, ◌≢◌, ℕ, suc, ◌<◌, ◌^◌, Bool, true, false, cond, List, [], ◌∷◌, ◌++◌, length, get_or, refl, ap, sym, subst, ◌∙◌, arith, Option, Some, None, nat_lt, option_map}
use Rattle.std.specs.Prelude.{IfSome, decimal, ◌==◌, ◌&&◌}
use Rattle.std.specs.Option.{option_and_then}
use Rattle.std.specs.Str.{bytes_eq}
use Rattle.std.specs.Str.Parse.{digits_value}
use Rattle.std.proofs.lemmas.Bool.Decides.{nat_tests}
use Rattle.std.proofs.lemmas.Slice.Eq.{bytes_eq-Decides}
use Rattle.std.proofs.lemmas.Fmt.{digits_value-decimal}
use Rattle.scene_kinds.specs.declared.entity.Entity.{Entity}
use Rattle.scene_kinds.specs.Entity.{SaysEntity, entity_text}
use Rattle.scene_kinds.specs.EntityReading.{cut_at, if_count, count_in, entity_of, entity_in}
use Rattle.scene_kinds.proofs.Numbers.{own, no_v}

-- what holds only where a test passes tells that it passed
there : {X : Type 0} (b : Bool) (x y : X) → cond b (Some x) None ≡ Some y → (b ≡ true) × (x ≡ y)
there true x y e = (refl, cc e)
there false x y e = absurd (cc e)

-- a test of two parts passes where both pass
pub both : (a b : Bool) → (a && b) ≡ true → (a ≡ true) × (b ≡ true)
both true b e = (refl, e)
both false b e = absurd (cc e)

-- bytes that print a number are that number
if_count-yes : (bytes : List ℕ) (n : ℕ) → bytes ≡ decimal n → n < 2 ^ 32 → if_count bytes n ≡ Some n
if_count-yes bytes n e small =
    let same : bytes_eq bytes (decimal n) ≡ true = (bytes_eq-Decides bytes (decimal n)).1 e in
    let fits : nat_lt n (2 ^ 32) ≡ true = grind (arith, nat_tests) in
    rw (same, fits) refl

-- what is found is the number that prints so
if_count-was : (bytes : List ℕ) (m n : ℕ) → if_count bytes m ≡ Some n → (bytes ≡ decimal n) × (n < 2 ^ 32)
if_count-was bytes m n e =
    let t = there (bytes_eq bytes (decimal m) && nat_lt m (2 ^ 32)) m n e in
    let p = both (bytes_eq bytes (decimal m)) (nat_lt m (2 ^ 32)) t.0 in
    let same : bytes ≡ decimal m = (bytes_eq-Decides bytes (decimal m)).0 p.0 in
    let fits : m < 2 ^ 32 = grind (arith, nat_tests, p.1) in
    subst (λ (k : ℕ). (bytes ≡ decimal k) × (k < 2 ^ 32)) t.1 (same, fits)

-- the text of a number is that number
pub count_in-text : (bytes : List ℕ) (n : ℕ) → n < 2 ^ 32 → bytes ≡ decimal n → count_in bytes ≡ Some n
count_in-text bytes n small e =
    let value : digits_value 10 bytes ≡ n = ap (digits_value 10) e ∙ digits_value-decimal own n (omega arith) in
    ap (if_count bytes) value ∙ if_count-yes bytes n e small

-- bytes that are a number are its text
pub count_in-was : (bytes : List ℕ) (n : ℕ) → count_in bytes ≡ Some n → (bytes ≡ decimal n) × (n < 2 ^ 32)
count_in-was bytes n e = if_count-was bytes (digits_value 10 bytes) n e

-- what has just the texts of numbers is `count_in`
pub count_is : (bytes : List ℕ) (r : Option ℕ) → IfSome r (λ n. n < 2 ^ 32) → IfSome r (λ n. bytes ≡ decimal n)
    → ((n : ℕ) → n < 2 ^ 32 → bytes ≡ decimal n → r ≡ Some n) → r ≡ count_in bytes
count_is bytes (Some n) small found only = sym (count_in-text bytes n small found)
count_is bytes None small found only =
    elim (count_in bytes) as (λ o. count_in bytes ≡ o → None ≡ o) [
      | None ↦ λ e. refl
      | Some n ↦ λ e. let was = count_in-was bytes n e in absurd (let k : None ≡ Some n = only n was.1 was.0 in cc)
    ] refl

-- another byte fails the test
other : (b mark : ℕ) → b ≢ mark → (b == mark) ≡ false
other b mark h = grind (arith, nat_tests)

-- bytes without the mark aren't cut
pub cut_at-none : (mark : ℕ) (bs : List ℕ) → ((i : ℕ) → i < length bs → get_or bs i 0 ≢ mark) → cut_at mark bs ≡ None
cut_at-none mark [] h = refl
cut_at-none mark (b ∷ bs) h =
    rw (other b mark (h 0 (omega arith)), cut_at-none mark bs (λ i small. h (suc i) (omega arith))) refl

-- bytes are cut at the first mark
pub cut_at-parts : (mark : ℕ) (xs ys : List ℕ) → ((i : ℕ) → i < length xs → get_or xs i 0 ≢ mark) → cut_at mark (xs ++ mark ∷ ys) ≡ Some (xs, ys)
cut_at-parts mark [] ys h = let e : (mark == mark) ≡ true = grind (arith, nat_tests) in rw e refl
cut_at-parts mark (x ∷ xs) ys h =
    rw (other x mark (h 0 (omega arith)), cut_at-parts mark xs ys (λ i small. h (suc i) (omega arith))) refl

-- a byte before the first part
abbrev pub onto : ℕ → List ℕ × List ℕ → List ℕ × List ℕ
onto b p = (b ∷ p.0, p.1)

-- nothing before the mark
abbrev pub without : List ℕ → List ℕ × List ℕ
without bs = ([], bs)

-- one byte more before the first part
joins_cons : (mark b : ℕ) (bs xs ys : List ℕ) (o : Option (List ℕ × List ℕ)) → ((us vs : List ℕ) → o ≡ Some (us, vs) → bs ≡ us ++ mark ∷ vs)
    → option_map (onto b) o ≡ Some (xs, ys) → b ∷ bs ≡ xs ++ mark ∷ ys
joins_cons mark b bs xs ys None later e = absurd (let k : None ≡ Some (xs, ys) = e in cc)
joins_cons mark b bs xs ys (Some p) later e =
    let k : Some (onto b p) ≡ Some (xs, ys) = e in
    let same : onto b p ≡ (xs, ys) = cc in
    ap (λ l. b ∷ l) (later p.0 p.1 refl) ∙ ap (λ q. q.0 ++ mark ∷ q.1) same

-- one byte more, be it the mark or not
joins_at : (t : Bool) (mark b : ℕ) (bs xs ys : List ℕ) → (t ≡ true → b ≡ mark) → ((us vs : List ℕ) → cut_at mark bs ≡ Some (us, vs) → bs ≡ us ++ mark ∷ vs)
    → cond t (Some (without bs)) (option_map (onto b) (cut_at mark bs)) ≡ Some (xs, ys) → b ∷ bs ≡ xs ++ mark ∷ ys
joins_at true mark b bs xs ys is later e =
    let k : Some (without bs) ≡ Some (xs, ys) = e in
    let same : without bs ≡ (xs, ys) = cc in
    ap (λ c. c ∷ bs) (is refl) ∙ ap (λ q. q.0 ++ mark ∷ q.1) same
joins_at false mark b bs xs ys is later e = joins_cons mark b bs xs ys (cut_at mark bs) later e

-- the parts with the mark between them are the bytes
pub cut_at-joins : (mark : ℕ) (bs xs ys : List ℕ) → cut_at mark bs ≡ Some (xs, ys) → bs ≡ xs ++ mark ∷ ys
cut_at-joins mark [] xs ys e = absurd (let k : None ≡ Some (xs, ys) = e in cc)
cut_at-joins mark (b ∷ bs) xs ys e = joins_at (b == mark) mark b bs xs ys (λ t. grind (arith, nat_tests)) (cut_at-joins mark bs) e

-- the text of an entity is that entity
pub entity_in-text : (bytes : List ℕ) (i g : ℕ) → i < 2 ^ 32 → g < 2 ^ 32 → bytes ≡ entity_text i g → entity_in bytes ≡ Some (record { index = i; generation = g })
entity_in-text bytes i g hi hg e =
    let cut : cut_at 118 bytes ≡ Some (decimal i, decimal g) = ap (cut_at 118) e ∙ cut_at-parts 118 (decimal i) (decimal g) (no_v i (omega arith)) in
    rw (cut, count_in-text (decimal i) i hi refl, count_in-text (decimal g) g hg refl) refl

-- an entity has the index and the generation that were there
entity_of-was : (i g : Option ℕ) (e : Entity) → entity_of i g ≡ Some e → (i ≡ Some e.index) × (g ≡ Some e.generation)
entity_of-was None g e h = absurd (let k : None ≡ Some e = h in cc)
entity_of-was (Some i) None e h = absurd (let k : None ≡ Some e = h in cc)
entity_of-was (Some i) (Some g) e h =
    let k : Some (record { index = i; generation = g }) ≡ Some e = h in
    let same : record { index = i; generation = g } ≡ e = cc in
    (ap (λ (x : Entity). Some x.index) same, ap (λ (x : Entity). Some x.generation) same)

-- what stands round the first v is an index and a generation
entity_of_parts : (bytes : List ℕ) (o : Option (List ℕ × List ℕ)) (e : Entity) → cut_at 118 bytes ≡ o → option_and_then (λ p. entity_of (count_in p.0) (count_in p.1)) o ≡ Some e
    → (e.index < 2 ^ 32) × (e.generation < 2 ^ 32) × (bytes ≡ entity_text e.index e.generation)
entity_of_parts bytes None e h k = absurd (let l : None ≡ Some e = k in cc)
entity_of_parts bytes (Some p) e h k =
    let both_there = entity_of-was (count_in p.0) (count_in p.1) e k in
    let front = count_in-was p.0 e.index both_there.0 in
    let back = count_in-was p.1 e.generation both_there.1 in
    (front.1, back.1, cut_at-joins 118 bytes p.0 p.1 h ∙ (ap (λ xs. xs ++ (118 ∷ p.1)) front.0 ∙ ap (λ ys. decimal e.index ++ (118 ∷ ys)) back.0))

-- bytes that are an entity are its text
pub entity_in-was : (bytes : List ℕ) (e : Entity) → entity_in bytes ≡ Some e → (e.index < 2 ^ 32) × (e.generation < 2 ^ 32) × (bytes ≡ entity_text e.index e.generation)
entity_in-was bytes e h = entity_of_parts bytes (cut_at 118 bytes) e refl h

-- what `entity_in` gives says the entity, and nothing else does
pub says_entity : (bytes : List ℕ) (r : Option Entity) → r ≡ entity_in bytes → SaysEntity bytes r
says_entity bytes None e = record { found = tt; only = λ i g hi hg text. e ∙ entity_in-text bytes i g hi hg text }
says_entity bytes (Some entity) e =
    let was = entity_in-was bytes entity (sym e) in
    record { found = was.2; only = λ i g hi hg text. e ∙ entity_in-text bytes i g hi hg text }
