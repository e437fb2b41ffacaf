-- What turns of a reader give.
use Rattle.std.proofs.Common.{◌≡◌, ℕ, ◌<◌, ◌≤◌, ◌⊎◌, List, ◌++◌, length, take, Option, Result, Ok, Err, IfOk, IfErr, sym, ap, subst, inl, inr, arith}
use Rattle.std.proofs.KnownBytes.{Consumes-kept, Consumes-trans}
use Rattle.std.proofs.lemmas.Bool.{cases_eq, cases_lt}
use Rattle.std.specs.Io.{ReadsAtMost}
use Rattle.std.specs.Io.KnownBytes.{Consumes, ReadConsumes}
use Rattle.scene_streams.specs.declared.source.ReadError.{ReadError}
use Rattle.scene_streams.specs.declared.source.ReadError.TheVariants.{Fault, TooLong, NoMemory}
use Rattle.scene_streams.specs.declared.source.Turn.{Turn}
use Rattle.scene_streams.specs.declared.source.Turn.TheVariants.{End, Bytes, Again}
use Rattle.scene_streams.specs.Known.{ConsumesSome}
use Rattle.scene_streams.specs.Turns.{TurnGives}

-- an answer of the reader, and the turn that it makes
pub turn_gives : {E : Type 0} (Interrupted Failed : E → Type 0) (old new : Option (List ℕ)) (chunk : List ℕ) (room : ℕ) (answer : Result ℕ E) (turn : Result Turn ReadError)
    → 0 < length chunk → ReadsAtMost answer chunk → ReadConsumes old new answer chunk
    → (answer ≡ Ok 0 → turn ≡ Ok End)
    → IfOk answer (λ n. 0 < n → n ≤ room → turn ≡ Ok (Bytes n))
    → IfOk answer (λ n. room < n → turn ≡ Err TooLong)
    → IfErr answer (λ e. (Interrupted e × (turn ≡ Ok Again)) ⊎ (Failed e × (turn ≡ Err Fault)))
    → TurnGives old new chunk room turn
turn_gives Interrupted Failed old new chunk room (Ok n) turn place bound given end some long failed =
    elim (cases_lt room n) [
      | inl over ↦ subst (TurnGives old new chunk room) (sym (long over)) (n, over, bound.0, given.0)
      | inr within ↦ elim (cases_eq n 0) [
        | inl none ↦ subst (TurnGives old new chunk room) (sym (end (ap Ok none))) (subst (λ m. Consumes old new (take m chunk)) none given.0, given.1 none place)
        | inr more ↦ subst (TurnGives old new chunk room) (sym (some (grind (arith, more)) within)) (within, bound.0, given.0)
      ]
    ]
turn_gives Interrupted Failed old new chunk room (Err e) turn place bound given end some long failed =
    elim failed [
      | inl again ↦ subst (TurnGives old new chunk room) (sym again.1) given
      | inr fault ↦ subst (TurnGives old new chunk room) (sym fault.1) given
    ]

-- what was given so far, and then a turn that ends in an error
pub some_given : (a b c : Option (List ℕ)) (given chunk : List ℕ) (room : ℕ) (e : ReadError) → Consumes a b given → TurnGives b c chunk room (Err e) → ConsumesSome a c
some_given a b c given chunk room Fault p q = (given, Consumes-kept a b c given p q)
some_given a b c given chunk room TooLong p q = (given ++ take q.0 chunk, Consumes-trans a b c given (take q.0 chunk) p q.3)
some_given a b c given chunk room NoMemory p q = absurd q

-- what was given so far, and then the bytes of a turn
pub more_given : (a b c : Option (List ℕ)) (given chunk : List ℕ) (room : ℕ) (turn : Turn) {n : ℕ} → Consumes a b given → TurnGives b c chunk room (Ok turn) → turn ≡ Bytes n → ConsumesSome a c
more_given a b c given chunk room turn {n} p q is =
    let bytes = subst (λ t. TurnGives b c chunk room (Ok t)) is q in
    (given ++ take n chunk, Consumes-trans a b c given (take n chunk) p bytes.2)
