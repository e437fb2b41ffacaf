-- What a call over files answers beside what its definition says.
use Rattle.std.specs.Prelude.{◌≡◌, Result, Ok, Err, MatchResult}
use Rattle.scene_json_forms.specs.declared.fault.FileFault.{FileFault}
use Rattle.scene_json_forms.specs.declared.fault.FileFault.TheVariants.{NoMemory, ReadFault, WriteFault, TooLong}

-- the fault is the one that is wanted, or memory ran out, which may stand in place of any answer
abbrev pub IsFault : {A : Type 0} → FileFault → Result A FileFault → Type 0
IsFault NoMemory expected = Unit {0}
IsFault fault expected = expected ≡ Err fault

-- the same where a text is read that is there: no stream has a fault, and no limit is met
abbrev pub IsTextFault : {A : Type 0} → FileFault → Result A FileFault → Type 0
IsTextFault ReadFault expected = ⊥
IsTextFault WriteFault expected = ⊥
IsTextFault TooLong expected = ⊥
IsTextFault fault expected = IsFault fault expected

-- a walk answers what it reads of a text, by how an item is seen, or its first fault, or that memory ran out
abbrev pub ReadsAs : {X A : Type 0} → (X → A) → Result X FileFault → Result A FileFault → Type 0
ReadsAs seen result expected = MatchResult result (λ item. expected ≡ Ok (seen item)) (λ fault. IsTextFault fault expected)

-- the same of an item that is seen as it is
abbrev pub Reads : {A : Type 0} → Result A FileFault → Result A FileFault → Type 0
Reads result expected = ReadsAs (λ item. item) result expected

-- the fault is the one that is meant, or memory ran out
abbrev pub Means : FileFault → FileFault → Type 0
Means NoMemory meant = Unit {0}
Means ReadFault meant = ⊥
Means WriteFault meant = ⊥
Means TooLong meant = ⊥
Means fault meant = meant ≡ fault
