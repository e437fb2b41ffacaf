-- What row steps write to a table, as inserts one after another.
use Rattle.std.specs.Prelude.{◌≡◌, ⊤, pos, true, List, [], ◌∷◌, map, All, Option, Some, None, IsSome, Ok, pos}
use Rattle.std.specs.List.{flat_map}
use Rattle.scene_kinds.specs.declared.entity.Entity.{Entity}
use Rattle.scene_kinds.specs.declared.cells.Row.{Row}
use Rattle.scene_kinds.specs.Answers.{Outcome}
use Rattle.scene_kinds.specs.KindSet.{KindSet}
use Rattle.scene_kinds.specs.Schema.{Kinds, fits_kind}
use Rattle.scene_kinds.specs.Cells.{cell_of}
use Rattle.scene_kinds.specs.declared.value.Value.TheVariants.{Int, Vec3}
use Rattle.scene_table.specs.declared.row_step.RowStep.{RowStep}
use Rattle.scene_table.specs.declared.row_step.RowStep.TheVariants.{AddVec, AddInt}
use Rattle.scene_table.specs.Steps.{Values}
use Rattle.scene_table.specs.Runs.{written_values}
use Rattle.scene_table.specs.Tables.{rows_at}
use Rattle.scene_model.specs.World.{World}
use Rattle.scene_model.specs.Commands.{and_then}
use Rattle.scene_model.specs.Perform.{Act, Command, Insert}

-- commands one after another, up to the first that is refused
abbrev pub acted : {S : Type 0} → Act S → List Command → S → Outcome ⊤ S
acted act [] s = Ok (tt, s)
acted act (c ∷ cs) s = and_then (act s c) (λ e t. acted act cs t)

-- the inserts of values
abbrev pub inserts_of : Entity → Option Values → List Command
inserts_of e None = []
inserts_of e (Some values) = map (λ v. Insert e v.0 v.1) values

-- those of what steps make of the rows of the table of a kind set, by row, and in a row by kind
abbrev pub inserts : World → KindSet → List RowStep → List Command
inserts w mask steps = flat_map (λ row. inserts_of row.entity (written_values steps row)) (rows_at w.tables mask)

-- all sums of the steps fit in each row
abbrev pub FitAll : List RowStep → List Row → Type 0
FitAll steps rows = All (λ row. IsSome (written_values steps row)) rows

-- a row has the kinds that a step names, which have its shape in the schema
abbrev pub HasKindsOfStep : Kinds → RowStep → Row → Type 0
HasKindsOfStep schema (AddInt to by) row = IsSome (cell_of row.cells to) × (fits_kind schema (Int by) to ≡ true)
HasKindsOfStep schema (AddVec to by) row =
    (IsSome (cell_of row.cells to) × IsSome (cell_of row.cells by))
    × (fits_kind schema (Vec3 (pos 0 ∷ pos 0 ∷ pos 0 ∷ [])) to ≡ true) × (fits_kind schema (Vec3 (pos 0 ∷ pos 0 ∷ pos 0 ∷ [])) by ≡ true)

-- and those of all steps
abbrev pub HasKindsOf : Kinds → List RowStep → Row → Type 0
HasKindsOf schema steps row = All (λ step. HasKindsOfStep schema step row) steps
