-- A closure over three values that several threads may see.
use mathlib.Core.List.{List, [], ◌∷◌}
use mir.Syntax.{Sym}
use denote.RattleType.{RattleType}
use denote.Struct.Declared.{shape}
use denote.Struct.Tuple.{TupleAt, type_at, field_at}
use denote.Param.Send.{IsSync, struct_sync, recorded_sync}

module _ (ν : Sym) (A B C : RattleType) where
  abbrev captures : List RattleType
  captures = A ∷ B ∷ C ∷ []

  pub closure_sync : IsSync A → IsSync B → IsSync C → IsSync (TupleAt ν captures)
  closure_sync a b c = recorded_sync (field_at ν captures).row _ _ (type_at ν captures).to_one (struct_sync (shape (type_at ν captures)) (a, (b, (c, tt))))
