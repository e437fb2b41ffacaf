-- What a further kind leaves: what fits its kind still does, a valid world is still valid, and it takes no room.
use Rattle.std.proofs.Common.{◌≡◌, ℕ, Bool, true, false, List, [], ◌∷◌, ◌++◌, length, refl, ap, sym, subst, ◌∙◌, Some, None, Ok, option_map, if◌then◌else◌}
use Rattle.std.specs.Prelude.{Result, Err, slice_get, is_some, not, nat_lt}
use Rattle.std.specs.List.{list_all}
use Rattle.std.proofs.lemmas.Bool.{and_parts, and_from}
use Rattle.scene_kinds.specs.declared.cell.Cell.{Cell}
use Rattle.scene_kinds.specs.declared.fault.Fault.TheVariants.{BadName, KindTaken, KindsFull}
use Rattle.scene_kinds.specs.declared.refusal.Refusal.{Refusal}
use Rattle.scene_kinds.specs.declared.shape.Shape.{Shape}
use Rattle.scene_kinds.specs.declared.value.Value.{Value}
use Rattle.scene_kinds.specs.Answers.{Answers, Outcome, refuse}
use Rattle.scene_kinds.specs.Schema.{Kinds, IsSchema, fits_kind, has_shape, is_good_name, number_of, with_kind}
use Rattle.scene_kinds.proofs.Elements.{pushed_stays}
use Rattle.scene_model.specs.World.{World}
use Rattle.scene_model.specs.Valid.{IsValid}
use Rattle.scene_model.proofs.Outcomes.{not_ok, same_world}
use Rattle.scene_world.specs.FurtherKind.{declare, with_kind_in, with_schema_of}
use Rattle.scene_world.specs.Room.{Room, Holds}

-- all elements pass a test that asks for less
pub all_still : {X : Type 0} (p q : X → Bool) → ((x : X) → p x ≡ true → q x ≡ true) → (xs : List X) → list_all p xs ≡ true → list_all q xs ≡ true
all_still p q still [] h = refl
all_still p q still (x ∷ xs) h =
    let parts = and_parts (p x) (list_all p xs) h in
    and_from (q x) (list_all q xs) (still x parts.0) (all_still p q still xs parts.1)

-- a value that fits its kind still does
pub fits_still : (kinds : Kinds) (more : List ℕ × Shape) (value : Value) (kind : ℕ) → fits_kind kinds value kind ≡ true → fits_kind (kinds ++ more ∷ []) value kind ≡ true
fits_still kinds more value kind fits =
    elim (slice_get kinds kind) as (λ o. slice_get kinds kind ≡ o → has_shape value (option_map (λ (k : List ℕ × Shape). k.1) o) ≡ true → fits_kind (kinds ++ more ∷ []) value kind ≡ true) [
      | None ↦ λ at h. absurd (let wrong : false ≡ true = h in cc)
      | Some k ↦ λ at h. ap (λ o. has_shape value (option_map (λ (k : List ℕ × Shape). k.1) o)) (pushed_stays kinds more kind k at) ∙ h
    ] refl fits

-- the cells of a row do
pub cells_fit_still : (kinds : Kinds) (more : List ℕ × Shape) (cells : List (ℕ × Cell)) → list_all (λ (c : ℕ × Cell). fits_kind kinds c.1.value c.0) cells ≡ true
    → list_all (λ (c : ℕ × Cell). fits_kind (kinds ++ more ∷ []) c.1.value c.0) cells ≡ true
cells_fit_still kinds more cells fit = all_still _ _ (λ (c : ℕ × Cell) h. fits_still kinds more c.1.value c.0 h) cells fit

-- a valid world is still valid, where its schema is one
pub declared_valid : (w : World) (name : List ℕ) (shape : Shape) → IsSchema (w.schema ++ (name, shape) ∷ []) → IsValid w → IsValid (with_kind_in name shape w)
declared_valid w name shape schema v = record {
  schema = schema;
  slots = v.slots;
  tick = v.tick;
  rows = record {
    each = λ h r at.
        let old = v.rows.each h r at in
        record {
          current = old.current;
          busy = old.busy;
          fits = record { kinds = old.fits.kinds; shapes = cells_fit_still w.schema (name, shape) r.cells old.fits.shapes };
          timely = old.timely;
        };
    once = v.rows.once;
  };
  accounted = v.accounted;
  links = v.links;
  resources = v.resources;
}

-- it takes no room
pub declared_held : (room : Room) (w : World) (name : List ℕ) (shape : Shape) → Holds room w → Holds room (with_kind_in name shape w)
declared_held room w name shape h = record { slots = h.slots; rows = h.rows; links = h.links; names = h.names }

-- a world in which a kind was declared has it last in its schema
pub declared_is : (w v : World) (name : List ℕ) (shape : Shape) (kind : ℕ) → declare w name shape ≡ Ok (kind, v) → v ≡ with_kind_in name shape w
declared_is w v name shape kind is = by_tests (not (is_good_name name)) (is_some (number_of w.schema name)) (nat_lt (length w.schema) 64) is
  where
    added : Outcome ℕ Kinds
    added = Ok (length w.schema, w.schema ++ (name, shape) ∷ [])

    by_tests : (bad taken few : Bool)
        → with_schema_of w (if bad then refuse BadName else if taken then refuse KindTaken else if few then added else refuse KindsFull) ≡ Ok (kind, v)
        → v ≡ with_kind_in name shape w
    by_tests true taken few h = absurd (not_ok _ _ h)
    by_tests false true few h = absurd (not_ok _ _ h)
    by_tests false false true h = sym (same_world (length w.schema) kind (with_kind_in name shape w) v h).1
    by_tests false false false h = absurd (not_ok _ _ h)

-- whether it is declared or refused, the rows stay
pub declared_tables : (result : Result ℕ Refusal) (old new : World) (name : List ℕ) (shape : Shape) → Answers result old new (declare old name shape) → new.tables ≡ old.tables
declared_tables (Ok kind) old new name shape h = ap (λ (w : World). w.tables) (declared_is old new name shape kind h)
declared_tables (Err r) old new name shape h = ap (λ (w : World). w.tables) h.0

-- a valid world is still valid with the schema that a kind was added to
pub valid_after : (w : World) (new : Kinds) (name : List ℕ) (shape : Shape) (kind : ℕ) → with_kind w.schema name shape ≡ Ok (kind, new) → IsSchema new → IsValid w
    → IsValid (record w { schema = new })
valid_after w new name shape kind is schema v =
    let made = declared_is w (record w { schema = new }) name shape kind (ap (with_schema_of w) is) in
    subst IsValid (sym made) (declared_valid w name shape (subst IsSchema (ap (λ (u : World). u.schema) made) schema) v)
