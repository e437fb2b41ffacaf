-- An accepted command is its deltas.
use Rattle.std.proofs.Common.{◌≡◌, ℕ, Bool, true, false, List, [], ◌∷◌, ◌++◌, map, refl, ap, subst, sym, ◌∙◌, Option, Some, None, Ok, if◌then◌else◌}
use Rattle.std.specs.Prelude.{Err}
use Rattle.scene_kinds.specs.declared.entity.Entity.{Entity}
use Rattle.scene_kinds.specs.declared.cell.Cell.{Cell}
use Rattle.scene_kinds.specs.declared.value.Value.{Value}
use Rattle.scene_kinds.specs.Answers.{Outcome}
use Rattle.scene_kinds.specs.Cells.{new_cell, cell_of}
use Rattle.scene_kinds.specs.Ranges.{is_in_range}
use Rattle.scene_alloc.specs.Slots.{retires, takes_new_slot}
use Rattle.scene_links.specs.Forest.{link_in, post}
use Rattle.scene_model.specs.World.{World, is_live}
use Rattle.scene_model.specs.Commands.{new_cells, spawn, despawn, despawn_recursive, despawn_recursive_if_alive, insert, remove, set_parent, remove_parent, put_resource, remove_resource}
use Rattle.scene_model.specs.CommandRaw.{Inserts}
use Rattle.scene_model.specs.Perform.{Spawn, Despawn, DespawnRecursive, DespawnRecursiveIfAlive, Insert, Remove, SetParent, RemoveParent, PutResource, RemoveResource, answering}
use Rattle.scene_model.specs.Raw.{cells_of}
use Rattle.scene_model.specs.RawLists.{CutNote, CanCutNoted, cut_noted, MayAll, after_all}
use Rattle.scene_model.specs.Valid.{IsValid}
use Rattle.scene_model.proofs.ListBack.{recursive_cuts}
use Rattle.scene_model.proofs.Outcomes.{not_ok, same_world}
use Rattle.scene_model.proofs.CanParts.{put, cut_out, shift}
use Rattle.scene_model.proofs.PartCommands.{set_parent_sets_link, remove_parent_sets_link, put_sets_resource, remove_sets_resource}
use Rattle.scene_model.proofs.RowCommands.{spawn_puts, despawn_cuts, insert_shifts_or_sets, remove_shifts}
use Rattle.scene_model.proofs.RowOf.{has_cell}
use Rattle.scene_deltas.specs.declared.delta.Delta.{Delta}
use Rattle.scene_deltas.specs.declared.delta.Delta.TheVariants.{Despawned, Shifted}
use Rattle.scene_deltas.specs.Deltas.{fwd, FitsOn}
use Rattle.scene_deltas.specs.Notes.{of_row, of_cell, spawned, despawned_each, inserted, deltas_of}
use Rattle.scene_deltas.specs.CommandLaws.{LeadTo, CommandsAreDeltas}

-- one delta that leads to a world, also where it is told in other words
pub one_leads : (d : Delta) (ds : List Delta) (w v : World) → ds ≡ d ∷ [] → FitsOn d w → v ≡ fwd d w → LeadTo ds w v
one_leads d ds w v is can made = subst (λ xs. LeadTo xs w v) (sym is) (record { fit = (can, tt); made = made })

-- what an outcome answered before its answer became another one
answered : {A B W : Type 0} (f : A → B) (o : Outcome A W) (b : B) (v : W) → answering f o ≡ Ok (b, v) → (a : A) × (o ≡ Ok (a, v))
answered f (Ok p) b v h = (p.0, λ i. Ok (p.0, (same_world (f p.0) b p.1 v h).1 i))
answered f (Err r) b v h = absurd (not_ok (b, v) r h)

-- ---- rows that come and go

pub spawn_leads : (w v : World) (given : List (ℕ × Value)) (e : Entity) → IsValid w → spawn w given ≡ Ok (e, v) → LeadTo (deltas_of w (Spawn given)) w v
spawn_leads w v given e valid is =
    let puts = spawn_puts w v given e valid is in
    one_leads _ _ w v (ap (spawned w (new_cells w.tick given)) ((put w e (new_cells w.tick given) (takes_new_slot w.slots)).0 puts.0).next) puts.0 puts.1

pub despawn_leads : (w v : World) (e : Entity) → IsValid w → despawn w e ≡ Ok (tt, v) → LeadTo (deltas_of w (Despawn e)) w v
despawn_leads w v e valid is =
    let cuts = despawn_cuts w v e valid is in
    let can = (cut_out w e cuts.0 (cells_of w e) (link_in w.children e) (retires e)).0 cuts.1.0 in
    one_leads (Despawned e cuts.0 (cells_of w e) (link_in w.children e) (retires e)) _ w v
    (ap (λ o. of_row o (λ place cells. Despawned e place cells (link_in w.children e) (retires e) ∷ [])) can.row) cuts.1.0 cuts.1.1

-- rows that are cut one after another
cuts_lead : (notes : List CutNote) (w v : World) → MayAll CanCutNoted cut_noted notes w → v ≡ after_all cut_noted notes w → LeadTo (despawned_each (map (λ (n : CutNote). n.entity) notes) w) w v
cuts_lead [] w v can is = record { fit = tt; made = is }
cuts_lead (n ∷ ns) w v can is =
    let rest = cuts_lead ns (cut_noted n w) v can.1 is in
    let one = (cut_out w n.entity n.place n.cells n.link n.retired).0 can.0 in
    let others = despawned_each (map (λ (n : CutNote). n.entity) ns) (cut_noted n w) in
    let noted : List Delta = Despawned n.entity n.place n.cells n.link n.retired ∷ others in
    let first : despawned_each (map (λ (n : CutNote). n.entity) (n ∷ ns)) w ≡ noted =
    ap (λ o. of_row o (λ place cells. Despawned n.entity place cells (link_in w.children n.entity) (retires n.entity) ∷ []) ++ others) one.row
    ∙ (λ i. Despawned n.entity n.place n.cells (one.linked i) (sym one.retires i) ∷ others) in
    subst (λ ds. LeadTo ds w v) (sym first) (record { fit = (can.0, rest.fit); made = rest.made })

pub recursive_leads : (w v : World) (e : Entity) → IsValid w → despawn_recursive w e ≡ Ok (tt, v) → LeadTo (despawned_each (post w.children e) w) w v
recursive_leads w v e valid is =
    let cuts = recursive_cuts w v e valid is in
    subst (λ es. LeadTo (despawned_each es w) w v) cuts.1.0 (cuts_lead cuts.0 w v cuts.1.1.0 cuts.1.1.1)

-- a dead entity is passed over
if_alive_leads : (w v : World) (e : Entity) → IsValid w → despawn_recursive_if_alive w e ≡ Ok (tt, v) → LeadTo (deltas_of w (DespawnRecursiveIfAlive e)) w v
if_alive_leads w v e valid is = from (is_live w e) is
  where
    from : (b : Bool) → (if b then despawn_recursive w e else Ok (tt, w)) ≡ Ok (tt, v) → LeadTo (if b then despawned_each (post w.children e) w else []) w v
    from true h = recursive_leads w v e valid h
    from false h = record { fit = tt; made = sym (same_world tt tt w v h).1 }

-- ---- rows that move, and cells

inserts_lead : (w v : World) (e : Entity) (kind : ℕ) (value : Value) (o : Option Cell) → cell_of (cells_of w e) kind ≡ o → Inserts w v e kind value o → LeadTo (deltas_of w (Insert e kind value)) w v
inserts_lead w v e kind value None absent made =
    one_leads (inserted w.tick e kind value made.0 None) _ w v
    (ap (λ o. of_row o (λ place cells. inserted w.tick e kind value place (cell_of cells kind) ∷ [])) ((shift w e made.0 kind (new_cell w.tick value) true).0 made.1.0).row
    ∙ ap (λ c. inserted w.tick e kind value made.0 c ∷ []) absent)
    made.1.0 made.1.1
inserts_lead w v e kind value (Some c) there made =
    has_cell (LeadTo (deltas_of w (Insert e kind value)) w v) w e kind c there (λ h row is here.
    one_leads (inserted w.tick e kind value h.place (Some c)) _ w v
    (ap (λ o. of_row o (λ place cells. inserted w.tick e kind value place (cell_of cells kind) ∷ [])) is
    ∙ ap (λ c. inserted w.tick e kind value h.place c ∷ []) here)
    made.0 made.1)

pub remove_leads : (w v : World) (e : Entity) (kind : ℕ) → IsValid w → remove w e kind ≡ Ok (tt, v) → LeadTo (deltas_of w (Remove e kind)) w v
remove_leads w v e kind valid is =
    let shifts = remove_shifts w v e kind valid is in
    let can = (shift w e shifts.0 kind shifts.1.0 false).0 shifts.1.1.0 in
    one_leads (Shifted e shifts.0 kind shifts.1.0 false) _ w v
    (ap (λ o. of_row o (λ place cells. of_cell (cell_of cells kind) (λ c. Shifted e place kind c false))) can.row
    ∙ ap (λ c. of_cell c (λ c. Shifted e shifts.0 kind c false)) can.moves)
    shifts.1.1.0 shifts.1.1.1

pub insert_leads : (w v : World) (e : Entity) (kind : ℕ) (value : Value) → IsValid w → insert w e kind value ≡ Ok (tt, v) → LeadTo (deltas_of w (Insert e kind value)) w v
insert_leads w v e kind value valid is = inserts_lead w v e kind value (cell_of (cells_of w e) kind) refl (insert_shifts_or_sets w v e kind value valid is)

-- ---- links and resources

pub set_parent_leads : (w v : World) (c p : Entity) → IsValid w → set_parent w c p ≡ Ok (tt, v) → LeadTo (deltas_of w (SetParent c p)) w v
set_parent_leads w v c p valid is = let sets = set_parent_sets_link w v c p valid is in one_leads _ _ w v refl sets.0 sets.1

pub remove_parent_leads : (w v : World) (c : Entity) → IsValid w → remove_parent w c ≡ Ok (tt, v) → LeadTo (deltas_of w (RemoveParent c)) w v
remove_parent_leads w v c valid is = let sets = remove_parent_sets_link w v c valid is in one_leads _ _ w v refl sets.0 sets.1

pub put_resource_leads : (w v : World) (name : List ℕ) (value : Value) → IsValid w → is_in_range value ≡ true → put_resource w name value ≡ Ok (tt, v) → LeadTo (deltas_of w (PutResource name value)) w v
put_resource_leads w v name value valid held is = let sets = put_sets_resource w v name value valid held is in one_leads _ _ w v refl sets.0 sets.1

pub remove_resource_leads : (w v : World) (name : List ℕ) → IsValid w → remove_resource w name ≡ Ok (tt, v) → LeadTo (deltas_of w (RemoveResource name)) w v
remove_resource_leads w v name valid is = let sets = remove_sets_resource w v name valid is in one_leads _ _ w v refl sets.0 sets.1

-- ---- all

pub commands_lead : CommandsAreDeltas
commands_lead w v (Spawn cells) a valid held is = let k = answered _ (spawn w cells) a v is in spawn_leads w v cells k.0 valid k.1
commands_lead w v (Despawn e) a valid held is = despawn_leads w v e valid (answered _ (despawn w e) a v is).1
commands_lead w v (DespawnRecursive e) a valid held is = recursive_leads w v e valid (answered _ (despawn_recursive w e) a v is).1
commands_lead w v (DespawnRecursiveIfAlive e) a valid held is = if_alive_leads w v e valid (answered _ (despawn_recursive_if_alive w e) a v is).1
commands_lead w v (Insert e kind value) a valid held is = insert_leads w v e kind value valid (answered _ (insert w e kind value) a v is).1
commands_lead w v (Remove e kind) a valid held is = remove_leads w v e kind valid (answered _ (remove w e kind) a v is).1
commands_lead w v (SetParent c p) a valid held is = set_parent_leads w v c p valid (answered _ (set_parent w c p) a v is).1
commands_lead w v (RemoveParent c) a valid held is = remove_parent_leads w v c valid (answered _ (remove_parent w c) a v is).1
commands_lead w v (PutResource name value) a valid held is = put_resource_leads w v name value valid held (answered _ (put_resource w name value) a v is).1
commands_lead w v (RemoveResource name) a valid held is = remove_resource_leads w v name valid (answered _ (remove_resource w name) a v is).1
