-- A list of changes that are taken back is taken back, and the rows that a recursive despawn cuts are such a list.
use Rattle.std.proofs.Common.{◌≡◌, List, [], ◌∷◌, map, refl, ap, subst, sym, ◌∙◌, Ok}
use Rattle.std.specs.Prelude.{Err}
use Rattle.scene_kinds.specs.declared.entity.Entity.{Entity}
use Rattle.scene_kinds.specs.Answers.{Outcome}
use Rattle.scene_alloc.specs.Slots.{retires}
use Rattle.scene_links.specs.Forest.{link_in, post}
use Rattle.scene_model.specs.World.{World}
use Rattle.scene_model.specs.Commands.{and_then, despawn, despawn_each}
use Rattle.scene_model.specs.Valid.{IsValid}
use Rattle.scene_model.specs.Raw.{cells_of}
use Rattle.scene_model.specs.RawLaws.{TakeEachOtherBack}
use Rattle.scene_model.specs.RawLists.{CutNote, CutListsComeBack, DespawnRecursiveCuts, ListsComeBack, MayAll, MayUndoAll, after_all, before_all, CanCutNoted, cut_noted}
use Rattle.scene_model.proofs.CutBack.{cut_rows_come_back}
use Rattle.scene_model.proofs.DespawnKeeps.{despawn_keeps}
use Rattle.scene_model.proofs.Outcomes.{not_ok, same_world, with_row_of}
use Rattle.scene_model.proofs.RowCommands.{despawn_cuts}

module _ {D : Type 0} (may : D → World → Type 0) (change : D → World → World) (may_undo : D → World → Type 0) (undo : D → World → World)
    (one : (d : D) → TakeEachOtherBack (may d) (change d) (may_undo d) (undo d)) where
  -- ---- made, and taken back

  all_keep : (ds : List D) (w : World) → IsValid w → MayAll may change ds w → IsValid (after_all change ds w)
  all_keep [] w v can = v
  all_keep (d ∷ ds) w v can = all_keep ds (change d w) ((one d).0.keeps w v can.0) can.1

  all_back : (ds : List D) (w : World) → IsValid w → MayAll may change ds w → before_all undo ds (after_all change ds w) ≡ w
  all_back [] w v can = refl
  all_back (d ∷ ds) w v can = ap (undo d) (all_back ds (change d w) ((one d).0.keeps w v can.0) can.1) ∙ (one d).0.comes_back w v can.0

  all_can : (ds : List D) (w : World) → IsValid w → MayAll may change ds w → MayUndoAll may_undo undo ds (after_all change ds w)
  all_can [] w v can = tt
  all_can (d ∷ ds) w v can =
      let u = (one d).0.keeps w v can.0 in (
        all_can ds (change d w) u can.1,
        subst (may_undo d) (sym (all_back ds (change d w) u can.1)) ((one d).0.can_come_back w v can.0),
      )

  -- ---- taken back, and made again

  undo_keeps : (ds : List D) (w : World) → IsValid w → MayUndoAll may_undo undo ds w → IsValid (before_all undo ds w)
  undo_keeps [] w v can = v
  undo_keeps (d ∷ ds) w v can = (one d).1.keeps (before_all undo ds w) (undo_keeps ds w v can.0) can.1

  undo_back : (ds : List D) (w : World) → IsValid w → MayUndoAll may_undo undo ds w → after_all change ds (before_all undo ds w) ≡ w
  undo_back [] w v can = refl
  undo_back (d ∷ ds) w v can =
      ap (after_all change ds) ((one d).1.comes_back (before_all undo ds w) (undo_keeps ds w v can.0) can.1) ∙ undo_back ds w v can.0

  undo_can : (ds : List D) (w : World) → IsValid w → MayUndoAll may_undo undo ds w → MayAll may change ds (before_all undo ds w)
  undo_can [] w v can = tt
  undo_can (d ∷ ds) w v can =
      let u = undo_keeps ds w v can.0 in (
        (one d).1.can_come_back (before_all undo ds w) u can.1,
        subst (MayAll may change ds) (sym ((one d).1.comes_back (before_all undo ds w) u can.1)) (undo_can ds w v can.0),
      )

  -- where each change and its other one take each other back, so do lists of them
  pub lists_come_back : ListsComeBack may change may_undo undo
  lists_come_back ds = (
    record { keeps = all_keep ds; can_come_back = all_can ds; comes_back = all_back ds },
    record { keeps = undo_keeps ds; can_come_back = undo_can ds; comes_back = undo_back ds },
  )

-- ---- rows that are cut one after another

pub cut_lists_come_back : CutListsComeBack
cut_lists_come_back = lists_come_back _ _ _ _ (λ n. cut_rows_come_back n.entity n.place n.cells n.link n.retired)

-- the first of two calls that were accepted, and the second
both_accepted : {A B : Type 0} (o : Outcome A World) (rest : A → World → Outcome B World) (b : B) (v : World) → and_then o rest ≡ Ok (b, v)
    → (a : A) × ((u : World) × ((o ≡ Ok (a, u)) × (rest a u ≡ Ok (b, v))))
both_accepted (Ok p) rest b v h = (p.0, (p.1, (refl, h)))
both_accepted (Err r) rest b v h = absurd (not_ok (b, v) r h)

-- the rows that are cut by despawns one after another
abbrev pub Cuts : World → World → List Entity → Type 0
Cuts w v es = (notes : List CutNote) × ((map (λ (n : CutNote). n.entity) notes ≡ es) × (MayAll CanCutNoted cut_noted notes w × (v ≡ after_all cut_noted notes w)))

each_cuts : (es : List Entity) (w v : World) → IsValid w → despawn_each es w ≡ Ok (tt, v) → Cuts w v es
each_cuts [] w v valid is = ([], (refl, (tt, sym (same_world tt tt w v is).1)))
each_cuts (e ∷ es) w v valid is =
    let parts = both_accepted (despawn w e) (λ a u. despawn_each es u) tt v is in
    let u = parts.1.0 in
    let cut = despawn_cuts w u e valid parts.1.1.0 in
    let rest = each_cuts es u v (despawn_keeps w u e valid parts.1.1.0) parts.1.1.1 in
    let note : CutNote = record { entity = e; place = cut.0; cells = cells_of w e; link = link_in w.children e; retired = retires e } in (
      note ∷ rest.0,
      (
        ap (λ xs. e ∷ xs) rest.1.0,
        (
          (cut.1.0, subst (MayAll CanCutNoted cut_noted rest.0) cut.1.1 rest.1.1.0),
          rest.1.1.1 ∙ ap (after_all cut_noted rest.0) cut.1.1,
        ),
      ),
    )

pub recursive_cuts : DespawnRecursiveCuts
recursive_cuts w v e valid is = with_row_of (Cuts w v (post w.children e)) w e _ (tt, v) is (λ h r at same made. each_cuts (post w.children e) w v valid made)
