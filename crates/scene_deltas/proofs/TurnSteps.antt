-- The deltas of a turn, one after another.
use Rattle.std.proofs.Common.{◌≡◌, ◌≤◌, ◌+◌, ℕ, List, [], ◌∷◌, ◌++◌, length, take, drop, ap, sym, subst, ◌∙◌, arith, Some, option_map, is_some, IsSome}
use Rattle.std.specs.Prelude.{slice_get}
use Rattle.std.proofs.lemmas.List.{drop_more, length-map, take_more}
use Rattle.std.proofs.lemmas.Option.{get_or_from_slice_get, slice_get_within, slice_get-map}
use Rattle.scene_kinds.specs.declared.cell.Cell.{Cell}
use Rattle.scene_kinds.specs.declared.entity.Entity.{Entity}
use Rattle.scene_kinds.specs.Cells.{cell_of}
use Rattle.scene_table.specs.Runs.{TurnState, cells_of_turn}
use Rattle.scene_model.specs.World.{World}
use Rattle.scene_model.specs.Raw.{cells_of}
use Rattle.scene_model.proofs.CanParts.{set_cell}
use Rattle.scene_deltas.specs.declared.delta.Delta.{Delta}
use Rattle.scene_deltas.specs.declared.delta.Delta.TheVariants.{CellSet}
use Rattle.scene_deltas.specs.Deltas.{back, back_all, fwd, fwd_all, AllFitBack, AllFitOn, FitsBack, FitsOn}
use Rattle.scene_deltas.specs.Segments.{turn_deltas}
use Rattle.scene_deltas.proofs.Lists.{undo_parts}
use Rattle.scene_deltas.proofs.Ready.{back_pushed}

pub turn_long : (t : TurnState) → length (turn_deltas t) ≡ length (cells_of_turn t)
turn_long t = length-map (cells_of_turn t) (λ (c : Entity × ℕ × Cell × Cell). CellSet c.0 c.1 c.2 c.3)

-- the delta of a cell of a turn
pub cell_delta : (t : TurnState) (n : ℕ) (e : Entity) (kind : ℕ) (before after : Cell) → slice_get (cells_of_turn t) n ≡ Some (e, kind, before, after)
    → slice_get (turn_deltas t) n ≡ Some (CellSet e kind before after)
cell_delta t n e kind before after there =
    slice_get-map (λ (c : Entity × ℕ × Cell × Cell). CellSet c.0 c.1 c.2 c.3) (cells_of_turn t) n
    ∙ ap (option_map (λ (c : Entity × ℕ × Cell × Cell). CellSet c.0 c.1 c.2 c.3)) there

-- where a cell fits on or back, it is there
module _ (w : World) (e : Entity) (kind : ℕ) (before after : Cell) where
  pub there_on : FitsOn (CellSet e kind before after) w → IsSome (cell_of (cells_of w e) kind)
  there_on fits = ap is_some ((set_cell w e kind before after).0 fits).now

  pub there_back : FitsBack (CellSet e kind before after) w → IsSome (cell_of (cells_of w e) kind)
  there_back fits = ap is_some ((set_cell w e kind after before).0 fits).now

-- deltas up to one of a number, which goes back
module _ (ds : List Delta) (n m : ℕ) (d : Delta) (w : World) (next : m ≡ n + 1) (there : slice_get ds n ≡ Some d) where
  shorter : take m ds ≡ take n ds ++ d ∷ []
  shorter =
      ap (λ k. take k ds) next ∙ take_more ds n d (slice_get_within ds n d there)
      ∙ ap (λ x. take n ds ++ x ∷ []) (get_or_from_slice_get ds n d d there)

  pub last_fits : AllFitBack (take m ds) w → FitsBack d w × AllFitBack (take n ds) (back d w)
  last_fits fit =
      let parts = undo_parts FitsBack back (take n ds) (d ∷ []) w (subst (λ es. AllFitBack es w) shorter fit) in
      (parts.0.1, parts.1)

  pub last_back : back_all (take m ds) w ≡ back_all (take n ds) (back d w)
  last_back = ap (λ es. back_all es w) shorter ∙ back_pushed (take n ds) d w

-- what a loop keeps that takes deltas back
pub record IsBackTo (ds : List Delta) (n : ℕ) (w start : World) : Type 0 where
  pub low : n ≤ length ds
  pub fit : AllFitBack (take n ds) w
  pub rest : back_all (take n ds) w ≡ back_all ds start

pub one_back : (ds : List Delta) (n m : ℕ) (d : Delta) (w u start : World) → m ≡ n + 1 → slice_get ds n ≡ Some d → IsBackTo ds m w start → u ≡ back d w → IsBackTo ds n u start
one_back ds n m d w u start next there kept is = record {
  low = omega (arith, next, kept.low);
  fit = subst (AllFitBack (take n ds)) (sym is) (last_fits ds n m d w next there kept.fit).1;
  rest = ap (back_all (take n ds)) is ∙ sym (last_back ds n m d w next there) ∙ kept.rest;
}

-- deltas from one of a number on, which is made again
module _ (ds : List Delta) (n : ℕ) (d : Delta) (w : World) (there : slice_get ds n ≡ Some d) where
  longer : drop n ds ≡ d ∷ drop (n + 1) ds
  longer =
      drop_more ds n d (slice_get_within ds n d there)
      ∙ ap (λ x. x ∷ drop (n + 1) ds) (get_or_from_slice_get ds n d d there)

  pub first_fits : AllFitOn (drop n ds) w → FitsOn d w × AllFitOn (drop (n + 1) ds) (fwd d w)
  first_fits fit = subst (λ es. AllFitOn es w) longer fit

  pub first_made : fwd_all (drop n ds) w ≡ fwd_all (drop (n + 1) ds) (fwd d w)
  first_made = ap (λ es. fwd_all es w) longer
