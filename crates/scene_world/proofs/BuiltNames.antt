-- Resources put in one after another, the last first.
use Rattle.std.proofs.Common.{◌≡◌, ℕ, List, [], ◌∷◌, ◌++◌, refl, ap, sym, ◌∙◌, Some}
use Rattle.std.specs.Prelude.{String, string_bytes}
use Rattle.std.specs.declared.alloc.Global.{Global}
use Rattle.scene_kinds.specs.declared.cell.Cell.{Cell}
use Rattle.scene_kinds.specs.Map as map
use Rattle.scene_resources.specs.Resources.{NamedCells, restore_of}
use Rattle.scene_validate.specs.Parts.{resources_of}
use Rattle.scene_validate.specs.Seen.{named_seen}
use Rattle.scene_world.proofs.BuiltLists.{named_push}

abbrev pub Named : Type 0
Named = List (List ℕ × Cell)

-- named cells put over others, the last first
abbrev pub onto : Named → NamedCells → NamedCells
onto [] r = r
onto (c ∷ cs) r = restore_of (onto cs r) c.0 (Some c.1)

onto_push : (cs : Named) (c : List ℕ × Cell) (r : NamedCells) → onto (cs ++ c ∷ []) r ≡ onto cs (restore_of r c.0 (Some c.1))
onto_push [] c r = refl
onto_push (x ∷ cs) c r = ap (λ (m : NamedCells). restore_of m x.0 (Some x.1)) (onto_push cs c r)

pub onto_empty : (cs : Named) → onto cs map.empty ≡ resources_of cs
onto_empty [] = refl
onto_empty (c ∷ cs) = ap (λ (m : NamedCells). restore_of m c.0 (Some c.1)) (onto_empty cs)

-- one more is put in
pub onto_next : (old new : List (String Global × Cell)) (name : String Global) (text : List ℕ) (cell : Cell) (r s : NamedCells) → old ≡ new ++ (name, cell) ∷ [] → text ≡ string_bytes name → s ≡ restore_of r text (Some cell)
    → onto (named_seen new) s ≡ onto (named_seen old) r
onto_next old new name text cell r s e t h =
    ap (onto (named_seen new)) (h ∙ ap (λ n. restore_of r n (Some cell)) t) ∙ sym (onto_push (named_seen new) (string_bytes name, cell) r)
    ∙ ap (λ cs. onto cs r) (sym (named_push new (name, cell))) ∙ ap (λ rs. onto (named_seen rs) r) (sym e)
