-- Lists that are taken from the end, one element after another.
use Rattle.std.proofs.Common.{◌≡◌, List, [], ◌∷◌, ◌++◌, ap, sym, ◌∙◌, Vec, append_assoc}
use Rattle.std.specs.Prelude.{String, string_bytes}
use Rattle.std.specs.declared.alloc.Global.{Global}
use Rattle.std.proofs.lemmas.List.{map-append}
use Rattle.scene_kinds.specs.declared.cell.Cell.{Cell}
use Rattle.scene_validate.specs.Seen.{lists_seen, named_seen}

-- of all elements the first stand still there, and the others are done
pub record AreLeft {X : Type 0} (all rest : List X) : Type 0 where
  pub done : List X
  pub split : rest ++ done ≡ all

module _ {X : Type 0} (all old new : List X) (x : X) (l : AreLeft all old) (e : old ≡ new ++ x ∷ []) where
  pub one_left : new ++ (x ∷ l.done) ≡ all
  one_left = sym (append_assoc new (x ∷ []) l.done) ∙ ap (λ xs. xs ++ l.done) (sym e) ∙ l.split

pub lists_push : {K X : Type 0} (es : List (K × Vec X Global)) (e : K × Vec X Global) → lists_seen (es ++ e ∷ []) ≡ lists_seen es ++ (e.0, e.1.items) ∷ []
lists_push es e = map-append (λ (e : _ × Vec _ Global). (e.0, e.1.items)) es (e ∷ [])

pub named_push : (rs : List (String Global × Cell)) (r : String Global × Cell) → named_seen (rs ++ r ∷ []) ≡ named_seen rs ++ (string_bytes r.0, r.1) ∷ []
named_push rs r = map-append (λ (r : String Global × Cell). (string_bytes r.0, r.1)) rs (r ∷ [])
