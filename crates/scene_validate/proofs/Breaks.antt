-- Which of the rules of rows and slots is the first that is broken, by the marks that the code makes.
use Rattle.std.proofs.Common.{◌≡◌, ℕ, Bool, true, false, not, cond, List, length, refl, ap, sym, subst, ◌∙◌, Some, None, Option, Vec, nat_eq}
use Rattle.std.specs.Prelude.{◌||◌, is_some, IfSome, IfOk, Result, Ok, Err, slice_index}
use Rattle.std.specs.List.{list_all, list_any, range_with_len}
use Rattle.std.specs.declared.alloc.Global.{Global}
use Rattle.std.specs.declared.alloc.AllocError.{AllocError}
use Rattle.scene_alloc.specs.Slots.{highest}
use Rattle.scene_validate.specs.Parts.{Parts}
use Rattle.scene_validate.specs.Rules.{rows_are_current, entities_stand_once, free_is_sound, indices_are_accounted, broken_from_4, broken_from_7}
use Rattle.scene_validate.specs.Marks.{is_marked, AreMarks, are_places}
use Rattle.scene_validate.specs.Seen.{seen}
use Rattle.scene_validate.specs.declared.parts.WorldParts.{WorldParts}
use Rattle.scene_validate.proofs.BrokenTests.{row_indices, accounted_by, places_once, free_tested, free_fails, accounts}

-- marks that may be missing
abbrev pub Found : Type 0
Found = Option (Vec Bool Global)

from_6 : Parts → Option ℕ
from_6 p = cond (not (indices_are_accounted p)) (Some 6) (broken_from_7 p)

from_5 : Parts → Option ℕ
from_5 p = cond (not (free_is_sound p)) (Some 5) (from_6 p)

-- the generations and the indices of rows, as the code reads them
pub record AreReadRows (p : WorldParts) (g is : List ℕ) : Type 0 where
  pub current : rows_are_current (seen p) ≡ true
  pub generations : g ≡ p.generations.items
  pub indices : is ≡ row_indices (seen p)

module _ (p : WorldParts) (g is : List ℕ) (r : AreReadRows p g is) where
  once : (b : Bool) → b ≡ are_places (length g) is → b ≡ entities_stand_once (seen p)
  once b h = h ∙ ap (λ (g : List ℕ). are_places (length g) is) r.generations ∙ ap (are_places (length p.generations.items)) r.indices ∙ places_once (seen p) r.current

  -- an entity stands twice
  pub stops_at_4 : (o : Found) → is_some o ≡ are_places (length g) is → o ≡ None → Some 4 ≡ broken_from_4 (seen p)
  unfolding from_5 from_6
  stops_at_4 o h n = ap (λ b. cond (not b) (Some 4) (from_5 (seen p))) (sym (ap is_some n) ∙ once (is_some o) h)

  -- the marks of the rows, and then of the free indices
  pub record AreLive (o : Found) (live : Vec Bool Global) : Type 0 where
    pub some : is_some o ≡ are_places (length g) is
    pub there : o ≡ Some live
    pub marks : IfSome o (λ m. AreMarks (length g) is m.items)

  module _ (o : Found) (live : Vec Bool Global) (l : AreLive o live) where
    passes_4 : entities_stand_once (seen p) ≡ true
    passes_4 = sym (once (is_some o) l.some) ∙ ap is_some l.there

    pub live_marks : AreMarks (length p.generations.items) (row_indices (seen p)) live.items
    live_marks = subst (λ (xs : List ℕ). AreMarks (length p.generations.items) xs live.items) r.indices (subst (λ (h : List ℕ). AreMarks (length h) is live.items) r.generations
        (subst (λ (x : Found). IfSome x (λ m. AreMarks (length g) is m.items)) l.there l.marks))

    to_5 : from_5 (seen p) ≡ broken_from_4 (seen p)
    unfolding from_5 from_6
    to_5 = ap (λ b. cond (not b) (Some 4) (from_5 (seen p))) (sym passes_4)

    pub stops_at_5 : (f : List ℕ) (u : Found) → f ≡ p.free.items → is_some u ≡ are_places (length g) f → u ≡ None → Some 5 ≡ broken_from_4 (seen p)
    unfolding from_5
    stops_at_5 f u e h n = ap (λ b. cond (not b) (Some 5) (from_6 (seen p))) (free_fails (seen p) (ap (are_places (length p.generations.items)) (sym e) ∙ ap (λ (g : List ℕ). are_places (length g) f) (sym r.generations) ∙ sym h ∙ ap is_some n)) ∙ to_5

    pub record AreFree (u : Found) (f : List ℕ) (free : Vec Bool Global) : Type 0 where
      pub list : f ≡ p.free.items
      pub some : is_some u ≡ are_places (length g) f
      pub there : u ≡ Some free
      pub marks : IfSome u (λ m. AreMarks (length g) f m.items)

    module _ (u : Found) (f : List ℕ) (free : Vec Bool Global) (k : AreFree u f free) (marks : List Bool) (read : marks ≡ free.items) (any : Bool) (is_any : any ≡ list_any (is_marked marks) is) where
      free_marks : AreMarks (length p.generations.items) p.free.items free.items
      free_marks = subst (λ (xs : List ℕ). AreMarks (length p.generations.items) xs free.items) k.list (subst (λ (h : List ℕ). AreMarks (length h) f free.items) r.generations
          (subst (λ (x : Found). IfSome x (λ m. AreMarks (length g) f m.items)) k.there k.marks))

      free_places : are_places (length p.generations.items) p.free.items ≡ true
      free_places = ap (are_places (length p.generations.items)) (sym k.list) ∙ ap (λ (g : List ℕ). are_places (length g) f) (sym r.generations) ∙ sym k.some ∙ ap is_some k.there

      free_is : not any ≡ free_is_sound (seen p)
      free_is = ap not (is_any ∙ ap (λ (m : List Bool). list_any (is_marked m) is) read ∙ ap (list_any (is_marked free.items)) r.indices) ∙ free_tested (seen p) free.items free_marks free_places

      pub busy_at_5 : any ≡ true → Some 5 ≡ broken_from_4 (seen p)
      unfolding from_5
      busy_at_5 h = ap (λ b. cond (not b) (Some 5) (from_6 (seen p))) (sym (ap not h) ∙ free_is) ∙ to_5

      to_6 : any ≡ false → from_6 (seen p) ≡ broken_from_4 (seen p)
      unfolding from_5
      to_6 h = ap (λ b. cond (not b) (Some 5) (from_6 (seen p))) (sym (ap not h) ∙ free_is) ∙ to_5

      module _ (lives frees : List Bool) (read_live : lives ≡ live.items) (read_free : frees ≡ free.items) (all : Bool) (is_all : all ≡ list_all (accounted_by g lives frees) (range_with_len 0 (length g))) where
        all_is : all ≡ indices_are_accounted (seen p)
        all_is =
            is_all ∙ ap (λ (m : List Bool). list_all (accounted_by g m frees) (range_with_len 0 (length g))) read_live
            ∙ ap (λ (m : List Bool). list_all (accounted_by g live.items m) (range_with_len 0 (length g))) read_free
            ∙ ap (λ (h : List ℕ). list_all (accounted_by h live.items free.items) (range_with_len 0 (length h))) r.generations
            ∙ accounts (seen p) live.items free.items r.current live_marks free_marks

        pub stops_at_6 : any ≡ false → all ≡ false → Some 6 ≡ broken_from_4 (seen p)
        unfolding from_6
        stops_at_6 h n = ap (λ b. cond (not b) (Some 6) (broken_from_7 (seen p))) (sym n ∙ all_is) ∙ to_6 h

        pub goes_on : any ≡ false → all ≡ true → (o : Option ℕ) → o ≡ broken_from_7 (seen p) → o ≡ broken_from_4 (seen p)
        unfolding from_6
        goes_on h n o e = e ∙ ap (λ b. cond (not b) (Some 6) (broken_from_7 (seen p))) (sym n ∙ all_is) ∙ to_6 h
