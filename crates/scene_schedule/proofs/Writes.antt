-- Cells that are written a few at a time.
use Rattle.std.proofs.Common.{◌≡◌, ℕ, ◌+◌, ◌<◌, List, [], ◌∷◌, ◌++◌, length, take, get_or, ap, sym, ◌∙◌, Option, Some, None, Ok}
use Rattle.std.specs.Prelude.{Err}
use Rattle.std.specs.List.{flat_map}
use Rattle.std.proofs.lemmas.List.{append-nil, take_more}
use Rattle.std.proofs.lemmas.Grind.{flat_map-append}
use Rattle.scene_kinds.specs.declared.entity.Entity.{Entity}
use Rattle.scene_kinds.specs.Answers.{Outcome}
use Rattle.scene_model.specs.Perform.{Act}
use Rattle.scene_machine.specs.Queue.{Request, Progress, reached, and_spawned, whole, unless_refused, request, play_from, play}

module _ {S : Type 0} (act : Act S) where
  -- commands that are all accepted are so from whichever place they are counted
  counted_anyhow : (rs : List Request) (i j : ℕ) (p q : Progress S) → play_from act i rs p ≡ whole q → play_from act j rs p ≡ whole q
  counted_anyhow [] i j p q h = h
  counted_anyhow (r ∷ rs) i j p q h = from (request act r p) (λ t g. counted_anyhow rs (i + 1) (j + 1) t q g) h
    where
      from : (o : Outcome (Option Entity) S)
          → ((t : Progress S) → play_from act (i + 1) rs t ≡ whole q → play_from act (j + 1) rs t ≡ whole q)
          → unless_refused i p o (play_from act (i + 1) rs) ≡ whole q → unless_refused j p o (play_from act (j + 1) rs) ≡ whole q
      from (Ok a) go g = go (reached a.1 (and_spawned p.spawned a.0)) g
      from (Err f) go g = absurd (let k : Some (i, f) ≡ None = ap (λ e. e.refused) g in cc)

  -- commands that are all accepted, and then others
  pub one_then_other : (rs more : List Request) (i j : ℕ) (p q t : Progress S) → play_from act i rs p ≡ whole q → play_from act j more q ≡ whole t
      → play_from act i (rs ++ more) p ≡ whole t
  one_then_other [] more i j p q t h later =
      counted_anyhow more j i p t (ap (λ e. play_from act j more e.progress) h ∙ later)
  one_then_other (r ∷ rs) more i j p q t h later = from (request act r p) (λ u g. one_then_other rs more (i + 1) j u q t g later) h
    where
      from : (o : Outcome (Option Entity) S)
          → ((u : Progress S) → play_from act (i + 1) rs u ≡ whole q → play_from act (i + 1) (rs ++ more) u ≡ whole t)
          → unless_refused i p o (play_from act (i + 1) rs) ≡ whole q → unless_refused i p o (play_from act (i + 1) (rs ++ more)) ≡ whole t
      from (Ok a) go g = go (reached a.1 (and_spawned p.spawned a.0)) g
      from (Err f) go g = absurd (let k : Some (i, f) ≡ None = ap (λ e. e.refused) g in cc)

  -- the commands of one more element of a list, which spawn nothing
  pub one_more : {X : Type 0} (f : X → List Request) (xs : List X) (i : ℕ) (x : X) (s t u : S) → i < length xs → x ≡ get_or xs i x
      → play act (flat_map f (take i xs)) s ≡ whole (reached t []) → play act (f x) t ≡ whole (reached u [])
      → play act (flat_map f (take (i + 1) xs)) s ≡ whole (reached u [])
  one_more f xs i x s t u lt here so is =
      let last : flat_map f (take (i + 1) xs) ≡ flat_map f (take i xs) ++ f x =
      ap (flat_map f) (take_more xs i x lt) ∙ flat_map-append f (take i xs) (get_or xs i x ∷ [])
      ∙ ap (λ rs. flat_map f (take i xs) ++ rs) (append-nil (f (get_or xs i x)))
      ∙ ap (λ y. flat_map f (take i xs) ++ f y) (sym here) in
      ap (λ rs. play act rs s) last ∙ one_then_other (flat_map f (take i xs)) (f x) 0 0 (reached s []) (reached t []) (reached u []) so is
