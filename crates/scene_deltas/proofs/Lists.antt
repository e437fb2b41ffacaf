-- Changes of a list that are made one after another, in parts: general in what a change is, and in what it asks for.
use Rattle.std.proofs.Common.{◌≡◌, ℕ, ◌+◌, ◌<◌, List, [], ◌∷◌, ◌++◌, length, take, drop, get_or, reverse, refl, ap, sym, subst, ◌∙◌}
use Rattle.std.proofs.lemmas.List.{append_assoc, drop_more, reverse-append, take_more, take-append-drop}
use Rattle.scene_model.specs.World.{World}
use Rattle.scene_model.specs.RawLists.{MayAll, MayUndoAll, after_all, before_all}

turned : {D : Type 0} (d : D) (ds : List D) → reverse (d ∷ ds) ≡ reverse ds ++ d ∷ []
turned d ds = reverse-append (d ∷ []) ds

module _ {D : Type 0} (change : D → World → World) where
  pub after_appended : (ds es : List D) (w : World) → after_all change (ds ++ es) w ≡ after_all change es (after_all change ds w)
  after_appended [] es w = refl
  after_appended (d ∷ ds) es w = after_appended ds es (change d w)

  pub before_appended : (ds es : List D) (w : World) → before_all change (ds ++ es) w ≡ before_all change ds (before_all change es w)
  before_appended [] es w = refl
  before_appended (d ∷ ds) es w = ap (change d) (before_appended ds es w)

  -- from the last to the first is the reverse from the first to the last
  pub before_turned : (ds : List D) (w : World) → before_all change ds w ≡ after_all change (reverse ds) w
  before_turned [] w = refl
  before_turned (d ∷ ds) w =
      ap (change d) (before_turned ds w) ∙ sym (after_appended (reverse ds) (d ∷ []) w) ∙ ap (λ xs. after_all change xs w) (sym (turned d ds))

module _ {D : Type 0} (may : D → World → Type 0) (change : D → World → World) where
  pub may_appended : (ds es : List D) (w : World) → MayAll may change ds w → MayAll may change es (after_all change ds w) → MayAll may change (ds ++ es) w
  may_appended [] es w first last = last
  may_appended (d ∷ ds) es w first last = (first.0, may_appended ds es (change d w) first.1 last)

  pub may_parts : (ds es : List D) (w : World) → MayAll may change (ds ++ es) w → MayAll may change ds w × MayAll may change es (after_all change ds w)
  may_parts [] es w h = (tt, h)
  may_parts (d ∷ ds) es w h = let rest = may_parts ds es (change d w) h.1 in ((h.0, rest.0), rest.1)

  pub undo_appended : (ds es : List D) (w : World) → MayUndoAll may change es w → MayUndoAll may change ds (before_all change es w)
      → MayUndoAll may change (ds ++ es) w
  undo_appended [] es w last first = last
  undo_appended (d ∷ ds) es w last first = (undo_appended ds es w last first.0, subst (may d) (sym (before_appended change ds es w)) first.1)

  pub undo_parts : (ds es : List D) (w : World) → MayUndoAll may change (ds ++ es) w
      → MayUndoAll may change es w × MayUndoAll may change ds (before_all change es w)
  undo_parts [] es w h = (h, tt)
  undo_parts (d ∷ ds) es w h = let rest = undo_parts ds es w h.0 in (rest.0, (rest.1, subst (may d) (before_appended change ds es w) h.1))

  pub may_turned : (ds : List D) (w : World) → MayUndoAll may change ds w → MayAll may change (reverse ds) w
  may_turned [] w h = tt
  may_turned (d ∷ ds) w h =
      subst (λ xs. MayAll may change xs w) (sym (turned d ds))
      (may_appended (reverse ds) (d ∷ []) w (may_turned ds w h.0) (subst (may d) (before_turned change ds w) h.1, tt))

  -- what one asks for may be weaker
  pub may_more : (other : D → World → Type 0) → ((d : D) (w : World) → may d w → other d w) → (ds : List D) (w : World) → MayAll may change ds w
      → MayAll other change ds w
  may_more other weaker [] w h = tt
  may_more other weaker (d ∷ ds) w h = (weaker d w h.0, may_more other weaker ds (change d w) h.1)

  pub undo_more : (other : D → World → Type 0) → ((d : D) (w : World) → may d w → other d w) → (ds : List D) (w : World) → MayUndoAll may change ds w
      → MayUndoAll other change ds w
  undo_more other weaker [] w h = tt
  undo_more other weaker (d ∷ ds) w h = (undo_more other weaker ds w h.0, weaker d (before_all change ds w) h.1)

-- ---- a list that is taken back up to what is left

abbrev pub IsTakenTo : {D : Type 0} → (D → World → World) → List D → World → List D → World → List D → Type 0
IsTakenTo undo ds w left v taken = (ds ≡ left ++ taken) × (v ≡ before_all undo taken w)

module _ {D : Type 0} (undo : D → World → World) (ds : List D) (w v : World) (left before taken : List D) (d : D) (cut : left ≡ before ++ d ∷ [])
    (now : IsTakenTo undo ds w left v taken) where
  pub one_more : ds ≡ before ++ d ∷ taken
  one_more = now.0 ∙ ap (λ es. es ++ taken) cut ∙ append_assoc before (d ∷ []) taken

  pub taken_next : (u : World) → u ≡ undo d v → IsTakenTo undo ds w before u (d ∷ taken)
  taken_next u is = (one_more, is ∙ ap (undo d) now.1)

-- ---- a list that is made up to an index

module _ {D : Type 0} (change : D → World → World) (ds : List D) (w v : World) (i : ℕ) (d : D) (low : i < length ds) (is : d ≡ get_or ds i d)
    (made : v ≡ after_all change (take i ds) w) where
  pub cut_here : ds ≡ take i ds ++ d ∷ drop (i + 1) ds
  cut_here = sym (take-append-drop i ds) ∙ ap (λ es. take i ds ++ es) (drop_more ds i d low) ∙ ap (λ x. take i ds ++ x ∷ drop (i + 1) ds) (sym is)

  pub one_longer : take (i + 1) ds ≡ take i ds ++ d ∷ []
  one_longer = take_more ds i d low ∙ ap (λ x. take i ds ++ x ∷ []) (sym is)

  pub may_next : (may : D → World → Type 0) → MayAll may change ds w → may d v
  may_next may all =
      subst (may d) (sym made) (may_parts may change (take i ds) (d ∷ drop (i + 1) ds) w (subst (λ es. MayAll may change es w) cut_here all)).1.0

  pub made_next : (u : World) → u ≡ change d v → u ≡ after_all change (take (i + 1) ds) w
  made_next u by = by ∙ ap (change d) made ∙ sym (after_appended change (take i ds) (d ∷ []) w) ∙ ap (λ es. after_all change es w) (sym one_longer)

  pub may_longer : (may : D → World → Type 0) → MayAll may change (take i ds) w → may d v → MayAll may change (take (i + 1) ds) w
  may_longer may before here =
      subst (λ es. MayAll may change es w) (sym one_longer) (may_appended may change (take i ds) (d ∷ []) w before (subst (may d) made here, tt))
