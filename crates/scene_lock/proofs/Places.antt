-- Where the state of a lock is, as its seats change.
use Rattle.std.proofs.Common.{◌≡◌, ◌≢◌, ℕ, zero, suc, Bool, true, false, List, [], ◌∷◌, ◌++◌, length, set, Option, Some, refl, sym, ap, ◌∙◌, subst, ⊎_elim, inl, inr}
use Rattle.std.proofs.lemmas.Bool.{false≢true}
use mathlib.Core.Option.{Option as Maybe, some, none, some-injective, some-ne-none}
use lib.ListN.{get_elem?}
use Rattle.atomic_table.proofs.Lists.{at_set, set_else, at_longer}
use Rattle.scene_lock.specs.declared.knowledge.Knowledge.{Knowledge}
use Rattle.scene_lock.specs.declared.knowledge.Member.{Member}
use Rattle.scene_lock.specs.declared.knowledge.Terms.{Terms}
use Rattle.scene_lock.specs.Members.{holding_seat}
use Rattle.scene_lock.specs.Rule.{IsHome, IsOut, IsPlaced}

-- where something stands, what is written stands afterwards
pub set_there : {A : Type 0} (l : List A) (i : ℕ) (a b : A) → get_elem? l i ≡ some b → get_elem? (set l i a) i ≡ some a
set_there [] i a b e = absurd (some-ne-none b (sym e))
set_there (x ∷ xs) zero a b e = refl
set_there (x ∷ xs) (suc i) a b e = set_there xs i a b e

-- a fact of each view holds after one view was set
pub views-set : {V : Type 0} (F : ℕ → V → Type 0) (vs : List V) (seat : ℕ) (w : V) → F seat w → ((j : ℕ) (d : V) → j ≢ seat → get_elem? vs j ≡ some d → F j d)
    → (j : ℕ) (d : V) → get_elem? (set vs seat w) j ≡ some d → F j d
views-set {V} F vs seat w mine others j d e = ⊎_elim (λ (t : (j ≡ seat) × (w ≡ d)). subst (λ (z : ℕ × V). F z.0 z.1) (λ i. (sym t.0 i, t.1 i)) mine)
    (λ (t : (j ≢ seat) × (get_elem? vs j ≡ some d)). others j d t.0 t.1) (at_set vs seat j w d e)

-- and after one view was added
pub views-push : {V : Type 0} (F : ℕ → V → Type 0) (vs : List V) (w : V) → ((j : ℕ) (d : V) → get_elem? vs j ≡ some d → F j d) → F (length vs) w
    → (j : ℕ) (d : V) → get_elem? (vs ++ w ∷ []) j ≡ some d → F j d
views-push F [] w old new zero d e = subst (F 0) (some-injective w d e) new
views-push F [] w old new (suc j) d e = absurd (some-ne-none d (sym e))
views-push F (v ∷ vs) w old new zero d e = old zero d e
views-push F (v ∷ vs) w old new (suc j) d e = views-push (λ i z. F (suc i) z) vs w (λ i z. old (suc i) z) new j d e

pub one_view : {V : Type 0} (F : ℕ → V → Type 0) (w : V) → F 0 w → (j : ℕ) (d : V) → get_elem? (w ∷ []) j ≡ some d → F j d
one_view F w here zero d e = subst (F 0) (some-injective w d e) here
one_view F w here (suc j) d e = absurd (some-ne-none d (sym e))

false_unless : (b : Bool) → ¬ (b ≡ true) → b ≡ false
false_unless true never = absurd (never refl)
false_unless false never = refl

module _ {X E O : Type 0} (good : O → X → Type 0) (history : X → List E) (terms : Terms O) where
  abbrev V : Type 0
  V = Knowledge E O

  abbrev Homes : Type 0
  Homes = List (Maybe (Option X))

  abbrev Out : Homes → List V → List E → Type 0
  Out homes views whole = IsOut good history terms homes views whole

  abbrev Placed : Homes → List V → List E → ℕ → Type 0
  Placed homes views whole word = IsPlaced good history terms homes views whole word

  -- the one pass of a seat that holds
  pub holder-pass : (homes : Homes) (views : List V) (whole : List E) (id : ℕ) (k : V) → get_elem? views id ≡ some k → k.holding ≡ true → (o : Out homes views whole)
      → k.members ≡ o.pass ∷ []
  holder-pass homes views whole id k at holding o = let held = holding_seat terms o.pass in
      ap (λ (z : V). z.members) (some-injective k held (sym at ∙ (ap (λ j. get_elem? views j) (o.alone id k at holding) ∙ o.held)))

  -- a seat that doesn't hold is changed, and doesn't hold afterwards
  pub placed-set : (homes : Homes) (views : List V) (whole : List E) (word id : ℕ) (k w : V) → get_elem? views id ≡ some k → k.holding ≡ false → w.holding ≡ false
      → Placed homes views whole word → Placed homes (set views id w) whole word
  placed-set homes views whole word id k w at idle idle' placed = ⊎_elim
      (λ t. let h = t.1 in inl (
        t.0,
        record {
          state = h.state;
          there = h.there;
          is_good = h.is_good;
          kept = h.kept;
          idle = views-set (λ j (d : V). d.holding ≡ false) views id w idle' (λ j d other there. h.idle j d there);
        },
      ))
      (λ t. let o = t.1 in let held = holding_seat terms o.pass in
      let apart : o.holder ≢ id = λ same. false≢true (sym idle ∙ ap (λ (z : V). z.holding) (some-injective k held (sym at ∙ (ap (λ j. get_elem? views j) (sym same) ∙ o.held)))) in
      inr (
        t.0,
        record {
          gone = o.gone;
          holder = o.holder;
          pass = o.pass;
          held = set_else views id o.holder w apart ∙ o.held;
          seen = o.seen;
          alone = views-set (λ j (d : V). d.holding ≡ true → j ≡ o.holder) views id w (λ yes. absurd (false≢true (sym idle' ∙ yes))) (λ j d other there. o.alone j d there);
        },
      )) placed

  -- a seat that doesn't hold is added
  pub placed-push : (homes : Homes) (views : List V) (whole : List E) (word : ℕ) (w : V) → w.holding ≡ false → Placed homes views whole word → Placed homes (views ++ w ∷ []) whole word
  placed-push homes views whole word w idle' placed = ⊎_elim
      (λ t. let h = t.1 in inl (
        t.0,
        record {
          state = h.state;
          there = h.there;
          is_good = h.is_good;
          kept = h.kept;
          idle = views-push (λ j (d : V). d.holding ≡ false) views w h.idle idle';
        },
      ))
      (λ t. let o = t.1 in inr (
        t.0,
        record {
          gone = o.gone;
          holder = o.holder;
          pass = o.pass;
          held = at_longer views (w ∷ []) o.holder (holding_seat terms o.pass) o.held;
          seen = o.seen;
          alone = views-push (λ j (d : V). d.holding ≡ true → j ≡ o.holder) views w o.alone (λ yes. absurd (false≢true (sym idle' ∙ yes)));
        },
      )) placed

  -- a seat takes the state out
  pub taken_out : (homes : Homes) (views : List V) (whole : List E) (id : ℕ) (k : V) (pass : Member E) (h : IsHome good history terms homes views whole) → get_elem? views id ≡ some k
      → Out (set homes 0 none) (set views id (holding_seat terms pass)) pass.seen
  taken_out homes views whole id k pass h at = record {
    gone = set_there homes 0 none (some (Some h.state)) h.there;
    holder = id;
    pass = pass;
    held = set_there views id (holding_seat terms pass) k at;
    seen = refl;
    alone = views-set (λ j (d : V). d.holding ≡ true → j ≡ id) views id (holding_seat terms pass) (λ yes. refl)
        (λ j d other there yes. absurd (false≢true (sym (h.idle j d there) ∙ yes)));
  }

  -- the seat that holds puts a state home
  pub put_home : (homes : Homes) (views : List V) (whole : List E) (id : ℕ) (k w : V) (state : X) (o : Out homes views whole) → get_elem? views id ≡ some k → k.holding ≡ true
      → w.holding ≡ false → good terms.opening state → IsHome good history terms (set homes 0 (some (Some state))) (set views id w) (history state)
  put_home homes views whole id k w state o at holding idle' ok = record {
    state = state;
    there = set_there homes 0 (some (Some state)) none o.gone;
    is_good = ok;
    kept = refl;
    idle = views-set (λ j (d : V). d.holding ≡ false) views id w idle'
        (λ j d other there. false_unless d.holding (λ yes. other (o.alone j d there yes ∙ sym (o.alone id k at holding))));
  }
