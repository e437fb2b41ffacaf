-- Whether a schedule is for a world is whether they have the same kinds.
use Rattle.std.proofs.Common.{◌≡◌, [], ◌∷◌, Bool, true, false, ◌&&◌, refl, ap, sym, ◌∙◌}
use Rattle.std.specs.Str.{bytes_eq}
use Rattle.std.proofs.lemmas.Bool.{and_parts, and_from}
use Rattle.std.proofs.lemmas.Slice.Eq.{bytes_eq-Decides}
use Rattle.scene_kinds.specs.declared.shape.Shape.{Shape}
use Rattle.scene_kinds.specs.declared.shape.Shape.TheVariants as shape
use Rattle.scene_kinds.specs.declared.fault.Fault.TheVariants.{OtherSchema}
use Rattle.scene_kinds.specs.Answers.{Outcome, refuse}
use Rattle.scene_kinds.specs.Schema.{Kinds}
use Rattle.scene_kinds.specs.Shape.{same_shape}
use Rattle.scene_schedule.specs.Schedule.{same_kinds}
use Rattle.scene_schedule.specs.Systems.{if_for}

pub same_shape_self : (s : Shape) → same_shape s s ≡ true
same_shape_self shape.Tag = refl
same_shape_self shape.Int = refl
same_shape_self shape.Vec3 = refl
same_shape_self shape.Text = refl
same_shape_self shape.Link = refl

pub same_shape_is : (s t : Shape) → same_shape s t ≡ true → s ≡ t
same_shape_is shape.Tag shape.Tag h = refl
same_shape_is shape.Int shape.Int h = refl
same_shape_is shape.Vec3 shape.Vec3 h = refl
same_shape_is shape.Text shape.Text h = refl
same_shape_is shape.Link shape.Link h = refl
same_shape_is shape.Tag shape.Int h = absurd (cc)
same_shape_is shape.Tag shape.Vec3 h = absurd (cc)
same_shape_is shape.Tag shape.Text h = absurd (cc)
same_shape_is shape.Tag shape.Link h = absurd (cc)
same_shape_is shape.Int shape.Tag h = absurd (cc)
same_shape_is shape.Int shape.Vec3 h = absurd (cc)
same_shape_is shape.Int shape.Text h = absurd (cc)
same_shape_is shape.Int shape.Link h = absurd (cc)
same_shape_is shape.Vec3 shape.Tag h = absurd (cc)
same_shape_is shape.Vec3 shape.Int h = absurd (cc)
same_shape_is shape.Vec3 shape.Text h = absurd (cc)
same_shape_is shape.Vec3 shape.Link h = absurd (cc)
same_shape_is shape.Text shape.Tag h = absurd (cc)
same_shape_is shape.Text shape.Int h = absurd (cc)
same_shape_is shape.Text shape.Vec3 h = absurd (cc)
same_shape_is shape.Text shape.Link h = absurd (cc)
same_shape_is shape.Link shape.Tag h = absurd (cc)
same_shape_is shape.Link shape.Int h = absurd (cc)
same_shape_is shape.Link shape.Vec3 h = absurd (cc)
same_shape_is shape.Link shape.Text h = absurd (cc)

-- kinds are the same as themselves
same_kinds_self : (ks : Kinds) → same_kinds ks ks ≡ true
same_kinds_self [] = refl
same_kinds_self (k ∷ ks) =
    and_from (bytes_eq k.0 k.0) (same_shape k.1 k.1 && same_kinds ks ks) ((bytes_eq-Decides k.0 k.0).1 refl)
    (and_from (same_shape k.1 k.1) (same_kinds ks ks) (same_shape_self k.1) (same_kinds_self ks))

-- and as no others
same_kinds_is : (ks ls : Kinds) → same_kinds ks ls ≡ true → ks ≡ ls
same_kinds_is [] [] h = refl
same_kinds_is [] (l ∷ ls) h = absurd (cc)
same_kinds_is (k ∷ ks) [] h = absurd (cc)
same_kinds_is (k ∷ ks) (l ∷ ls) h =
    let p = and_parts (bytes_eq k.0 l.0) (same_shape k.1 l.1 && same_kinds ks ls) h in
    let q = and_parts (same_shape k.1 l.1) (same_kinds ks ls) p.1 in
    let name : k.0 ≡ l.0 = (bytes_eq-Decides k.0 l.0).0 p.0 in
    let shape : k.1 ≡ l.1 = same_shape_is k.1 l.1 q.0 in
    let rest : ks ≡ ls = same_kinds_is ks ls q.1 in
    let first : k ≡ l = ap (λ x. (x, k.1)) name ∙ ap (λ s. (l.0, s)) shape in
    ap (λ x. x ∷ ks) first ∙ ap (λ xs. l ∷ xs) rest

-- a schedule for these kinds goes its way
pub for_same : {A S : Type 0} (ks ls : Kinds) (o : Outcome A S) → ks ≡ ls → if_for (same_kinds ks ls) o ≡ o
for_same ks ls o h = ap (λ b. if_for b o) (ap (same_kinds ks) (sym h) ∙ same_kinds_self ks)

-- and one for others is refused
pub for_other : {A S : Type 0} (ks ls : Kinds) (o : Outcome A S) → (ks ≡ ls → ⊥) → if_for (same_kinds ks ls) o ≡ refuse OtherSchema
for_other ks ls o h = from (same_kinds ks ls) (λ t. h (same_kinds_is ks ls t))
  where
    from : (b : Bool) → (b ≡ true → ⊥) → if_for b o ≡ refuse OtherSchema
    from true n = absurd (n refl)
    from false n = refl
