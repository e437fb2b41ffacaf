-- Lists that are written one behind the other, as long as they fit.
use Rattle.std.proofs.Common.{◌≡◌, ◌≤◌, ◌<◌, ◌+◌, ◌-◌, ℕ, zero, suc, List, [], ◌∷◌, ◌++◌, length, take, drop, true, false, refl, ap, sym, ◌∙◌, subst, arith, add-one, Some, None}
use Rattle.std.specs.Prelude.{slice_get, slice_set, map, nat_le, if◌then◌else◌}
use Rattle.scene_c.proofs.Filled.{fill_more}
use Rattle.scene_c.proofs.StepLaws.{next_at}
use Rattle.std.proofs.Math.Seq.{drop-append-add, take-append_seam}
use Rattle.std.proofs.lemmas.List.{append_assoc, append-nil, drop-drop, length-append, length-map, length-take, take_all}
use Rattle.scene_c.specs.Memory.{copied}
use Rattle.scene_c.specs.Joined.{AreTold, ends_from, fitting, joined}

-- a list whose next item is known
take_more : {A : Type 0} (n : ℕ) (xs rest : List A) (x : A) → drop n xs ≡ x ∷ rest → take (suc n) xs ≡ take n xs ++ x ∷ []
take_more zero [] rest x e = absurd (let g : [] ≡ x ∷ rest = e in cc)
take_more (suc n) [] rest x e = absurd (let g : [] ≡ x ∷ rest = e in cc)
take_more zero (y ∷ ys) rest x e = ap (take 1) e
take_more (suc n) (y ∷ ys) rest x e = ap (λ t. y ∷ t) (take_more n ys rest x e)

joined_more : {A : Type 0} (ts : List (List A)) (t : List A) → joined (ts ++ t ∷ []) ≡ joined ts ++ t
joined_more [] t = append-nil t
joined_more (u ∷ ts) t = ap (λ b. u ++ b) (joined_more ts t) ∙ sym (append_assoc u (joined ts) t)

-- where the list at a place ends
end_at : {A : Type 0} (n at : ℕ) (ts rest : List (List A)) (t : List A) → drop n ts ≡ t ∷ rest → slice_get (ends_from at ts) n ≡ Some (at + length (joined (take n ts)) + length t)
end_at zero at [] rest t e = absurd (let g : [] ≡ t ∷ rest = e in cc)
end_at (suc n) at [] rest t e = absurd (let g : [] ≡ t ∷ rest = e in cc)
end_at zero at (u ∷ ts) rest t e = ap (λ l. slice_get (ends_from at l) 0) e ∙ ap (λ k. Some k) (omega arith)
end_at (suc n) at (u ∷ ts) rest t e = end_at n (at + length u) ts rest t e ∙ ap (λ k. Some k) (omega (arith, length-append u (joined (take n ts))))

ends_cut : {A : Type 0} (n at : ℕ) (ts : List (List A)) → ends_from at (take n ts) ≡ take n (ends_from at ts)
ends_cut zero at ts = refl
ends_cut (suc n) at [] = refl
ends_cut (suc n) at (t ∷ ts) = ap (λ l. (at + length t) ∷ l) (ends_cut n (at + length t) ts)

ends_count : {A : Type 0} (at : ℕ) (ts : List (List A)) → length (ends_from at ts) ≡ length ts
ends_count at [] = refl
ends_count at (t ∷ ts) = ap suc (ends_count (at + length t) ts)

-- a list that the room holds whole
copied_short : {A : Type 0} (items room : List A) → length items ≤ length room → copied items room ≡ items ++ drop (length items) room
copied_short items room short = ap (λ l. l ++ drop (length items) room) (take_all (length room) items short)

fits : {A : Type 0} (room : ℕ) (t : List A) (ts : List (List A)) → length t ≤ room → fitting room (t ∷ ts) ≡ t ∷ fitting (room - length t) ts
fits room t ts low = ap (λ b. if b then t ∷ fitting (room - length t) ts else []) (let e : nat_le (length t) room ≡ true = search (arith, low) in e)

fits_not : {A : Type 0} (room : ℕ) (t : List A) (ts : List (List A)) → room < length t → fitting room (t ∷ ts) ≡ []
fits_not room t ts high = ap (λ b. if b then t ∷ fitting (room - length t) ts else []) (let e : nat_le (length t) room ≡ false = search (arith, high) in e)

-- how far texts are written: so many of them, in so many items
pub record AreWritten {A : Type 0} (n size : ℕ) (ts : List (List A)) (old_ends ends : List ℕ) (old_items items : List A) : Type 0 where
  pub size_is : size ≡ length (joined (take n ts))
  pub within : size ≤ length old_items
  pub fit : fitting (length old_items) ts ≡ take n ts ++ fitting (length old_items - size) (drop n ts)
  pub ends_are : ends ≡ take n (ends_from 0 ts) ++ drop n old_ends
  pub items_are : items ≡ joined (take n ts) ++ drop size old_items

-- one more, which fits
pub written_more : {A : Type 0} (n size : ℕ) (ts rest : List (List A)) (t : List A) (old_ends ends : List ℕ) (old_items items new_items : List A)
    → AreWritten n size ts old_ends ends old_items items → drop n ts ≡ t ∷ rest → n < length old_ends → size + length t ≤ length old_items
    → new_items ≡ take size items ++ t ++ drop (size + length t) items
    → AreWritten (n + 1) (size + length t) ts old_ends (slice_set ends n (size + length t)) old_items new_items
written_more n size ts rest t old_ends ends old_items items new_items w here low fit_in is =
    let before = joined (take n ts) in
    let more : take (n + 1) ts ≡ take n ts ++ t ∷ [] = ap (λ k. take k ts) (add-one n) ∙ take_more n ts rest t here in
    let joins : joined (take (n + 1) ts) ≡ before ++ t = ap joined more ∙ joined_more (take n ts) t in
    let left : drop (n + 1) ts ≡ rest = (next_at n ts rest t here).1 in
    let front : take size items ≡ before = ap (λ b. take size b) w.items_are ∙ ap (λ k. take k (before ++ drop size old_items)) w.size_is ∙ take-append_seam before (drop size old_items) in
    let back : drop (size + length t) items ≡ drop (size + length t) old_items = ap (λ b. drop (size + length t) b) w.items_are
    ∙ ap (λ k. drop (k + length t) (before ++ drop size old_items)) w.size_is ∙ drop-append-add before (drop size old_items) (length t) ∙ drop-drop (length t) size old_items in
    record {
      size_is = ap (λ k. k + length t) w.size_is ∙ sym (length-append before t) ∙ ap length (sym joins);
      within = fit_in;
      fit = w.fit ∙ ap (λ l. take n ts ++ fitting (length old_items - size) l) here
          ∙ ap (λ l. take n ts ++ l) (fits (length old_items - size) t rest (omega (arith, fit_in, w.within)))
          ∙ sym (append_assoc (take n ts) (t ∷ []) (fitting (length old_items - size - length t) rest))
          ∙ ap (λ l. l ++ fitting (length old_items - size - length t) rest) (sym more)
          ∙ ap (λ k. take (n + 1) ts ++ fitting k rest) (let e : length old_items - size - length t ≡ length old_items - (size + length t) = omega arith in e)
          ∙ ap (λ l. take (n + 1) ts ++ fitting (length old_items - (size + length t)) l) (sym left);
      ends_are = fill_more n (ends_from 0 ts) old_ends ends (size + length t) w.ends_are low
          (end_at n 0 ts rest t here ∙ ap (λ k. Some (k + length t)) (let e : 0 + length before ≡ size = omega (arith, w.size_is) in e));
      items_are = is ∙ ap (λ b. b ++ t ++ drop (size + length t) items) front ∙ ap (λ b. before ++ t ++ b) back ∙ ap (λ b. b ++ drop (size + length t) old_items) (sym joins);
    }

-- no further one is written
pub written_all : {A : Type 0} (n size : ℕ) (ts : List (List A)) (old_ends ends : List ℕ) (old_items items : List A)
    → AreWritten n size ts old_ends ends old_items items → n ≤ length ts → n ≤ length old_ends → fitting (length old_items - size) (drop n ts) ≡ []
    → AreTold (fitting (length old_items) ts) old_ends ends old_items items n
written_all n size ts old_ends ends old_items items w few low none =
    let count : length (take n ts) ≡ n = omega (arith, length-take n ts, few) in
    let ends_of : length (ends_from 0 (take n ts)) ≡ n = ends_count 0 (take n ts) ∙ count in
    let told : AreTold (take n ts) old_ends ends old_items items n = record {
      told = sym count;
      ends = w.ends_are ∙ ap (λ l. l ++ drop n old_ends) (sym (ends_cut n 0 ts)) ∙ ap (λ k. ends_from 0 (take n ts) ++ drop k old_ends) (sym ends_of)
          ∙ sym (copied_short (ends_from 0 (take n ts)) old_ends (omega (arith, ends_of, low)));
      items = w.items_are ∙ ap (λ k. joined (take n ts) ++ drop k old_items) w.size_is
          ∙ sym (copied_short (joined (take n ts)) old_items (omega (arith, w.size_is, w.within)));
    } in
    subst (λ l. AreTold l old_ends ends old_items items n) (sym (w.fit ∙ ap (λ l. take n ts ++ l) none ∙ append-nil (take n ts))) told

-- the next one doesn't fit
pub written_full : {A : Type 0} (n size : ℕ) (ts rest : List (List A)) (t : List A) (old_ends ends : List ℕ) (old_items items : List A)
    → AreWritten n size ts old_ends ends old_items items → drop n ts ≡ t ∷ rest → n ≤ length old_ends → length old_items < size + length t
    → AreTold (fitting (length old_items) ts) old_ends ends old_items items n
written_full n size ts rest t old_ends ends old_items items w here low high =
    written_all n size ts old_ends ends old_items items w (let h = (next_at n ts rest t here).2 in omega (arith, h)) low
    (ap (fitting (length old_items - size)) here ∙ fits_not (length old_items - size) t rest (omega (arith, high, w.within)))

-- the list at a place of those for which there is room
pub list_here : {A : Type 0} {B : Type 0} (f : A → List B) (n room : ℕ) (xs : List A) (x : A) → n < room → slice_get xs n ≡ Some x
    → drop n (take room (map f xs)) ≡ f x ∷ drop (n + 1) (take room (map f xs))
list_here {A = A} {B = B} f n room xs x low is = at n room xs low is ∙ ap (λ k. f x ∷ drop k (take room (map f xs))) (sym (add-one n))
  where
    at : (n room : ℕ) (xs : List A) → n < room → slice_get xs n ≡ Some x → drop n (take room (map f xs)) ≡ f x ∷ drop (suc n) (take room (map f xs))
    at n zero xs low is = absurd (omega (arith, low))
    at n (suc room) [] low is = absurd (let g : None ≡ Some x = is in cc)
    at zero (suc room) (y ∷ ys) low is = ap (λ z. f z ∷ take room (map f ys)) (let g : Some y ≡ Some x = is in cc)
    at (suc n) (suc room) (y ∷ ys) low is = at n room ys (omega (arith, low)) is

-- all goes into a room of that length
whole : {A : Type 0} (xs room : List A) → length xs ≡ length room → copied xs room ≡ xs
whole [] [] e = refl
whole [] (y ∷ ys) e = absurd (omega (arith, e))
whole (x ∷ xs) [] e = absurd (omega (arith, e))
whole (x ∷ xs) (y ∷ ys) e = ap (λ l. x ∷ l) (whole xs ys (omega (arith, e)))

pub copied_whole : {A : Type 0} {B : Type 0} (f : A → B) (xs : List A) (room : List B) → length xs ≡ length room → copied (drop 0 (map f xs)) room ≡ map f xs
copied_whole f xs room e = whole (map f xs) room (length-map xs f ∙ e)
