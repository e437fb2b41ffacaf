-- The value of a key: the last one that stands in the text is the one that the data keeps.
use Rattle.std.proofs.Common.{◌≡◌, ℕ, Bool, true, false, cond, List, [], ◌∷◌, Option, Some, None, bytes_eq, refl, sym, ap, ◌∙◌}
use Rattle.std.proofs.lemmas.Slice.Eq.{bytes_eq-Decides}
use Rattle.std.proofs.lemmas.Bool.{false≢true}
use Rattle.json.proofs.Found.{Some_inj, not_found}
use Rattle.serde_json.specs.Data.{Data, null, boolean, number, string, array, object, Members, no_members, put}
use Rattle.serde_json.specs.Find.{as_object, get, get_member}
use Rattle.serde_json.proofs.Views.{get_member-put, get_member-put_other}
use Rattle.scene_json.specs.NodeData.{put_all}

-- the last value of a key among members, or what was found before them
abbrev pub last_of : List ℕ → Option Data → List (List ℕ × Data) → Option Data
last_of k found [] = found
last_of k found (m ∷ ms) = last_of k (cond (bytes_eq m.0 k) (Some m.1) found) ms

found_put : (k l : List ℕ) (d : Data) (found : Members) (b : Bool) → bytes_eq l k ≡ b
    → get_member k (put l d found) ≡ cond b (Some d) (get_member k found)
found_put k l d found true same =
    let key : l ≡ k = (bytes_eq-Decides l k).0 same in
    ap (λ x. get_member k (put x d found)) key ∙ get_member-put k d found
found_put k l d found false same =
    get_member-put_other k l d found (λ e. false≢true (sym same ∙ (bytes_eq-Decides l k).1 (sym e)))

last_from : (k : List ℕ) (ms : List (List ℕ × Data)) (found : Members) → get_member k (put_all ms found) ≡ last_of k (get_member k found) ms
last_from k [] found = refl
last_from k (m ∷ ms) found =
    last_from k ms (put m.0 m.1 found) ∙ ap (λ o. last_of k o ms) (found_put k m.0 m.1 found (bytes_eq m.0 k) refl)

pub last_found : (k : List ℕ) (d : Data) (ms : List (List ℕ × Data)) → Some (put_all ms no_members) ≡ as_object d → get k d ≡ last_of k None ms
last_found k null ms e = not_found _ (sym e)
last_found k (boolean b) ms e = not_found _ (sym e)
last_found k (number n) ms e = not_found _ (sym e)
last_found k (string s) ms e = not_found _ (sym e)
last_found k (array ds) ms e = not_found _ (sym e)
last_found k (object os) ms e = ap (get_member k) (sym (Some_inj _ _ e)) ∙ last_from k ms no_members
