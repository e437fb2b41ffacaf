-- What is read of lists and objects is just what stands there: the value is the text of what was read.
use Rattle.std.proofs.Common.{◌≡◌, ℕ, ◌+◌, Bool, true, List, [], ◌∷◌, Option, Some, None, Result, Ok, Err, refl, ap, sym, subst, ◌∙◌, map as each}
use Rattle.std.specs.List.{AllByRecursion}
use Rattle.serde_json.specs.Data.{Data, null, boolean, number, string, array, object, Items, no_items, item, Members}
use Rattle.serde_json.specs.Find.{get_member}
use Rattle.scene_json_forms.specs.declared.fault.FileFault.{FileFault}
use Rattle.scene_json_forms.specs.declared.fault.FileFault.TheVariants.{UnknownKey}
use Rattle.scene_json_forms.specs.Reading.{◌>>=◌, field, if_good, if_known, elements, list_at, each_at, list_of, may_follow, rising_at, rising_of, place_in, under, unknown_in, object_at, key_of}
use Rattle.scene_json_forms.specs.Text.{items_of, array_of, list_text, object_of}
use Rattle.scene_json_forms.proofs.ListsBack.{Follow}
use Rattle.scene_json_forms.proofs.ReadValues.{KeysRise, IsRead, HasRead, elements_read, member_read}
use Rattle.scene_json_forms.proofs.KnownMembers.{names, NamesRise, AreFound, members_are}
use Rattle.scene_json_forms.proofs.GoodSteps.{ok_after, ok_is, no_field, good_was, field_was}

-- what is read of a value tells the value: it is its text
abbrev pub IsExact : {A : Type 0} → (List ℕ → Data → Result A FileFault) → (A → Data) → Type 0
IsExact {A} reads text = (path : List ℕ) (d : Data) (a : A) → IsRead d → reads path d ≡ Ok a → d ≡ text a

-- ---- lists

items_back : (ds : Items) → items_of (elements ds) ≡ ds
items_back no_items = refl
items_back (item d ds) = ap (item d) (items_back ds)

-- a list is the array of its elements
pub list_was : (path : List ℕ) (d : Data) (es : List Data) → list_at path d ≡ Ok es → IsRead d → (d ≡ array_of es) × AllByRecursion IsRead es
list_was path null es h r = no_field path es h
list_was path (boolean b) es h r = no_field path es h
list_was path (number n) es h r = no_field path es h
list_was path (string s) es h r = no_field path es h
list_was path (object ms) es h r = no_field path es h
list_was path (array ds) es h r =
    let same : elements ds ≡ es = ok_is (elements ds) es h in
    (ap array (sym (items_back ds) ∙ ap items_of same), subst (AllByRecursion IsRead) same (elements_read ds r))

module _ {A : Type 0} (reads : List ℕ → Data → Result A FileFault) (text : A → Data) (exact : IsExact reads text) where
  pub each_exact : (path : List ℕ) (i : ℕ) (ds : List Data) (xs : List A) → AllByRecursion IsRead ds → each_at reads path i ds ≡ Ok xs
      → ds ≡ each text xs
  each_exact path i [] xs r h = ap (each text) (ok_is [] xs h)
  each_exact path i (d ∷ ds) xs r h =
      let p = ok_after (reads (place_in path i) d) (λ a. each_at reads path (i + 1) ds >>= λ rest. Ok (a ∷ rest)) xs h in
      let q = ok_after (each_at reads path (i + 1) ds) (λ rest. Ok (p.0 ∷ rest)) xs p.2 in
      let first : d ≡ text p.0 = exact (place_in path i) d p.0 r.0 p.1 in
      let rest : ds ≡ each text q.0 = each_exact path (i + 1) ds q.0 r.1 q.1 in
      (λ i. first i ∷ rest i) ∙ ap (each text) (ok_is (p.0 ∷ q.0) xs q.2)

  pub list_exact : IsExact (list_of reads) (list_text text)
  list_exact path d xs r h =
      let p = ok_after (list_at path d) (λ ds. each_at reads path 0 ds) xs h in
      let w = list_was path d p.0 p.1 r in
      w.0 ∙ ap array_of (each_exact path 0 p.0 xs w.1 p.2)

  pub rising_exact_from : (follows : A → A → Bool) (path : List ℕ) (i : ℕ) (before : Option A) (ds : List Data) (xs : List A)
      → AllByRecursion IsRead ds
      → rising_at reads follows path i before ds ≡ Ok xs → (ds ≡ each text xs) × Follow follows before xs
  rising_exact_from follows path i before [] xs r h =
      let same : [] ≡ xs = ok_is [] xs h in (ap (each text) same, subst (Follow follows before) same tt)
  rising_exact_from follows path i before (d ∷ ds) xs r h =
      let p = ok_after (reads (place_in path i) d)
      (λ a. if_good (place_in path i) (may_follow follows before a) a >>= λ b. rising_at reads follows path (i + 1) (Some b) ds
      >>= λ rest. Ok (b ∷ rest)) xs h in
      let q = ok_after (if_good (place_in path i) (may_follow follows before p.0) p.0) (λ b. rising_at reads follows path (i + 1) (Some b) ds
      >>= λ rest. Ok (b ∷ rest)) xs p.2 in
      let g = good_was (place_in path i) (may_follow follows before p.0) p.0 q.0 q.1 in
      let s = ok_after (rising_at reads follows path (i + 1) (Some q.0) ds) (λ rest. Ok (q.0 ∷ rest)) xs q.2 in
      let first : d ≡ text q.0 = exact (place_in path i) d p.0 r.0 p.1 ∙ ap text g.1 in
      let after : may_follow follows before q.0 ≡ true = ap (may_follow follows before) (sym g.1) ∙ g.0 in
      let rest = rising_exact_from follows path (i + 1) (Some q.0) ds s.0 r.1 s.1 in
      let same : q.0 ∷ s.0 ≡ xs = ok_is (q.0 ∷ s.0) xs s.2 in
      ((λ i. first i ∷ rest.0 i) ∙ ap (each text) same, subst (Follow follows before) same (after, rest.1))

  pub rising_exact : (follows : A → A → Bool) (path : List ℕ) (d : Data) (xs : List A) → IsRead d → rising_of reads follows path d ≡ Ok xs
      → (d ≡ list_text text xs) × Follow follows None xs
  rising_exact follows path d xs r h =
      let p = ok_after (list_at path d) (λ ds. rising_at reads follows path 0 None ds) xs h in
      let w = list_was path d p.0 p.1 r in
      let e = rising_exact_from follows path 0 None p.0 xs w.1 p.2 in
      (w.0 ∙ ap array_of e.0, e.1)

-- ---- objects

-- what is read of the value of a key
pub record IsKey {A : Type 0} (reads : List ℕ → Data → Result A FileFault) (path key : List ℕ) (ms : Members) (a : A) : Type 0 where
  pub value : Data
  pub found : get_member key ms ≡ Some value
  pub was : reads (under path key) value ≡ Ok a
  pub read : IsRead value

pub key_was : {A : Type 0} (reads : List ℕ → Data → Result A FileFault) (path key : List ℕ) (ms : Members) (a : A) → HasRead ms
    → key_of reads path key ms ≡ Ok a → IsKey reads path key ms a
key_was reads path key ms a r h =
    let p = ok_after (field (under path key) (get_member key ms)) (λ d. reads (under path key) d) a h in
    let found = field_was (under path key) (get_member key ms) p.0 p.1 in
    record { value = p.0; found = found; was = p.2; read = member_read key ms p.0 r found }

pub key_exact : {A : Type 0} (reads : List ℕ → Data → Result A FileFault) (text : A → Data) → IsExact reads text
    → (path key : List ℕ) (ms : Members) (a : A)
    → HasRead ms → key_of reads path key ms ≡ Ok a → get_member key ms ≡ Some (text a)
key_exact reads text exact path key ms a r h =
    let k = key_was reads path key ms a r h in k.found ∙ ap (λ x. Some x) (exact (under path key) k.value a k.read k.was)

-- the value of a key, a list that rises
pub rising_key : {A : Type 0} (reads : List ℕ → Data → Result A FileFault) (text : A → Data) → IsExact reads text
    → (follows : A → A → Bool) (path key : List ℕ) (ms : Members) (xs : List A)
    → HasRead ms → key_of (rising_of reads follows) path key ms ≡ Ok xs → (get_member key ms ≡ Some (list_text text xs)) × Follow follows None xs
rising_key reads text exact follows path key ms xs r h =
    let k = key_was (rising_of reads follows) path key ms xs r h in
    let e = rising_exact reads text exact follows (under path key) k.value xs k.read k.was in
    (k.found ∙ ap (λ x. Some x) e.0, e.1)

-- an object of known keys
pub record IsObject (known : List (List ℕ)) (d : Data) (ms : Members) : Type 0 where
  pub whole : d ≡ object ms
  pub only : unknown_in known ms ≡ None
  pub rise : KeysRise None ms
  pub read : HasRead ms

known_was : (path : List ℕ) (o : Option (List ℕ)) (a b : Members) → if_known path o a ≡ Ok b → (o ≡ None) × (a ≡ b)
known_was path None a b h = (refl, ok_is a b h)
known_was path (Some key) a b h = absurd (let k : Err (UnknownKey (under path key)) ≡ Ok b = h in cc)

pub object_was : (known : List (List ℕ)) (path : List ℕ) (d : Data) (ms : Members) → IsRead d → object_at known path d ≡ Ok ms → IsObject known d ms
object_was known path null ms r h = no_field path ms h
object_was known path (boolean b) ms r h = no_field path ms h
object_was known path (number n) ms r h = no_field path ms h
object_was known path (string s) ms r h = no_field path ms h
object_was known path (array ds) ms r h = no_field path ms h
object_was known path (object ns) ms r h =
    let k = known_was path (unknown_in known ns) ns ms h in
    subst (λ x. IsObject known (object ns) x) k.1 (record { whole = refl; only = k.0; rise = r.0; read = r.1 })

-- where each known key has its value, it is the object of these
pub object_is : (ks : List (List ℕ × Data)) (d : Data) (ms : Members) → IsObject (names ks) d ms → NamesRise None ks → AreFound ms ks
    → d ≡ object_of ks
object_is ks d ms o n f = o.whole ∙ ap object (members_are ks ms o.rise n o.only f)
