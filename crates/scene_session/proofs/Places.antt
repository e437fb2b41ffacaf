-- The pass of a session is taken out of eight, and put back at its place.
use Rattle.std.proofs.Common.{◌≡◌, ◌<◌, ◌-◌, ℕ, zero, suc, List, [], ◌∷◌, ◌++◌, map, length, take, slice_set, slice_index_or, swap, swap_remove, Bool, true, false, if◌then◌else◌, nat_eq, refl, sym, ap, subst, ◌∙◌, arith, inl, inr, eqb-true}
use Rattle.std.proofs.lemmas.List.{length-map, map-append}
use Rattle.std.specs.List.{All}
use Rattle.std.proofs.lemmas.List.Elements.{All-append, All-cons, All-nil, All-set, All-take, All-weaker}
use Rattle.scene_lock.specs.declared.knowledge.Step.{Step}
use Rattle.scene_lock.specs.Pass.{LockView, PassView, IsPassOf, all_seen, first_passes}
use Rattle.scene_session.specs.declared.entry.Entry.{Entry}
use Rattle.scene_session.specs.declared.state.Beginning.{Beginning}
use Rattle.scene_session.specs.AllPasses.{AreAll, IsAmong, passes_after}
use Rattle.scene_session.specs.Passes.{AreEight, eight_sessions, first_seen}

abbrev P : Type 0
P = PassView Entry Beginning

abbrev by : P → ℕ
by p = p.session

-- ---- lists and their images

module _ {X Y : Type 0} (f : X → Y) where
  map-slice_set : (xs : List X) (i : ℕ) (x : X) → map f (slice_set xs i x) ≡ slice_set (map f xs) i (f x)
  map-slice_set [] i x = refl
  map-slice_set (y ∷ xs) zero x = refl
  map-slice_set (y ∷ xs) (suc i) x = ap (λ l. f y ∷ l) (map-slice_set xs i x)

  map-slice_index_or : (xs : List X) (i : ℕ) (d : X) → f (slice_index_or xs i d) ≡ slice_index_or (map f xs) i (f d)
  map-slice_index_or [] i d = refl
  map-slice_index_or (y ∷ xs) zero d = refl
  map-slice_index_or (y ∷ xs) (suc i) d = map-slice_index_or xs i d

  map-take : (n : ℕ) (xs : List X) → map f (take n xs) ≡ take n (map f xs)
  map-take zero xs = refl
  map-take (suc n) [] = refl
  map-take (suc n) (y ∷ xs) = ap (λ l. f y ∷ l) (map-take n xs)

  map-swap_remove : (xs : List X) (i : ℕ) (d : X) → map f (swap_remove xs i d) ≡ swap_remove (map f xs) i (f d)
  map-swap_remove xs i d = let last = length xs - 1 in
      map-take last (slice_set xs i (slice_index_or xs last d))
      ∙ ap (take last) (map-slice_set xs i (slice_index_or xs last d) ∙ ap (slice_set (map f xs) i) (map-slice_index_or xs last d))
      ∙ ap (λ n. take (n - 1) (slice_set (map f xs) i (slice_index_or (map f xs) (n - 1) (f d)))) (sym (length-map xs f))

  map-swap : (xs : List X) (i j : ℕ) → map f (swap xs i j) ≡ swap (map f xs) i j
  map-swap [] i j = refl
  map-swap (d ∷ ys) i j = let xs = d ∷ ys in
      map-slice_set (slice_set xs i (slice_index_or xs j d)) j (slice_index_or xs i d)
      ∙ ap (λ l. slice_set l j (f (slice_index_or xs i d))) (map-slice_set xs i (slice_index_or xs j d))
      ∙ (λ k. slice_set (slice_set (map f xs) i (map-slice_index_or xs j d k)) j (map-slice_index_or xs i d k))

module _ {X : Type 0} (F : X → Type 0) where
  All-swap : (xs : List X) (i j : ℕ) → i < length xs → j < length xs → All F xs → All F (swap xs i j)
  All-swap [] i j a b all = all
  All-swap (d ∷ ys) i j a b all = let xs = d ∷ ys in
      All-set F (slice_set xs i (slice_index_or xs j d)) j (slice_index_or xs i d) (all i d a) (All-set F xs i (slice_index_or xs j d) (all j d b) all)

-- ---- eight numbers

-- the sessions with the last in the place of one, and that one last
abbrev moved : ℕ → List ℕ
moved s = swap_remove eight_sessions s s ++ s ∷ []

module _ (F : ℕ → Type 0) (a : F 0) (b : F 1) (c : F 2) (d : F 3) (e : F 4) (f : F 5) (g : F 6) (h : F 7) where
  each_of_eight : (s : ℕ) → s < 8 → F s
  each_of_eight zero lt = a
  each_of_eight (suc zero) lt = b
  each_of_eight (suc (suc zero)) lt = c
  each_of_eight (suc (suc (suc zero))) lt = d
  each_of_eight (suc (suc (suc (suc zero)))) lt = e
  each_of_eight (suc (suc (suc (suc (suc zero))))) lt = f
  each_of_eight (suc (suc (suc (suc (suc (suc zero)))))) lt = g
  each_of_eight (suc (suc (suc (suc (suc (suc (suc zero))))))) lt = h
  each_of_eight (suc (suc (suc (suc (suc (suc (suc (suc s)))))))) lt = absurd (omega (arith, lt))

-- a number is among these
abbrev has : List ℕ → ℕ → Bool
has [] t = false
has (n ∷ ns) t = if nat_eq n t then true else has ns t

moved_has : (s : ℕ) → s < 8 → (t : ℕ) → t < 8 → has (moved s) t ≡ true
moved_has = each_of_eight (λ s. (t : ℕ) → t < 8 → has (moved s) t ≡ true) (at 0 refl refl refl refl refl refl refl refl)
    (at 1 refl refl refl refl refl refl refl refl) (at 2 refl refl refl refl refl refl refl refl) (at 3 refl refl refl refl refl refl refl refl)
    (at 4 refl refl refl refl refl refl refl refl) (at 5 refl refl refl refl refl refl refl refl) (at 6 refl refl refl refl refl refl refl refl)
    (at 7 refl refl refl refl refl refl refl refl)
  where
    at : (s : ℕ) → has (moved s) 0 ≡ true → has (moved s) 1 ≡ true → has (moved s) 2 ≡ true → has (moved s) 3 ≡ true → has (moved s) 4 ≡ true
        → has (moved s) 5 ≡ true → has (moved s) 6 ≡ true → has (moved s) 7 ≡ true → (t : ℕ) → t < 8 → has (moved s) t ≡ true
    at s = each_of_eight (λ t. has (moved s) t ≡ true)

moved_long : (s : ℕ) → s < 8 → length (moved s) ≡ 8
moved_long = each_of_eight (λ s. length (moved s) ≡ 8) refl refl refl refl refl refl refl refl

moved_back : (s : ℕ) → s < 8 → swap (moved s) s 7 ≡ eight_sessions
moved_back = each_of_eight (λ s. swap (moved s) s 7 ≡ eight_sessions) refl refl refl refl refl refl refl refl

session_at : (s : ℕ) → s < 8 → (d : ℕ) → slice_index_or eight_sessions s d ≡ s
session_at = each_of_eight (λ s. (d : ℕ) → slice_index_or eight_sessions s d ≡ s) (λ d. refl) (λ d. refl) (λ d. refl) (λ d. refl) (λ d. refl) (λ d. refl) (λ d. refl) (λ d. refl)

-- a pass of a session that is among the sessions of these passes
among_first : (p : P) (ps : List P) (t : ℕ) (b : Bool) → nat_eq p.session t ≡ b → (if b then true else has (map by ps) t) ≡ true
    → (has (map by ps) t ≡ true → (q : P) × IsAmong ps q × (q.session ≡ t)) → (q : P) × IsAmong (p ∷ ps) q × (q.session ≡ t)
among_first p ps t true same is later = (p, inl refl, eqb-true p.session t same)
among_first p ps t false other is later = let found = later is in (found.0, inr found.1, found.2)

among_has : (ps : List P) (t : ℕ) → has (map by ps) t ≡ true → (q : P) × IsAmong ps q × (q.session ≡ t)
among_has [] t is = absurd (cc is)
among_has (p ∷ ps) t is = among_first p ps t (nat_eq p.session t) refl is (among_has ps t)

-- ---- passes

map-all_seen : (h : List Entry) (ps : List P) → map by (all_seen h ps) ≡ map by ps
map-all_seen h [] = refl
map-all_seen h (p ∷ ps) = ap (λ l. p.session ∷ l) (map-all_seen h ps)

all_seen-seen : (h : List Entry) (ps : List P) → All (λ (p : P). p.seen ≡ h) (all_seen h ps)
all_seen-seen h [] = All-nil (λ (p : P). p.seen ≡ h)
all_seen-seen h (p ∷ ps) = All-cons (λ (p : P). p.seen ≡ h) (record p { seen = h }) (all_seen h ps) refl (all_seen-seen h ps)

both : (F G : P → Type 0) (ps : List P) → All F ps → All G ps → All (λ p. F p × G p) ps
both F G ps f g k d lt = (f k d lt, g k d lt)

-- eight passes have seen what the first has seen
pub first_of : (lock : LockView Beginning) (h : List Entry) (ps : List P) → AreEight lock h ps → first_seen ps ≡ h
first_of lock h [] eight = absurd (cc eight.1)
first_of lock h (p ∷ ps) eight = (eight.2 0 p (omega arith)).1

-- the passes of a new lock of eight
pub new_eight : (lock : LockView Beginning) (ps : List P) → lock.terms.passes ≡ 8 → ps ≡ first_passes lock 8 → All (IsPassOf lock) ps → AreEight lock [] ps
new_eight lock ps n is of = (n, ap (map by) is, both (IsPassOf lock) (λ (p : P). p.seen ≡ []) ps of (subst (All (λ (p : P). p.seen ≡ [])) (sym is) (none_seen 8)))
  where
    none_seen : (n : ℕ) → All (λ (p : P). p.seen ≡ []) (first_passes lock n)
    none_seen zero = All-nil (λ (p : P). p.seen ≡ [])
    none_seen (suc n) = All-append (λ (p : P). p.seen ≡ []) (first_passes lock n) _ (none_seen n) (All-cons (λ (p : P). p.seen ≡ []) _ [] refl (All-nil (λ (p : P). p.seen ≡ [])))

module _ (lock : LockView Beginning) (h : List Entry) (ps : List P) (eight : AreEight lock h ps) where
  pub eight_long : length ps ≡ 8
  eight_long = sym (length-map ps by) ∙ ap length eight.1

  module _ (s : ℕ) (small : s < 8) (pass : P) (others : List P) (is : pass ≡ slice_index_or ps s pass) (left : others ≡ swap_remove ps s pass) where
    abbrev F : P → Type 0
    F p = IsPassOf lock p × (p.seen ≡ h)

    pub taken : F pass
    taken = subst F (sym is) (eight.2 s pass (omega (arith, eight_long, small)))

    pub others_left : All F others
    others_left = let last = length ps - 1 in subst (All F) (sym left) (All-take F last (slice_set ps s (slice_index_or ps last pass))
        (All-set F ps s (slice_index_or ps last pass) (eight.2 last pass (omega (arith, eight_long))) eight.2))

    pub taken_session : pass.session ≡ s
    taken_session = ap by is ∙ map-slice_index_or by ps s pass ∙ ap (λ l. slice_index_or l s pass.session) eight.1 ∙ session_at s small pass.session

    moved_sessions : map by (others ++ pass ∷ []) ≡ moved s
    moved_sessions = map-append by others (pass ∷ []) ∙ ap (λ l. map by l ++ pass.session ∷ []) left ∙ ap (λ l. l ++ pass.session ∷ []) (map-swap_remove by ps s pass)
        ∙ ap (λ l. swap_remove l s pass.session ++ pass.session ∷ []) eight.1 ∙ ap (λ n. swap_remove eight_sessions s n ++ n ∷ []) taken_session

    -- they are those that a call in hand asks for
    pub lock_of : IsPassOf lock pass × All (IsPassOf lock) others
    lock_of = (taken.0, All-weaker F (IsPassOf lock) (λ p f. f.0) others others_left)

    pub together : All (λ (q : P). q.seen ≡ pass.seen) others
    together = All-weaker F (λ (q : P). q.seen ≡ pass.seen) (λ p f. f.1 ∙ sym taken.1) others others_left

    pub are_all : AreAll lock.terms.passes (others ++ pass ∷ [])
    are_all = subst (λ n. AreAll n (others ++ pass ∷ [])) (sym eight.0)
        (λ t lt. among_has (others ++ pass ∷ []) t (ap (λ l. has l t) moved_sessions ∙ moved_has s small t lt))

    module _ (g : List Entry) (steps : List Step) (after : List P) (given : after ≡ passes_after g steps others pass) where
      sessions_after : map by after ≡ moved s
      sessions_after = ap (map by) given ∙ map-all_seen g (others ++ record pass { steps = steps } ∷ []) ∙ map-append by others (record pass { steps = steps } ∷ [])
          ∙ sym (map-append by others (pass ∷ [])) ∙ moved_sessions

      pub after_long : length after ≡ 8
      after_long = sym (length-map after by) ∙ ap length sessions_after ∙ moved_long s small

      -- and after a call each stands at its place again
      pub put_back : All (IsPassOf lock) after → AreEight lock g (swap after s 7)
      put_back of = (
        eight.0,
        map-swap by after s 7 ∙ ap (λ l. swap l s 7) sessions_after ∙ moved_back s small,
        All-swap (λ (p : P). IsPassOf lock p × (p.seen ≡ g)) after s 7 (omega (arith, after_long, small)) (omega (arith, after_long))
            (both (IsPassOf lock) (λ (p : P). p.seen ≡ g) after of (subst (All (λ (p : P). p.seen ≡ g)) (sym given) (all_seen-seen g (others ++ record pass { steps = steps } ∷ [])))),
      )
