-- Writes one after another.
use Rattle.std.proofs.Common.{ℕ, ◌+◌, ◌-◌, List, [], ◌++◌, length, take, drop, Option, None, Some, refl, sym, ◌∙◌, ap, append_assoc, append-nil, take-add, take-append-drop, subst}
use Rattle.std.proofs.lemmas.List.{take_rest}
use Rattle.std.specs.Io.KnownBytes.{Keeps, Appends}
use Rattle.scene_streams.specs.Known.{AppendsPrefix}

-- two writes, the second of what the first left
after_more : (a b c : Option (List ℕ)) (n m : ℕ) (bytes : List ℕ) → Appends a b (take n bytes) → Appends b c (take m (drop n bytes)) → Appends a c (take (n + m) bytes)
after_more None b c n m bytes p q = tt
after_more (Some s) None c n m bytes p q = absurd p
after_more (Some s) (Some t) None n m bytes p q = absurd q
after_more (Some s) (Some t) (Some u) n m bytes p q = q ∙ (ap (λ z. z ++ take m (drop n bytes)) p ∙ (append_assoc s (take n bytes) (take m (drop n bytes)) ∙ ap (λ z. s ++ z) (sym (take-add n m bytes))))

-- a write of m bytes after n, both of bytes
pub write_more : (a b c : Option (List ℕ)) (n m : ℕ) (bytes : List ℕ) → Appends a b (take n bytes) → Appends b c (take m (take (length bytes - n) (drop n bytes))) → Appends a c (take (n + m) bytes)
write_more a b c n m bytes p q = after_more a b c n m bytes p (subst (λ (x : List ℕ). Appends b c (take m x)) (take_rest bytes n) q)

-- after a write that failed, what was written before stands
pub write_kept : (a b c : Option (List ℕ)) (n : ℕ) (bytes : List ℕ) → Appends a b (take n bytes) → Keeps b c → Appends a c (take n bytes)
write_kept None b c n bytes p q = tt
write_kept (Some s) None c n bytes p q = absurd p
write_kept (Some s) (Some t) None n bytes p q = absurd q
write_kept (Some s) (Some t) (Some u) n bytes p q = q ∙ p

-- what was written so far is a front of the bytes
pub front_written : (a b : Option (List ℕ)) (n : ℕ) (bytes : List ℕ) → Appends a b (take n bytes) → AppendsPrefix a b bytes
front_written None b n bytes p = tt
front_written (Some s) None n bytes p = absurd p
front_written (Some s) (Some t) n bytes p = (take n bytes, drop n bytes, sym (take-append-drop n bytes), p)

-- where nothing is written, a front without bytes is
pub none_written : (a : Option (List ℕ)) (bytes : List ℕ) → AppendsPrefix a a bytes
none_written None bytes = tt
none_written (Some s) bytes = ([], bytes, refl, sym (append-nil s))
