use Rattle.std.proofs.Common.{◌≡◌, ◌++◌, ◌∷◌, ◌∙◌, [], List, ℕ, map, sym, refl, Ok, rules}
use Rattle.std.proofs.lemmas.Iterator.{YieldsList-from_slice, YieldsList-from_zip}
use Rattle.std.proofs.lemmas.Iterator.Adapters.{YieldsList-from_vec, fact_from_extend}
use Rattle.std.proofs.lemmas.Iterator.Consumers.{YieldsList-from_copied, YieldsList-at}
use Rattle.scene_kinds.specs.declared.cell.Cell.{Cell}
use Rattle.scene_file.proofs.read_rows.with_kinds.Goals as goal

-- pairs made of their halves
same_pair : (p : ℕ × Cell) → (p.0, p.1) ≡ p
same_pair (kind, cell) = refl

same_pairs : (ps : List (ℕ × Cell)) → map (λ (p : ℕ × Cell). (p.0, p.1)) ps ≡ ps
same_pairs [] = refl
same_pairs (p ∷ ps) = λ i. same_pair p i ∷ same_pairs ps i

pub returns : goal.returns
returns c =
    let kinds = YieldsList-from_copied {s = c.zip.result.a} (YieldsList-from_slice c.args.kinds.now (search rules)) in
    let cells = YieldsList-from_vec {s = c.zip.result.b} c.args.cells.items (search rules) (search rules) in
    let road = YieldsList-from_zip {s = c.zip.result} kinds cells in
    fact_from_extend {E = ℕ} (λ (p : ℕ × Cell). (p.0, p.1)) (Ok tt) c.in_ok-extend.ensures.ran (λ it b. YieldsList-at b road)
    (λ xs e h. h.0 ∙ (λ i. c.in_ok-row.ensures.items i ++ (sym (same_pairs xs) ∙ e) i))
