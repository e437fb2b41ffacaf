use Rattle.std.proofs.Common.{◌≡◌, arith, subst}
use Rattle.scene_kinds.proofs.Elements.{pushed}
use Rattle.scene_print.specs.KindTexts.{IsTextOf}
use Rattle.scene_print.proofs.kind_texts.KindTexts.all.Goals as goal

pub kinds-preserved : goal.kinds-preserved
kinds-preserved c =
    let kinds = c.args.schema.now in
    let last = c.kinds.kind in
    record {
      count = omega (arith, c.in_ok-push.ensures.len, c.push.new.self.ok);
      texts = λ kind text there.
          pushed (IsTextOf kinds kind text) c.kinds.texts.items c.in_ok-new.field-0 kind text (rw c.in_ok-push.ensures.items at there) (c.kinds.invariant.texts kind text) (λ place same.
          let here : last ≡ kind = omega arith in
          subst (λ k. IsTextOf kinds k text) here (subst (IsTextOf kinds last) same c.in_ok-new.ensures));
    }
