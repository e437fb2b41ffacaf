use Rattle.std.proofs.Common.{◌≡◌, length, arith, sym, ap, ◌∙◌}
use Rattle.std.proofs.lemmas.List.{length-replicate}
use Rattle.scene_session.specs.Earlier.{call_before}
use Rattle.scene_session.specs.History.{replay}
use Rattle.scene_session.specs.Owner.{OwnerState, next, whole_at}
use Rattle.scene_session.specs.Resumed.{whole_rewound}
use Rattle.scene_session.specs.Whole.{whole_of}
use Rattle.scene_session.proofs.Earlier.{all_leave, resumed}
use Rattle.scene_session.proofs.lone_owner.LoneOwner.resume.Goals as goal

pub invariant_of-self : goal.invariant_of-self
invariant_of-self c =
    let n = c.args.calls in
    let w = whole_of c.of.result.value in
    let size : length c.of_earlier-self-inside.result.calls ≡ n = ap length c.of_earlier-self-inside.ensures ∙ length-replicate n (call_before w) in (
      ap whole_of (sym c.of.ensures) ∙ sym (all_leave n w) ∙ ap (replay next w) (sym c.of_earlier-self-inside.ensures),
      omega (arith, size, c.requires, ap (λ (h : OwnerState). h.limit) c.self.view_is),
    )

pub returns : goal.returns
returns c =
    let before = c.self.invariant.0 ∙ ap (λ (h : OwnerState). whole_at h) c.self.view_is in
    let now = ap whole_of (c.of.ensures ∙ c.set_rewinds.ensures) ∙ ap (whole_rewound c.args.rewinds) before in
    resumed c.args.rewinds c.args.calls c.self.inside.limit c.self.inside.session c.args.self.now (whole_of c.of.result.value)
    c.of_earlier-self-inside.result.calls now c.of_earlier-self-inside.ensures (ap (λ (h : OwnerState). h.limit) c.self.view_is)
    (ap (λ (h : OwnerState). h.session) c.self.view_is)
