-- A resource that is set, and the tick, keep a valid world valid and come back.
use Rattle.std.proofs.Common.{◌≡◌, ℕ, cond, List, refl, ap, subst, sym, ◌∙◌, Option}
use Rattle.scene_kinds.specs.declared.cell.Cell.{Cell}
use Rattle.scene_kinds.proofs.Maps.{ties_itself}
use Rattle.scene_resources.specs.Resources.{name_cmp_total, cell_of, restore_of}
use Rattle.scene_resources.proofs.ResourceLaws.{restored_cells, restore_restores}
use Rattle.scene_model.specs.World.{World}
use Rattle.scene_model.specs.Commands.{with_resources}
use Rattle.scene_model.specs.Valid.{IsValid}
use Rattle.scene_model.specs.Raw.{set_resource, set_tick}
use Rattle.scene_model.specs.RawLaws.{ResourcesComeBack, TicksComeBack}
use Rattle.scene_model.proofs.CanParts.{IsGoodResource, CanSetResource, CanSetTick, set_resource as resource_decides, set_tick as tick_decides, tested}
use Rattle.scene_model.proofs.Options.{in_some, if_some}
use Rattle.scene_model.proofs.ResourceKeeps.{restored_valid}

-- ---- resources

set_resource_keeps : (w : World) (name : List ℕ) (before after : Option Cell) → IsValid w → CanSetResource w name before after → IsValid (set_resource w name after)
set_resource_keeps w name before after v can = restored_valid w name after v (λ cell e.
    let good = in_some (IsGoodResource w) after cell can.good e in
    record { good = can.named; in_range = good.in_range; timely = good.timely })

set_resource_can_come_back : (w : World) (name : List ℕ) (before after : Option Cell) → IsValid w → CanSetResource w name before after → CanSetResource (set_resource w name after) name after before
set_resource_can_come_back w name before after v can = record {
  named = can.named;
  now = restored_cells w.resources name after name ∙ ap (λ b. cond b after (cell_of w.resources name)) (ties_itself name_cmp_total name);
  good = if_some (IsGoodResource (set_resource w name after)) before (λ cell e.
      let was = v.resources name cell (can.now ∙ e) in
      record { in_range = was.in_range; timely = was.timely });
}

set_resource_comes_back : (w : World) (name : List ℕ) (before after : Option Cell) → CanSetResource w name before after → set_resource (set_resource w name after) name before ≡ w
set_resource_comes_back w name before after can =
    ap (with_resources w) (ap (restore_of (restore_of w.resources name after) name) (sym can.now) ∙ restore_restores w.resources name after)

pub resources_come_back : ResourcesComeBack
resources_come_back name before after = tested (λ w. resource_decides w name before after) (λ w. resource_decides w name after before) (record {
  keeps = λ w v can. set_resource_keeps w name before after v can;
  can_come_back = λ w v can. set_resource_can_come_back w name before after v can;
  comes_back = λ w v can. set_resource_comes_back w name before after can;
})

-- ---- the tick

set_tick_keeps : (w : World) (tick : ℕ) → IsValid w → CanSetTick w tick → IsValid (set_tick w tick)
set_tick_keeps w tick v can = record {
  schema = v.schema;
  slots = v.slots;
  tick = can.low;
  rows = record {
    each = λ h r at. let old = v.rows.each h r at in record { current = old.current; busy = old.busy; fits = old.fits; timely = can.rows h r at };
    once = v.rows.once;
  };
  accounted = v.accounted;
  links = v.links;
  resources = λ name cell at. let old = v.resources name cell at in record { good = old.good; in_range = old.in_range; timely = can.resources name cell at };
}

set_tick_can_come_back : (w : World) (tick : ℕ) → IsValid w → CanSetTick (set_tick w tick) w.tick
set_tick_can_come_back w tick v = record {
  low = v.tick;
  rows = λ h r at. (v.rows.each h r at).timely;
  resources = λ name cell at. (v.resources name cell at).timely;
}

pub ticks_come_back : TicksComeBack
ticks_come_back before after = record {
  keeps = λ w v can. set_tick_keeps w after v ((tick_decides w after).0 can.1);
  can_come_back = λ w v can. (refl, (tick_decides (set_tick w after) before).1 (subst (CanSetTick (set_tick w after)) can.0 (set_tick_can_come_back w after v)));
  comes_back = λ w v can. ap (set_tick w) (sym can.0);
}
