-- What a command is with one argument more.
use Rattle.std.proofs.Common.{◌≡◌, ◌∙◌, ◌||◌, false, ap, ap₂, [], ◌∷◌, ◌++◌}
use Rattle.clap.specs.Built.{AddsArg}
use Rattle.clap.specs.Simple.{App, Shape, shape_of}
use Rattle.clap.specs.Walk.{Rule, rule_of}
use Rattle.clap.specs.declared.builder.arg.Arg.{Arg}
use Rattle.clap.specs.declared.builder.command.Command.{Command}
use Rattle.clap.specs.declared.builder.command.Command.TheViews.{out-Command as fields_of}

module _ (old new : Command) (a : Arg) (adds : AddsArg old a new) (local : a.global ≡ false) where
  pub with_arg : (s : Shape) (r : Rule) → shape_of old ≡ s → rule_of a ≡ r
      → shape_of new ≡ record s { rules = s.rules ++ r ∷ [] }
  with_arg s r is rule = ap (λ (x : App). x.top) (adds.shape local)
      ∙ ap₂ (λ (t : Shape) (q : Rule). record t { rules = t.rules ++ q ∷ [] }) is rule

  pub without_globals : (fields_of old).has_globals ≡ false → (fields_of new).has_globals ≡ false
  without_globals none = adds.globals ∙ ap₂ (λ x y. x || y) none local
