use Rattle.std.proofs.Common.{Ok, Err, refl, subst}
use Rattle.std.specs.Io.Buffered.{reader_remaining}
use Rattle.std.specs.Str.Lines.{lines}
use Rattle.scene_interpreter.specs.Interpreter.{interpreter_of}
use Rattle.scene_kept_lines.specs.declared.played_lines.PlayedLines.{PlayedLines}
use Rattle.scene_kept_lines.specs.StoreShell.{ArePlayed, IsRead, StoreBeginning, StoreMeaning}
use Rattle.scene_kept_lines.proofs.StoreLaws.{gone_on_noted, stopped, went_on}
use Rattle.scene_kept_lines.proofs.store_shell.go_on.Goals as goal

pub returns-in-Err-play_lines : goal.returns-in-Err-play_lines
returns-in-Err-play_lines g c =
    let m : StoreMeaning g.row.S.Denot g.row.W.Denot =
    record { is_store = g.S.KeptLines.is_store; keeps = g.S.Keep.keeps; plays = g.S.KeptLines.plays; contents = g.W.Write.contents } in
    let is_read : IsRead m c.lines.new.self c.in-Ok.found.text.items c.in-Ok.found.calls =
    record {
      opened = c.args.both.now.store;
      is_opened = c.requires;
      same = c.in-Ok.ensures.same;
      kept = c.in-Ok.ensures.whole c.requires;
      is_played = c.in-Ok.ensures.calls;
    } in (
      (refl, refl),
      stopped m c.lines.new.self c.in-Ok.found.text.items c.in-Ok.found.calls is_read {A = PlayedLines} (λ p. interpreter_of p.interpreter) c.in-Err-play_lines.fault
          (subst (λ t. ArePlayed {A = PlayedLines} c.in-Ok.found.calls (lines t) (λ p. interpreter_of p.interpreter) (Err c.in-Err-play_lines.fault)) c.as_slice.ensures.value c.in-Err-play_lines.ensures),
    )

pub returns-in-Err-run_kept_shell : goal.returns-in-Err-run_kept_shell
returns-in-Err-run_kept_shell g c =
    let script = reader_remaining g.R.Read.remaining c.args.reader.now in
    let rest = reader_remaining g.R.Read.remaining c.run_kept_shell.new.reader in
    let m : StoreMeaning g.row.S.Denot g.row.W.Denot =
    record { is_store = g.S.KeptLines.is_store; keeps = g.S.Keep.keeps; plays = g.S.KeptLines.plays; contents = g.W.Write.contents } in
    let shell : StoreBeginning g.row.W.Denot = record { style = c.args.style; start = c.args.both.now.writer; script = script } in
    went_on m c.args.both.now.store c.lines.new.self c.end_opening.new.store c.in-Ok.found.text.items c.in-Ok.found.calls
    c.requires c.in-Ok.ensures.same (c.in-Ok.ensures.whole c.requires) c.in-Ok.ensures.calls c.in-Ok-end_opening.ensures
    {A = PlayedLines} (λ p. interpreter_of p.interpreter) c.in-Ok-play_lines.played shell c.run_kept_shell.new.keeper rest (Err c.in-Err-run_kept_shell.fault)
    (subst (λ t. ArePlayed {A = PlayedLines} c.in-Ok.found.calls (lines t) (λ p. interpreter_of p.interpreter) (Ok c.in-Ok-play_lines.played)) c.as_slice.ensures.value c.in-Ok-play_lines.ensures)
    c.in-Err-run_kept_shell.ensures

pub returns-in-Ok-end_shell : goal.returns-in-Ok-end_shell
returns-in-Ok-end_shell g c =
    let script = reader_remaining g.R.Read.remaining c.args.reader.now in
    let rest = reader_remaining g.R.Read.remaining c.run_kept_shell.new.reader in
    let m : StoreMeaning g.row.S.Denot g.row.W.Denot =
    record { is_store = g.S.KeptLines.is_store; keeps = g.S.Keep.keeps; plays = g.S.KeptLines.plays; contents = g.W.Write.contents } in
    let shell : StoreBeginning g.row.W.Denot = record { style = c.args.style; start = c.args.both.now.writer; script = script } in
    gone_on_noted m shell rest c.in-Ok-run_kept_shell.bad_lines c.run_kept_shell.new.keeper c.end_shell.new.store c.in-Ok-end_shell.ensures
    (
    went_on m c.args.both.now.store c.lines.new.self c.end_opening.new.store c.in-Ok.found.text.items c.in-Ok.found.calls
    c.requires c.in-Ok.ensures.same (c.in-Ok.ensures.whole c.requires) c.in-Ok.ensures.calls c.in-Ok-end_opening.ensures
    {A = PlayedLines} (λ p. interpreter_of p.interpreter) c.in-Ok-play_lines.played shell c.run_kept_shell.new.keeper rest (Ok c.in-Ok-run_kept_shell.bad_lines)
    (subst (λ t. ArePlayed {A = PlayedLines} c.in-Ok.found.calls (lines t) (λ p. interpreter_of p.interpreter) (Ok c.in-Ok-play_lines.played)) c.as_slice.ensures.value c.in-Ok-play_lines.ensures)
    c.in-Ok-run_kept_shell.ensures
    )

pub returns : goal.returns
returns g c =
    let script = reader_remaining g.R.Read.remaining c.args.reader.now in
    let rest = reader_remaining g.R.Read.remaining c.run_kept_shell.new.reader in
    let m : StoreMeaning g.row.S.Denot g.row.W.Denot =
    record { is_store = g.S.KeptLines.is_store; keeps = g.S.Keep.keeps; plays = g.S.KeptLines.plays; contents = g.W.Write.contents } in
    let shell : StoreBeginning g.row.W.Denot = record { style = c.args.style; start = c.args.both.now.writer; script = script } in (
      c.run_kept_shell.new.keeper.store,
      c.in-Ok-run_kept_shell.bad_lines,
      went_on m c.args.both.now.store c.lines.new.self c.end_opening.new.store c.in-Ok.found.text.items c.in-Ok.found.calls
          c.requires c.in-Ok.ensures.same (c.in-Ok.ensures.whole c.requires) c.in-Ok.ensures.calls c.in-Ok-end_opening.ensures
          {A = PlayedLines} (λ p. interpreter_of p.interpreter) c.in-Ok-play_lines.played shell c.run_kept_shell.new.keeper rest (Ok c.in-Ok-run_kept_shell.bad_lines)
          (subst (λ t. ArePlayed {A = PlayedLines} c.in-Ok.found.calls (lines t) (λ p. interpreter_of p.interpreter) (Ok c.in-Ok-play_lines.played)) c.as_slice.ensures.value c.in-Ok-play_lines.ensures)
          c.in-Ok-run_kept_shell.ensures,
    )
