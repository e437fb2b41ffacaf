-- A shell on a store, by what was done on the way.
use Rattle.std.proofs.Common.{◌≡◌, ℕ, List, Option, Result, Ok, Err, refl, sym, subst}
use Rattle.std.specs.Str.Lines.{lines}
use Rattle.scene_interpreter.specs.Interpreter.{Interpreter}
use Rattle.scene_interpreter.proofs.Apart.{apart_sym}
use Rattle.scene_streams.specs.Keep.{StaysKept}
use Rattle.scene_shell.specs.declared.kept_fault.KeptFault.{KeptFault}
use Rattle.scene_kept_lines.specs.declared.line_fault.KeptLineFault.{KeptLineFault}
use Rattle.scene_kept_lines.specs.declared.line_fault.KeptLineFault.TheVariants.{Bad, Halted, NoMemory, Unwritten}
use Rattle.scene_shell.specs.declared.store_writer.StoreWriter.{StoreWriter}
use Rattle.scene_kept_lines.specs.Checkpoints.{Starts, kept_interpreter}
use Rattle.scene_shell.specs.Kept.{Beginning, EndsAs, Meaning, both_mean}
use Rattle.scene_kept_lines.specs.Replayed.{StopsBy, fault_behind}
use Rattle.scene_shell.specs.Shell.{interpreter_after}
use Rattle.scene_kept_lines.specs.declared.store_shell.StoreShellFault.{StoreShellFault}
use Rattle.scene_kept_lines.specs.declared.store_shell.StoreShellFault.TheVariants.{Unopened, Lines, Shell, Unclosed}
use Rattle.scene_kept_lines.proofs.Apart.{ends_apart}
use Rattle.scene_kept_lines.proofs.Honest.{honest_alike}
use Rattle.scene_kept_lines.specs.StoreShell.{EndsStored, GoesOn, HasGoneOn, IsBegun, ArePlayed, IsPlayedFrom, IsRead, IsStopped, StoreBeginning, StoreMeaning, behind_store}

-- ---- lines that were played

module _ (calls : ℕ) (all : List (List ℕ)) (start : Interpreter) (skipped : ℕ) (rest : List (List ℕ))
    (starts : Starts (kept_interpreter calls) all start skipped rest) where
  abbrev from : IsPlayedFrom calls all
  from = record { start = start; skipped = skipped; rest = rest; starts = starts }

  pub played_stopped : {A : Type 0} (interpreter : A → Interpreter) (left : Interpreter) (stop told : KeptLineFault) → StopsBy start left rest stop
      → told ≡ fault_behind skipped stop → ArePlayed {A = A} calls all interpreter (Err told)
  played_stopped interpreter left (Bad n reason) told stopped is = subst (λ f. ArePlayed calls all interpreter (Err f)) (sym is) (from, left, Bad n reason, stopped, refl)
  played_stopped interpreter left (Halted n halt) told stopped is = subst (λ f. ArePlayed calls all interpreter (Err f)) (sym is) (from, left, Halted n halt, stopped, refl)
  played_stopped interpreter left NoMemory told stopped is = absurd stopped
  played_stopped interpreter left Unwritten told stopped is = absurd stopped

-- ---- a store of which they are

module _ {S W : Type 0} (m : StoreMeaning S W) (read : S) (text : List ℕ) (calls : ℕ) (is_read : IsRead m read text calls) where
  -- with more that changes nothing of what is kept
  pub read_still : (noted : S) → StaysKept m.keeps read noted → IsRead m noted text calls
  read_still noted stays = record {
    opened = is_read.opened;
    is_opened = is_read.is_opened;
    same = λ t kept. stays t (is_read.same t kept);
    kept = stays text is_read.kept;
    is_played = is_read.is_played;
  }

  abbrev begun_from : IsPlayedFrom calls (lines text) → IsBegun m
  begun_from from = record {
    read = read;
    text = text;
    calls = calls;
    is_read = is_read;
    start = from.start;
    skipped = from.skipped;
    rest = from.rest;
    starts = from.starts;
  }

  -- they weren't played
  pub stopped : {A : Type 0} (interpreter : A → Interpreter) (fault : KeptLineFault) → ArePlayed {A = A} calls (lines text) interpreter (Err fault) → IsStopped m fault
  stopped interpreter (Bad n reason) so =
      record { begun = begun_from so.0; left = so.1; stop = so.2; stopped = so.3; told = so.4 }
  stopped interpreter (Halted n halt) so =
      record { begun = begun_from so.0; left = so.1; stop = so.2; stopped = so.3; told = so.4 }
  stopped interpreter NoMemory so = tt
  stopped interpreter Unwritten so =
      record { begun = begun_from so.0; left = so.1; stop = so.2; stopped = so.3; told = so.4 }

  -- they were, and a shell went on behind them
  pub gone_on : {A F : Type 0} (interpreter : A → Interpreter) (a : A) (shell : StoreBeginning W) (now : StoreWriter S W) (rest : Option (List ℕ))
      (r : Result ℕ (KeptFault F)) → ArePlayed calls (lines text) interpreter (Ok a)
      → EndsAs (both_mean m.keeps m.contents) (behind_store shell read (interpreter a)) now rest r
      → HasGoneOn m shell now.store now.writer rest r
  gone_on interpreter a shell now rest r so ends =
      let kept = both_mean m.keeps m.contents in
      let there = interpreter_after so.0.start so.0.rest in
      let all = interpreter_after (kept_interpreter calls) (lines text) in
      let ended = subst (λ q. EndsAs kept (behind_store shell read q) now rest r) so.2 ends in
      record {
        begun = begun_from so.0;
        good = so.1;
        ends = ended;
        ends_as_all = λ honest.
            let alike = honest_alike (kept_interpreter calls) (lines text) so.0.start so.0.rest so.0.skipped so.0.starts honest in
            ends_apart kept (behind_store shell read there) now rest r ended all (apart_sym all there alike);
      }

-- the same of a store as its lines were read, with more that changes nothing of what is kept
pub went_on : {S W : Type 0} (m : StoreMeaning S W) (opened read noted : S) (text : List ℕ) (calls : ℕ)
    → m.is_store opened → StaysKept m.keeps opened read → m.keeps read text → m.plays text calls → StaysKept m.keeps read noted
    → {A F : Type 0} (interpreter : A → Interpreter) (a : A) (shell : StoreBeginning W) (now : StoreWriter S W) (rest : Option (List ℕ))
    (r : Result ℕ (KeptFault F)) → ArePlayed calls (lines text) interpreter (Ok a)
    → EndsAs (both_mean m.keeps m.contents) (behind_store shell noted (interpreter a)) now rest r
    → HasGoneOn m shell now.store now.writer rest r
went_on m opened read noted text calls is_opened same kept plays stays interpreter a shell now rest r =
    gone_on m noted text calls
    (read_still m read text calls (record { opened = opened; is_opened = is_opened; same = same; kept = kept; is_played = plays }) noted stays)
    interpreter a shell now rest r

-- ---- how a shell ends

module _ {S W : Type 0} (m : StoreMeaning S W) (shell : StoreBeginning W) (rest : Option (List ℕ)) (count : ℕ) where
  abbrev both : Meaning (StoreWriter S W)
  both = both_mean m.keeps m.contents

  -- it has ended so where more was kept that changes nothing
  ends_noted : (F : Type 0) (begins : Beginning (StoreWriter S W)) (now : StoreWriter S W) (noted : S) → StaysKept m.keeps now.store noted
      → EndsAs both {F = F} begins now rest (Ok count) → EndsAs both {F = F} begins (record now { store = noted }) rest (Ok count)
  ends_noted F begins now noted stays so =
      (so.0, so.1, (so.2.0, λ text kept. stays _ (so.2.1 text kept)), so.3)

  pub gone_on_noted : {F : Type 0} (now : StoreWriter S W) (noted : S) → StaysKept m.keeps now.store noted
      → HasGoneOn m {F = F} shell now.store now.writer rest (Ok count) → HasGoneOn m {F = F} shell noted now.writer rest (Ok count)
  gone_on_noted {F = F} now noted stays so = record {
    begun = so.begun;
    good = so.good;
    ends = ends_noted F _ now noted stays so.ends;
    ends_as_all = λ honest. ends_noted F _ now noted stays (so.ends_as_all honest);
  }

pub ended_so : {S W F : Type 0} (m : StoreMeaning S W) (closes : S → Type 0) (shell : StoreBeginning W) (now : StoreWriter S W) (rest : Option (List ℕ))
    (fault : StoreShellFault F) → GoesOn m shell now rest (Err fault) → EndsStored m closes shell now.writer rest (Err fault)
ended_so m closes shell now rest (Unopened fault) so = so
ended_so m closes shell now rest (Lines fault) so = so
ended_so m closes shell now rest (Shell fault) so = (now.store, so)
ended_so m closes shell now rest (Unclosed fault) so = so
