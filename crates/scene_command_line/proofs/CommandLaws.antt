-- The names of the commands.
use Rattle.std.proofs.Common.{◌≡◌, true, false, inl, inr, subst, sym, codes}
use Rattle.std.specs.Str.{bytes_eq}
use Rattle.std.proofs.lemmas.Bool.{or_cases, or_parts}
use Rattle.std.proofs.lemmas.Slice.Eq.{bytes_eq-Decides}
use Rattle.clap.specs.Words.{Text}
use Rattle.scene_command_line.specs.Plain.{is_command, is_file_command}

-- what holds of this name holds of a word that is it
pub named : (P : Text → Type 0) (word name : Text) → P name → bytes_eq word name ≡ true → P word
named P word name holds same = subst P (sym ((bytes_eq-Decides word name).0 same)) holds

-- what holds of the three commands that take a file holds of each word that is one of them
pub by_file_command : (P : Text → Type 0) (word : Text) → P (codes "show") → P (codes "log") → P (codes "compact")
    → is_file_command word ≡ true → P word
by_file_command P word show log compact one = elim (or_cases (bytes_eq word (codes "show")) _ one) [
  | inl same ↦ named P word (codes "show") show same
  | inr other ↦ elim (or_cases (bytes_eq word (codes "log")) _ other) [
    | inl same ↦ named P word (codes "log") log same
    | inr same ↦ named P word (codes "compact") compact same
  ]
]

-- what holds of the ten commands holds of each word that is one of them
pub by_command : (P : Text → Type 0) (word : Text) → P (codes "run") → P (codes "shell") → P (codes "check")
    → P (codes "print") → P (codes "backup") → P (codes "restore") → P (codes "dump")
    → P (codes "show") → P (codes "log") → P (codes "compact") → is_command word ≡ true → P word
by_command P word run shell check print backup restore dump show log compact one = elim (or_cases (bytes_eq word (codes "run")) _ one) [
  | inl same ↦ named P word (codes "run") run same
  | inr other ↦ elim (or_cases (bytes_eq word (codes "shell")) _ other) [
    | inl same ↦ named P word (codes "shell") shell same
    | inr other ↦ elim (or_cases (bytes_eq word (codes "check")) _ other) [
      | inl same ↦ named P word (codes "check") check same
      | inr other ↦ elim (or_cases (bytes_eq word (codes "print")) _ other) [
        | inl same ↦ named P word (codes "print") print same
        | inr other ↦ elim (or_cases (bytes_eq word (codes "backup")) _ other) [
          | inl same ↦ named P word (codes "backup") backup same
          | inr other ↦ elim (or_cases (bytes_eq word (codes "restore")) _ other) [
            | inl same ↦ named P word (codes "restore") restore same
            | inr other ↦ elim (or_cases (bytes_eq word (codes "dump")) _ other) [
              | inl same ↦ named P word (codes "dump") dump same
              | inr other ↦ by_file_command P word show log compact other
            ]
          ]
        ]
      ]
    ]
  ]
]

-- the word is none of the names
pub record IsNone (word : Text) : Type 0 where
  pub run : bytes_eq word (codes "run") ≡ false
  pub shell : bytes_eq word (codes "shell") ≡ false
  pub check : bytes_eq word (codes "check") ≡ false
  pub print : bytes_eq word (codes "print") ≡ false
  pub backup : bytes_eq word (codes "backup") ≡ false
  pub restore : bytes_eq word (codes "restore") ≡ false
  pub dump : bytes_eq word (codes "dump") ≡ false
  pub show : bytes_eq word (codes "show") ≡ false
  pub log : bytes_eq word (codes "log") ≡ false
  pub compact : bytes_eq word (codes "compact") ≡ false

pub is_none : (word : Text) → is_command word ≡ false → IsNone word
is_none word none =
    let first = or_parts (bytes_eq word (codes "run")) _ none in
    let second = or_parts (bytes_eq word (codes "shell")) _ first.1 in
    let third = or_parts (bytes_eq word (codes "check")) _ second.1 in
    let fourth = or_parts (bytes_eq word (codes "print")) _ third.1 in
    let fifth = or_parts (bytes_eq word (codes "backup")) _ fourth.1 in
    let sixth = or_parts (bytes_eq word (codes "restore")) _ fifth.1 in
    let seventh = or_parts (bytes_eq word (codes "dump")) _ sixth.1 in
    let eighth = or_parts (bytes_eq word (codes "show")) _ seventh.1 in
    let last = or_parts (bytes_eq word (codes "log")) _ eighth.1 in
    record {
      run = first.0;
      shell = second.0;
      check = third.0;
      print = fourth.0;
      backup = fifth.0;
      restore = sixth.0;
      dump = seventh.0;
      show = eighth.0;
      log = last.0;
      compact = last.1;
    }
