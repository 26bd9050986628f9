-- What `--version` prints.
use Rattle.std.specs.Prelude.{ℕ, List, ◌++◌, codes}
use Rattle.clap.specs.Words.{IsAmong}
use Rattle.clap.specs.declared.error.kind.ErrorKind.TheVariants.{DisplayVersion}
use Rattle.cli.specs.Command.{refusal_of}

-- the program's name, its version and the format of its disks
abbrev pub version_text : List ℕ → List ℕ
version_text name = ((name ++ codes " ") ++ codes "0.4.0 (disks of format 2)") ++ codes "\n"

-- the words ask the program of this name for its version
abbrev pub AsksVersion : List ℕ → List (List ℕ) → Type 0
AsksVersion name words = IsAmong DisplayVersion (refusal_of name words)
