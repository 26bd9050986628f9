-- The command line of a program, in the terms of clap: its commands, and
-- the meaning of a parsed command.
use Rattle.std.specs.Prelude.{◌≡◌, ◌⊎◌, ◌≤◌, ◌==◌, ◌&&◌, ◌||◌, ℕ, List, [], ◌∷◌, Option, Some, None}
use Rattle.std.specs.Prelude.{Bool, true, false, not, nat_le, nat_lt, is_some, codes, option_map}
use Rattle.std.specs.Prelude.{unwrap_or, option_and_then, if◌then◌else◌, IfSome, IsOkAnd, Result, ⊤}
use Rattle.std.specs.List.{after_first, before_first, list_any}
use Rattle.std.specs.Str.{bytes_eq}
use Rattle.std.specs.Str.Parse.{digits_value, without_leading_plus}
use Rattle.clap.specs.Kinds.{or_else}
use Rattle.clap.specs.declared.builder.arg.Arg.{Arg}
use Rattle.clap.specs.declared.builder.command.Command.{Command as ClapCommand}
use Rattle.clap.specs.declared.builder.command.Command.TheViews.{out-Command}
use Rattle.clap.specs.Words.{AddsArg, AddsSubcommand, App, Kinds, Row, Rule, Text, app_of}
use Rattle.clap.specs.Words.{fault_of, first_of, new_app, new_rule, one_of, subcommand_of}
use Rattle.clap.specs.Words.{with_rule, with_subcommand}
use Rattle.clap.specs.ValueTests.{accepts}
use Rattle.clap.specs.declared.builder.action.ArgAction.TheVariants.{Append, SetTrue}
use Rattle.clap.specs.declared.builder.value_parser.ValueParser.{ValueParser}
use Rattle.clap.specs.declared.builder.value_parser.ValueParser.TheVariants.{NonEmptyString}
use Rattle.clap.specs.declared.builder.value_parser.ValueParser.TheVariants.{Unsigned}
use Rattle.clap.specs.declared.error.kind.ErrorKind.TheVariants.{ArgumentConflict, InvalidValue}
use Rattle.clap.specs.declared.error.kind.ErrorKind.TheVariants.{MissingRequiredArgument}
use Rattle.clap.specs.declared.error.kind.ErrorKind.TheVariants.{ValueValidation}
use Rattle.cli.specs.declared.command.BatchOption.{BatchOption}
use Rattle.cli.specs.declared.command.BatchOption.TheVariants.{Auto, Fixed}
use Rattle.cli.specs.declared.command.Command.{Command}
use Rattle.cli.specs.declared.command.Command.TheVariants.{Check, Cut, Draw, Extend, Grow, Info}
use Rattle.cli.specs.declared.command.Command.TheVariants.{Log}
use Rattle.cli.specs.declared.command.Command.TheVariants.{Migrate, New, Node, Recover, Reopen, Run}
use Rattle.cli.specs.declared.command.Command.TheVariants.{Seq, Show, Stats, Status, Verify}
use Rattle.cli.specs.declared.command.DiskArgs.{DiskArgs}
use Rattle.cli.specs.declared.command.DrawArgs.{DrawArgs}
use Rattle.cli.specs.declared.command.Format.{Format}
use Rattle.cli.specs.declared.command.Format.TheVariants as format
use Rattle.cli.specs.declared.command.GrowArgs.{GrowArgs}
use Rattle.cli.specs.declared.command.InfoArgs.{InfoArgs}
use Rattle.cli.specs.declared.command.LogArgs.{LogArgs}
use Rattle.cli.specs.declared.command.MigrateArgs.{MigrateArgs}
use Rattle.cli.specs.declared.command.ModelArgs.{ModelArgs}
use Rattle.cli.specs.declared.command.ModelFile.{ModelFile}
use Rattle.cli.specs.declared.command.NewArgs.{NewArgs}
use Rattle.cli.specs.declared.command.NodeArgs.{NodeArgs}
use Rattle.cli.specs.declared.command.RecoverArgs.{RecoverArgs}
use Rattle.cli.specs.declared.command.RunArgs.{RunArgs}
use Rattle.cli.specs.declared.command.SeqArgs.{SeqArgs}
use Rattle.cli.specs.declared.command.ShowArgs.{ShowArgs}
use Rattle.cli.specs.declared.command.SourceArgs.{SourceArgs}
use Rattle.cli.specs.declared.command.StatsArgs.{StatsArgs}
use Rattle.cli.specs.declared.command.StatusArgs.{StatusArgs}
use Rattle.cli.specs.declared.command.StatsTable.{StatsTable}
use Rattle.cli.specs.declared.command.StatsTable.TheVariants as table
use Rattle.cli.specs.declared.command.VerifyArgs.{VerifyArgs}

-- ---- the arguments

-- a required argument that is a path, and not empty
abbrev pub path_argument : Text → Rule
path_argument id = record (new_rule id) { required = true; parser = Some NonEmptyString }

-- an optional argument that is a path, and not empty
abbrev pub optional_argument : Text → Rule
optional_argument id = record (new_rule id) { parser = Some NonEmptyString }

-- an option whose value is a number from `least` to `most`, with a default
abbrev pub number_option : Text → ℕ → ℕ → Text → Rule
number_option name least most default = record (new_rule name) {
  long = Some name;
  value_names = 1;
  parser = Some (Unsigned least most);
  defaults = default ∷ [];
}

-- the same without a default
abbrev pub optional_number : Text → ℕ → ℕ → Rule
optional_number name least most = record (new_rule name) {
  long = Some name;
  value_names = 1;
  parser = Some (Unsigned least most);
}

-- an option whose value is any text, with a default
abbrev pub text_option : Text → Text → Rule
text_option name default = record (new_rule name) {
  long = Some name;
  value_names = 1;
  defaults = default ∷ [];
}

-- the same without a default; the text may be empty
abbrev pub any_text : Text → Rule
any_text name = record (new_rule name) { long = Some name; value_names = 1 }

-- an option whose value passes this parser, with a default
abbrev pub choice_option : Text → ValueParser → Text → Rule
choice_option name parser default = record (text_option name default) { parser = Some parser }

-- an option without a default, whose value is any text but the empty one
abbrev pub optional_text : Text → Rule
optional_text name = record (new_rule name) {
  long = Some name;
  value_names = 1;
  parser = Some NonEmptyString;
}

-- a virtual time, 0 to 2^40 ticks
abbrev pub time_option : Text → Rule
time_option name = optional_number name 0 1099511627776

-- the maximum number of sectors, of 512 bytes each, of a disk, large or not
abbrev pub most_sectors : Bool → ℕ
most_sectors false = 131072
most_sectors true = 16777216

-- an option without a value
abbrev pub flag : Text → Rule
flag name = record (new_rule name) { long = Some name; action = Some SetTrue }

-- lines of advice follow a fault
abbrev pub advice_option : Rule
advice_option = flag (codes "advice")

-- no line follows a fault
abbrev pub quiet_option : Rule
quiet_option = flag (codes "quiet")

-- values of the model file are set, as often as this is said
abbrev pub set_option : Rule
set_option = record (any_text (codes "set")) { action = Some Append; parser = Some NonEmptyString }

-- the key of drawn numbers is set, 0 to 2^63 - 1
abbrev pub seed_option : Rule
seed_option = optional_number (codes "seed") 0 9223372036854775807

-- disks may be large ones
abbrev pub large_option : Rule
large_option = flag (codes "large")

-- the file of a disk gets its whole room at once
abbrev pub reserve_option : Rule
reserve_option = flag (codes "reserve")

-- the format of what is printed
abbrev pub format_option : Rule
format_option = text_option (codes "format") (codes "text")

-- ---- the commands

-- a command on a model file, of which values are set or not; with or without advice, or quiet
abbrev pub on_model : Text → App
on_model name = with_rule (with_rule (with_rule (with_rule (with_rule (new_app name)
    (path_argument (codes "MODEL")))
    set_option)
    seed_option)
    advice_option)
    quiet_option

-- a command on a model file and a disk
abbrev pub on_disk : Text → App
on_disk name = with_rule (on_model name) (path_argument (codes "DISK"))

-- the same without other arguments; the disk may be a large one
abbrev pub on_any_disk : Text → App
on_any_disk name = with_rule (on_disk name) large_option

-- the disk from whose committed world a new one goes on
abbrev pub origin_option : Rule
origin_option = record (optional_text (codes "origin")) { long = Some (codes "from") }

-- a disk with its number of sectors, whose file may get its whole room, or hold other bytes; the
-- disk that it goes on from, if any; the model's text is kept or not; it may be a large one
abbrev pub new_command : App
new_command = with_rule (with_rule (with_rule (with_rule (with_rule (with_rule
    (on_disk (codes "new"))
    (text_option (codes "sectors") (codes "4096")))
    reserve_option)
    (flag (codes "over")))
    origin_option)
    (flag (codes "keep-model")))
    large_option

-- the number of sectors of a disk that a run makes
abbrev pub created_option : Rule
created_option = record (any_text (codes "created")) { long = Some (codes "sectors") }

-- the file of a disk that a run makes gets its whole room at once
abbrev pub reserved_option : Rule
reserved_option = record (flag (codes "reserved")) { long = Some (codes "reserve") }

-- the model's text is kept beside a disk that a run makes
abbrev pub kept_option : Rule
kept_option = record (flag (codes "kept")) { long = Some (codes "keep-model") }

-- the most nodes of a run
abbrev pub most_nodes : ℕ
most_nodes = 64

-- how a run is made: some nodes; a batch; nodes that work at the same time, or also while
-- replies are taken; without nodes
abbrev pub run_made : App
run_made = with_rule (with_rule (with_rule (with_rule (with_rule
    (on_disk (codes "run")) (optional_number (codes "nodes") 1 most_nodes))
    (any_text (codes "batch")))
    (flag (codes "together")))
    (flag (codes "overlap")))
    (flag (codes "plain"))

-- and over which node programs: the folder of their sockets; programs that are awaited instead of
-- started, or have a processor each; which of their reports are judged; after how many seconds of
-- silence they are lost; and the node that is cut short
abbrev pub run_apart : App
run_apart = with_rule (with_rule (with_rule (with_rule (with_rule (with_rule
    run_made (optional_text (codes "sockets")))
    (flag (codes "attach")))
    (flag (codes "bind")))
    (any_text (codes "judge")))
    (optional_number (codes "silence") 1 86400))
    (optional_number (codes "cut") 0 4294967295)

-- and what it writes to its disk: a commit for 1 to 400,000 events, a checkpoint every 1 to
-- 1,000,000 commits, with a seal or not
abbrev pub run_kept : App
run_kept = with_rule (with_rule (with_rule run_apart
    (optional_number (codes "commit-every") 1 400000))
    (optional_number (codes "checkpoint") 1 1000000))
    (flag (codes "seal"))

-- and on which disk: one that is made if it is not there, with its number of sectors, whose file
-- may get its whole room, and with the model's text kept or not; that is archived where it is full,
-- with the number of parts that are kept, or made longer
abbrev pub run_stored : App
run_stored = with_rule (with_rule (with_rule (with_rule (with_rule (with_rule (with_rule
    run_kept (flag (codes "create")))
    created_option)
    reserved_option)
    kept_option)
    (flag (codes "archive-when-full")))
    (optional_number (codes "keep") 0 4294967295))
    (flag (codes "grow-when-full"))

-- and for how long, and with what beside it: a number of rounds; how often it is begun again; the
-- file that ends it; a line of progress every 1 to 86,400 seconds; the file of a trace; and the
-- disk may be a large one
abbrev pub run_command : App
run_command = with_rule (with_rule (with_rule (with_rule (with_rule (with_rule
    run_stored (text_option (codes "rounds") (codes "1000000")))
    (optional_number (codes "retries") 0 1000000))
    (optional_text (codes "stop-file")))
    (optional_number (codes "progress") 1 86400))
    (optional_text (codes "trace")))
    large_option

-- a disk with the number of sectors that it then has; it may be a large one
abbrev pub grow_command : App
grow_command = with_rule (with_rule (on_disk (codes "grow")) (any_text (codes "sectors")))
    large_option

-- a disk of format 1, and a disk of format 2 with its number of sectors, whose file may get its
-- whole room; both may be large ones
abbrev pub migrate_command : App
migrate_command = with_rule (with_rule (with_rule (with_rule (with_rule
    (on_model (codes "migrate"))
    (path_argument (codes "OLD")))
    (path_argument (codes "NEW")))
    (text_option (codes "sectors") (codes "4096")))
    reserve_option)
    large_option

-- a damaged disk, and a new disk with its number of sectors, whose file may get its whole room;
-- both may be large ones
abbrev pub recover_command : App
recover_command = with_rule (with_rule (with_rule (with_rule (on_disk (codes "recover"))
    (path_argument (codes "NEW")))
    (text_option (codes "sectors") (codes "4096")))
    reserve_option)
    large_option

-- how far a disk's run has come, in a format; the disk may be a large one
abbrev pub status_command : App
status_command = with_rule (with_rule (on_disk (codes "status")) format_option) large_option

-- a disk alone, or the model that it keeps, in a format; it may be a large one; with or without
-- advice, or quiet
abbrev pub info_command : App
info_command = with_rule (with_rule (with_rule (with_rule (with_rule (with_rule
    (new_app (codes "info"))
    (path_argument (codes "DISK")))
    advice_option)
    quiet_option)
    (flag (codes "model")))
    format_option)
    large_option

-- a disk, and the disk that it goes on from, if any; both may be large ones
abbrev pub verify_command : App
verify_command = with_rule (with_rule (on_disk (codes "verify")) (optional_text (codes "after")))
    large_option

-- the model's names are printed
abbrev pub names_option : Rule
names_option = flag (codes "names")

-- the events of a log from one time on, before another time, and of one process, with names or not,
-- in a format; the disk may be a large one
abbrev pub log_command : App
log_command = with_rule (with_rule (with_rule (with_rule (with_rule (with_rule
    (on_disk (codes "log"))
    (time_option (codes "from")))
    (time_option (codes "to")))
    (optional_number (codes "process") 0 4294967295))
    names_option)
    format_option)
    large_option

-- the committed world, or its pending messages alone, with names or not, in a format; the disk may
-- be a large one
abbrev pub show_command : App
show_command = with_rule (with_rule (with_rule (with_rule (on_disk (codes "show"))
    names_option)
    (flag (codes "pending")))
    format_option)
    large_option

-- the figures of a run, in a format, with names or not; or one table of them, from a tick on; the
-- disk may be a large one
abbrev pub stats_command : App
stats_command = with_rule (with_rule (with_rule (with_rule (with_rule (with_rule
    (on_model (codes "stats"))
    (optional_argument (codes "DISK")))
    format_option)
    names_option)
    (optional_text (codes "table")))
    (time_option (codes "warm-up")))
    large_option

-- the format of a picture; the formats of tables are others
abbrev pub picture_option : Rule
picture_option = record (text_option (codes "picture") (codes "svg")) {
  long = Some (codes "format");
}

-- a picture of a run, in a format, from one time on, before another time, of some processes; or of
-- its load; or of the course in a trace; or of the values of a word of messages; the disk may be a
-- large one
abbrev pub draw_command : App
draw_command = with_rule (with_rule (with_rule (with_rule (with_rule (with_rule (with_rule
    (with_rule (with_rule (on_model (codes "draw"))
    (optional_argument (codes "DISK")))
    (time_option (codes "from")))
    (time_option (codes "to")))
    (optional_text (codes "processes")))
    (flag (codes "load")))
    (optional_text (codes "trace")))
    (optional_text (codes "histogram")))
    picture_option)
    large_option

-- a run by the sequential runner, in a format
abbrev pub seq_command : App
seq_command = with_rule (on_model (codes "seq")) format_option

-- a node behind a socket, for 1 to 2^32 - 1 replies
abbrev pub node_command : App
node_command = with_rule
    (with_rule (on_model (codes "node")) (path_argument (codes "SOCKET")))
    (number_option (codes "parcels") 1 4294967295 (codes "4294967295"))

-- the words must name a command or ask for the version; there is no command `help`
abbrev pub without_commands : Text → App
without_commands called = record (new_app called) {
  top = record (new_app called).top {
    subcommand_required = true;
    arg_required_else_help = true;
    disable_help_subcommand = true;
    has_version = true;
  };
}

-- the program of this name
unfoldable pub program_of : Text → App
program_of called = with_subcommand (with_subcommand (with_subcommand (with_subcommand
    (with_subcommand (with_subcommand (with_subcommand (with_subcommand (with_subcommand
    (with_subcommand (with_subcommand (with_subcommand (with_subcommand (with_subcommand
    (with_subcommand (with_subcommand (with_subcommand (with_subcommand (without_commands called)
    new_command.top) run_command.top) (on_any_disk (codes "extend")).top)
    grow_command.top) migrate_command.top)
    (on_any_disk (codes "reopen")).top) (on_any_disk (codes "cut")).top) recover_command.top)
    status_command.top) info_command.top) verify_command.top) log_command.top) show_command.top)
    stats_command.top) draw_command.top) seq_command.top)
    (on_model (codes "check")).top) node_command.top

-- a program with a single option, whose value passes this parser, and whose default is this text
abbrev pub refusing : Text → ValueParser → Text → App
refusing option parser text = with_rule (new_app option) (choice_option option parser text)

-- ---- flags among words that need not name a command

-- this flag is among the words, before any word `--`, which ends the options
unfoldable pub says_flag : Text → List Text → Bool
says_flag flag [] = false
says_flag flag (word ∷ rest) = not (bytes_eq word (codes "--"))
    && (bytes_eq word flag || says_flag flag rest)

-- large disks are asked for
abbrev pub says_large : List Text → Bool
says_large = says_flag (codes "--large")

-- advice is asked for
abbrev pub says_advice : List Text → Bool
says_advice = says_flag (codes "--advice")

-- faults are to be printed without their causes
abbrev pub says_quiet : List Text → Bool
says_quiet = says_flag (codes "--quiet")

-- ---- what is set among the words

-- the name of a value, and the text that it gets
abbrev pub Setting : Type 0
Setting = Text × Text

-- the name before the first `=`, and the value after it
abbrev pub setting_of : Text → Setting
setting_of text = (before_first (λ b. b == 61) text, after_first (λ b. b == 61) text)

-- what an option with this value sets
abbrev pub setting_said : Text → Text → Option Setting
setting_said option value = if bytes_eq option (codes "--set") then Some (setting_of value)
    else if bytes_eq option (codes "--seed") then Some (codes "seed", value) else None

-- what a word sets that is an option with its value after `=`
abbrev pub set_alone : Text → Option Setting
set_alone word = if list_any (λ b. b == 61) word
    then setting_said (before_first (λ b. b == 61) word) (after_first (λ b. b == 61) word)
    else None

-- what a word sets that follows this one: it is the value of the option before it, or an option
-- with its value
abbrev pub set_by : Text → Text → Option Setting
set_by before word = if bytes_eq before (codes "--set") then Some (setting_of word)
    else if bytes_eq before (codes "--seed") then Some (codes "seed", word)
    else set_alone word

-- a setting, if there is one, and then these
abbrev pub with_setting : Option Setting → List Setting → List Setting
with_setting None settings = settings
with_setting (Some setting) settings = setting ∷ settings

-- what is set by words that follow this one, before any word `--`
unfoldable pub settings_after : Text → List Text → List Setting
settings_after before [] = []
settings_after before (word ∷ rest) = if bytes_eq word (codes "--") then []
    else with_setting (set_by before word) (settings_after word rest)

-- what the words after the program's name set: `--set NAME=VALUE`, and `--seed N`
abbrev pub settings_of : List Text → List Setting
settings_of = settings_after []

-- ---- building them

-- the command reads words as `app` does, and has no global arguments
abbrev pub IsApp : App → ClapCommand → Type 0
IsApp app command = (app_of command ≡ app) × ((out-Command command).has_globals ≡ false)

-- the command, if it is there, with this argument added
abbrev pub AddsArgument : {E : Type 0} → Result ClapCommand E → Arg → ClapCommand → Type 0
AddsArgument command argument new = IsOkAnd command (λ old. AddsArg old argument new)

-- the command, if it is there, with an argument by this rule added, which is not global
abbrev pub AddsRule : {E : Type 0} → Result ClapCommand E → Rule → ClapCommand → Type 0
AddsRule command rule new = IsOkAnd command (λ old. (app_of new ≡ with_rule (app_of old) rule)
    × ((out-Command new).has_globals ≡ (out-Command old).has_globals))

-- the program, if it is there, with this command added, which is there too
abbrev pub AddsCommand
    : {E : Type 0} → Result ClapCommand E → Result ClapCommand E → ClapCommand → Type 0
AddsCommand program command new =
    IsOkAnd program (λ old. IsOkAnd command (λ added. AddsSubcommand old added new))

-- ---- the meaning of a parsed command

-- the text of an argument
abbrev pub text_in : Text → List Row → Text
text_in id rows = unwrap_or (first_of id rows) []

-- the number in the text, with or without a plus sign; unparseable text yields `least`
abbrev pub number_of : ℕ → ℕ → Option Text → ℕ
number_of least most None = least
number_of least most (Some text) = if accepts true (Unsigned least most) text
    then digits_value 10 (without_leading_plus text) else least

-- the number of an option
abbrev pub number_in : Text → ℕ → ℕ → List Row → ℕ
number_in id least most rows = number_of least most (one_of id rows)

-- the same, if it has a value
abbrev pub optional_number_in : Text → ℕ → ℕ → List Row → Option ℕ
optional_number_in id least most rows =
    option_map (λ text. number_in id least most rows) (first_of id rows)

-- the option has this text
abbrev pub is_text : Option Text → Text → Bool
is_text None word = false
is_text (Some text) word = bytes_eq text word

-- the same, or a default
abbrev pub number_or : Text → ℕ → ℕ → ℕ → List Row → ℕ
number_or id least most default rows = unwrap_or (optional_number_in id least most rows) default

-- the batch: `auto`, or a number
abbrev pub batch_in : List Row → BatchOption
batch_in rows = if is_text (first_of (codes "batch") rows) (codes "auto") then Auto
    else Fixed (number_or (codes "batch") 1 4294967295 16 rows)

-- the maximum number of rounds: `unlimited`, which is the most of all, or a number
abbrev pub rounds_in : List Row → ℕ
rounds_in rows = if is_text (first_of (codes "rounds") rows) (codes "unlimited") then 4294967295
    else number_in (codes "rounds") 1 4294967295 rows

-- one in how many reported events is judged, if that is said: `all`, which is one in one, or a
-- number
abbrev pub judge_in : List Row → Option ℕ
judge_in rows = if is_text (first_of (codes "judge") rows) (codes "all") then Some 1
    else optional_number_in (codes "judge") 0 4294967295 rows

-- the format of what is printed: `csv`, `json`, or otherwise text
abbrev pub format_in : List Row → Format
format_in rows = if is_text (first_of (codes "format") rows) (codes "csv") then format.Csv
    else if is_text (first_of (codes "format") rows) (codes "json") then format.Json
    else format.Text

-- the table of this name
abbrev pub table_named : Text → Option StatsTable
table_named name = if bytes_eq name (codes "summary") then Some table.Summary
    else if bytes_eq name (codes "spreads") then Some table.Spreads
    else if bytes_eq name (codes "busiest") then Some table.Busiest
    else if bytes_eq name (codes "totals") then Some table.Totals
    else if bytes_eq name (codes "processes") then Some table.Processes
    else if bytes_eq name (codes "kinds") then Some table.Kinds
    else if bytes_eq name (codes "overall") then Some table.Overall
    else if bytes_eq name (codes "words") then Some table.Words
    else None

-- ---- a range of processes

-- the number in the text, if it is one below 2^32
abbrev pub written_number : Text → Option ℕ
written_number text = if accepts true (Unsigned 0 4294967295) text
    then Some (digits_value 10 (without_leading_plus text)) else None

-- both numbers, if the first is not above the last
abbrev pub in_order : Option ℕ → Option ℕ → Option (ℕ × ℕ)
in_order (Some first) (Some last) = if nat_le first last then Some (first, last) else None
in_order _ _ = None

-- the range, from the text before the first point and the text after it
abbrev pub range_between : Text → Text → Option (ℕ × ℕ)
range_between first [] = None
range_between first (next ∷ last) =
    if next == 46 then in_order (written_number first) (written_number last) else None

-- a range of processes, `A..B`
abbrev pub range_of : Text → Option (ℕ × ℕ)
range_of text = range_between (before_first (λ b. b == 46) text) (after_first (λ b. b == 46) text)

-- ---- invalid values

-- the text is a number from `least` to `most`
abbrev pub is_number : ℕ → ℕ → Text → Bool
is_number least most text = accepts true (Unsigned least most) text

-- a text that is neither this word nor a number from `least` to 2^32 - 1
abbrev pub is_no_count : Text → ℕ → Option Text → Bool
is_no_count word least None = false
is_no_count word least (Some text) = not (bytes_eq text word || is_number least 4294967295 text)

-- a number of sectors that no disk has, large or not
abbrev pub is_no_size : Bool → Option Text → Bool
is_no_size large None = false
is_no_size large (Some text) = not (is_number 8 (most_sectors large) text)

-- processes that are not a range
abbrev pub is_no_range : Option Text → Bool
is_no_range None = false
is_no_range (Some text) = not (is_some (range_of text))

-- an unknown format
abbrev pub is_no_format : Option Text → Bool
is_no_format None = false
is_no_format (Some text) = not (bytes_eq text (codes "text") || (bytes_eq text (codes "csv")
    || bytes_eq text (codes "json")))

-- an unknown format of a picture
abbrev pub is_no_picture : Option Text → Bool
is_no_picture None = false
is_no_picture (Some text) = not (bytes_eq text (codes "svg") || bytes_eq text (codes "vcd"))

-- an unknown table
abbrev pub is_no_table : Option Text → Bool
is_no_table None = false
is_no_table (Some text) = not (is_some (table_named text))

-- an option without a value is used
abbrev pub is_used : Text → List Row → Bool
is_used id rows = is_text (first_of id rows) (codes "true")

-- a number of sectors that no disk has is given, for a disk or for one that a run makes
abbrev pub has_no_size : List Row → Bool
has_no_size rows = is_no_size (is_used (codes "large") rows) (first_of (codes "sectors") rows)
    || is_no_size (is_used (codes "large") rows) (first_of (codes "created") rows)

-- a number of rounds is neither `unlimited` nor a number from 1 on, or that of the events of which
-- one is judged neither `all` nor a number
abbrev pub has_no_count_of_run : List Row → Bool
has_no_count_of_run rows = is_no_count (codes "unlimited") 1 (first_of (codes "rounds") rows)
    || is_no_count (codes "all") 0 (first_of (codes "judge") rows)

-- or a batch is neither `auto` nor a number from 1 on
abbrev pub has_no_count : List Row → Bool
has_no_count rows = is_no_count (codes "auto") 1 (first_of (codes "batch") rows)
    || has_no_count_of_run rows

-- the errors for numbers that clap takes as any text, because a word can stand in their place, or
-- because their range depends on another option
abbrev pub number_fault : List Row → Kinds
number_fault rows = if has_no_count rows || has_no_size rows
    then ValueValidation ∷ [] else []

-- the format of a picture, or the table, has no such name
abbrev pub has_no_name : List Row → Bool
has_no_name rows = is_no_picture (first_of (codes "picture") rows)
    || is_no_table (first_of (codes "table") rows)

-- or any other format has none
abbrev pub has_no_form : List Row → Bool
has_no_form rows = is_no_format (first_of (codes "format") rows) || has_no_name rows

-- the errors for a range, a format or a table, which clap takes as any text too
abbrev pub form_fault : List Row → Kinds
form_fault rows = if is_no_range (first_of (codes "processes") rows) || has_no_form rows
    then InvalidValue ∷ [] else []

-- the errors for the values of these rows that clap takes as any text
abbrev pub text_fault : List Row → Kinds
text_fault rows = or_else (number_fault rows) (form_fault rows)

-- an option with a value, and without a default, is used
abbrev pub is_there : Text → List Row → Bool
is_there id rows = is_some (first_of id rows)

-- something is said of node programs, but no folder of their sockets is given
abbrev pub is_without_sockets : List Row → Bool
is_without_sockets rows = not (is_there (codes "sockets") rows) && (is_used (codes "attach") rows
    || (is_used (codes "bind") rows || (is_there (codes "judge") rows
    || (is_there (codes "silence") rows || is_there (codes "retries") rows))))

-- something is said of a disk that a run makes, but it makes none
abbrev pub is_without_create : List Row → Bool
is_without_create rows = not (is_used (codes "create") rows)
    && (is_there (codes "created") rows || (is_used (codes "reserved") rows
    || is_used (codes "kept") rows))

-- seals are asked for, but no checkpoints
abbrev pub is_without_checkpoint : List Row → Bool
is_without_checkpoint rows = not (is_there (codes "checkpoint") rows)
    && is_used (codes "seal") rows

-- a number of archived parts is given, but none are made
abbrev pub is_without_archive : List Row → Bool
is_without_archive rows = not (is_used (codes "archive-when-full") rows)
    && is_there (codes "keep") rows

-- a tick is given from which on a table counts, but no table is
abbrev pub is_without_table : List Row → Bool
is_without_table rows = not (is_there (codes "table") rows) && is_there (codes "warm-up") rows

-- something is said of what is neither made nor printed: seals, archived parts, a table
abbrev pub is_without_record : List Row → Bool
is_without_record rows = is_without_checkpoint rows
    || (is_without_archive rows || is_without_table rows)

-- an option, apart from those of node programs, says nothing without another one
abbrev pub is_without_another : List Row → Bool
is_without_another rows = is_without_create rows || is_without_record rows

-- an option says nothing without another one
abbrev pub is_lonely : List Row → Bool
is_lonely rows = is_without_sockets rows || is_without_another rows

abbrev pub lonely_fault : List Row → Kinds
lonely_fault rows = if is_lonely rows then MissingRequiredArgument ∷ [] else []

-- an option of a run over nodes is used
abbrev pub is_over_nodes : List Row → Bool
is_over_nodes rows = is_there (codes "nodes") rows || (is_there (codes "batch") rows
    || (is_there (codes "sockets") rows || (is_there (codes "cut") rows
    || (is_used (codes "together") rows || is_used (codes "overlap") rows))))

-- options of a run over nodes exclude one another
abbrev pub is_excluded_over_nodes : List Row → Bool
is_excluded_over_nodes rows = (is_used (codes "together") rows && is_used (codes "overlap") rows)
    || ((is_used (codes "attach") rows && is_used (codes "bind") rows)
    || (is_used (codes "plain") rows && is_over_nodes rows))

-- options of any run, or of any command, exclude one another: what is done where a disk is full,
-- what is printed of a fault, and whether a file is printed as it is or a table
abbrev pub is_excluded_anywhere : List Row → Bool
is_excluded_anywhere rows =
    (is_used (codes "archive-when-full") rows && is_used (codes "grow-when-full") rows)
    || ((is_used (codes "advice") rows && is_used (codes "quiet") rows)
    || (is_used (codes "model") rows
    && not (is_text (first_of (codes "format") rows) (codes "text"))))

-- options exclude one another
abbrev pub is_excluded : List Row → Bool
is_excluded rows = is_excluded_over_nodes rows || is_excluded_anywhere rows

abbrev pub excluded_fault : List Row → Kinds
excluded_fault rows = if is_excluded rows then ArgumentConflict ∷ [] else []

-- an option is used that makes another picture than a histogram, or chooses events
abbrev pub excludes_histogram : List Row → Bool
excludes_histogram rows = is_used (codes "load") rows || (is_there (codes "trace") rows
    || (is_text (first_of (codes "picture") rows) (codes "vcd") || (is_there (codes "from") rows
    || (is_there (codes "to") rows || is_there (codes "processes") rows))))

-- both the load and the course in a trace are to be drawn, or either of them as a value change
-- dump, or a histogram of some events or beside another picture
abbrev pub is_drawn_twice : List Row → Bool
is_drawn_twice rows = (is_used (codes "load") rows && is_there (codes "trace") rows)
    || ((is_text (first_of (codes "picture") rows) (codes "vcd")
    && (is_used (codes "load") rows || is_there (codes "trace") rows))
    || (is_there (codes "histogram") rows && excludes_histogram rows))

abbrev pub drawn_fault : List Row → Kinds
drawn_fault rows = if is_drawn_twice rows then ArgumentConflict ∷ [] else []

-- the second time is before the first
abbrev pub is_no_span : Option ℕ → Option ℕ → Bool
is_no_span (Some from) (Some to) = nat_lt to from
is_no_span _ _ = false

abbrev pub span_fault : List Row → Kinds
span_fault rows = if is_no_span (optional_number_in (codes "from") 0 1099511627776 rows)
    (optional_number_in (codes "to") 0 1099511627776 rows) then ValueValidation ∷ [] else []

-- the errors for options that do not go together in a command that looks at a run
abbrev pub looking_fault : List Row → Kinds
looking_fault rows = or_else (drawn_fault rows) (span_fault rows)

-- the errors for options that exclude one another
abbrev pub together_fault : List Row → Kinds
together_fault rows = or_else (excluded_fault rows) (looking_fault rows)

-- the errors for options that do not go together
abbrev pub company_fault : List Row → Kinds
company_fault rows = or_else (lonely_fault rows) (together_fault rows)

-- the errors for these rows that clap does not find
abbrev pub unread_fault : List Row → Kinds
unread_fault rows = or_else (text_fault rows) (company_fault rows)

abbrev pub value_fault : Option (Text × List Row) → Kinds
value_fault None = []
value_fault (Some found) = unread_fault found.1

-- the errors for these words: those of clap, or else those of such rows
abbrev pub refusal_of : Text → List Text → Kinds
refusal_of called words = or_else (fault_of (program_of called) words)
    (value_fault (subcommand_of (program_of called) words))

-- ---- the values of a command

-- the value of a flag, by what clap reads for it
pub record IsFlagIn (id : Text) (rows : List Row) (value : Bool) : Type 0 where
  pub used : one_of id rows ≡ Some (codes "true") → value ≡ true
  pub unused : one_of id rows ≡ Some (codes "false") → value ≡ false
  pub unread : one_of id rows ≡ None → value ≡ false

-- the path of the model file, as clap gives it; no disk keeps the model
abbrev pub SaysFile : ModelFile → List Row → Type 0
SaysFile file rows = (file.path.now ≡ text_in (codes "MODEL") rows) × (file.kept_by ≡ None)

-- the disk that keeps the model of this path: the one that a command looks at, if the path is `-`
abbrev pub kept_by : Text → Option Text → Option Text
kept_by path disk = if bytes_eq path (codes "-") then disk else None

-- the path of the model file, as clap gives it, which this disk keeps if the path says so
abbrev pub SaysKeptFile : ModelFile → Option Text → List Row → Type 0
SaysKeptFile file disk rows = (file.path.now ≡ text_in (codes "MODEL") rows)
    × (option_map (λ path. path.now) file.kept_by ≡ kept_by (text_in (codes "MODEL") rows) disk)

abbrev pub SaysModel : ModelArgs → List Row → Type 0
SaysModel args rows = SaysFile args.model rows

-- the model file and the disk, and whether it may be a large one
abbrev pub SaysDisk : DiskArgs → List Row → Type 0
SaysDisk args rows = SaysFile args.model rows
    × (args.disk.now ≡ text_in (codes "DISK") rows)
    × IsFlagIn (codes "large") rows args.large

-- the same where the disk may keep the model
abbrev pub SaysKeptDisk : DiskArgs → List Row → Type 0
SaysKeptDisk args rows = SaysKeptFile args.model (Some (text_in (codes "DISK") rows)) rows
    × (args.disk.now ≡ text_in (codes "DISK") rows)
    × IsFlagIn (codes "large") rows args.large

-- the same where a disk need not be given
abbrev pub SaysSource : SourceArgs → List Row → Type 0
SaysSource args rows = SaysKeptFile args.model (first_of (codes "DISK") rows) rows
    × (option_map (λ path. path.now) args.disk ≡ first_of (codes "DISK") rows)
    × IsFlagIn (codes "large") rows args.large

-- the number of sectors of a disk, large or not
abbrev pub SaysSectors : ℕ → Bool → List Row → Type 0
SaysSectors sectors large rows = sectors ≡ number_in (codes "sectors") 8 (most_sectors large) rows

-- the time from which on, and the time before which, events count
abbrev pub SaysTimes : Option ℕ → Option ℕ → List Row → Type 0
SaysTimes from to rows = (from ≡ optional_number_in (codes "from") 0 1099511627776 rows)
    × (to ≡ optional_number_in (codes "to") 0 1099511627776 rows)

abbrev pub SaysNew : NewArgs → List Row → Type 0
SaysNew args rows = SaysDisk args.on rows × SaysSectors args.sectors args.on.large rows
    × IsFlagIn (codes "reserve") rows args.reserve
    × IsFlagIn (codes "over") rows args.over
    × (option_map (λ path. path.now) args.from ≡ first_of (codes "origin") rows)
    × IsFlagIn (codes "keep-model") rows args.keep_model

abbrev pub SaysRun : RunArgs → List Row → Type 0
SaysRun args rows = SaysDisk args.on rows
    × (args.nodes ≡ number_or (codes "nodes") 1 most_nodes 1 rows)
    × (args.batch ≡ batch_in rows)
    × (args.rounds ≡ rounds_in rows)
    × (args.checkpoint ≡ optional_number_in (codes "checkpoint") 1 1000000 rows)
    × IsFlagIn (codes "seal") rows args.seal
    × (args.commit_every ≡ optional_number_in (codes "commit-every") 1 400000 rows)
    × (option_map (λ path. path.now) args.sockets ≡ first_of (codes "sockets") rows)
    × (args.cut ≡ optional_number_in (codes "cut") 0 4294967295 rows)
    × IsFlagIn (codes "together") rows args.together
    × IsFlagIn (codes "overlap") rows args.overlap
    × IsFlagIn (codes "plain") rows args.plain
    × IsFlagIn (codes "attach") rows args.attach
    × IsFlagIn (codes "bind") rows args.bind
    × (args.judge ≡ judge_in rows)
    × (args.silence ≡ optional_number_in (codes "silence") 1 86400 rows)
    × (args.retries ≡ optional_number_in (codes "retries") 0 1000000 rows)
    × IsFlagIn (codes "grow-when-full") rows args.grow_when_full
    × IsFlagIn (codes "archive-when-full") rows args.archive_when_full
    × (args.keep ≡ optional_number_in (codes "keep") 0 4294967295 rows)
    × (option_map (λ path. path.now) args.trace ≡ first_of (codes "trace") rows)
    × (option_map (λ path. path.now) args.stop_file ≡ first_of (codes "stop-file") rows)
    × (args.progress ≡ optional_number_in (codes "progress") 1 86400 rows)
    × IsFlagIn (codes "create") rows args.create
    × (args.sectors ≡ number_or (codes "created") 8 (most_sectors args.on.large) 4096 rows)
    × IsFlagIn (codes "reserved") rows args.reserve
    × IsFlagIn (codes "kept") rows args.keep_model

abbrev pub SaysStatus : StatusArgs → List Row → Type 0
SaysStatus args rows = SaysKeptDisk args.on rows × (args.format ≡ format_in rows)

abbrev pub SaysInfo : InfoArgs → List Row → Type 0
SaysInfo args rows = (args.disk.now ≡ text_in (codes "DISK") rows)
    × IsFlagIn (codes "large") rows args.large
    × IsFlagIn (codes "model") rows args.model
    × (args.format ≡ format_in rows)

abbrev pub SaysSeq : SeqArgs → List Row → Type 0
SaysSeq args rows = SaysFile args.model rows × (args.format ≡ format_in rows)

abbrev pub SaysGrow : GrowArgs → List Row → Type 0
SaysGrow args rows = SaysDisk args.on rows × (args.sectors ≡ number_or (codes "sectors") 8
    (most_sectors args.on.large) (most_sectors args.on.large) rows)

abbrev pub SaysMigrate : MigrateArgs → List Row → Type 0
SaysMigrate args rows = SaysFile args.model rows
    × (args.old.now ≡ text_in (codes "OLD") rows)
    × (args.new.now ≡ text_in (codes "NEW") rows)
    × SaysSectors args.sectors args.large rows
    × IsFlagIn (codes "reserve") rows args.reserve
    × IsFlagIn (codes "large") rows args.large

abbrev pub SaysRecover : RecoverArgs → List Row → Type 0
SaysRecover args rows = SaysFile args.model rows
    × (args.old.now ≡ text_in (codes "DISK") rows)
    × (args.new.now ≡ text_in (codes "NEW") rows)
    × SaysSectors args.sectors args.large rows
    × IsFlagIn (codes "reserve") rows args.reserve
    × IsFlagIn (codes "large") rows args.large

abbrev pub SaysVerify : VerifyArgs → List Row → Type 0
SaysVerify args rows = SaysKeptDisk args.on rows
    × (option_map (λ path. path.now) args.after ≡ first_of (codes "after") rows)

abbrev pub SaysLog : LogArgs → List Row → Type 0
SaysLog args rows = SaysKeptDisk args.on rows
    × SaysTimes args.from args.to rows
    × (args.process ≡ optional_number_in (codes "process") 0 4294967295 rows)
    × IsFlagIn (codes "names") rows args.names
    × (args.format ≡ format_in rows)

abbrev pub SaysShow : ShowArgs → List Row → Type 0
SaysShow args rows = SaysKeptDisk args.on rows
    × IsFlagIn (codes "names") rows args.names
    × IsFlagIn (codes "pending") rows args.pending
    × (args.format ≡ format_in rows)

abbrev pub SaysStats : StatsArgs → List Row → Type 0
SaysStats args rows = SaysSource args.of rows
    × (args.format ≡ format_in rows)
    × IsFlagIn (codes "names") rows args.names
    × (args.table ≡ option_and_then table_named (first_of (codes "table") rows))
    × (args.warm_up ≡ optional_number_in (codes "warm-up") 0 1099511627776 rows)

abbrev pub SaysDraw : DrawArgs → List Row → Type 0
SaysDraw args rows = SaysSource args.of rows
    × SaysTimes args.from args.to rows
    × (args.processes ≡ option_and_then range_of (first_of (codes "processes") rows))
    × IsFlagIn (codes "load") rows args.load
    × (option_map (λ path. path.now) args.trace ≡ first_of (codes "trace") rows)
    × (args.vcd ≡ is_text (first_of (codes "picture") rows) (codes "vcd"))
    × (option_map (λ name. name.now) args.histogram ≡ first_of (codes "histogram") rows)

abbrev pub SaysNode : NodeArgs → List Row → Type 0
SaysNode args rows = SaysFile args.model rows
    × (args.socket.now ≡ text_in (codes "SOCKET") rows)
    × (args.parcels ≡ number_in (codes "parcels") 1 4294967295 rows)

-- the command has this name, and the values of these rows, as clap gives them
abbrev pub SaysRows : Command → Text → List Row → Type 0
SaysRows (New args) name rows = (name ≡ codes "new") × SaysNew args rows
SaysRows (Run args) name rows = (name ≡ codes "run") × SaysRun args rows
SaysRows (Extend args) name rows = (name ≡ codes "extend") × SaysDisk args rows
SaysRows (Grow args) name rows = (name ≡ codes "grow") × SaysGrow args rows
SaysRows (Migrate args) name rows = (name ≡ codes "migrate") × SaysMigrate args rows
SaysRows (Reopen args) name rows = (name ≡ codes "reopen") × SaysDisk args rows
SaysRows (Cut args) name rows = (name ≡ codes "cut") × SaysDisk args rows
SaysRows (Recover args) name rows = (name ≡ codes "recover") × SaysRecover args rows
SaysRows (Status args) name rows = (name ≡ codes "status") × SaysStatus args rows
SaysRows (Info args) name rows = (name ≡ codes "info") × SaysInfo args rows
SaysRows (Verify args) name rows = (name ≡ codes "verify") × SaysVerify args rows
SaysRows (Log args) name rows = (name ≡ codes "log") × SaysLog args rows
SaysRows (Show args) name rows = (name ≡ codes "show") × SaysShow args rows
SaysRows (Stats args) name rows = (name ≡ codes "stats") × SaysStats args rows
SaysRows (Draw args) name rows = (name ≡ codes "draw") × SaysDraw args rows
SaysRows (Seq args) name rows = (name ≡ codes "seq") × SaysSeq args rows
SaysRows (Check args) name rows = (name ≡ codes "check") × SaysModel args rows
SaysRows (Node args) name rows = (name ≡ codes "node") × SaysNode args rows

-- the model file of a command, if it takes one
abbrev pub model_of : Command → Option ModelFile
model_of (New args) = Some args.on.model
model_of (Run args) = Some args.on.model
model_of (Extend args) = Some args.model
model_of (Grow args) = Some args.on.model
model_of (Migrate args) = Some args.model
model_of (Reopen args) = Some args.model
model_of (Cut args) = Some args.model
model_of (Recover args) = Some args.model
model_of (Status args) = Some args.on.model
model_of (Info args) = None
model_of (Verify args) = Some args.on.model
model_of (Log args) = Some args.on.model
model_of (Show args) = Some args.on.model
model_of (Stats args) = Some args.of.model
model_of (Draw args) = Some args.of.model
model_of (Seq args) = Some args.model
model_of (Check args) = Some args.model
model_of (Node args) = Some args.model

-- the command is the subcommand that clap finds in the words, for the program of this name, with
-- its values
pub record Says (called : Text) (words : List Text) (command : Command) : Type 0 where
  pub name : Text
  pub rows : List Row
  pub found : subcommand_of (program_of called) words ≡ Some (name, rows)
  pub values : SaysRows command name rows

-- a batch that is a number is at least 1
abbrev pub IsBatchRanged : BatchOption → Type 0
IsBatchRanged (Fixed messages) = 1 ≤ messages
IsBatchRanged Auto = ⊤

-- a number that is there is in this range
abbrev pub IsWithin : ℕ → ℕ → Option ℕ → Type 0
IsWithin least most number = IfSome number (λ n. (least ≤ n) × (n ≤ most))

-- a disk of this number of sectors, large or not, is allowed
abbrev pub IsSized : ℕ → Bool → Type 0
IsSized sectors large = (8 ≤ sectors) × (sectors ≤ most_sectors large)

abbrev pub IsRunRanged : RunArgs → Type 0
IsRunRanged args = (1 ≤ args.nodes) × (args.nodes ≤ most_nodes) × IsBatchRanged args.batch
    × (1 ≤ args.rounds) × IsWithin 1 1000000 args.checkpoint × IsWithin 1 400000 args.commit_every
    × IsWithin 1 86400 args.silence × IsWithin 0 1000000 args.retries
    × IsWithin 1 86400 args.progress × IsSized args.sectors args.on.large

abbrev pub AreTimes : Option ℕ → Option ℕ → Type 0
AreTimes from to = IsWithin 0 1099511627776 from × IsWithin 0 1099511627776 to

abbrev pub IsLogRanged : LogArgs → Type 0
IsLogRanged args = AreTimes args.from args.to

abbrev pub IsStatsRanged : StatsArgs → Type 0
IsStatsRanged args = IsWithin 0 1099511627776 args.warm_up

abbrev pub IsDrawRanged : DrawArgs → Type 0
IsDrawRanged args = AreTimes args.from args.to
    × IfSome args.processes (λ range. range.0 ≤ range.1)

-- the numbers of a command are in their ranges
abbrev pub IsRanged : Command → Type 0
IsRanged (New args) = IsSized args.sectors args.on.large
IsRanged (Run args) = IsRunRanged args
IsRanged (Grow args) = IsSized args.sectors args.on.large
IsRanged (Migrate args) = IsSized args.sectors args.large
IsRanged (Recover args) = IsSized args.sectors args.large
IsRanged (Log args) = IsLogRanged args
IsRanged (Stats args) = IsStatsRanged args
IsRanged (Draw args) = IsDrawRanged args
IsRanged (Node args) = 1 ≤ args.parcels
IsRanged _ = ⊤

-- the name is that of a command
abbrev pub IsNamed : Text → Type 0
IsNamed name = (name ≡ codes "new") ⊎ ((name ≡ codes "run") ⊎ ((name ≡ codes "extend")
    ⊎ ((name ≡ codes "grow") ⊎ ((name ≡ codes "migrate") ⊎ ((name ≡ codes "reopen")
    ⊎ ((name ≡ codes "cut") ⊎ ((name ≡ codes "recover")
    ⊎ ((name ≡ codes "status") ⊎ ((name ≡ codes "info") ⊎ ((name ≡ codes "verify")
    ⊎ ((name ≡ codes "log") ⊎ ((name ≡ codes "show") ⊎ ((name ≡ codes "stats")
    ⊎ ((name ≡ codes "draw") ⊎ ((name ≡ codes "seq") ⊎ ((name ≡ codes "check")
    ⊎ (name ≡ codes "node")))))))))))))))))
