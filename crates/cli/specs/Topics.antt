-- What the words of `help` ask for.
use Rattle.std.specs.Prelude.{◌==◌, ◌&&◌, Bool, List, Option, Some, None, codes, length}
use Rattle.std.specs.Prelude.{if◌then◌else◌, option_and_then}
use Rattle.std.specs.List.{slice_get}
use Rattle.std.specs.Str.{bytes_eq}
use Rattle.clap.specs.Words.{Text}
use Rattle.cli.specs.Command.{is_text}
use Rattle.cli.specs.declared.topics.Topic.{Topic}
use Rattle.cli.specs.declared.topics.Topic.TheVariants.{Commits, Looking, Nodes, Repair, Segments}
use Rattle.cli.specs.declared.topics.Topic.TheVariants.{Statuses, Unattended}

-- the word after the program's own name is `help`
abbrev pub asks_help : List Text → Bool
asks_help words = is_text (slice_get words 1) (codes "help")

-- the topic of this name
abbrev pub topic_named : Text → Option Topic
topic_named name = if bytes_eq name (codes "nodes") then Some Nodes
    else if bytes_eq name (codes "commits") then Some Commits
    else if bytes_eq name (codes "unattended") then Some Unattended
    else if bytes_eq name (codes "segments") then Some Segments
    else if bytes_eq name (codes "repair") then Some Repair
    else if bytes_eq name (codes "looking") then Some Looking
    else if bytes_eq name (codes "statuses") then Some Statuses
    else None

-- the topic whose name is the only word after `help`
abbrev pub topic_of : List Text → Option Topic
topic_of words = if asks_help words && length words == 3
    then option_and_then topic_named (slice_get words 2) else None
