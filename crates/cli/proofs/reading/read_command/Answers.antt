use Rattle.std.proofs.Common.{ap, map, subst, sym, [], Some, ◌∙◌, ◌≡◌}
use Rattle.clap.specs.Words.{FailsBy, HasKind, app_of, fault_of, found_of, is_simple, is_simple_and_free, rows_of, subcommand_of}
use Rattle.cli.specs.Command.{program_of, value_fault}
use Rattle.cli.proofs.Lines.{only_named, program_is_free, program_is_simple, refused_as, refused_first, refused_then, subcommand_found}
use Rattle.cli.proofs.reading.read_command.Goals as goal

pub command_of-requires : goal.command_of-requires
command_of-requires g c =
    let called = c.args.texts.name.now in
    let words = map g.S.AsStr.text c.args.words.now in
    let e : app_of c.in_ok-program.field-0 ≡ program_of called = c.in_ok-program.ensures.is.0 in
    let rows = rows_of (found_of c.in-Some.values.now) in
    let found : subcommand_of (program_of called) words ≡ Some (c.in-Some.name.now, rows) =
    sym (ap (λ a. subcommand_of a words) e) ∙ sym (c.in_ok-matches.ensures.matches (ap is_simple e ∙ program_is_simple called)).1
    ∙ subcommand_found c.in_ok-matches.matches c.in-Some.name.now rows c.in-Some.ensures.name c.in-Some.ensures.rows in
    only_named called words c.in-Some.name.now rows found

pub returns-in-Some-clause-ok : goal.returns-in-Some-clause-ok
returns-in-Some-clause-ok g c =
    let called = c.args.texts.name.now in
    let words = map g.S.AsStr.text c.args.words.now in
    let e : app_of c.in_ok-program.field-0 ≡ program_of called = c.in_ok-program.ensures.is.0 in
    let rows = rows_of (found_of c.in-Some.values.now) in
    let found : subcommand_of (program_of called) words ≡ Some (c.in-Some.name.now, rows) =
    sym (ap (λ a. subcommand_of a words) e) ∙ sym (c.in_ok-matches.ensures.matches (ap is_simple e ∙ program_is_simple called)).1
    ∙ subcommand_found c.in_ok-matches.matches c.in-Some.name.now rows c.in-Some.ensures.name c.in-Some.ensures.rows in
    record { name = c.in-Some.name.now; rows = rows; found = found; values = c.command_of.ensures.says }

pub returns-in-Some-clause-refused : goal.returns-in-Some-clause-refused
returns-in-Some-clause-refused g c =
    let called = c.args.texts.name.now in
    let words = map g.S.AsStr.text c.args.words.now in
    let e : app_of c.in_ok-program.field-0 ≡ program_of called = c.in_ok-program.ensures.is.0 in
    let rows = rows_of (found_of c.in-Some.values.now) in
    let found : subcommand_of (program_of called) words ≡ Some (c.in-Some.name.now, rows) =
    sym (ap (λ a. subcommand_of a words) e) ∙ sym (c.in_ok-matches.ensures.matches (ap is_simple e ∙ program_is_simple called)).1
    ∙ subcommand_found c.in_ok-matches.matches c.in-Some.name.now rows c.in-Some.ensures.name c.in-Some.ensures.rows in
    let passes : fault_of (program_of called) words ≡ [] =
    sym (ap (λ a. fault_of a words) e) ∙ c.in_ok-matches.ensures.kinds (ap is_simple_and_free e ∙ program_is_free called) in
    refused_then called words c.in-Some.name.now rows passes found ∙ c.in-None-refusal.ensures

pub returns-in-Some-refusal-clause-refused : goal.returns-in-Some-refusal-clause-refused
returns-in-Some-refusal-clause-refused g c =
    let called = c.args.texts.name.now in
    let words = map g.S.AsStr.text c.args.words.now in
    let e : app_of c.in_ok-program.field-0 ≡ program_of called = c.in_ok-program.ensures.is.0 in
    let rows = rows_of (found_of c.in-Some.values.now) in
    let found : subcommand_of (program_of called) words ≡ Some (c.in-Some.name.now, rows) =
    sym (ap (λ a. subcommand_of a words) e) ∙ sym (c.in_ok-matches.ensures.matches (ap is_simple e ∙ program_is_simple called)).1
    ∙ subcommand_found c.in_ok-matches.matches c.in-Some.name.now rows c.in-Some.ensures.name c.in-Some.ensures.rows in
    let passes : fault_of (program_of called) words ≡ [] =
    sym (ap (λ a. fault_of a words) e) ∙ c.in_ok-matches.ensures.kinds (ap is_simple_and_free e ∙ program_is_free called) in
    subst (λ ks. HasKind ks c.in-Some-refusal.error) (sym (refused_then called words c.in-Some.name.now rows passes found)) c.in-Some-refusal.ensures

pub returns-in_err-matches-clause-refused : goal.returns-in_err-matches-clause-refused
returns-in_err-matches-clause-refused g c =
    let called = c.args.texts.name.now in
    let words = map g.S.AsStr.text c.args.words.now in
    let e : app_of c.in_ok-program.field-0 ≡ program_of called = c.in_ok-program.ensures.is.0 in
    refused_first (fault_of (program_of called) words) (value_fault (subcommand_of (program_of called) words)) c.from_residual-in_err-matches.result c.in_err-matches.field-0.0 c.from_residual-in_err-matches.ensures.1
    (refused_as _ c.from_residual-in_err-matches.result c.try_get_matches_from.result c.in_err-matches.field-0.0 c.in_err-matches.was
    (subst (λ ks. FailsBy ks c.try_get_matches_from.result) (ap (λ a. fault_of a words) e)
    (c.try_get_matches_from.ensures.kinds (ap is_simple_and_free e ∙ program_is_free called)))
    c.from_residual-in_err-matches.ensures.1)
