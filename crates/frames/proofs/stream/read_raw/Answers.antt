use Rattle.std.proofs.Common.{rules, ◌<◌, ◌≤◌, ◌^◌, sym, subst, ◌∙◌}
use Rattle.byteorder.specs.Endian.{big_number}
use Rattle.frames.specs.Cutting.{cut}
use Rattle.frames.specs.Streams.{GivesFewer, GivesUpTo}
use Rattle.frames.proofs.Cuts.{stops_at_kind, stops_in_head}
use Rattle.frames.proofs.Halfway.{cut_io}
use Rattle.frames.proofs.Raws.{Came, HasHead, body_missing, body_there, came_all, cut_halfway, has_kind, raw_bad_kind, raw_long, raw_no_body, raw_no_kind, raw_none, raw_part, raw_short, raw_whole}
use Rattle.frames.proofs.stream.read_raw.Goals as goal

pub returns-in_err-came : goal.returns-in_err-came
returns-in_err-came g c =
    let some = subst (λ n. GivesUpTo n (g.R.Read.remaining c.args.reader.now) (g.R.Read.remaining c.fill.new.reader)) c.fill.auto.buffer c.in_err-came.ensures.err in
    cut_io cut _ _ c.from_residual.result c.from_residual.ensures.1 (stops_in_head _ _ some)

pub returns-then-came-eq0 : goal.returns-then-came-eq0
returns-then-came-eq0 g c =
    raw_none _ _ c.fill.new.buffer c.in_ok-came.came (record { size = c.fill.auto.buffer; bytes = c.in_ok-came.ensures.bytes; ended = c.in_ok-came.ensures.end }) c.if-came-eq0.true

pub returns-then-came-lt4 : goal.returns-then-came-lt4
returns-then-came-lt4 g c =
    let some : 1 ≤ c.in_ok-came.came = search rules in
    raw_short _ _ c.fill.new.buffer c.in_ok-came.came (record { size = c.fill.auto.buffer; bytes = c.in_ok-came.ensures.bytes; ended = c.in_ok-came.ensures.end }) some c.if-came-lt4.true

pub returns-then-length-gt-MOST_BYTES : goal.returns-then-length-gt-MOST_BYTES
returns-then-length-gt-MOST_BYTES g c =
    let long : 2 ^ 24 < big_number 4 c.fill.new.buffer = subst (λ n. 2 ^ 24 < n) c.read_u32-length.ensures c.if-length-gt-MOST_BYTES.true in
    raw_long _ _ c.fill.new.buffer c.in_ok-came.came (record { size = c.fill.auto.buffer; bytes = c.in_ok-came.ensures.bytes; ended = c.in_ok-came.ensures.end }) c.if-came-lt4.false long

pub returns-in_err-came-2 : goal.returns-in_err-came-2
returns-in_err-came-2 g c =
    let came : Came _ _ c.fill.new.buffer 4 c.in_ok-came.came = record { size = c.fill.auto.buffer; bytes = c.in_ok-came.ensures.bytes; ended = c.in_ok-came.ensures.end } in
    let fits : big_number 4 c.fill.new.buffer ≤ 2 ^ 24 = subst (λ n. n ≤ 2 ^ 24) c.read_u32-length.ensures c.if-length-gt-MOST_BYTES.false in
    let some = subst (λ n. GivesUpTo n (g.R.Read.remaining c.fill.new.reader) (g.R.Read.remaining c.fill-2.new.reader)) c.fill-2.auto.buffer c.in_err-came-2.ensures.err in
    cut_io cut _ _ c.from_residual-in_err-came-2.result c.from_residual-in_err-came-2.ensures.1
    (stops_at_kind _ _ _ c.fill.new.buffer c.fill.auto.buffer fits (came_all _ _ c.fill.new.buffer 4 c.in_ok-came.came came c.if-came-lt4.false) some)

pub returns-then-came-eq0-2 : goal.returns-then-came-eq0-2
returns-then-came-eq0-2 g c =
    let came : Came _ _ c.fill.new.buffer 4 c.in_ok-came.came = record { size = c.fill.auto.buffer; bytes = c.in_ok-came.ensures.bytes; ended = c.in_ok-came.ensures.end } in
    let fits : big_number 4 c.fill.new.buffer ≤ 2 ^ 24 = subst (λ n. n ≤ 2 ^ 24) c.read_u32-length.ensures c.if-length-gt-MOST_BYTES.false in
    let head : HasHead _ _ c.fill.new.buffer = record { size = c.fill.auto.buffer; bytes = came_all _ _ c.fill.new.buffer 4 c.in_ok-came.came came c.if-came-lt4.false; fits = fits } in
    raw_no_kind _ _ _ c.fill.new.buffer c.fill-2.new.buffer c.in_ok-came-2.came head (record { size = c.fill-2.auto.buffer; bytes = c.in_ok-came-2.ensures.bytes; ended = c.in_ok-came-2.ensures.end }) c.if-came-eq0-2.true

pub returns-in_default : goal.returns-in_default
returns-in_default g c =
    let came : Came _ _ c.fill.new.buffer 4 c.in_ok-came.came = record { size = c.fill.auto.buffer; bytes = c.in_ok-came.ensures.bytes; ended = c.in_ok-came.ensures.end } in
    let fits : big_number 4 c.fill.new.buffer ≤ 2 ^ 24 = subst (λ n. n ≤ 2 ^ 24) c.read_u32-length.ensures c.if-length-gt-MOST_BYTES.false in
    let head : HasHead _ _ c.fill.new.buffer = record { size = c.fill.auto.buffer; bytes = came_all _ _ c.fill.new.buffer 4 c.in_ok-came.came came c.if-came-lt4.false; fits = fits } in
    let some : 1 ≤ c.in_ok-came-2.came = search rules in
    let kind = has_kind _ _ _ c.fill.new.buffer c.fill-2.new.buffer c.in_ok-came-2.came head (record { size = c.fill-2.auto.buffer; bytes = c.in_ok-came-2.ensures.bytes; ended = c.in_ok-came-2.ensures.end }) some in
    raw_bad_kind _ _ c.fill.new.buffer c.fill-2.new.buffer kind (sym c.kind_of.ensures ∙ c.in_default.is)

pub returns-in_err-body : goal.returns-in_err-body
returns-in_err-body g c =
    let came : Came _ _ c.fill.new.buffer 4 c.in_ok-came.came = record { size = c.fill.auto.buffer; bytes = c.in_ok-came.ensures.bytes; ended = c.in_ok-came.ensures.end } in
    let fits : big_number 4 c.fill.new.buffer ≤ 2 ^ 24 = subst (λ n. n ≤ 2 ^ 24) c.read_u32-length.ensures c.if-length-gt-MOST_BYTES.false in
    let head : HasHead _ _ c.fill.new.buffer = record { size = c.fill.auto.buffer; bytes = came_all _ _ c.fill.new.buffer 4 c.in_ok-came.came came c.if-came-lt4.false; fits = fits } in
    let one : 1 ≤ c.in_ok-came-2.came = search rules in
    let kind = has_kind _ _ _ c.fill.new.buffer c.fill-2.new.buffer c.in_ok-came-2.came head (record { size = c.fill-2.auto.buffer; bytes = c.in_ok-came-2.ensures.bytes; ended = c.in_ok-came-2.ensures.end }) one in
    let some = subst (λ n. GivesUpTo n (g.R.Read.remaining c.fill-2.new.reader) (g.R.Read.remaining c.read_bytes.new.reader)) c.read_u32-length.ensures c.in_err-body.ensures.1 in
    cut_halfway cut _ _ c.in_err-body.field-0.0 c.from_residual-in_err-body.result c.from_residual-in_err-body.ensures.1 c.in_err-body.ensures.0
    (raw_part _ _ _ c.fill.new.buffer c.fill-2.new.buffer c.in-Some.kind kind (sym c.in-Some.ensures) some)

pub returns-in_default-2 : goal.returns-in_default-2
returns-in_default-2 g c =
    let came : Came _ _ c.fill.new.buffer 4 c.in_ok-came.came = record { size = c.fill.auto.buffer; bytes = c.in_ok-came.ensures.bytes; ended = c.in_ok-came.ensures.end } in
    let fits : big_number 4 c.fill.new.buffer ≤ 2 ^ 24 = subst (λ n. n ≤ 2 ^ 24) c.read_u32-length.ensures c.if-length-gt-MOST_BYTES.false in
    let head : HasHead _ _ c.fill.new.buffer = record { size = c.fill.auto.buffer; bytes = came_all _ _ c.fill.new.buffer 4 c.in_ok-came.came came c.if-came-lt4.false; fits = fits } in
    let some : 1 ≤ c.in_ok-came-2.came = search rules in
    let kind = has_kind _ _ _ c.fill.new.buffer c.fill-2.new.buffer c.in_ok-came-2.came head (record { size = c.fill-2.auto.buffer; bytes = c.in_ok-came-2.ensures.bytes; ended = c.in_ok-came-2.ensures.end }) some in
    let before = g.R.Read.remaining c.fill-2.new.reader in
    let after = g.R.Read.remaining c.read_bytes.new.reader in
    let missing : GivesFewer c.read_u32-length.result before after = body_missing _ _ _ _ _ c.in_ok-body.ensures c.in_default-2.is in
    let fewer : GivesFewer (big_number 4 c.fill.new.buffer) before after = subst (λ n. GivesFewer n before after) c.read_u32-length.ensures missing in
    raw_no_body _ _ _ c.fill.new.buffer c.fill-2.new.buffer c.in-Some.kind kind (sym c.in-Some.ensures) fewer

pub returns : goal.returns
returns g c =
    let came : Came _ _ c.fill.new.buffer 4 c.in_ok-came.came = record { size = c.fill.auto.buffer; bytes = c.in_ok-came.ensures.bytes; ended = c.in_ok-came.ensures.end } in
    let fits : big_number 4 c.fill.new.buffer ≤ 2 ^ 24 = subst (λ n. n ≤ 2 ^ 24) c.read_u32-length.ensures c.if-length-gt-MOST_BYTES.false in
    let head : HasHead _ _ c.fill.new.buffer = record { size = c.fill.auto.buffer; bytes = came_all _ _ c.fill.new.buffer 4 c.in_ok-came.came came c.if-came-lt4.false; fits = fits } in
    let some : 1 ≤ c.in_ok-came-2.came = search rules in
    let kind = has_kind _ _ _ c.fill.new.buffer c.fill-2.new.buffer c.in_ok-came-2.came head (record { size = c.fill-2.auto.buffer; bytes = c.in_ok-came-2.ensures.bytes; ended = c.in_ok-came-2.ensures.end }) some in
    let there = body_there _ _ _ _ _ c.in-Some-2.body c.in_ok-body.ensures c.in-Some-2.is in
    rw c.from_vec.ensures (raw_whole _ _ _ c.fill.new.buffer c.fill-2.new.buffer c.in-Some-2.body.items c.in-Some.kind kind (sym c.in-Some.ensures) (there.0 ∙ c.read_u32-length.ensures) there.1)
