use Rattle.std.proofs.Common.{Ok}
use Rattle.frames.proofs.Greetings.{first_as, greeted_failed, greeted_fault, greeted_hello, greeted_other}
use Rattle.frames.specs.declared.first_frame.First.TheVariants as first
use Rattle.frames.proofs.greeted.serve_greeted.Goals as goal

pub returns-in_err-asked : goal.returns-in_err-asked
returns-in_err-asked g c = greeted_fault (g.M.Model.meaning c.args.model.now) c.args.end c.args.limit (g.R.Read.remaining c.args.reader.now) (g.R.Read.remaining c.read_first.new.reader) (g.W.Write.contents c.args.writer.now) c.in_err-asked.field-0.0 c.from_residual.result c.from_residual.ensures.1 c.in_err-asked.ensures.known

pub returns-in-Hello : goal.returns-in-Hello
returns-in-Hello g c =
    greeted_hello (g.M.Model.meaning c.args.model.now) c.args.end c.args.limit (g.R.Read.remaining c.args.reader.now) (g.R.Read.remaining c.read_first.new.reader) (g.W.Write.contents c.args.writer.now) (g.W.Write.contents c.answer.new.writer) c.in-Hello.asked c.answer.result
    (first_as (g.R.Read.remaining c.args.reader.now) (g.R.Read.remaining c.read_first.new.reader) c.in_ok-asked.field-0 (first.Hello c.in-Hello.asked) c.in-Hello.is c.in_ok-asked.ensures.known) c.answer.ensures

pub returns-in_err-replies-in-Other : goal.returns-in_err-replies-in-Other
returns-in_err-replies-in-Other g c =
    greeted_failed (g.M.Model.meaning c.args.model.now) c.args.end c.args.limit (g.R.Read.remaining c.args.reader.now) (g.R.Read.remaining c.read_first.new.reader) _ _ (g.W.Write.contents c.args.writer.now) (g.W.Write.contents c.serve.new.writer) c.in-Other.head c.in-Other.came c.in_err-replies-in-Other.field-0.0 c.from_residual-in_err-replies-in-Other.result c.from_residual-in_err-replies-in-Other.ensures.1
    (first_as (g.R.Read.remaining c.args.reader.now) (g.R.Read.remaining c.read_first.new.reader) c.in_ok-asked.field-0 (first.Other c.in-Other.head c.in-Other.came) c.in-Other.is c.in_ok-asked.ensures.known) c.chain-whole.ensures.bytes c.in_err-replies-in-Other.ensures

pub returns-in_ok-replies-in-Other : goal.returns-in_ok-replies-in-Other
returns-in_ok-replies-in-Other g c =
    greeted_other (g.M.Model.meaning c.args.model.now) c.args.end c.args.limit (g.R.Read.remaining c.args.reader.now) (g.R.Read.remaining c.read_first.new.reader) _ _ (g.W.Write.contents c.args.writer.now) (g.W.Write.contents c.serve.new.writer) c.in-Other.head c.in-Other.came (Ok c.in_ok-replies-in-Other.replies)
    (first_as (g.R.Read.remaining c.args.reader.now) (g.R.Read.remaining c.read_first.new.reader) c.in_ok-asked.field-0 (first.Other c.in-Other.head c.in-Other.came) c.in-Other.is c.in_ok-asked.ensures.known) c.chain-whole.ensures.bytes c.in_ok-replies-in-Other.ensures
