use Rattle.std.proofs.Common.{◌≡◌, ◌++◌, List, ℕ, subst}
use Rattle.std.proofs.lemmas.Result.{on_ok_weaker}
use Rattle.model.specs.Encoding.{words_bytes}
use Rattle.frames.proofs.Hellos.{hello_joined}
use Rattle.frames.proofs.greeting.append_hello.Goals as goal

pub returns : goal.returns
returns c =
    on_ok_weaker c.append_words.result
    (λ (words : c.append_words.new.out.items ≡ c.append_u64.new.out.items ++ words_bytes c.as_slice.result.now).
    hello_joined c.args.out.now.items c.append_u32.new.out.items c.append_u32-2.new.out.items c.append_u64.new.out.items c.append_words.new.out.items c.args.hello.now
    c.in_ok-append_u32.ensures c.in_ok-append_u32-2.ensures c.in_ok-append_u64.ensures
    (subst (λ (l : List ℕ). c.append_words.new.out.items ≡ c.append_u64.new.out.items ++ words_bytes l) c.as_slice.ensures words))
    c.append_words.ensures.ok
