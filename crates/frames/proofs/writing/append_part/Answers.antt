use Rattle.std.proofs.Common.{◌≡◌, ◌++◌, List, ℕ, length, subst, ◌∙◌}
use Rattle.std.proofs.lemmas.Result.{on_ok_weaker}
use Rattle.std.specs.List.{flat_map}
use Rattle.byteorder.specs.Endian.{big_bytes}
use Rattle.eventkey.specs.Message.{Message}
use Rattle.eventkey.specs.Encoding.{message_bytes}
use Rattle.model.specs.Encoding.{words_bytes}
use Rattle.frames.proofs.Appending.{part_joined}
use Rattle.frames.proofs.writing.append_part.Goals as goal

pub returns : goal.returns
returns c =
    let words = subst (λ (l : List ℕ). c.append_words.new.out.items ≡ c.append_u64.new.out.items ++ words_bytes l) c.as_slice.ensures c.in_ok-append_words.ensures.ok in
    let count = subst (λ (l : List Message). c.append_count.new.out.items ≡ c.append_words.new.out.items ++ big_bytes 4 (length l)) c.as_slice-2.ensures c.in_ok-append_count.ensures in
    on_ok_weaker c.append_messages.result
    (λ (pending : c.append_messages.new.out.items ≡ c.append_count.new.out.items ++ flat_map message_bytes c.as_slice-3.result.now).
    part_joined c.args.out.now.items c.append_u32.new.out.items c.append_u64.new.out.items c.append_words.new.out.items c.append_count.new.out.items c.append_messages.new.out.items c.args.part.now
    c.in_ok-append_u32.ensures c.in_ok-append_u64.ensures words count
    (subst (λ (l : List Message). c.append_messages.new.out.items ≡ c.append_count.new.out.items ++ flat_map message_bytes l) c.as_slice-3.ensures pending))
    c.append_messages.ensures.ok
