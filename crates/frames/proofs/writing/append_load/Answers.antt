use Rattle.std.proofs.Common.{◌≡◌, ◌++◌, List, length, subst}
use Rattle.std.proofs.lemmas.Result.{on_ok_weaker}
use Rattle.std.specs.List.{flat_map}
use Rattle.byteorder.specs.Endian.{big_bytes}
use Rattle.node.specs.declared.Part.{Part}
use Rattle.frames.specs.Bodies.{part_bytes}
use Rattle.frames.proofs.Appending.{load_joined}
use Rattle.frames.proofs.writing.append_load.Goals as goal

pub returns : goal.returns
returns c =
    let count = subst (λ (l : List Part). c.append_count.new.out.items ≡ c.append_u64-2.new.out.items ++ big_bytes 4 (length l)) c.as_slice.ensures c.in_ok-append_count.ensures in
    on_ok_weaker c.append_parts.result
    (λ (parts : c.append_parts.new.out.items ≡ c.append_count.new.out.items ++ flat_map part_bytes c.as_slice-2.result.now).
    load_joined c.args.out.now.items c.append_u32.new.out.items c.append_u32-2.new.out.items c.append_u64.new.out.items c.append_u64-2.new.out.items c.append_count.new.out.items c.append_parts.new.out.items c.args.load.now
    c.in_ok-append_u32.ensures c.in_ok-append_u32-2.ensures c.in_ok-append_u64.ensures c.in_ok-append_u64-2.ensures count
    (subst (λ (l : List Part). c.append_parts.new.out.items ≡ c.append_count.new.out.items ++ flat_map part_bytes l) c.as_slice-2.ensures parts))
    c.append_parts.ensures
