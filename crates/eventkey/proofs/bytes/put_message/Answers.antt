use Rattle.std.proofs.Common.{refl}
use Rattle.eventkey.proofs.Written.{begins, put_field, all_written}
use Rattle.byteorder.specs.Endian.{big_bytes}
use Rattle.eventkey.specs.Encoding.{message_bytes}
use Rattle.eventkey.proofs.bytes.put_message.Goals as goal

pub returns : goal.returns
unfolding message_bytes
returns c =
    let m = c.args.message.now in
    let time = begins 56 8 c.args.out.now _ (big_bytes 8 m.time) (rw c.time.ensures at c.write_u64.ensures) c.told-out in
    let from = put_field 8 48 4 _ _ _ (big_bytes 4 m.from) time refl (rw c.from.ensures at c.write_u32.ensures) in
    let number = put_field 12 44 8 _ _ _ (big_bytes 8 m.number) from refl (rw c.number.ensures at c.write_u64-2.ensures) in
    let to = put_field 20 36 4 _ _ _ (big_bytes 4 m.to) number refl (rw c.to.ensures at c.write_u32-2.ensures) in
    let a = put_field 24 32 8 _ _ _ (big_bytes 8 m.a) to refl (rw c.a.ensures at c.write_u64-3.ensures) in
    let b = put_field 32 24 8 _ _ _ (big_bytes 8 m.b) a refl (rw c.b.ensures at c.write_u64-4.ensures) in
    let c' = put_field 40 16 8 _ _ _ (big_bytes 8 m.c) b refl (rw c.c.ensures at c.write_u64-5.ensures) in
    let d = put_field 48 8 8 _ _ _ (big_bytes 8 m.d) c' refl (rw c.d.ensures at c.write_u64-6.ensures) in
    all_written _ _ d
