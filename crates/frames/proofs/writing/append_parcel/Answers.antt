use Rattle.std.proofs.Common.{◌≡◌, ◌++◌, List, length, subst}
use Rattle.std.proofs.lemmas.Result.{on_ok_weaker}
use Rattle.std.specs.List.{flat_map}
use Rattle.byteorder.specs.Endian.{big_bytes}
use Rattle.eventkey.specs.Encoding.{signed_bytes}
use Rattle.eventkey.specs.declared.Signed.{Signed}
use Rattle.frames.proofs.Appending.{parcel_joined}
use Rattle.frames.proofs.writing.append_parcel.Goals as goal

pub returns : goal.returns
returns c =
    let count = subst (λ (l : List Signed). c.append_count.new.out.items ≡ c.args.out.now.items ++ big_bytes 4 (length l)) c.as_slice.ensures c.in_ok-append_count.ensures in
    let deliver = subst (λ (l : List Signed). c.append_signed_list.new.out.items ≡ c.append_count.new.out.items ++ flat_map signed_bytes l) c.as_slice-2.ensures c.in_ok-append_signed_list.ensures.ok in
    on_ok_weaker c.append_u64.result
    (parcel_joined c.args.out.now.items c.append_count.new.out.items c.append_signed_list.new.out.items c.append_u32.new.out.items c.append_u64.new.out.items c.args.parcel.now
    count deliver c.in_ok-append_u32.ensures)
    c.append_u64.ensures
