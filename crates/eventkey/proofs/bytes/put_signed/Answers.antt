use Rattle.std.proofs.Common.{ℕ, List, ◌∙◌, ◌∷◌, ap}
use Rattle.eventkey.proofs.Written.{first_and_rest_written}
use Rattle.eventkey.specs.Encoding.{signed_bytes, sign_byte}
use Rattle.eventkey.proofs.bytes.put_signed.Goals as goal

pub returns : goal.returns
unfolding signed_bytes
returns c =
    first_and_rest_written c.args.out.now c.copy_from_slice.new.self c.byte_of.result c.told-out
    ∙ ap (λ (b : ℕ). b ∷ c.copy_from_slice.new.self) c.byte_of.ensures
    ∙ ap (λ (ys : List ℕ). sign_byte c.args.signed.now.sign ∷ ys) (c.copy_from_slice.ensures.after ∙ c.put_message.ensures)
