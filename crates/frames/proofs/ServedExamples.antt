-- The definitions, computed: what node 0 of a ring of three processes serves.
use Rattle.std.specs.Prelude.{Ok, Err, false}
use Rattle.std.proofs.Common.{◌≡◌, ℕ, List, [], ◌∷◌, ◌++◌, refl, replicate}
use Rattle.byteorder.specs.Endian.{big_bytes}
use Rattle.eventkey.specs.Message.{Message, message_cmp}
use Rattle.eventkey.specs.Reading.{number_at, items_at}
use Rattle.eventkey.specs.Encoding.{message_bytes, message_at, signed_bytes, signed_at}
use Rattle.process.specs.Ring.{ring_meaning}
use Rattle.model.specs.Encoding.{words_at, words_bytes}
use Rattle.process.specs.Reports.{done_bytes}
use Rattle.frames.specs.Bodies.{low_bytes, reply_bytes, fault_bytes, part_at, load_in, parcel_in, framed}
use Rattle.frames.specs.Cutting.{cut}
use Rattle.frames.specs.Reactions.{begun, reaction}
use Rattle.frames.specs.Serving.{Served, first_turn, next_turn, served_from, served}
use Rattle.wire.specs.declared.port.WireFault.TheVariants.{BadBody, BadKind, TooLong}

abbrev first : Message
first = record { time = 1; from = 0; number = 0; to = 0; a = 0; b = 0; c = 0; d = 0 }

-- the load of node 0, a parcel without deliveries, the reply to it, and the refusal of a message
-- before the floor
abbrev load : List ℕ
load =
    0 ∷ 0 ∷ 0 ∷ 109 ∷ 1 ∷ (big_bytes 4 0 ++ big_bytes 4 3 ++ big_bytes 8 10 ++ big_bytes 8 0 ++ big_bytes 4 1
    ++ big_bytes 4 0 ++ big_bytes 8 1 ++ 1 ∷ (big_bytes 8 0 ++ big_bytes 4 1
    ++ big_bytes 8 1 ++ big_bytes 4 0 ++ big_bytes 8 0 ++ big_bytes 4 0 ++ replicate 32 0))

abbrev parcel : List ℕ
parcel = 0 ∷ 0 ∷ 0 ∷ 16 ∷ 2 ∷ (big_bytes 4 0 ++ big_bytes 4 16 ++ big_bytes 8 1)

abbrev reply : List ℕ
reply =
    0 ∷ 0 ∷ 0 ∷ 70 ∷ 3 ∷ (big_bytes 4 1 ++ 0 ∷ (big_bytes 8 3 ++ big_bytes 4 0 ++ big_bytes 8 1 ++ big_bytes 4 1 ++ big_bytes 8 0 ++ big_bytes 8 1 ++ replicate 16 0) ++ 0 ∷ (big_bytes 4 0 ++ big_bytes 4 1))

abbrev fault : List ℕ
fault = 0 ∷ 0 ∷ 0 ∷ 1 ∷ 4 ∷ 2 ∷ []

abbrev early : List ℕ
early = 0 ∷ 0 ∷ 0 ∷ 73 ∷ 2 ∷ (big_bytes 4 1 ++ replicate 57 0 ++ big_bytes 4 0 ++ big_bytes 8 1)

abbrev serving : List ℕ → Served
serving bytes = served ring_meaning (λ turn. false) 4294967295 bytes

nothing : serving [] ≡ record { text = []; result = Ok 0; rest = [] }
unfolding served first_turn cut
nothing = refl

parcel_first : serving parcel ≡ record { text = []; result = Err BadKind; rest = [] }
unfolding served first_turn begun cut number_at
parcel_first = refl

one_reply : serving (load ++ parcel) ≡ record { text = reply; result = Ok 1; rest = [] }
unfolding served first_turn next_turn served_from begun reaction cut number_at items_at message_at signed_at words_at part_at load_in parcel_in framed reply_bytes low_bytes done_bytes words_bytes signed_bytes message_bytes message_cmp
one_reply = refl

refusal : serving (load ++ parcel ++ early ++ parcel) ≡ record { text = reply ++ fault; result = Ok 1; rest = parcel }
unfolding served first_turn next_turn served_from begun reaction cut number_at items_at message_at signed_at words_at part_at load_in parcel_in framed reply_bytes low_bytes done_bytes words_bytes signed_bytes message_bytes message_cmp fault_bytes
refusal = refl

two_loads : serving (load ++ load) ≡ record { text = []; result = Err BadKind; rest = [] }
unfolding served first_turn next_turn served_from begun reaction cut number_at items_at message_at signed_at words_at part_at load_in parcel_in framed reply_bytes low_bytes done_bytes words_bytes signed_bytes message_bytes message_cmp
two_loads = refl

long_later : serving (load ++ parcel ++ 255 ∷ 255 ∷ 255 ∷ 255 ∷ []) ≡ record { text = reply; result = Err TooLong; rest = [] }
unfolding served first_turn next_turn served_from begun reaction cut number_at items_at message_at signed_at words_at part_at load_in parcel_in framed reply_bytes low_bytes done_bytes words_bytes signed_bytes message_bytes message_cmp
long_later = refl

one_byte_more : serving (load ++ 0 ∷ 0 ∷ 0 ∷ 17 ∷ 2 ∷ (big_bytes 4 0 ++ big_bytes 4 16 ++ big_bytes 8 1 ++ 0 ∷ [])) ≡ record { text = []; result = Err BadBody; rest = [] }
unfolding served first_turn next_turn served_from begun reaction cut number_at items_at message_at signed_at words_at part_at load_in parcel_in framed reply_bytes low_bytes done_bytes words_bytes signed_bytes message_bytes message_cmp
one_byte_more = refl
