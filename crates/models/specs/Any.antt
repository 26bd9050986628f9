-- The meaning of a model that a model file can name, and its laws.
use Rattle.model.specs.Meaning.{IsLawful, Meaning}
use Rattle.models.specs.HoldLaws.{hold_lawful}
use Rattle.models.specs.JobShop.{shop_meaning}
use Rattle.models.specs.Phold.{hold_meaning}
use Rattle.models.specs.Ring.{ring_meaning}
use Rattle.models.specs.RingLaws.{ring_lawful}
use Rattle.models.specs.ShopLaws.{shop_lawful}
use Rattle.models.specs.declared.any_model.AnyModel.{AnyModel}
use Rattle.models.specs.declared.any_model.AnyModel.TheVariants.{JobShop, Phold, TokenRing}

abbrev pub any_meaning : AnyModel → Meaning
any_meaning (TokenRing r) = ring_meaning r.ring
any_meaning (Phold h) = hold_meaning h.hold
any_meaning (JobShop s) = shop_meaning s.shop

pub any_lawful : (m : AnyModel) → IsLawful (any_meaning m)
any_lawful (TokenRing r) = ring_lawful r
any_lawful (Phold h) = hold_lawful h
any_lawful (JobShop s) = shop_lawful s
