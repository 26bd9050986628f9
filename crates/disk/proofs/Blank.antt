-- A struct without fields: its machine representation, and that it owns nothing.
use Rattle.std.proofs.Common.{List, [], refl}
use seplogic.Ra.Ura.{Ura}
use mir.Val.{Val, vstruct, vnil}
use types.Logic.{Logic}
use types.Kit.{Goal, Step, step, Item, ‵, ◌$◌, fjoin, fpack, feq_i}
use denote.RattleType.{Valss}
use denote.Steps.{nothing}
use denote.Struct.Struct.{Struct, within}
use Rattle.std.proofs.Common.{◌∷◌}

abbrev pub blank : Val
blank = vstruct vnil

module _ {M : Type 1} {𝓤 : Ura M} {𝓛 : Logic 𝓤} {K : Type 0} {Γ : List (Item 𝓤)} {G : Goal 𝓤 𝓛.H} where
  pub blank_made : K → Step K 𝓛 (‵ ((Struct (record { name = []; args = []; types = []; fields = [] })).own_val tt (blank ∷ [])) ∷ Γ) G Γ G
  blank_made k = step (λ s.
      nothing k $ feq_i k (List Val) (blank ∷ []) (blank ∷ []) refl $ fjoin k $
      fpack k (Valss []) (within (record { name = []; args = []; types = []; fields = [] }) tt (blank ∷ [])) tt $ s)
