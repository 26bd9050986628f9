-- Which values have an encoding.
use Rattle.std.specs.List.{AllByRecursion as Every}
use Rattle.std.specs.Prelude.{◌^◌, ◌<◌, ◌≤◌, length, IfSome}
use Rattle.eventkey.specs.Message.{IsRanged}
use Rattle.eventkey.specs.declared.Signed.{Signed}
use Rattle.model.specs.Meaning.{IsWords}
use Rattle.node.specs.declared.Load.{Load}
use Rattle.node.specs.declared.Parcel.{Parcel}
use Rattle.node.specs.declared.Part.{Part}
use Rattle.node.specs.declared.Reply.{Reply}
use Rattle.process.specs.Reports.{IsDone}
use Rattle.frames.specs.declared.Frame.{Frame}
use Rattle.frames.specs.declared.Frame.TheVariants as frame
use Rattle.node.specs.Node.{most_nodes}

pub record IsPart (p : Part) : Type 0 where
  pub lp : p.lp < 2 ^ 32
  pub number : p.number ≤ 2 ^ 63
  pub words : IsWords p.words
  pub count : length p.pending < 2 ^ 32
  pub pending : Every IsRanged p.pending

pub record IsLoad (l : Load) : Type 0 where
  pub node : l.node < l.nodes
  pub nodes : l.nodes ≤ most_nodes
  pub some : 1 ≤ l.end
  pub end : l.end ≤ 2 ^ 40
  pub floor : l.floor ≤ l.end
  pub count : length l.parts < 2 ^ 32
  pub parts : Every IsPart l.parts

pub record IsParcel (p : Parcel) : Type 0 where
  pub count : length p.deliver < 2 ^ 32
  pub deliver : Every (λ (s : Signed). IsRanged s.message) p.deliver
  pub budget : p.budget < 2 ^ 32
  pub floor : p.floor ≤ 2 ^ 40

pub record IsReply (r : Reply) : Type 0 where
  pub count : length r.out < 2 ^ 32
  pub out : Every (λ (s : Signed). IsRanged s.message) r.out
  pub low : IfSome r.low (λ time. time < 2 ^ 41)
  pub known : length r.fossils < 2 ^ 32
  pub fossils : Every IsDone r.fossils
  pub ran : r.ran < 2 ^ 32

abbrev pub IsInRange : Frame → Type 0
IsInRange (frame.Load l) = IsLoad l
IsInRange (frame.Parcel p) = IsParcel p
IsInRange (frame.Reply r) = IsReply r
IsInRange (frame.Fault f) = Unit {0}
