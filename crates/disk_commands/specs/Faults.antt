-- The fault of a command for a fault of what it calls.
use Rattle.segments.specs.declared.archiving.fault.ArchiveFault.{ArchiveFault}
use Rattle.segments.specs.declared.archiving.fault.ArchiveFault.TheVariants as archiving
use Rattle.commitlog.specs.declared.fault.LogFault.TheVariants as of_disk
use Rattle.coordinator.specs.declared.SessionFault.TheVariants as session
use Rattle.disk.specs.declared.file.FileFault.{FileFault}
use Rattle.disk.specs.declared.file.FileFault.TheVariants as opening
use Rattle.upkeep.specs.declared.growing.GrowingFault.{GrowingFault}
use Rattle.upkeep.specs.declared.growing.GrowingFault.TheVariants as growing
use Rattle.node_programs.specs.declared.fault.NodesFault.{NodesFault}
use Rattle.node_programs.specs.declared.fault.NodesFault.TheVariants as nodes
use Rattle.recovery.specs.declared.RecoveryFault.TheVariants.{OtherModel}
use Rattle.upkeep.specs.declared.cutting.CutFault.{CutFault}
use Rattle.upkeep.specs.declared.cutting.CutFault.TheVariants as cutting
use Rattle.upkeep.specs.declared.fault.SalvageFault.{SalvageFault}
use Rattle.upkeep.specs.declared.fault.SalvageFault.TheVariants as salvaging
use Rattle.views.specs.declared.fault.SegmentFault.TheVariants as segment
use Rattle.views.specs.declared.fault.ViewFault.{ViewFault}
use Rattle.views.specs.declared.fault.ViewFault.TheVariants as view
use Rattle.disk_commands.specs.declared.fault.Fault.{Fault}
use Rattle.disk_commands.specs.declared.fault.Fault.TheVariants as fault

-- for a fault of `views`
abbrev pub of_view : ViewFault → Fault
of_view view.BadModel = fault.BadModel
of_view view.File = fault.File
of_view (view.World f) = fault.World f
of_view (view.Log f) = fault.Log f
of_view (view.Recovery f) = fault.Recovery f
of_view (view.Record number f) = fault.Record number f
of_view (view.Segment f) = fault.Segment f
of_view view.BadTrace = fault.BadTrace
of_view (view.Setting f) = fault.Setting f
of_view (view.Mistake mistake) = fault.Mistake mistake
of_view (view.NoSuchProcess processes) = fault.NoSuchProcess processes
of_view view.NoSuchWord = fault.NoSuchWord
of_view view.NoMemory = fault.NoMemory
of_view view.Output = fault.Output

-- for a fault of node programs
abbrev pub of_nodes : NodesFault → Fault
of_nodes nodes.File = fault.File
of_nodes nodes.NoMemory = fault.NoMemory
of_nodes (nodes.Wire f) = fault.Wire f
of_nodes nodes.OtherModel = fault.OtherModel
of_nodes (nodes.OtherNode node) = fault.OtherNode node
of_nodes (nodes.Lost f) = fault.Session (session.Port f)

-- for a fault of making a disk longer
abbrev pub of_growing : GrowingFault → Fault
of_growing (growing.Recovery f) = fault.Recovery f
of_growing (growing.Growth f) = fault.Grow f

-- for a fault of archiving a disk
abbrev pub of_archive : ArchiveFault → Fault
of_archive archiving.File = fault.File
of_archive archiving.Full = fault.Session session.Full
of_archive archiving.TooLong = fault.Segment segment.TooLong
of_archive archiving.NotTheNext = fault.Segment segment.NotTheNext
of_archive (archiving.Recovery f) = fault.Recovery f
of_archive (archiving.Log f) = fault.Log f
of_archive archiving.NoMemory = fault.NoMemory

-- for a fault of a disk's file
abbrev pub of_file : FileFault → Fault
of_file opening.File = fault.File
of_file opening.NoMemory = fault.NoMemory

-- for a fault of a salvage
abbrev pub of_salvage : SalvageFault → Fault
of_salvage salvaging.OtherModel = fault.Recovery OtherModel
of_salvage (salvaging.Disk f) = fault.Log (of_disk.Disk f)
of_salvage salvaging.NoMemory = fault.NoMemory
of_salvage (salvaging.New f) = fault.Recover f

-- for a fault of a cut
abbrev pub of_cut : CutFault → Fault
of_cut cutting.NothingToCut = fault.NothingToCut
of_cut (cutting.Log f) = fault.Log f
of_cut (cutting.Recovery f) = fault.Recovery f
of_cut (cutting.Disk f) = fault.Log (of_disk.Disk f)
