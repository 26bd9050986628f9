-- The fault of a node for each fault of its processes.
use Rattle.node.specs.declared.NodeFault.{NodeFault}
use Rattle.node.specs.declared.NodeFault.TheVariants as node
use Rattle.process.specs.declared.ProcessFault.{ProcessFault}
use Rattle.process.specs.declared.ProcessFault.TheVariants.{NotMine, BelowFloor, NoMemory}
use Rattle.process.specs.declared.ProcessFault.TheVariants.{NumberLimit, Spent}

abbrev pub fault_of : ProcessFault → NodeFault
fault_of NotMine = node.NotMine
fault_of BelowFloor = node.BelowFloor
fault_of NoMemory = node.NoMemory
fault_of NumberLimit = node.NumberLimit
fault_of Spent = node.Spent
