use Rattle.std.proofs.Common.{take}
use Rattle.world.specs.Plans.{Leads}
use Rattle.world.proofs.run.Given as goal

abbrev pub invariant-loop-i : goal.invariant-loop-i
invariant-loop-i g l = Leads (g.W.World.leads l.world) (g.W.World.begins l.world) (take l.i-counter l.steps) (g.W.World.model l.state)
