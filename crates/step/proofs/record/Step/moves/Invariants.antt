use Rattle.std.proofs.Common.{◌≡◌, drop}
use Rattle.model.specs.Sets.{either}
use Rattle.sets.specs.Members.{members}
use Rattle.step.specs.Operands.{named}
use Rattle.step.proofs.record.Step.moves.Given as goal

-- what is gathered so far, and what the operands left name, is the whole
abbrev pub invariant-loop-a : goal.invariant-loop-a
invariant-loop-a l = either (members l.all) (named (drop l.a-index l.self.operands)) ≡ named l.self.operands
