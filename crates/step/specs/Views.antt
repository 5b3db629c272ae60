-- What the record of a step stands for. Assumes nothing.
use Rattle.std.specs.Prelude.{ℕ, List}
use Rattle.model.specs.Sets.{Set}
use Rattle.step.specs.Operands.{named}
use Rattle.step.specs.declared.record.Step.{Step}

-- its sixteen operands, and the moves that they name
abbrev pub operands_of : Step → List ℕ
operands_of s = s.operands

abbrev pub moves_of : Step → Set
moves_of s = named (operands_of s)
