-- The rows of the written coupling. Assumes nothing.
use Rattle.std.specs.Prelude.{ℕ, true, false, map, vec_items, slice_index_or}
use Rattle.model.specs.Sets.{Literals, no_literals}
use Rattle.model.specs.Line.{Coupling}
use Rattle.moves.specs.Lists.{literals_of}
use Rattle.coupling.specs.declared.Written.{Written}

-- the companions of the move a; a number that has no row has none
abbrev pub row : Written → ℕ → Literals
row w a = slice_index_or (map literals_of (vec_items w.rows)) a no_literals

-- a plain companion is needed, one with "not" is barred
abbrev pub written_by : Written → Coupling
written_by w = record { needs = λ a. row w a true; bars = λ a. row w a false }
