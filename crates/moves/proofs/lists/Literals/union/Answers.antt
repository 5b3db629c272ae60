use Rattle.std.proofs.Common.{rules}
use Rattle.moves.proofs.Lits.{literals_ext}
use Rattle.moves.proofs.lists.Literals.union.Goals as goal

pub returns : goal.returns
returns c = search (rules, literals_ext)
