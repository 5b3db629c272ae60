use Rattle.std.proofs.Common.{vec_items}
use Rattle.coupling.proofs.Table.{row_found}
use Rattle.coupling.proofs.Written.companions.Goals as goal

pub returns : goal.returns
returns c = cc (row_found (vec_items c.args.self.now.rows) _ c.from.result c.empty.result c.get.result c.deref.ensures.value c.get.ensures.lookup c.empty.ensures)
