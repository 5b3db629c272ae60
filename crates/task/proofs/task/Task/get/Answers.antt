use Rattle.std.proofs.Common.{vec_items}
use Rattle.task.proofs.Looked.{found_move}
use Rattle.task.proofs.task.Task.get.Goals as goal

pub returns : goal.returns
returns c = rw c.from.ensures at (found_move (vec_items c.args.self.now.lists.moves) _ c.from.result c.get.result c.deref.ensures.value c.get.ensures.lookup)
