use Rattle.std.proofs.Common.{vec_items, rules}
use Rattle.moves.specs.Lists.{literals_of}
use Rattle.task_file.proofs.Fits.{new_stands}
use Rattle.task_file.proofs.Taken.{begins_new}
use Rattle.task_file.proofs.named.Lists.begin.Goals as goal

pub returns-clause-standing : goal.returns-clause-standing
returns-clause-standing c =
    new_stands _ _ _ _ (literals_of c.empty.result) (literals_of c.empty-2.result) (vec_items c.new.result) c.if-station-self.false
    c.empty.ensures c.empty-2.ensures c.new.ensures.items

pub returns-clause-took : goal.returns-clause-took
returns-clause-took c =
    (begins_new c.args.self.now c.args.station c.args.place (literals_of c.empty.result) (literals_of c.empty-2.result) (vec_items c.new.result)
    (search rules) c.if-station-self.false c.empty.ensures c.empty-2.ensures c.new.ensures.items)
