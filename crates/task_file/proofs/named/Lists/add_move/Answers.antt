use Rattle.task_file.proofs.Fits.{moves_pushed}
use Rattle.task_file.proofs.named.Lists.add_move.Goals as goal

pub invariant_of-self : goal.invariant_of-self
invariant_of-self c =
    let was = c.args.self.now in
    record { begun = was.begun; aimed = was.aimed; fitting = moves_pushed _ _ _ _ _ c.args.complete _ was.fitting c.requires c.push.ensures.items }
