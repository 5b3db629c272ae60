use Rattle.moves.specs.Lists.{literals_of}
use Rattle.moves.proofs.Bounds.{added_within, numbered_within}
use Rattle.task_file.proofs.named.Lists.in_lists.Goals as goal

pub invariant_of-self : goal.invariant_of-self
invariant_of-self c =
    let was = c.args.self.now in
    record { begun = numbered_within _ _ _ _ _ was.begun c.in_ok-self-in-Start.ensures; aimed = was.aimed; fitting = was.fitting }

pub invariant_of-self-in-Goal : goal.invariant_of-self-in-Goal
invariant_of-self-in-Goal c =
    let was = c.args.self.now in
    record {
      begun = was.begun;
      aimed = added_within (literals_of was.goal) c.in-Goal.literal _ c.args.place _ was.aimed c.in_ok-self-in-Goal.ensures;
      fitting = was.fitting;
    }
