use Rattle.std.proofs.Common.{◌≡◌, ℕ, true, false, ap, ◌∙◌, arith}
use Rattle.model.specs.Sets.{Literals, both}
use Rattle.model.specs.Task.{move_at, results}
use Rattle.sets.specs.Members.{members}
use Rattle.moves.specs.Lists.{literals_of}
use Rattle.moves.proofs.Lits.{literals_ext}
use Rattle.task.specs.Views.{task_of, line_of}
use Rattle.step.proofs.Gathering.{gather_more, gather_skip}
use Rattle.step.proofs.joint.joint_changes.Goals.{then-contains, else-contains}
use Rattle.step.proofs.joint.joint_changes.Goals as goal

pub loop-a-preserved : goal.loop-a-preserved
loop-a-preserved c =
    let S = members c.args.context.moves in
    let gives : ℕ → Literals = λ b. results (move_at (task_of c.args.task.now).moves b).effects (members c.args.context.line) S in
    elim c.if-contains.branch [
      | then-contains w ↦
          gather_more gives S _ c.loop-a.a c.loop-a.invariant _ w.if-contains.ensures
          (ap literals_of w.changes-is ∙ w.union-changes.ensures ∙ ap (both (literals_of c.loop-a.changes)) (literals_ext _ _ w.results.ensures.sets w.results.ensures.clears))
      | else-contains w ↦ gather_skip gives S _ c.loop-a.a c.loop-a.invariant _ w.if-contains.ensures (ap literals_of w.changes-is)
    ]

pub returns : goal.returns
returns c =
    let e : c.loop-a.a ≡ (line_of c.args.task.now).moves = omega arith in
    let all = rw e at c.loop-a.invariant in
    record { made = ap (λ l. l true) all; unmade = ap (λ l. l false) all }
