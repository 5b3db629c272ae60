use Rattle.std.proofs.Common.{refl}
use Rattle.sets.specs.Members.{members}
use Rattle.task.specs.Views.{line_of}
use Rattle.step.proofs.Questions.{torn_is, after_is}
use Rattle.step.proofs.joint.Joint.step_from.Goals as goal

pub returns-then-any_below : goal.returns-then-any_below
returns-then-any_below g c =
    let torn = torn_is (line_of c.args.self.now.task.now) (members c.args.context.line) (members c.args.context.moves) _ _ c.joint_changes.ensures.made c.joint_changes.ensures.unmade _ _ _ c.if-any_below.ensures c.fluents.ensures.value c.intersection.ensures in
    rw (← c.if-some_unready.ensures, ← c.if-some_lack.ensures, ← c.if-some_clash.ensures, ← torn) refl

pub returns : goal.returns
returns g c =
    let L = line_of c.args.self.now.task.now in
    let s = members c.args.context.line in
    let S = members c.args.context.moves in
    let changes = c.joint_changes.ensures in
    let torn = torn_is L s S _ _ changes.made changes.unmade _ _ _ c.if-any_below.ensures c.fluents.ensures.value c.intersection.ensures in
    (rw (← c.if-some_unready.ensures, ← c.if-some_lack.ensures, ← c.if-some_clash.ensures, ← torn) refl, after_is L s S _ _ changes.made changes.unmade _ _ c.difference.ensures c.union.ensures)
