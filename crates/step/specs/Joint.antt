-- The world of whole steps by the model. Assumes nothing.
use Rattle.std.specs.Prelude.{ℕ, cond, Ok, Err, Result}
use Rattle.std.proofs.Math.Option.{Option, none, some}
use Rattle.refusals.specs.declared.Question.{Question}
use Rattle.refusals.specs.declared.Question.TheVariants.{Goal}
use Rattle.refusals.specs.Numbers.{question}
use Rattle.model.specs.Sets.{Set}
use Rattle.model.specs.Line.{Line, Coupling}
use Rattle.model.specs.Joint.{refused, after}

-- the fluents t, unless a question is answered no
abbrev pub answered : Option ℕ → Set → Result Set Question
answered none t = Ok t
answered (some n) t = Err (question n)

-- the step S leads from s to the fluents after it, where it is allowed
abbrev pub joint_leads : Line → Coupling → Set → Set → Result Set Question
joint_leads L K s S = answered (refused L K s S) (after L s S)

-- at the end the goal holds
abbrev pub joint_ends : Line → Set → Result (Unit {0}) Question
joint_ends L s = cond (L.goal s) (Ok tt) (Err Goal)
