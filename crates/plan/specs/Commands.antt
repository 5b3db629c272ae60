-- Which command stands at the front of a joint plan, its operand bytes, and the bytes after it. Assumes nothing.
use Rattle.std.specs.Prelude.{ℕ, false, cond, List, length, take, drop, Ok, Err, Result, ◌==◌, nat_lt, slice_index}
use Rattle.std.specs.Borrow.{Bor}
use Rattle.refusals.specs.declared.Question.TheVariants.{Command}
use Rattle.refusals.specs.declared.Refusal.{Refusal}
use Rattle.refusals.specs.Answers.{refused}
use Rattle.plan.specs.declared.command.JointCommand.{JointCommand}
use Rattle.plan.specs.declared.command.JointCommand.TheVariants.{Step}

-- the sixteen operand bytes of a STEP
abbrev pub operands : JointCommand → List ℕ
operands (Step bs) = bs.now

-- the operands of the STEP at the front, and the bytes after it; place is the offset of bs in its file
abbrev pub first : ℕ → List ℕ → Result (List ℕ × List ℕ) Refusal
first place bs =
    cond (cond (nat_lt 16 (length bs)) (slice_index bs 0 == 0x31) false) (Ok (take 16 (drop 1 bs), drop 17 bs)) (refused Command place)

-- what `next` hands back, with the bytes in place of the references to them
abbrev pub taken : Result (JointCommand × Bor (List ℕ)) Refusal → Result (List ℕ × List ℕ) Refusal
taken (Ok p) = Ok (operands p.0, p.1.now)
taken (Err e) = Err e
