-- Which command stands at the front of a list of bytes, and the bytes after it. Assumes nothing.
use Rattle.std.specs.Prelude.{ℕ, Bool, false, cond, List, length, drop, Ok, Err, Result, ◌==◌, nat_lt, slice_index}
use Rattle.std.specs.Borrow.{Bor}
use Rattle.refusals.specs.declared.Question.TheVariants as Q
use Rattle.refusals.specs.declared.Refusal.{Refusal}
use Rattle.refusals.specs.Answers.{refused}
use Rattle.moves.specs.Lists.{literal}
use Rattle.task_command.specs.declared.command.Command.{Command}
use Rattle.task_command.specs.declared.command.Command.TheVariants.{Sizes, Start, Goal, Move, Need, With, Effect, If, IfMove, Then, End}

abbrev pub Taken : Type 0
Taken = Result (Command × List ℕ) Refusal

-- the command byte b stands at the front, with its k operands
abbrev pub stands : ℕ → ℕ → List ℕ → Bool
stands b k bs = cond (nat_lt k (length bs)) (slice_index bs 0 == b) false

-- the command at the front and the bytes after it; place is the offset of bs in its file
abbrev pub first : ℕ → List ℕ → Taken
first place bs =
    cond (stands 0x01 3 bs) (Ok (Sizes (slice_index bs 1) (slice_index bs 2) (slice_index bs 3), drop 4 bs))
    (cond (stands 0x02 1 bs) (Ok (Start (slice_index bs 1), drop 2 bs))
    (cond (stands 0x03 1 bs) (Ok (Goal (literal (slice_index bs 1)), drop 2 bs))
    (cond (stands 0x04 1 bs) (Ok (Move (slice_index bs 1), drop 2 bs))
    (cond (stands 0x05 1 bs) (Ok (Need (literal (slice_index bs 1)), drop 2 bs))
    (cond (stands 0x06 1 bs) (Ok (With (literal (slice_index bs 1)), drop 2 bs))
    (cond (stands 0x07 0 bs) (Ok (Effect, drop 1 bs))
    (cond (stands 0x08 1 bs) (Ok (If (literal (slice_index bs 1)), drop 2 bs))
    (cond (stands 0x09 1 bs) (Ok (IfMove (literal (slice_index bs 1)), drop 2 bs))
    (cond (stands 0x0a 1 bs) (Ok (Then (literal (slice_index bs 1)), drop 2 bs))
    (cond (stands 0x0f 0 bs) (Ok (End, drop 1 bs))
    (refused Q.Command place)))))))))))

-- what `next` hands back, with the bytes of the part in place of the reference to it
abbrev pub taken : Result (Command × Bor (List ℕ)) Refusal → Taken
taken (Ok p) = Ok (p.0, p.1.now)
taken (Err e) = Err e
