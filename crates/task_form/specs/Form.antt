-- The form of a task file: the task that its bytes denote, or the first question answered no, with its place. Assumes
-- nothing.
use Rattle.std.specs.Prelude.{◌≡◌, ℕ, zero, suc, ◌-◌, cond, List, [], ◌∷◌, ◌++◌, length, Ok, Result, nat_lt}
use Rattle.std.proofs.Math.Option.{Option, none, some}
use Rattle.refusals.specs.declared.Question.{Question}
use Rattle.refusals.specs.declared.Question.TheVariants.{Limit, Command}
use Rattle.refusals.specs.declared.Refusal.{Refusal}
use Rattle.refusals.specs.Answers.{refused, and_then}
use Rattle.model.specs.Task.{Task}
use Rattle.task_command.specs.declared.command.Command as commands
use Rattle.task_command.specs.Commands.{first}
use Rattle.task_form.specs.Denoted.{denoted}
use Rattle.task_form.specs.Questions.{part, at_end, first_no}

-- the answer r, unless a question is answered no at the place p
abbrev pub unless : Option Question → ℕ → Result Task Refusal → Result Task Refusal
unless none p r = r
unless (some q) p r = refused q p

-- at the end of a file of `size` bytes: the task of its commands, the last of which is END
abbrev pub complete : ℕ → List commands.Command → Result Task Refusal
complete size before = cond (at_end (part before)) (Ok (denoted before)) (refused Command size)

-- The answer to bs, the end of a file of `size` bytes, after the commands before it: command by command, its questions.
-- A command has a byte at least, so that as many turns as bs has bytes are enough.
abbrev pub asked : (turns size : ℕ) → List commands.Command → List ℕ → Result Task Refusal
asked zero size before bs = complete size before
asked (suc n) size before [] = complete size before
asked (suc n) size before (b ∷ bs) =
    let place = size - length (b ∷ bs) in
    and_then (first place (b ∷ bs)) (λ t. unless (first_no before t.0) place (asked n size (before ++ (t.0 ∷ [])) t.1))

-- the task that a file denotes, or the first question answered no
unfoldable pub form : List ℕ → Result Task Refusal
form bs = cond (nat_lt 8192 (length bs)) (refused Limit 0) (asked (length bs) (length bs) [] bs)

-- some file denotes the task
abbrev pub Filed : Task → Type 0
Filed t = ∥ ((bs : List ℕ) × (form bs ≡ Ok t)) ∥₁
