-- What the code holds while it reads a task file, and what its answers say. Assumes nothing.
use Rattle.std.specs.Prelude.{◌≡◌, ℕ, cond, ◌&&◌, map, Ok, Err, vec_items, vec_len, Result}
use Rattle.refusals.specs.declared.Question.TheVariants.{Range}
use Rattle.refusals.specs.declared.Refusal.{Refusal}
use Rattle.refusals.specs.declared.Fault.{Fault}
use Rattle.refusals.specs.declared.Fault.TheVariants.{Refused, Memory}
use Rattle.refusals.specs.Answers.{refused}
use Rattle.model.specs.Task as model
use Rattle.sets.specs.Members.{members}
use Rattle.moves.specs.Lists.{literals_of}
use Rattle.moves.specs.Parts.{effect_of, move_of}
use Rattle.task_form.specs.Denoted.{Counts}
use Rattle.task_form.specs.Questions.{up_to}
use Rattle.task_form.specs.Reading as reading
use Rattle.task_form.specs.Reading.{Named, Stage, Read, task_named}
use Rattle.task_file.specs.declared.named.Sizes.{Sizes}
use Rattle.task_file.specs.declared.named.Lists.{Lists}
use Rattle.task_file.specs.declared.form.Part as code
use Rattle.task_file.specs.declared.form.Part.TheVariants as P

abbrev pub counts_of : Sizes → Counts
counts_of z = record { stations = z.stations; fluents = z.fluents; moves = z.moves }

abbrev pub named_of : Lists → Named
named_of l = record {
  sizes = counts_of l.sizes;
  start = members l.start;
  goal = literals_of l.goal;
  moves = map move_of (vec_items l.moves);
}

abbrev pub stage_of : code.Part → Stage
stage_of P.Lists = reading.lists
stage_of (P.Move v) = reading.move (move_of v)
stage_of (P.Effect v e) = reading.effect (move_of v) (effect_of e)
stage_of P.Ended = reading.ended

-- the task that the lists name
abbrev pub task_in : Lists → model.Task
task_in l = task_named (named_of l)

-- the operands of SIZES at the place p
abbrev pub sized : (n f m p : ℕ) → Result Counts Refusal
sized n f m p = cond (up_to 16 n && (up_to 128 f && up_to 64 m)) (Ok (record { stations = n; fluents = f; moves = m })) (refused Range p)

-- the lists with the part that the next command stands in
abbrev pub reached : Lists → code.Part → Named × Stage
reached l x = (named_of l, stage_of x)

-- a fault in place of what one command should answer; want of memory apart
abbrev pub Faulted : Read → Fault → Type 0
Faulted want (Refused e) = want ≡ Err e
Faulted want Memory = Unit {0}

-- the answer to one command, which leaves the lists l
abbrev pub Took : Lists → Read → Result code.Part Fault → Type 0
Took l want (Ok x) = want ≡ Ok (reached l x)
Took l want (Err e) = Faulted want e

-- the answer to a whole file; want of memory apart
abbrev pub Reads : Result model.Task Refusal → Result Lists Fault → Type 0
Reads form (Ok l) = (form ≡ Ok (task_in l)) × (vec_len l.moves ≡ l.sizes.moves)
Reads form (Err (Refused e)) = form ≡ Err e
Reads form (Err Memory) = Unit {0}
