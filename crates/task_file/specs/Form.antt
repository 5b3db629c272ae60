-- What holds while a task file is read. Assumes nothing.
use Rattle.std.specs.Prelude.{ℕ, Bool, true, ◌&&◌, length, vec_len, ◌==◌, nat_lt}
use Rattle.model.specs.Task as model
use Rattle.model.specs.Task.{effect_fits, move_fits}
use Rattle.moves.specs.Parts.{effect_of, move_of}
use Rattle.task_file.specs.declared.named.Lists as code
use Rattle.task_file.specs.declared.form.Part as parts
use Rattle.task_file.specs.declared.form.Part.TheVariants as P

-- a move that is not complete yet is within the sizes and has room for one effect more
abbrev pub move_stands : (n f m : ℕ) → model.Move → Bool
move_stands n f m v = move_fits n f m v && nat_lt (length v.effects) 8

-- what is not complete yet is within the sizes; at the end all moves are there
abbrev pub stands : code.Lists → parts.Part → Bool
stands l P.Lists = true
stands l (P.Move v) = move_stands l.sizes.stations l.sizes.fluents l.sizes.moves (move_of v)
stands l (P.Effect v e) =
    move_stands l.sizes.stations l.sizes.fluents l.sizes.moves (move_of v)
    && effect_fits l.sizes.fluents l.sizes.moves (effect_of e)
stands l P.Ended = vec_len l.moves == l.sizes.moves
