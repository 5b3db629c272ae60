-- The number and the layer of every question. Assumes nothing.
use Rattle.std.specs.Prelude.{ℕ, cond, ◌==◌}
use Rattle.refusals.specs.declared.Question.{Question}
use Rattle.refusals.specs.declared.Question.TheVariants.{Limit, Command, Order, Range, New, Effects, Station, Needs, Present, Absent, Agree, Goal}
use Rattle.refusals.specs.declared.Layer as layers
use Rattle.refusals.specs.declared.Layer.TheVariants.{Form, Run}

abbrev pub number_of : Question → ℕ
number_of Limit = 1
number_of Command = 2
number_of Order = 3
number_of Range = 4
number_of New = 5
number_of Effects = 6
number_of Station = 7
number_of Needs = 12
number_of Present = 13
number_of Absent = 14
number_of Agree = 15
number_of Goal = 16

-- 1 to 9 are asked of a file's form, 11 to 20 of what a run does
abbrev pub layer_of : Question → layers.Layer
layer_of Limit = Form
layer_of Command = Form
layer_of Order = Form
layer_of Range = Form
layer_of New = Form
layer_of Effects = Form
layer_of Station = Form
layer_of Needs = Run
layer_of Present = Run
layer_of Absent = Run
layer_of Agree = Run
layer_of Goal = Run

-- the question with a number; no two have the same
abbrev pub question : ℕ → Question
question n =
    cond (n == 1) Limit
    (cond (n == 2) Command
    (cond (n == 3) Order
    (cond (n == 4) Range
    (cond (n == 5) New
    (cond (n == 6) Effects
    (cond (n == 7) Station
    (cond (n == 12) Needs
    (cond (n == 13) Present
    (cond (n == 14) Absent
    (cond (n == 15) Agree Goal))))))))))
