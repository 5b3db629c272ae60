-- A question is known by its number. Assumes nothing.
use Rattle.std.proofs.Common.{◌≡◌, refl}
use Rattle.refusals.specs.declared.Question.{Question}
use Rattle.refusals.specs.declared.Question.TheVariants.{Limit, Command, Order, Range, New, Effects, Station, Needs, Present, Absent, Agree, Goal}
use Rattle.refusals.specs.Numbers.{number_of, question}

pub question_number : (q : Question) → question (number_of q) ≡ q
question_number Limit = refl
question_number Command = refl
question_number Order = refl
question_number Range = refl
question_number New = refl
question_number Effects = refl
question_number Station = refl
question_number Needs = refl
question_number Present = refl
question_number Absent = refl
question_number Agree = refl
question_number Goal = refl
