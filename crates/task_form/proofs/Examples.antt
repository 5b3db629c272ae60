-- The form of small files, computed. Assumes nothing.
use Rattle.std.proofs.Common.{◌≡◌, ℕ, List, [], ◌∷◌, map, Ok, Err, Result, refl}
use mathlib.Core.Option.{Option, none, some}
use Rattle.refusals.specs.declared.Refusal.{Refusal}
use Rattle.refusals.specs.Numbers.{number_of}
use Rattle.model.specs.Task.{Task}
use Rattle.task_form.specs.Form.{form}

-- number and place of a refusal; none for a file that is accepted
abbrev told : Result Task Refusal → Option (ℕ × ℕ)
told (Ok t) = none
told (Err e) = some (number_of e.question, e.place)

abbrev Example : Type 0
Example = List ℕ × Option (ℕ × ℕ)

-- one station, one fluent, one move, and these commands after SIZES
abbrev small : List ℕ → List ℕ
small bs = 0x01 ∷ 1 ∷ 1 ∷ 1 ∷ bs

abbrev refused : List Example
refused =
    ([], some (2, 0))
    ∷ (0x00 ∷ [], some (2, 0))
    ∷ (0x01 ∷ 1 ∷ 1 ∷ [], some (2, 0))
    ∷ (0x02 ∷ 0 ∷ [], some (3, 0))
    ∷ (0x01 ∷ 0 ∷ 1 ∷ 1 ∷ [], some (4, 0))
    ∷ (0x01 ∷ 17 ∷ 1 ∷ 1 ∷ [], some (4, 0))
    ∷ (0x01 ∷ 1 ∷ 129 ∷ 1 ∷ [], some (4, 0))
    ∷ (0x01 ∷ 1 ∷ 1 ∷ 65 ∷ [], some (4, 0))
    ∷ (small (0x01 ∷ 1 ∷ 1 ∷ 1 ∷ []), some (3, 4))
    ∷ (small (0x02 ∷ 0x80 ∷ []), some (4, 4))
    ∷ (small (0x03 ∷ 0 ∷ 0x03 ∷ 0x80 ∷ []), some (5, 6))
    ∷ (small (0x0f ∷ []), some (3, 4))
    ∷ (small (0x04 ∷ 0 ∷ []), some (2, 6))
    ∷ (small (0x04 ∷ 0 ∷ 0x05 ∷ []), some (2, 6))
    ∷ (small (0x04 ∷ 1 ∷ []), some (4, 4))
    ∷ (small (0x04 ∷ 0 ∷ 0x04 ∷ 9 ∷ []), some (3, 6))
    ∷ (small (0x04 ∷ 0 ∷ 0x02 ∷ 0 ∷ []), some (3, 6))
    ∷ (small (0x04 ∷ 0 ∷ 0x0a ∷ 0 ∷ []), some (3, 6))
    ∷ (small (0x04 ∷ 0 ∷ 0x07 ∷ 0x05 ∷ 0 ∷ []), some (3, 7))
    ∷ (small (0x04 ∷ 0 ∷ 0x06 ∷ 0 ∷ 0x06 ∷ 0x80 ∷ []), some (5, 8))
    ∷ (small (0x04 ∷ 0 ∷ 0x07 ∷ 0x07 ∷ 0x07 ∷ 0x07 ∷ 0x07 ∷ 0x07 ∷ 0x07 ∷ 0x07 ∷ 0x07 ∷ []), some (6, 14))
    ∷ (small (0x04 ∷ 0 ∷ 0x0f ∷ 0x0f ∷ []), some (3, 7))
    ∷ (small (0x04 ∷ 0 ∷ 0x0f ∷ 0x00 ∷ []), some (2, 7))
    ∷ []

abbrev accepted : List Example
accepted =
    (small (0x04 ∷ 0 ∷ 0x0f ∷ []), none)
    ∷ (small (0x02 ∷ 0 ∷ 0x03 ∷ 0 ∷ 0x04 ∷ 0 ∷ 0x0f ∷ []), none)
    ∷ (small (0x04 ∷ 0 ∷ 0x06 ∷ 0 ∷ 0x0f ∷ []), none)
    ∷ (small (0x04 ∷ 0 ∷ 0x07 ∷ 0x0a ∷ 0 ∷ 0x07 ∷ 0x0a ∷ 0x80 ∷ 0x0f ∷ []), none)
    ∷ (0x01 ∷ 16 ∷ 128 ∷ 1 ∷ 0x03 ∷ 0xff ∷ 0x04 ∷ 15 ∷ 0x0f ∷ [], none)
    ∷ []

as_told : (xs : List Example) → Type 0
as_told xs = map (λ x. told (form x.0)) xs ≡ map (λ x. x.1) xs

refused_as_told : as_told refused
unfolding as_told form
refused_as_told = refl

accepted_as_told : as_told accepted
unfolding as_told form
accepted_as_told = refl
