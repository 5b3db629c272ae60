-- The task of the tray lift: fluents are left side up (0), right side up (1) and load on tray (2); move 0 lifts the left
-- side, move 1 the right. Assumes nothing.
use Rattle.std.specs.Prelude.{[], ◌∷◌}
use Rattle.worked_examples.specs.Shown.{MoveShown, TaskShown}

-- a side that is lifted alone drops the load: if the other side is down, the load is on the tray and the other move is
-- not in the step
abbrev pub lift_left : MoveShown
lift_left = (0, 0x80 ∷ [], [], ([], [], 0 ∷ []) ∷ ((0x81 ∷ (2 ∷ []), 0x81 ∷ [], 0x82 ∷ []) ∷ []))

abbrev pub lift_right : MoveShown
lift_right = (1, 0x81 ∷ [], [], ([], [], 1 ∷ []) ∷ ((0x80 ∷ (2 ∷ []), 0x80 ∷ [], 0x82 ∷ []) ∷ []))

abbrev pub tray : TaskShown
tray = (2, 3, 2 ∷ [], 0 ∷ (1 ∷ (2 ∷ [])), lift_left ∷ (lift_right ∷ []))
