-- The questions that are asked of a command of a task file, after the commands before it. Assumes nothing.
use Rattle.std.specs.Prelude.{ℕ, Bool, true, false, cond, not, ◌&&◌, ◌||◌, List, [], ◌∷◌, length, ◌==◌, nat_le, nat_lt}
use Rattle.std.proofs.Math.Option.{Option, none, some}
use Rattle.model.specs.Sets.{names}
use Rattle.refusals.specs.declared.Question.{Question}
use Rattle.refusals.specs.declared.Question.TheVariants as Q
use Rattle.task_command.specs.declared.command.Command.{Command}
use Rattle.task_command.specs.declared.command.Command.TheVariants.{Sizes, Start, Goal, Move, Need, With, Effect, If, IfMove, Then, End}
use Rattle.task_form.specs.Lists.{is, listed, stretches, since}
use Rattle.task_form.specs.Denoted.{Counts, sizes}

-- The part of a file that a command stands in: its front, the lists of the task, a move before its effects, an effect,
-- or after END.
pub data Part : Type 0 where
  front : Part
  lists : Part
  move : Part
  effect : Part
  ended : Part

-- the part that a command leaves the next one in
abbrev pub after : Command → Part
after (Sizes n f m) = lists
after (Start k) = lists
after (Goal x) = lists
after (Move s) = move
after (Need x) = move
after (With x) = move
after Effect = effect
after (If x) = effect
after (IfMove x) = effect
after (Then x) = effect
after End = ended

abbrev pub part_from : Part → List Command → Part
part_from p [] = p
part_from p (c ∷ cs) = part_from (after c) cs

-- the part after these commands
abbrev pub part : List Command → Part
part cs = part_from front cs

abbrev pub at_front : Part → Bool
at_front p = elim p [ front ↦ true | lists ↦ false | move ↦ false | effect ↦ false | ended ↦ false ]

abbrev pub in_lists : Part → Bool
in_lists p = elim p [ front ↦ false | lists ↦ true | move ↦ false | effect ↦ false | ended ↦ false ]

abbrev pub in_move : Part → Bool
in_move p = elim p [ front ↦ false | lists ↦ false | move ↦ true | effect ↦ false | ended ↦ false ]

abbrev pub in_effect : Part → Bool
in_effect p = elim p [ front ↦ false | lists ↦ false | move ↦ false | effect ↦ true | ended ↦ false ]

abbrev pub at_end : Part → Bool
at_end p = elim p [ front ↦ false | lists ↦ false | move ↦ false | effect ↦ false | ended ↦ true ]

-- A task is SIZES, then STARTs and GOALs in any order, moves, END. A move is MOVE, then NEEDs and WITHs in any order,
-- effects. An effect is EFFECT, then IFs, IFMOVEs and THENs in any order. So each command may stand in these parts:
abbrev pub may_stand : Command → Part → Bool
may_stand (Sizes n f m) p = at_front p
may_stand (Start k) p = in_lists p
may_stand (Goal x) p = in_lists p
may_stand (Move s) p = in_lists p || (in_move p || in_effect p)
may_stand (Need x) p = in_move p
may_stand (With x) p = in_move p
may_stand Effect p = in_move p || in_effect p
may_stand (If x) p = in_effect p
may_stand (IfMove x) p = in_effect p
may_stand (Then x) p = in_effect p
may_stand End p = in_lists p || (in_move p || in_effect p)

-- how many moves have begun
abbrev pub begun : List Command → ℕ
begun before = length (stretches 0x04 before)

-- MOVE comes while there are fewer moves than SIZES says, END when there are as many
abbrev pub in_number : List Command → Command → Bool
in_number before c =
    cond (is 0x04 c) (nat_lt (begun before) (sizes before).moves)
    (cond (is 0x0f c) (begun before == (sizes before).moves) true)

abbrev pub in_order : List Command → Command → Bool
in_order before c = may_stand c (part before) && in_number before c

-- 1 to most
abbrev pub up_to : ℕ → ℕ → Bool
up_to most n = nat_le 1 n && nat_le n most

-- every operand is in range; START and MOVE have numbers, the others literals
abbrev pub in_range : Counts → Command → Bool
in_range z (Sizes n f m) = up_to 16 n && (up_to 128 f && up_to 64 m)
in_range z (Start k) = nat_lt k z.fluents
in_range z (Goal x) = nat_lt x.number z.fluents
in_range z (Move s) = nat_lt s z.stations
in_range z (Need x) = nat_lt x.number z.fluents
in_range z (With x) = nat_lt x.number z.moves
in_range z Effect = true
in_range z (If x) = nat_lt x.number z.fluents
in_range z (IfMove x) = nat_lt x.number z.moves
in_range z (Then x) = nat_lt x.number z.fluents
in_range z End = true

-- the commands of the last move, and of its last effect
abbrev pub own_move : List Command → List Command
own_move before = since 0x04 before

abbrev pub own_effect : List Command → List Command
own_effect before = since 0x07 (own_move before)

-- the fluent or move is new in its list, whatever the sign
abbrev pub is_new : List Command → Command → Bool
is_new before (Sizes n f m) = true
is_new before (Start k) = not (listed 0x02 before true k)
is_new before (Goal x) = not (names (listed 0x03 before) x.number)
is_new before (Move s) = true
is_new before (Need x) = not (names (listed 0x05 (own_move before)) x.number)
is_new before (With x) = not (names (listed 0x06 (own_move before)) x.number)
is_new before Effect = true
is_new before (If x) = not (names (listed 0x08 (own_effect before)) x.number)
is_new before (IfMove x) = not (names (listed 0x09 (own_effect before)) x.number)
is_new before (Then x) = not (names (listed 0x0a (own_effect before)) x.number)
is_new before End = true

-- it is at most the eighth EFFECT of its move
abbrev pub is_few : List Command → Command → Bool
is_few before c = cond (is 0x07 c) (nat_lt (length (stretches 0x07 (own_move before))) 8) true

-- the first question that is answered no, if one is
abbrev pub first_no : List Command → Command → Option Question
first_no before c =
    cond (in_order before c)
    (cond (in_range (sizes before) c)
    (cond (is_new before c) (cond (is_few before c) none (some Q.Effects)) (some Q.New))
    (some Q.Range))
    (some Q.Order)
