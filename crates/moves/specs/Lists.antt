-- What the code's lists of literals stand for, and what adding one literal answers. Assumes nothing.
use Rattle.std.specs.Prelude.{ℕ, ◌%◌, Bool, true, false, cond, Ok, Result, nat_lt}
use Rattle.refusals.specs.declared.Question.TheVariants.{Range, New}
use Rattle.refusals.specs.declared.Refusal.{Refusal}
use Rattle.refusals.specs.Answers.{refused}
use Rattle.model.specs.Sets as model
use Rattle.model.specs.Sets.{Set, with, plus, names}
use Rattle.sets.specs.Members.{members}
use Rattle.moves.specs.declared.lists.Literal.{Literal}
use Rattle.moves.specs.declared.lists.Literals.{Literals}

abbrev pub literals_of : Literals → model.Literals
literals_of l true = members l.plain
literals_of l false = members l.negated

-- the literal that a byte holds: its number in the low seven bits, "not" where the high bit is set
abbrev pub literal : ℕ → Literal
literal b = record { number = b % 128; plain = nat_lt b 128 }

-- the questions asked of k at the place p: is it below n, and is it not there yet
abbrev pub asked : (k n : ℕ) → Bool → (p : ℕ) → Result (Unit {0}) Refusal
asked k n there p = cond (nat_lt k n) (cond there (refused New p) (Ok tt)) (refused Range p)

-- the literals with x, if its number is below n and new among them; p is the place of its command
abbrev pub added : model.Literals → Literal → (n p : ℕ) → Result model.Literals Refusal
added l x n p =
    cond (nat_lt x.number n) (cond (names l x.number) (refused New p) (Ok (plus l x.plain x.number))) (refused Range p)

-- the numbers with k, if it is below n and new among them
abbrev pub numbered : Set → (k n p : ℕ) → Result Set Refusal
numbered s k n p = cond (nat_lt k n) (cond (s k) (refused New p) (Ok (with s k))) (refused Range p)
