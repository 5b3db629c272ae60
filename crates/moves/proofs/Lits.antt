-- Lists of literals are equal where they are with and without "not". Assumes nothing.
use Rattle.std.proofs.Common.{◌≡◌, true, false}
use mathlib.Core.Path.{fun_ext}
use Rattle.std.proofs.Math.Bool.{or-false, or_assoc}
use Rattle.model.specs.Sets.{Literals, no_literals, both}

pub literals_ext : (l m : Literals) → l true ≡ m true → l false ≡ m false → l ≡ m
literals_ext l m p q = fun_ext (elim [ true ↦ p | false ↦ q ])

pub both_assoc : (l m n : Literals) → both (both l m) n ≡ both l (both m n)
both_assoc l m n = fun_ext (λ b. fun_ext (λ k. or_assoc (l b k) (m b k) (n b k)))

pub both_none : (l : Literals) → both l no_literals ≡ l
both_none l = fun_ext (λ b. fun_ext (λ k. or-false (l b k)))
