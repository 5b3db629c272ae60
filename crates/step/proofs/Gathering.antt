-- Members gathered one after the other, by a number that counts up or along a list of operands. Assumes nothing.
use Rattle.std.proofs.Common.{◌≡◌, ℕ, ◌+◌, ◌<◌, ◌≤◌, true, false, ◌&&◌, ◌||◌, eqb, ltb, List, length, get_or, drop, refl, ap, ◌∙◌, add-one, arith, drop-cons}
use mathlib.Core.Path.{fun_ext}
use Rattle.std.proofs.Math.Bool.{or_comm}
use Rattle.std.proofs.lemmas.Bool.Decides.{nat_tests}
use Rattle.model.specs.Sets.{Set, Literals, both, any, with, either}
use Rattle.step.specs.Operands.{named}

-- `y` holds what f gives at the numbers of S below a
module _ (f : ℕ → Literals) (S : Set) (y : Literals) (a : ℕ) (so_far : y ≡ (λ s k. any a (λ b. S b && f b s k))) where
  pub gather_more : (z : Literals) → true ≡ S a → z ≡ both y (f a) → z ≡ (λ s k. any (a + 1) (λ b. S b && f b s k))
  gather_more z chosen more = more ∙ fun_ext (λ s. fun_ext (λ k. rw (add-one a, ← chosen, so_far) (or_comm (any a (λ b. S b && f b s k)) (f a s k))))

  pub gather_skip : (z : Literals) → false ≡ S a → z ≡ y → z ≡ (λ s k. any (a + 1) (λ b. S b && f b s k))
  gather_skip z absent same = same ∙ so_far ∙ fun_ext (λ s. fun_ext (λ k. rw (add-one a, ← absent) refl))

-- `all` holds what the operands before i name
module _ (bs : List ℕ) (i : ℕ) (within : i < length bs) (all whole : Set) (inv : either all (named (drop i bs)) ≡ whole) (all' : Set) where
  at : (k : ℕ) → named (drop i bs) k ≡ ((ltb (get_or bs i 0) 128 && eqb k (get_or bs i 0)) || named (drop (i + 1) bs) k)
  at k = rw (add-one i, drop-cons bs i 0) refl

  pub named_more : get_or bs i 0 < 128 → all' ≡ with all (get_or bs i 0) → either all' (named (drop (i + 1) bs)) ≡ whole
  named_more small more = fun_ext (λ k. grind (arith, nat_tests, at k, ap (λ p. p k) inv, ap (λ p. p k) more))

  pub named_skip : 128 ≤ get_or bs i 0 → all' ≡ all → either all' (named (drop (i + 1) bs)) ≡ whole
  named_skip large same = fun_ext (λ k. grind (arith, nat_tests, at k, ap (λ p. p k) inv, ap (λ p. p k) same))
