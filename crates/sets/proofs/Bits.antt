-- The laws of `bit`, as the methods of a set of bits need them. Assumes nothing.
use Rattle.std.proofs.Common.{◌≡◌, ℕ, zero, suc, ◌-◌, ◌*◌, ◌%◌, ◌^◌, ◌<◌, ◌≤◌, false, not, ◌&&◌, ◌||◌, eqb, ltb, refl, ap, ◌∙◌, ⊎_elim, arith}
use lib.Bits.{bit_and, bit_or}
use Rattle.std.specs.Int.{w128}
use Rattle.std.proofs.lemmas.Nat.{and_le_r, one_shl}
use Rattle.std.proofs.lemmas.Nat.Bits.{bit_at-lt, bit_at-zero, bit_at_and, bit_at_or, bit_at_not, bit_at-pow_same, bit_at-pow_other, bit_at_ones, bit_at_ones_above, same_from_bits_below}
use Rattle.std.proofs.lemmas.Bool.{cases_eq, cases_lt, eqb-true, eq-eqb}
use Rattle.std.proofs.lemmas.Bool.Decides.{nat_tests, same_from_decides, Decides-like, Decides-below_and}
use Rattle.sets.specs.Members.{bit, inside, members}
use Rattle.sets.specs.declared.IndexSet.{IndexSet}
use Rattle.model.specs.Sets.{Set, any, all, meet, below, subset, apart}
use Rattle.sets.proofs.Laws.{decides_subset, decides_apart}

pub bit_zero : (k : ℕ) → bit 0 k ≡ false
unfolding bit
bit_zero k = grind (arith, nat_tests, bit_at-zero k)

pub bit_of_or : (a b k : ℕ) → bit (bit_or a b) k ≡ (bit a k || bit b k)
unfolding bit
bit_of_or a b k = grind (arith, nat_tests, bit_at_or a b k, bit_at-lt a k, bit_at-lt b k)

pub bit_of_and : (a b k : ℕ) → bit (bit_and a b) k ≡ (bit a k && bit b k)
unfolding bit
bit_of_and a b k = grind (arith, nat_tests, bit_at_and a b k, bit_at-lt a k, bit_at-lt b k)

pub bit_less : (a b k : ℕ) → k < 128 → b < 2 ^ 128 → bit (bit_and a (340282366920938463463374607431768211455 - b)) k ≡ (not (bit b k) && bit a k)
unfolding bit
bit_less a b k l small =
    grind (arith, nat_tests, bit_at_and a (340282366920938463463374607431768211455 - b) k, bit_at_not w128 b k small l, bit_at-lt a k, bit_at-lt b k)

-- a power has one bit
bit_pow : (k j : ℕ) → bit (2 ^ k) j ≡ eqb j k
unfolding bit
bit_pow k j =
    ⊎_elim (λ (e : j ≡ k). grind (arith, nat_tests, bit_at-pow_same k)) (λ (d : ¬ (j ≡ k)). grind (arith, nat_tests, bit_at-pow_other k j d)) (cases_eq j k)

pub bit_with : (n k j : ℕ) → k < 128 → bit (bit_or n (1 * 2 ^ k % 2 ^ 128)) j ≡ (bit n j || eqb j k)
bit_with n k j h = rw (one_shl k 128 h, bit_of_or, bit_pow) refl

-- 2 ^ n - 1 has the bits below n
bit_ones : (n k : ℕ) → bit (2 ^ n - 1) k ≡ ltb k n
unfolding bit
bit_ones n k = ⊎_elim (λ (l : k < n). grind (arith, nat_tests, bit_at_ones n k l)) (λ (g : n ≤ k). grind (arith, nat_tests, bit_at_ones_above n k g)) (cases_lt k n)

pub bit_below : (n k : ℕ) → n < 128 → bit ((1 * 2 ^ n % 2 ^ 128) - 1) k ≡ ltb k n
bit_below n k h = rw (one_shl n 128 h) (bit_ones n k)

pub bit_full : (k : ℕ) → bit (2 ^ 128 - 1) k ≡ ltb k 128
bit_full k = bit_ones 128 k

-- what a mask of b leaves is c where each bit says so
masked : (a b c : ℕ) → b < 2 ^ 128 → c < 2 ^ 128 → ((k : ℕ) → k < 128 → (bit a k && bit b k) ≡ bit c k) → bit_and a b ≡ c
unfolding bit
masked a b c small small' h =
    same_from_bits_below 128 (bit_and a b) c (omega (arith, and_le_r a b)) small' (λ k l. grind (arith, nat_tests, bit_at_and a b k, bit_at-lt a k, bit_at-lt b k, bit_at-lt c k, h k l))

pub bits_within : (a b : ℕ) → b < 2 ^ 128 → eqb (bit_and a b) b ≡ subset (inside (bit b)) (inside (bit a))
bits_within a b small =
    same_from_decides _ _ (
      (λ e k _ h. grind (arith, bit_of_and a b k, ap (λ n. bit n k) (eqb-true (bit_and a b) b e))),
      (λ h. eq-eqb (bit_and a b) b (masked a b b small small (λ k l. grind (arith, nat_tests, h k l)))),
    )
    (decides_subset (inside (bit b)) (inside (bit a)))

pub bits_apart : (a b : ℕ) → b < 2 ^ 128 → eqb (bit_and a b) 0 ≡ apart (inside (bit a)) (inside (bit b))
bits_apart a b small =
    same_from_decides _ _ (
      (λ e k _ h. grind (arith, bit_of_and a b k, bit_zero k, ap (λ n. bit n k) (eqb-true (bit_and a b) 0 e))),
      (λ h. eq-eqb (bit_and a b) 0 (masked a b 0 small (omega arith) (λ k l. grind (arith, nat_tests, bit_zero k, h k l)))),
    )
    (decides_apart (inside (bit a)) (inside (bit b)))

none_any : (n : ℕ) (p : Set) → not (all n (λ k. not (p k))) ≡ any n p
none_any zero p = refl
none_any (suc n) p = let ih = none_any n p in grind arith

apart_below : (n : ℕ) (q : Set) → not (apart (inside (below n)) (inside q)) ≡ any n (inside q)
apart_below n q = ap not tests ∙ none_any n (inside q)
  where
    tests : apart (inside (below n)) (inside q) ≡ all n (λ k. not (inside q k))
    tests =
        same_from_decides _ _
        (Decides-like _
        (λ f k l. ⊎_elim (λ (s : k < 128). f k s (grind (arith, nat_tests))) (λ (g : 128 ≤ k). grind (arith, nat_tests)) (cases_lt k 128))
        (λ f k l e. f k (grind (arith, nat_tests)))
        (decides_apart (inside (below n)) (inside q)))
        (Decides-below_and (λ k. not (inside q k)) (λ k. inside q k ≡ false) (λ n. all n (λ k. not (inside q k))) (λ k. grind arith) refl (λ _. refl) n)

pub any_apart : (s t : IndexSet) (n : ℕ) → members s ≡ meet (below 128) (below n) → not (apart (members s) (members t)) ≡ any n (members t)
any_apart s t n e = ap (λ x. not (apart x (members t))) e ∙ apart_below n (bit t.bits)

-- what the methods need, one lemma or two each
pub ruleset laws = (bit_zero, bit_below, bit_full, bit_with, bit_of_or, bit_of_and, bit_less, bits_within, bits_apart, any_apart, nat_tests)
