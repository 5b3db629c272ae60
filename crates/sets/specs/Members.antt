-- The members of an `IndexSet`: the places of its one bits below 128. Assumes nothing.
use Rattle.std.specs.Prelude.{ℕ, ◌/◌, ◌%◌, ◌^◌, Bool, ◌&&◌, ◌==◌, nat_lt}
use Rattle.model.specs.Sets.{Set}
use Rattle.sets.specs.declared.IndexSet.{IndexSet}

-- the bit of n at place k
unfoldable pub bit : ℕ → ℕ → Bool
bit n k = n / 2 ^ k % 2 == 1

-- the members below 128
abbrev pub inside : Set → Set
inside p = λ k. nat_lt k 128 && p k

abbrev pub members : IndexSet → Set
members s = inside (bit s.bits)
