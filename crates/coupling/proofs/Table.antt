-- The rows of a table: what a lookup finds, and a table that is made of a function. Assumes nothing.
use Rattle.std.proofs.Common.{◌≡◌, ℕ, ◌<◌, ◌≤◌, List, map, get_or, Some, None, Option, unwrap_or, option_map, sym, ap, ◌∙◌, ⊎_elim, arith, Bor}
use lib.ListN.{length-map}
use Rattle.std.specs.List.{range_with_len}
use Rattle.std.specs.Slice.{IsGetResult}
use Rattle.std.proofs.lemmas.List.{get_or-map, get_or_past}
use Rattle.std.proofs.lemmas.List.FromFn.{get_or-map-range_with_len, length-map-range_with_len}
use Rattle.std.proofs.lemmas.Bool.{cases_lt}
use Rattle.model.specs.Sets as model
use Rattle.model.specs.Sets.{no_literals}
use Rattle.moves.specs.Lists.{literals_of}
use Rattle.moves.specs.declared.lists.Literals.{Literals}

-- what a lookup finds, or `none` in its place
pub row_found : (rs vs : List Literals) (a : ℕ) (none : Literals) (o : Option (Bor Literals)) → vs ≡ rs → IsGetResult vs a a o → literals_of none ≡ no_literals
    → literals_of (unwrap_or (option_map (λ x. x.now) o) none) ≡ get_or (map literals_of rs) a no_literals
row_found rs vs a d (Some x) e item empty = rw (← e) (ap literals_of item.1 ∙ sym (get_or-map literals_of vs a x.now no_literals item.3.0))
row_found rs vs a d None e item empty = rw (← e) (empty ∙ sym (get_or_past (map literals_of vs) a no_literals (omega (arith, item.3, length-map vs literals_of))))

-- the rows for the numbers below n are f's, and f has nothing from n on
pub rows_are : (f : ℕ → model.Literals) (n : ℕ) (rows : List model.Literals) → rows ≡ map f (range_with_len 0 n) → ((k : ℕ) → n ≤ k → f k ≡ no_literals) → (k : ℕ) → get_or rows k no_literals ≡ f k
rows_are f n rows e past k =
    rw e
    (⊎_elim (λ (low : k < n). get_or-map-range_with_len f 0 n k k no_literals low (omega arith))
    (λ (high : n ≤ k). get_or_past (map f (range_with_len 0 n)) k no_literals (omega (arith, length-map-range_with_len f 0 n)) ∙ sym (past k high)) (cases_lt k n))
