-- What `any` over a range of numbers answers. Assumes nothing.
use Rattle.std.proofs.Common.{◌≡◌, ℕ, zero, suc, Bool, true, false, List, [], ◌∷◌, ◌++◌, Option, refl, ap, ◌∙◌, arith, add-one}
use Rattle.std.specs.Fn.{Called}
use Rattle.std.specs.Iterator.{YieldsThen}
use Rattle.std.specs.List.{list_any, range_with_len, FoldsTo}
use Rattle.std.specs.Option.{MatchOption}
use Rattle.std.proofs.iter.Yields.{nat_range_steps}
use Rattle.std.proofs.lemmas.Iterator.{YieldsList-from_range}
use Rattle.std.proofs.lemmas.List.{map-id}
use Rattle.std.proofs.lemmas.List.Folds.{list_any-append}
use Rattle.std.proofs.lemmas.List.FromFn.{map-range_with_len_more}
use Rattle.std.proofs.lemmas.Iterator.Search.{any_from_yields_List}
use Rattle.std.specs.declared.ops.Range.{Range}
use denote.Param.Members.{Mut}
use Rattle.model.specs.Sets.{any}

-- the last number may be asked first
any_counted : (p : ℕ → Bool) (n : ℕ) → list_any p (range_with_len 0 n) ≡ any n p
any_counted p zero = refl
any_counted p (suc n) =
    let more : range_with_len 0 (suc n) ≡ range_with_len 0 n ++ (n ∷ []) = simp add-one at (simp map-id at (map-range_with_len_more (λ x. x) 0 n n (omega arith))) in
    ap (list_any p) more ∙ rw (list_any-append, any_counted p n) (grind arith)

-- `any` over the numbers below n, with a closure that computes the test p
pub any_below : {F : Type 0} {g : Mut F (ℕ × Unit {0}) Bool} (p : ℕ → Bool) (n m : ℕ) (u : Range ℕ) (f : F) (r : Bool) → n ≡ m
    → (xs : List ℕ) × (o : Option ℕ) × (j : F) × YieldsThen nat_range_steps (record { start = 0; end = n }) xs o u × FoldsTo (λ p x q. Called g p (x, tt) false q) f xs j × MatchOption o (r ≡ false) (λ x. (r ≡ true) × ((h : F) × Called g j (x, tt) true h))
    → ((x : ℕ) (b : Bool) (q : F) → Called g f (x, tt) b q → (q ≡ f) × (b ≡ p x)) → r ≡ any m p
any_below p n m u f r e d k = any_from_yields_List p u f r d (YieldsList-from_range 0 n n refl (omega arith)) k ∙ any_counted p n ∙ ap (λ i. any i p) e
