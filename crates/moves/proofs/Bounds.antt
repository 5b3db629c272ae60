-- Numbers stay within a size as lists grow. Assumes nothing.
use Rattle.std.proofs.Common.{◌≡◌, ℕ, ◌<◌, Bool, true, false, cond, ltb, Ok, Err, Result, sym, refl, subst, arith}
use Rattle.std.proofs.lemmas.Bool.{and_parts, and_from, ltb-true}
use Rattle.std.proofs.lemmas.Bool.Decides.{nat_tests}
use Rattle.refusals.specs.declared.Refusal.{Refusal}
use Rattle.model.specs.Sets.{Set, Literals, none, with, below, subset, no_literals, plus, names, within}
use Rattle.sets.proofs.Laws.{decides_subset, none_subset}
use Rattle.moves.specs.Lists.{literals_of, added, numbered}
use Rattle.moves.specs.declared.lists.Literal.{Literal}
use Rattle.moves.specs.declared.lists.Literals as code

pub within_none : (n : ℕ) → within n no_literals ≡ true
within_none n = and_from _ _ (none_subset (below n)) (none_subset (below n))

-- before anything is named
pub empty_subset : (n : ℕ) (s : Set) → s ≡ none → subset s (below n) ≡ true
empty_subset n s e = rw e (none_subset (below n))

pub empty_within : (n : ℕ) (l : Literals) → l ≡ no_literals → within n l ≡ true
empty_within n l e = rw e (within_none n)

-- one number more
pub subset_with : (p : Set) (n k : ℕ) → subset p (below n) ≡ true → k < n → subset (with p k) (below n) ≡ true
subset_with p n k h l =
    (decides_subset (with p k) (below n)).1 (λ j small e. let was = (decides_subset p (below n)).0 h j small in grind (arith, nat_tests, was))

pub within_plus : (n : ℕ) (l : Literals) (b : Bool) (k : ℕ) → within n l ≡ true → k < n → within n (plus l b k) ≡ true
within_plus n l true k h less =
    let p = and_parts (subset (l true) (below n)) (subset (l false) (below n)) h in
    and_from _ _ (subset_with (l true) n k p.0 less) p.1
within_plus n l false k h less =
    let p = and_parts (subset (l true) (below n)) (subset (l false) (below n)) h in
    and_from _ _ p.0 (subset_with (l false) n k p.1 less)

-- what is accepted passed both questions
accepted : {T : Type 0} (a b : Bool) (q q' : Refusal) (r v : T) → ◌≡◌ {A = Result T Refusal} (Ok r) (cond a (cond b (Err q) (Ok v)) (Err q')) → (a ≡ true) × (r ≡ v)
accepted true true q q' r v e = absurd (cc)
accepted true false q q' r v e = (refl, cc)
accepted false b q q' r v e = absurd (cc)

-- what an accepted literal or number leaves is within the size
pub added_within : (l : Literals) (x : Literal) (n p : ℕ) (r : code.Literals) → within n l ≡ true → Ok (literals_of r) ≡ added l x n p → within n (literals_of r) ≡ true
added_within l x n p r h e =
    let t = accepted (ltb x.number n) (names l x.number) _ _ (literals_of r) _ e in
    subst (λ (y : Literals). within n y ≡ true) (sym t.1) (within_plus n l x.plain x.number h (ltb-true x.number n t.0))

pub numbered_within : (s : Set) (k n p : ℕ) (r : Set) → subset s (below n) ≡ true → Ok r ≡ numbered s k n p → subset r (below n) ≡ true
numbered_within s k n p r h e =
    let t = accepted (ltb k n) (s k) _ _ r _ e in
    rw t.1 (subset_with s n k h (ltb-true k n t.0))
