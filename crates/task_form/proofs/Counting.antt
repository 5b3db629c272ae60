-- A literal that is new in its list makes one more of it, and the list stays in bounds. Assumes nothing.
use Rattle.std.proofs.Common.{◌≡◌, ℕ, zero, suc, ◌+◌, ◌<◌, Bool, true, false, cond, ◌⊎◌, List, [], ◌∷◌, ◌++◌, sym, refl, ap, ◌∙◌, ap₂, inl, inr, arith}
use Rattle.std.proofs.lemmas.Bool.{eq-eqb, ne_eqb, cases_eq, or_parts, both_ways}
use Rattle.model.specs.Sets.{Set, Literals, no_literals, with, plus, names}
use Rattle.model.specs.Sets as sets
use Rattle.model.specs.Bounds.{Listed, Each}
use Rattle.model.specs.Size.{count, literals, total}

-- ---- sets

pub with_same : (p : Set) (k : ℕ) → with p k k ≡ true
with_same p k = ap (λ t. cond t true (p k)) (eq-eqb k k refl)

pub with_other : (p : Set) (k j : ℕ) → (j ≡ k → ⊥) → with p k j ≡ p j
with_other p k j h = ap (λ t. cond t true (p j)) (ne_eqb j k h)

count_same : (n : ℕ) (p q : Set) → ((k : ℕ) → k < n → p k ≡ q k) → count n p ≡ count n q
count_same zero p q h = refl
count_same (suc n) p q h = ap₂ (λ t c. cond t 1 0 + c) (h n (omega arith)) (count_same n p q (λ k l. h k (omega arith)))

pub count_none : (n : ℕ) → count n sets.none ≡ 0
count_none zero = refl
count_none (suc n) = let i = count_none n in omega arith

-- a number that is new in a set
pub count_with : (n k : ℕ) (p : Set) → k < n → p k ≡ false → count n (with p k) ≡ 1 + count n p
count_with zero k p h f = absurd (omega arith)
count_with (suc n) k p h f = by (cases_eq n k) (count_with n k p)
  where
    by : (n ≡ k) ⊎ (n ≡ k → ⊥) → (k < n → p k ≡ false → count n (with p k) ≡ 1 + count n p) → count (suc n) (with p k) ≡ 1 + count (suc n) p
    by (inl e) ih =
        let a : with p k n ≡ true = ap (with p k) e ∙ with_same p k in
        let b : p n ≡ false = ap p e ∙ f in
        let c = count_same n (with p k) p (λ j l. with_other p k j (λ (g : j ≡ k). omega arith)) in
        let d : ◌≡◌ {A = ℕ} (cond (with p k n) 1 0) 1 = rw a in
        let g : ◌≡◌ {A = ℕ} (cond (p n) 1 0) 0 = rw b in
        omega arith
    by (inr e) ih =
        let a : with p k n ≡ p n = with_other p k n e in
        let b : ◌≡◌ {A = ℕ} (cond (with p k n) 1 0) (cond (p n) 1 0) = ap (λ (t : Bool). cond t 1 0) a in
        let c = ih (omega (arith, e)) f in
        omega arith

-- ---- literals

pub literals_none : (n : ℕ) → literals n no_literals ≡ 0
literals_none n = let a = count_none n in omega arith

pub literals_plus : (n : ℕ) (l : Literals) (b : Bool) (k : ℕ) → k < n → names l k ≡ false → literals n (plus l b k) ≡ 1 + literals n l
literals_plus n l true k h f = let a = count_with n k (l true) h (or_parts (l true k) (l false k) f).0 in omega arith
literals_plus n l false k h f = let a = count_with n k (l false) h (or_parts (l true k) (l false k) f).1 in omega arith

pub none_listed : (n : ℕ) → Listed n no_literals
none_listed n = record { below = λ b k e. absurd (both_ways _ refl e); once = λ k e. refl }

-- a member of a set with one more
pub with_cases : (p : Set) (k j : ℕ) → with p k j ≡ true → (j ≡ k) ⊎ (p j ≡ true)
with_cases p k j e = elim (cases_eq j k) [ inl q ↦ inl q | inr q ↦ inr (sym (with_other p k j q) ∙ e) ]

pub with_below : (n : ℕ) (p : Set) (k : ℕ) → ((j : ℕ) → p j ≡ true → j < n) → k < n → (j : ℕ) → with p k j ≡ true → j < n
with_below n p k h l j e = elim (with_cases p k j e) [ inl q ↦ omega arith | inr q ↦ h j q ]

pub plus_listed : (n : ℕ) (l : Literals) (b : Bool) (k : ℕ) → Listed n l → k < n → names l k ≡ false → Listed n (plus l b k)
plus_listed n l true k h m f = record {
  below = elim [ true ↦ with_below n (l true) k (h.below true) m | false ↦ h.below false ];
  once = λ j e. elim (with_cases (l true) k j e) [
    | inl q ↦ ap (l false) q ∙ (or_parts (l true k) (l false k) f).1
    | inr q ↦ h.once j q
  ];
}
plus_listed n l false k h m f = record {
  below = elim [ true ↦ h.below true | false ↦ with_below n (l false) k (h.below false) m ];
  once = λ j e. with_other (l false) k j (λ q. both_ways (l true k) (or_parts (l true k) (l false k) f).0 (ap (l true) (sym q) ∙ e)) ∙ h.once j e;
}

-- ---- one more of a list

pub each_more : {A : Type 0} (P : A → Type 0) (xs : List A) (x : A) → Each P xs → P x → Each P (xs ++ (x ∷ []))
each_more P [] x h p = (p, tt)
each_more P (y ∷ ys) x h p = (h.0, each_more P ys x h.1 p)

pub total_more : {A : Type 0} (w : A → ℕ) (xs : List A) (x : A) → total w (xs ++ (x ∷ [])) ≡ total w xs + w x
total_more w [] x = omega arith
total_more w (y ∷ ys) x = let i = total_more w ys x in omega arith
