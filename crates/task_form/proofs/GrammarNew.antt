-- Numbers that are new in a list, one after the other, are those that no two commands name. Assumes nothing.
use Rattle.std.proofs.Common.{◌≡◌, ℕ, ◌<◌, Bool, true, false, List, [], ◌∷◌, sym, ap, ◌∙◌}
use Rattle.std.proofs.lemmas.Bool.{both_ways, or_parts, or_from}
use Rattle.model.specs.Sets.{Set, Literals, with, plus, names}
use Rattle.model.specs.Bounds.{Each}
use Rattle.task_command.specs.declared.command.Command.{Command}
use Rattle.task_form.specs.Grammar.{numbers, Apart, WellListed}
use Rattle.task_form.proofs.Counting.{with_same, with_other}

-- numbers below n, none of which is known yet, nor stands twice
pub record New (n : ℕ) (known : Set) (ks : List ℕ) : Type 0 where
  pub below : Each (λ k. k < n) ks
  pub apart : Apart ks
  pub fresh : Each (λ k. known k ≡ false) ks

pub none_new : (n : ℕ) (known : Set) → New n known []
none_new n known = record { below = tt; apart = tt; fresh = tt }

-- the set that knows k too
abbrev Knows : Set → ℕ → Set → Type 0
Knows known k more = (j : ℕ) → more j ≡ false → (known j ≡ false) × (j ≡ k → ⊥)

pub new_more : (n : ℕ) (known more : Set) (k : ℕ) (ks : List ℕ) → Knows known k more → k < n → known k ≡ false → New n more ks → New n known (k ∷ ks)
new_more n known more k ks g l e h = let a = all ks h.fresh in record { below = (l, h.below); apart = (a.1, h.apart); fresh = (e, a.0) }
  where
    all : (js : List ℕ) → Each (λ j. more j ≡ false) js → Each (λ j. known j ≡ false) js × Each (λ j. j ≡ k → ⊥) js
    all [] h = (tt, tt)
    all (j ∷ js) h = let a = all js h.1 in let b = g j h.0 in ((b.0, a.0), (b.1, a.1))

-- and the other way round
abbrev Grows : Set → ℕ → Set → Type 0
Grows known k more = (j : ℕ) → known j ≡ false → (j ≡ k → ⊥) → more j ≡ false

pub new_rest : (n : ℕ) (known more : Set) (k : ℕ) (ks : List ℕ) → Grows known k more → New n known (k ∷ ks) → New n more ks
new_rest n known more k ks g h = record { below = h.below.1; apart = h.apart.1; fresh = all ks h.fresh.1 h.apart.0 }
  where
    all : (js : List ℕ) → Each (λ j. known j ≡ false) js → Each (λ j. j ≡ k → ⊥) js → Each (λ j. more j ≡ false) js
    all [] a b = tt
    all (j ∷ js) a b = (g j a.0 b.0, all js a.1 b.1)

-- ---- the sets that grow

pub with_knows : (p : Set) (k : ℕ) → Knows p k (with p k)
with_knows p k j e =
    let d : j ≡ k → ⊥ = λ q. both_ways (with p k j) e (ap (with p k) q ∙ with_same p k) in
    (sym (with_other p k j d) ∙ e, d)

pub with_grows : (p : Set) (k : ℕ) → Grows p k (with p k)
with_grows p k j e d = with_other p k j d ∙ e

pub plus_knows : (l : Literals) (b : Bool) (k : ℕ) → Knows (names l) k (names (plus l b k))
plus_knows l true k j e =
    let a = or_parts (with (l true) k j) (l false j) e in
    let w = with_knows (l true) k j a.0 in
    (or_from (l true j) (l false j) w.0 a.1, w.1)
plus_knows l false k j e =
    let a = or_parts (l true j) (with (l false) k j) e in
    let w = with_knows (l false) k j a.1 in
    (or_from (l true j) (l false j) a.0 w.0, w.1)

pub plus_grows : (l : Literals) (b : Bool) (k : ℕ) → Grows (names l) k (names (plus l b k))
plus_grows l true k j e d = let a = or_parts (l true j) (l false j) e in or_from (with (l true) k j) (l false j) (with_grows (l true) k j a.0 d) a.1
plus_grows l false k j e d = let a = or_parts (l true j) (l false j) e in or_from (l true j) (with (l false) k j) a.0 (with_grows (l false) k j a.1 d)

-- ---- where nothing is known yet

pub new_well : (n b : ℕ) (known : Set) (cs : List Command) → New n known (numbers b cs) → WellListed n b cs
new_well n b known cs h = record { below = h.below; apart = h.apart }

pub well_new : (n b : ℕ) (known : Set) (cs : List Command) → ((j : ℕ) → known j ≡ false) → WellListed n b cs → New n known (numbers b cs)
well_new n b known cs none h = record { below = h.below; apart = h.apart; fresh = all (numbers b cs) }
  where
    all : (js : List ℕ) → Each (λ j. known j ≡ false) js
    all [] = tt
    all (j ∷ js) = (none j, all js)
