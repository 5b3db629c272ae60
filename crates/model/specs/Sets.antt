-- Sets of numbers by their members, sets of literals, and bounded quantifiers. Assumes nothing.
use Rattle.std.specs.Prelude.{Bool, true, false, not, ◌&&◌, ◌||◌, cond, ℕ, zero, suc, eqb, ltb}

-- a set, as the test for its members
abbrev pub Set : Type 0
Set = ℕ → Bool

abbrev pub none : Set
none = λ k. false

-- some number below n is in p
abbrev pub any : ℕ → Set → Bool
any zero p = false
any (suc n) p = p n || any n p

-- every number below n is in p
abbrev pub all : ℕ → Set → Bool
all zero p = true
all (suc n) p = p n && all n p

abbrev pub with : Set → ℕ → Set
with p a = λ k. cond (eqb k a) true (p k)

abbrev pub either : Set → Set → Set
either p q = λ k. p k || q k

abbrev pub meet : Set → Set → Set
meet p q = λ k. p k && q k

abbrev pub minus : Set → Set → Set
minus p q = λ k. not (q k) && p k

-- the numbers below n
abbrev pub below : ℕ → Set
below n = λ k. ltb k n

-- each member of p below 128 is one of q
unfoldable pub subset : Set → Set → Bool
subset p q = all 128 (λ k. not (p k) || q k)

-- no member of p below 128 is one of q
unfoldable pub apart : Set → Set → Bool
apart p q = all 128 (λ k. not (p k && q k))

-- literals: `l true k` says that k stands among them, and `l false k` that "not k" does
abbrev pub Literals : Type 0
Literals = Bool → Set

abbrev pub no_literals : Literals
no_literals b k = false

abbrev pub both : Literals → Literals → Literals
both l m b k = l b k || m b k

-- every literal holds in s
abbrev pub holds : Literals → Set → Bool
holds l s = subset (l true) s && apart s (l false)

-- the literals with one more: k, plain or with "not"
abbrev pub plus : Literals → Bool → ℕ → Literals
plus l true k = elim [ true ↦ with (l true) k | false ↦ l false ]
plus l false k = elim [ true ↦ l true | false ↦ with (l false) k ]

-- k stands among the literals, plain or with "not"
abbrev pub names : Literals → ℕ → Bool
names l k = l true k || l false k

-- every literal names a number below n
abbrev pub within : ℕ → Literals → Bool
within n l = subset (l true) (below n) && subset (l false) (below n)
