-- The command that stands at the front of some bytes is spelled by the first of them, and the others are left. Assumes
-- nothing.
use Rattle.std.proofs.Common.{◌≡◌, ℕ, ◌+◌, ◌<◌, ◌≤◌, Bool, true, false, cond, eqb, ltb, List, [], ◌∷◌, ◌++◌, length, get_or, drop, Ok, Err, refl, ap, arith, length-append}
use Rattle.std.proofs.lemmas.Bool.{ltb-true, eqb-true}
use Rattle.refusals.specs.declared.Question.TheVariants as Q
use Rattle.refusals.specs.Answers.{refusal}
use Rattle.task_command.specs.declared.command.Command.{Command}
use Rattle.task_command.specs.declared.command.Command.TheVariants.{Sizes, Start, Goal, Move, Need, With, Effect, If, IfMove, Then, End}
use Rattle.task_command.specs.Commands.{Taken, stands, first}
use Rattle.task_form.specs.Spelling.{Spells, Spelled}

-- how many bytes a command has
abbrev pub width : Command → ℕ
width (Sizes n f m) = 4
width (Start k) = 2
width (Goal x) = 2
width (Move s) = 2
width (Need x) = 2
width (With x) = 2
width Effect = 1
width (If x) = 2
width (IfMove x) = 2
width (Then x) = 2
width End = 1

abbrev pub widths : List Command → ℕ
widths [] = 0
widths (c ∷ cs) = width c + widths cs

pub spells_width : (c : Command) (own : List ℕ) → Spells c own → length own ≡ width c
spells_width (Sizes n f m) own s = ap length s
spells_width (Start k) own s = ap length s
spells_width (Goal x) own s = ap length s.2
spells_width (Move k) own s = ap length s
spells_width (Need x) own s = ap length s.2
spells_width (With x) own s = ap length s.2
spells_width Effect own s = ap length s
spells_width (If x) own s = ap length s.2
spells_width (IfMove x) own s = ap length s.2
spells_width (Then x) own s = ap length s.2
spells_width End own s = ap length s

pub width_positive : (c : Command) → 1 ≤ width c
width_positive (Sizes n f m) = omega arith
width_positive (Start k) = omega arith
width_positive (Goal x) = omega arith
width_positive (Move k) = omega arith
width_positive (Need x) = omega arith
width_positive (With x) = omega arith
width_positive Effect = omega arith
width_positive (If x) = omega arith
width_positive (IfMove x) = omega arith
width_positive (Then x) = omega arith
width_positive End = omega arith

pub spelled_width : (cs : List Command) (bs : List ℕ) → Spelled cs bs → length bs ≡ widths cs
spelled_width [] bs s = ap length s
spelled_width (c ∷ cs) bs s =
    let w = spells_width c s.0 s.3 in
    let r = spelled_width cs s.1 s.4 in
    let a = length-append s.0 s.1 in
    let b = ap length s.2 in
    omega arith

-- ---- what is taken

-- bs begins with the command c, before rest
abbrev pub Begins : List ℕ → Command → List ℕ → Type 0
Begins bs c rest = (own : List ℕ) × (bs ≡ own ++ rest) × Spells c own

abbrev pub Took : ℕ → List ℕ → Taken → Type 0
Took p bs (Ok x) = Begins bs x.0 x.1
Took p bs (Err e) = e ≡ refusal Q.Command p

standing : (b k : ℕ) (bs : List ℕ) → stands b k bs ≡ true → (k < length bs) × (get_or bs 0 0 ≡ b)
standing b k bs h = by (ltb k (length bs)) refl h
  where
    by : (t : Bool) → ltb k (length bs) ≡ t → cond t (eqb (get_or bs 0 0) b) false ≡ true → (k < length bs) × (get_or bs 0 0 ≡ b)
    by true e g = (ltb-true k (length bs) e, eqb-true (get_or bs 0 0) b g)
    by false e g = let z : ◌≡◌ {A = ℕ} 0 1 = cc in absurd (omega arith)

one_byte : (b : ℕ) (bs : List ℕ) → stands b 0 bs ≡ true → bs ≡ b ∷ drop 1 bs
one_byte b bs h = by bs (standing b 0 bs h)
  where
    by : (xs : List ℕ) → (0 < length xs) × (get_or xs 0 0 ≡ b) → xs ≡ b ∷ drop 1 xs
    by [] h = absurd (omega arith)
    by (x ∷ xs) h = ap (λ y. y ∷ xs) h.1

two_bytes : (b : ℕ) (bs : List ℕ) → stands b 1 bs ≡ true → bs ≡ b ∷ (get_or bs 1 0 ∷ drop 2 bs)
two_bytes b bs h = by bs (standing b 1 bs h)
  where
    by : (xs : List ℕ) → (1 < length xs) × (get_or xs 0 0 ≡ b) → xs ≡ b ∷ (get_or xs 1 0 ∷ drop 2 xs)
    by [] h = absurd (omega arith)
    by (x ∷ []) h = absurd (omega arith)
    by (x ∷ (y ∷ xs)) h = ap (λ z. z ∷ (y ∷ xs)) h.1

four_bytes : (b : ℕ) (bs : List ℕ) → stands b 3 bs ≡ true → bs ≡ b ∷ (get_or bs 1 0 ∷ (get_or bs 2 0 ∷ (get_or bs 3 0 ∷ drop 4 bs)))
four_bytes b bs h = by bs (standing b 3 bs h)
  where
    by : (xs : List ℕ) → (3 < length xs) × (get_or xs 0 0 ≡ b) → xs ≡ b ∷ (get_or xs 1 0 ∷ (get_or xs 2 0 ∷ (get_or xs 3 0 ∷ drop 4 xs)))
    by [] h = absurd (omega arith)
    by (x ∷ []) h = absurd (omega arith)
    by (x ∷ (y ∷ [])) h = absurd (omega arith)
    by (x ∷ (y ∷ (z ∷ []))) h = absurd (omega arith)
    by (x ∷ (y ∷ (z ∷ (w ∷ xs)))) h = ap (λ v. v ∷ (y ∷ (z ∷ (w ∷ xs)))) h.1

pub first_took : (p : ℕ) (bs : List ℕ) → Took p bs (first p bs)
first_took p bs =
    case (stands 0x01 3 bs) _ _ (λ h. (_, four_bytes 0x01 bs h, refl))
    (case (stands 0x02 1 bs) _ _ (λ h. (_, two_bytes 0x02 bs h, refl))
    (case (stands 0x03 1 bs) _ _ (λ h. (_, two_bytes 0x03 bs h, (get_or bs 1 0, refl, refl)))
    (case (stands 0x04 1 bs) _ _ (λ h. (_, two_bytes 0x04 bs h, refl))
    (case (stands 0x05 1 bs) _ _ (λ h. (_, two_bytes 0x05 bs h, (get_or bs 1 0, refl, refl)))
    (case (stands 0x06 1 bs) _ _ (λ h. (_, two_bytes 0x06 bs h, (get_or bs 1 0, refl, refl)))
    (case (stands 0x07 0 bs) _ _ (λ h. (_, one_byte 0x07 bs h, refl))
    (case (stands 0x08 1 bs) _ _ (λ h. (_, two_bytes 0x08 bs h, (get_or bs 1 0, refl, refl)))
    (case (stands 0x09 1 bs) _ _ (λ h. (_, two_bytes 0x09 bs h, (get_or bs 1 0, refl, refl)))
    (case (stands 0x0a 1 bs) _ _ (λ h. (_, two_bytes 0x0a bs h, (get_or bs 1 0, refl, refl)))
    (case (stands 0x0f 0 bs) _ _ (λ h. (_, one_byte 0x0f bs h, refl))
    refl))))))))))
  where
    case : (t : Bool) (x y : Taken) → (t ≡ true → Took p bs x) → Took p bs y → Took p bs (cond t x y)
    case true x y f g = f refl
    case false x y f g = g
