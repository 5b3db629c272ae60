-- Bytes that spell commands that are all admitted, with END last, are accepted, and their task is what the commands
-- denote. Assumes nothing.
use Rattle.std.proofs.Common.{◌≡◌, ℕ, zero, suc, ◌-◌, ◌<◌, ◌≤◌, Bool, true, false, cond, eqb, ltb, List, [], ◌∷◌, ◌++◌, length, Ok, sym, refl, ap, ◌∙◌, append_assoc, append-nil, arith, length-append}
use Rattle.std.proofs.lemmas.Bool.{lt-ltb, eq-eqb}
use Rattle.refusals.specs.declared.Question.TheVariants as Q
use Rattle.refusals.specs.Answers.{refused, and_then}
use Rattle.task_command.specs.declared.command.Command.{Command}
use Rattle.task_command.specs.declared.command.Command.TheVariants.{Sizes, Start, Goal, Move, Need, With, Effect, If, IfMove, Then, End}
use Rattle.task_command.specs.Commands.{Taken, stands, first}
use Rattle.task_form.specs.Denoted.{denoted}
use Rattle.task_form.specs.Questions.{part, at_end, first_no}
use Rattle.task_form.specs.Form.{unless, complete, asked, form}
use Rattle.task_form.specs.Spelling.{Spells, Spelled}
use Rattle.task_form.proofs.Walks.{form_from}
use Rattle.task_form.proofs.Spelling.{width_positive, spells_width, spelled_width}
use Rattle.task_form.proofs.Admitting.{Admits}

-- ---- what is spelled is taken

elsewhere : (b k a : ℕ) (bs : List ℕ) → eqb a b ≡ false → stands b k (a ∷ bs) ≡ false
elsewhere b k a bs e = ap (λ t. cond (ltb k (length (a ∷ bs))) t false) e ∙ same (ltb k (length (a ∷ bs)))
  where
    same : (t : Bool) → cond t false false ≡ false
    same true = refl
    same false = refl

there : (b k : ℕ) (bs : List ℕ) → k < length (b ∷ bs) → stands b k (b ∷ bs) ≡ true
there b k bs h = ap (λ t. cond t (eqb b b) false) (lt-ltb k (length (b ∷ bs)) h) ∙ eq-eqb b b refl

skip : {t : Bool} (x y r : Taken) → t ≡ false → y ≡ r → cond t x y ≡ r
skip x y r e h = ap (λ s. cond s x y) e ∙ h

take : {t : Bool} (x y r : Taken) → t ≡ true → x ≡ r → cond t x y ≡ r
take x y r e h = ap (λ s. cond s x y) e ∙ h

spelled_first : (p : ℕ) (c : Command) (own rest : List ℕ) → Spells c own → first p (own ++ rest) ≡ Ok (c, rest)
spelled_first p (Sizes i j k) own rest s = ap (λ xs. first p (xs ++ rest)) s
    ∙ (take _ _ _ (there 0x01 3 (i ∷ (j ∷ (k ∷ rest))) (omega arith)) refl)
spelled_first p (Start k) own rest s = ap (λ xs. first p (xs ++ rest)) s
    ∙ (skip _ _ _ (elsewhere 0x01 3 0x02 (k ∷ rest) refl)
    (take _ _ _ (there 0x02 1 (k ∷ rest) (omega arith)) refl))
spelled_first p (Goal x) own rest s = ap (λ xs. first p (xs ++ rest)) s.2
    ∙ (skip _ _ _ (elsewhere 0x01 3 0x03 (s.0 ∷ rest) refl)
    (skip _ _ _ (elsewhere 0x02 1 0x03 (s.0 ∷ rest) refl)
    (take _ _ _ (there 0x03 1 (s.0 ∷ rest) (omega arith)) (ap (λ y. Ok (Goal y, rest)) (sym s.1)))))
spelled_first p (Move k) own rest s = ap (λ xs. first p (xs ++ rest)) s
    ∙ (skip _ _ _ (elsewhere 0x01 3 0x04 (k ∷ rest) refl)
    (skip _ _ _ (elsewhere 0x02 1 0x04 (k ∷ rest) refl)
    (skip _ _ _ (elsewhere 0x03 1 0x04 (k ∷ rest) refl)
    (take _ _ _ (there 0x04 1 (k ∷ rest) (omega arith)) refl))))
spelled_first p (Need x) own rest s = ap (λ xs. first p (xs ++ rest)) s.2
    ∙ (skip _ _ _ (elsewhere 0x01 3 0x05 (s.0 ∷ rest) refl)
    (skip _ _ _ (elsewhere 0x02 1 0x05 (s.0 ∷ rest) refl)
    (skip _ _ _ (elsewhere 0x03 1 0x05 (s.0 ∷ rest) refl)
    (skip _ _ _ (elsewhere 0x04 1 0x05 (s.0 ∷ rest) refl)
    (take _ _ _ (there 0x05 1 (s.0 ∷ rest) (omega arith)) (ap (λ y. Ok (Need y, rest)) (sym s.1)))))))
spelled_first p (With x) own rest s = ap (λ xs. first p (xs ++ rest)) s.2
    ∙ (skip _ _ _ (elsewhere 0x01 3 0x06 (s.0 ∷ rest) refl)
    (skip _ _ _ (elsewhere 0x02 1 0x06 (s.0 ∷ rest) refl)
    (skip _ _ _ (elsewhere 0x03 1 0x06 (s.0 ∷ rest) refl)
    (skip _ _ _ (elsewhere 0x04 1 0x06 (s.0 ∷ rest) refl)
    (skip _ _ _ (elsewhere 0x05 1 0x06 (s.0 ∷ rest) refl)
    (take _ _ _ (there 0x06 1 (s.0 ∷ rest) (omega arith)) (ap (λ y. Ok (With y, rest)) (sym s.1))))))))
spelled_first p Effect own rest s = ap (λ xs. first p (xs ++ rest)) s
    ∙ (skip _ _ _ (elsewhere 0x01 3 0x07 rest refl)
    (skip _ _ _ (elsewhere 0x02 1 0x07 rest refl)
    (skip _ _ _ (elsewhere 0x03 1 0x07 rest refl)
    (skip _ _ _ (elsewhere 0x04 1 0x07 rest refl)
    (skip _ _ _ (elsewhere 0x05 1 0x07 rest refl)
    (skip _ _ _ (elsewhere 0x06 1 0x07 rest refl)
    (take _ _ _ (there 0x07 0 rest (omega arith)) refl)))))))
spelled_first p (If x) own rest s = ap (λ xs. first p (xs ++ rest)) s.2
    ∙ (skip _ _ _ (elsewhere 0x01 3 0x08 (s.0 ∷ rest) refl)
    (skip _ _ _ (elsewhere 0x02 1 0x08 (s.0 ∷ rest) refl)
    (skip _ _ _ (elsewhere 0x03 1 0x08 (s.0 ∷ rest) refl)
    (skip _ _ _ (elsewhere 0x04 1 0x08 (s.0 ∷ rest) refl)
    (skip _ _ _ (elsewhere 0x05 1 0x08 (s.0 ∷ rest) refl)
    (skip _ _ _ (elsewhere 0x06 1 0x08 (s.0 ∷ rest) refl)
    (skip _ _ _ (elsewhere 0x07 0 0x08 (s.0 ∷ rest) refl)
    (take _ _ _ (there 0x08 1 (s.0 ∷ rest) (omega arith)) (ap (λ y. Ok (If y, rest)) (sym s.1))))))))))
spelled_first p (IfMove x) own rest s = ap (λ xs. first p (xs ++ rest)) s.2
    ∙ (skip _ _ _ (elsewhere 0x01 3 0x09 (s.0 ∷ rest) refl)
    (skip _ _ _ (elsewhere 0x02 1 0x09 (s.0 ∷ rest) refl)
    (skip _ _ _ (elsewhere 0x03 1 0x09 (s.0 ∷ rest) refl)
    (skip _ _ _ (elsewhere 0x04 1 0x09 (s.0 ∷ rest) refl)
    (skip _ _ _ (elsewhere 0x05 1 0x09 (s.0 ∷ rest) refl)
    (skip _ _ _ (elsewhere 0x06 1 0x09 (s.0 ∷ rest) refl)
    (skip _ _ _ (elsewhere 0x07 0 0x09 (s.0 ∷ rest) refl)
    (skip _ _ _ (elsewhere 0x08 1 0x09 (s.0 ∷ rest) refl)
    (take _ _ _ (there 0x09 1 (s.0 ∷ rest) (omega arith)) (ap (λ y. Ok (IfMove y, rest)) (sym s.1)))))))))))
spelled_first p (Then x) own rest s = ap (λ xs. first p (xs ++ rest)) s.2
    ∙ (skip _ _ _ (elsewhere 0x01 3 0x0a (s.0 ∷ rest) refl)
    (skip _ _ _ (elsewhere 0x02 1 0x0a (s.0 ∷ rest) refl)
    (skip _ _ _ (elsewhere 0x03 1 0x0a (s.0 ∷ rest) refl)
    (skip _ _ _ (elsewhere 0x04 1 0x0a (s.0 ∷ rest) refl)
    (skip _ _ _ (elsewhere 0x05 1 0x0a (s.0 ∷ rest) refl)
    (skip _ _ _ (elsewhere 0x06 1 0x0a (s.0 ∷ rest) refl)
    (skip _ _ _ (elsewhere 0x07 0 0x0a (s.0 ∷ rest) refl)
    (skip _ _ _ (elsewhere 0x08 1 0x0a (s.0 ∷ rest) refl)
    (skip _ _ _ (elsewhere 0x09 1 0x0a (s.0 ∷ rest) refl)
    (take _ _ _ (there 0x0a 1 (s.0 ∷ rest) (omega arith)) (ap (λ y. Ok (Then y, rest)) (sym s.1))))))))))))
spelled_first p End own rest s = ap (λ xs. first p (xs ++ rest)) s
    ∙ (skip _ _ _ (elsewhere 0x01 3 0x0f rest refl)
    (skip _ _ _ (elsewhere 0x02 1 0x0f rest refl)
    (skip _ _ _ (elsewhere 0x03 1 0x0f rest refl)
    (skip _ _ _ (elsewhere 0x04 1 0x0f rest refl)
    (skip _ _ _ (elsewhere 0x05 1 0x0f rest refl)
    (skip _ _ _ (elsewhere 0x06 1 0x0f rest refl)
    (skip _ _ _ (elsewhere 0x07 0 0x0f rest refl)
    (skip _ _ _ (elsewhere 0x08 1 0x0f rest refl)
    (skip _ _ _ (elsewhere 0x09 1 0x0f rest refl)
    (skip _ _ _ (elsewhere 0x0a 1 0x0f rest refl)
    (take _ _ _ (there 0x0f 0 rest (omega arith)) refl)))))))))))

-- ---- commands that are all admitted

completed : (size : ℕ) (before : List Command) → at_end (part before) ≡ true → complete size before ≡ Ok (denoted before)
completed size before e = ap (λ t. cond t (Ok (denoted before)) (refused Q.Command size)) e

asked_spelled : (turns size : ℕ) (before cs : List Command) (bs : List ℕ) → length bs ≤ turns → Spelled cs bs → Admits before cs → at_end (part (before ++ cs)) ≡ true
    → asked turns size before bs ≡ Ok (denoted (before ++ cs))
asked_spelled zero size before [] bs h s a e = completed size before (rw append-nil at e) ∙ rw append-nil
asked_spelled zero size before (c ∷ cs) bs h s a e =
    let w = spelled_width (c ∷ cs) bs s in
    let p = width_positive c in
    absurd (omega arith)
asked_spelled (suc n) size before [] [] h s a e = completed size before (rw append-nil at e) ∙ rw append-nil
asked_spelled (suc n) size before [] (b ∷ bs) h s a e = let l = ap length s in absurd (omega arith)
asked_spelled (suc n) size before (c ∷ cs) [] h s a e =
    let w = spelled_width (c ∷ cs) [] s in
    let p = width_positive c in
    absurd (omega arith)
asked_spelled (suc n) size before (c ∷ cs) (b ∷ bs) h s a e =
    let place : ℕ = size - length (b ∷ bs) in
    let w = spells_width c s.0 s.3 in
    let p = width_positive c in
    let l = ap length s.2 in
    let m = length-append s.0 s.1 in
    ap (λ t. and_then t (λ x. unless (first_no before x.0) place (asked n size (before ++ (x.0 ∷ [])) x.1)))
    (ap (first place) s.2 ∙ spelled_first place c s.0 s.1 s.3)
    ∙ ap (λ o. unless o place (asked n size (before ++ (c ∷ [])) s.1)) a.0
    ∙ asked_spelled n size (before ++ (c ∷ [])) cs s.1 (omega arith) s.4 a.1 (rw append_assoc e)
    ∙ ap (λ ds. Ok (denoted ds)) (append_assoc before (c ∷ []) cs)

pub admitted_form : (cs : List Command) (bs : List ℕ) → Spelled cs bs → Admits [] cs → at_end (part cs) ≡ true → length bs ≤ 8192 → form bs ≡ Ok (denoted cs)
admitted_form cs bs s a e h = form_from bs (Ok (denoted cs)) h (asked_spelled (length bs) (length bs) [] cs bs (omega arith) s a e)
