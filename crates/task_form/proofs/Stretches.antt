-- What one command more makes of lists, of stretches and of the part of the file. Assumes nothing.
use Rattle.std.proofs.Common.{◌≡◌, ℕ, Bool, true, false, cond, ◌⊎◌, List, [], ◌∷◌, ◌++◌, sym, refl, ap, ◌∙◌, inl, inr}
use Rattle.model.specs.Sets.{no_literals, both}
use Rattle.moves.proofs.Lits.{both_assoc, both_none}
use Rattle.task_command.specs.declared.command.Command.{Command}
use Rattle.task_form.specs.Lists.{is, says, listed, until, Stretch, stretches, last_body}
use Rattle.task_form.specs.Questions.{Part, part_from, after}

pub listed_more : (b : ℕ) (cs : List Command) (c : Command) → listed b (cs ++ (c ∷ [])) ≡ both (listed b cs) (cond (is b c) (says c) no_literals)
listed_more b [] c = both_none _
listed_more b (x ∷ xs) c = ap (both (cond (is b x) (says x) no_literals)) (listed_more b xs c) ∙ sym (both_assoc _ (listed b xs) _)

pub part_more : (p : Part) (cs : List Command) (c : Command) → part_from p (cs ++ (c ∷ [])) ≡ after c
part_more p [] c = refl
part_more p (x ∷ xs) c = part_more (after x) xs c

-- a command that begins a stretch
until_begun : (b : ℕ) (cs : List Command) (c : Command) → is b c ≡ true → until b (cs ++ (c ∷ [])) ≡ until b cs
until_begun b [] c h = rw h
until_begun b (x ∷ xs) c h = ap (λ ys. cond (is b x) [] (x ∷ ys)) (until_begun b xs c h)

pub stretches_begun : (b : ℕ) (cs : List Command) (c : Command) → is b c ≡ true → stretches b (cs ++ (c ∷ [])) ≡ stretches b cs ++ ((c, []) ∷ [])
stretches_begun b [] c h = rw h
stretches_begun b (x ∷ xs) c h =
    ap (λ ys. cond (is b x) ((x, ys) ∷ stretches b (xs ++ (c ∷ []))) (stretches b (xs ++ (c ∷ [])))) (until_begun b xs c h)
    ∙ ap (λ ss. cond (is b x) ((x, until b xs) ∷ ss) ss) (stretches_begun b xs c h) ∙ out (is b x) _ (stretches b xs)
  where
    out : (t : Bool) (s : Stretch) (ss : List Stretch) → cond t (s ∷ (ss ++ ((c, []) ∷ []))) (ss ++ ((c, []) ∷ [])) ≡ cond t (s ∷ ss) ss ++ ((c, []) ∷ [])
    out true s ss = refl
    out false s ss = refl

-- a command that belongs to the last stretch
abbrev pub grown : List Stretch → Command → List Stretch
grown [] c = []
grown (s ∷ []) c = (s.0, s.1 ++ (c ∷ [])) ∷ []
grown (s ∷ (t ∷ ts)) c = s ∷ grown (t ∷ ts) c

module _ (b : ℕ) (c : Command) (h : is b c ≡ false) where
  -- the bytes before the first stretch grow where there is none
  Leads : List Command → Type 0
  Leads xs =
      ((stretches b xs ≡ []) × (until b (xs ++ (c ∷ [])) ≡ until b xs ++ (c ∷ [])))
      ⊎ ((s : Stretch) × (ss : List Stretch) × (stretches b xs ≡ s ∷ ss) × (until b (xs ++ (c ∷ [])) ≡ until b xs))

  leads : (xs : List Command) → Leads xs
  unfolding Leads
  leads [] = inl (refl, rw h)
  leads (x ∷ xs) = by (is b x) refl (leads xs)
    where
      by : (t : Bool) → is b x ≡ t → Leads xs → Leads (x ∷ xs)
      by true e l = inr ((x, until b xs), stretches b xs, rw e, rw e)
      by false e (inl l) = inl (rw (e, l.0), rw (e, l.1))
      by false e (inr l) = inr (l.0, l.1, rw (e, l.2), rw (e, l.3))

  pub stretches_more : (xs : List Command) → stretches b (xs ++ (c ∷ [])) ≡ grown (stretches b xs) c
  unfolding Leads
  stretches_more [] = rw h
  stretches_more (x ∷ xs) = by (is b x) refl (leads xs) (stretches_more xs)
    where
      by : (t : Bool) → is b x ≡ t → Leads xs → stretches b (xs ++ (c ∷ [])) ≡ grown (stretches b xs) c → stretches b (x ∷ (xs ++ (c ∷ []))) ≡ grown (stretches b (x ∷ xs)) c
      by true e (inl l) ih = rw (e, ih, l.0, l.1)
      by true e (inr l) ih = rw (e, ih, l.2, l.3)
      by false e l ih = rw (e, ih)

pub grown_last : (done : List Stretch) (s : Stretch) (c : Command) → grown (done ++ (s ∷ [])) c ≡ done ++ ((s.0, s.1 ++ (c ∷ [])) ∷ [])
grown_last [] s c = refl
grown_last (d ∷ []) s c = refl
grown_last (d ∷ (e ∷ es)) s c = ap (λ ss. d ∷ ss) (grown_last (e ∷ es) s c)

pub last_of : (done : List Stretch) (s : Stretch) → last_body (done ++ (s ∷ [])) ≡ s.1
last_of [] s = refl
last_of (d ∷ []) s = refl
last_of (d ∷ (e ∷ es)) s = last_of (e ∷ es) s
