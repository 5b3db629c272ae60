-- A list of steps leads to one state at most, and has one answer. Assumes nothing.
use Rattle.std.proofs.Common.{◌≡◌, ℕ, true, zero, suc, ◌+◌, ◌<◌, List, [], ◌∷◌, ◌++◌, length, get_or, take, drop, Ok, Err, Result, sym, refl, ap, ◌∙◌, subst, inl, inr, drop-cons}
use Rattle.std.specs.Result.{MatchResult, is_ok}
use Rattle.std.proofs.lemmas.Bool.{true≢false}
use Rattle.std.proofs.lemmas.List.{take_more}
use Rattle.refusals.specs.declared.Question.{Question}
use Rattle.refusals.specs.declared.Refusal.{Refusal}
use Rattle.refusals.specs.Answers.{refusal}
use Rattle.world.specs.Plans.{Leads, Performs, Stops, Solves, Fails, Judged}

module _ {S A : Type 0} (next : S → A → Result S Question) where
  -- one step more
  leads_push : (s : S) (xs : List A) (t : S) (a : A) (u : S) → Leads next s xs t → next t a ≡ Ok u → Leads next s (xs ++ (a ∷ [])) u
  leads_push s [] t a u l e = (u, ap (λ v. next v a) l ∙ e, refl)
  leads_push s (x ∷ xs) t a u l e = (l.0, l.1, leads_push l.0 xs t a u l.2 e)

  pub leads_more : (s : S) (xs : List A) (i : ℕ) (t : S) (a : A) (u : S) → i < length xs → a ≡ get_or xs i a → Leads next s (take i xs) t → next t a ≡ Ok u → Leads next s (take (i + 1) xs) u
  leads_more s xs i t a u within read l e =
      let pushed : take (i + 1) xs ≡ take i xs ++ (a ∷ []) = take_more xs i a within ∙ ap (λ y. take i xs ++ (y ∷ [])) (sym read) in
      subst (λ ys. Leads next s ys u) (sym pushed) (leads_push s (take i xs) t a u l e)

  stops_here : (s : S) (xs : List A) (i : ℕ) (t : S) (a : A) (e : Question) → i < length xs → a ≡ get_or xs i a → Leads next s (take i xs) t → next t a ≡ Err e → Stops next s xs (record { place = i; question = e })
  stops_here s xs i t a e within read l refused =
      (t, a, drop (suc i) xs, l, drop-cons xs i a within ∙ ap (λ y. y ∷ drop (suc i) xs) (sym read), refused)

  -- a step that was performed, and one whose question became the refusal f of the place i
  pub goes : (s t : S) (a : A) (r : Result (Unit {0}) Question) → Performs next s a r t → true ≡ is_ok r → next s a ≡ Ok t
  goes s t a (Ok x) p ok = p
  goes s t a (Err e) p ok = absurd (true≢false ok)

  pub stops : (s t : S) (xs : List A) (i : ℕ) (was : S) (a : A) (r : Result (Unit {0}) Question) (f : Refusal) (gives : Question → Type 0) → i < length xs → a ≡ get_or xs i a → Leads next s (take i xs) was → Performs next was a r t
      → MatchResult r (λ x. ◌≡◌ {A = Result (Unit {0}) Refusal} (Err f) (Ok x)) gives → ((e : Question) → gives e → f ≡ refusal e i) → Stops next s xs f
  stops s t xs i was a (Ok x) f gives within read l p m k = absurd (cc)
  stops s t xs i was a (Err e) f gives within read l p m k = rw (k e m) (stops_here s xs i was a e within read l p.0)

  leads_same : (s : S) (xs : List A) (t u : S) → Leads next s xs t → Leads next s xs u → t ≡ u
  leads_same s [] t u l m = sym l ∙ m
  leads_same s (x ∷ xs) t u l m =
      let p = l.1 in
      let q = m.1 in
      let same : m.0 ≡ l.0 = cc in
      leads_same l.0 xs t u l.2 (subst (λ v. Leads next v xs u) same m.2)

  -- the first refusal, step by step
  abbrev First : S → List A → ℕ → Question → Type 0
  First s [] i e = ⊥
  First s (x ∷ xs) zero e = next s x ≡ Err e
  First s (x ∷ xs) (suc i) e = (u : S) × (next s x ≡ Ok u) × First u xs i e

  first : (s : S) (xs : List A) (i : ℕ) (e : Question) → Stops next s xs (record { place = i; question = e }) → First s xs i e
  first s [] zero e h = let q = h.4 in cc
  first s [] (suc i) e h = let q = h.4 in cc
  first s (x ∷ xs) zero e h = let p = h.3 in let n = h.4 in let q = h.5 in cc
  first s (x ∷ xs) (suc i) e h = (h.3.0, h.3.1, first h.3.0 xs i e (h.0, h.1, h.2, h.3.2, h.4, h.5))

  first_same : (s : S) (xs : List A) (i j : ℕ) (e f : Question) → First s xs i e → First s xs j f → (i ≡ j) × (e ≡ f)
  first_same s [] i j e f h k = absurd h
  first_same s (x ∷ xs) zero zero e f h k = (refl, cc)
  first_same s (x ∷ xs) zero (suc j) e f h k = absurd (let q = k.1 in cc)
  first_same s (x ∷ xs) (suc i) zero e f h k = absurd (let q = h.1 in cc)
  first_same s (x ∷ xs) (suc i) (suc j) e f h k =
      let p = h.1 in
      let q = k.1 in
      let same : k.0 ≡ h.0 = cc in
      let rest = first_same h.0 xs i j e f h.2 (subst (λ v. First v xs j f) same k.2) in
      (ap suc rest.0, rest.1)

  first_leads : (s : S) (xs : List A) (i : ℕ) (e : Question) (t : S) → First s xs i e → Leads next s xs t → ⊥
  first_leads s [] i e t h l = h
  first_leads s (x ∷ xs) zero e t h l = let q = l.1 in cc
  first_leads s (x ∷ xs) (suc i) e t h l =
      let p = h.1 in
      let q = l.1 in
      let same : l.0 ≡ h.0 = cc in
      first_leads h.0 xs i e t h.2 (subst (λ v. Leads next v xs t) same l.2)

  -- a list that is refused somewhere leads nowhere
  pub stops_leads : (s : S) (xs : List A) (f : Refusal) (t : S) → Stops next s xs f → Leads next s xs t → ⊥
  stops_leads s xs f t h l = first_leads s xs f.place f.question t (first s xs f.place f.question h) l

  module _ (ends : S → Result (Unit {0}) Question) (s : S) (xs : List A) where
    solves_fails : (f : Refusal) → Solves next ends s xs → Fails next ends s xs f → ⊥
    solves_fails f h (inl k) = stops_leads s xs f h.0 k h.1
    solves_fails f h (inr k) =
        let same = leads_same s xs h.0 k.0 h.1 k.1 in
        let p = h.2 in
        let q = k.2 in
        cc

    fails_same : (f g : Refusal) → Fails next ends s xs f → Fails next ends s xs g → f ≡ g
    fails_same f g (inl h) (inl k) =
        let same = first_same s xs f.place g.place f.question g.question (first s xs f.place f.question h) (first s xs g.place g.question k) in
        λ i. record { place = same.0 i; question = same.1 i }
    fails_same f g (inl h) (inr k) = absurd (stops_leads s xs f k.0 h k.1)
    fails_same f g (inr h) (inl k) = absurd (stops_leads s xs g h.0 k h.1)
    fails_same f g (inr h) (inr k) =
        let same = leads_same s xs h.0 k.0 h.1 k.1 in
        let p = h.2 in
        let q = k.2 in
        let why : f.question ≡ g.question = cc in
        let where_at : f.place ≡ g.place = h.3 ∙ sym k.3 in
        λ i. record { place = where_at i; question = why i }

    pub judged_ok : Solves next ends s xs → Judged next ends s xs (Ok tt)
    judged_ok h = record {
      accepted = λ _. h;
      accepts = λ _. refl;
      refused = λ f e. absurd (cc);
      refuses = λ f k. absurd (solves_fails f h k);
    }

    pub judged_err : (f : Refusal) → Fails next ends s xs f → Judged next ends s xs (Err f)
    judged_err f h = record {
      accepted = λ e. absurd (cc);
      accepts = λ k. absurd (solves_fails f k h);
      refused = λ g e. let same : f ≡ g = cc in subst (λ x. Fails next ends s xs x) same h;
      refuses = λ g k. ap Err (fails_same f g h k);
    }

    -- the answer at the end, where the question became a refusal of the count of steps
    pub judged_end : (t : S) (r : Result (Unit {0}) Question) (v : Result (Unit {0}) Refusal) (gives : Question → Type 0) → Leads next s xs t → r ≡ ends t
        → MatchResult r (λ x. v ≡ Ok x) gives → ((e : Question) → gives e → v ≡ Err (refusal e (length xs))) → Judged next ends s xs v
    judged_end t (Ok x) v gives l e m k = rw m (judged_ok (t, l, sym e))
    judged_end t (Err q) v gives l e m k = rw (k q m) (judged_err (refusal q (length xs)) (inr (t, l, sym e, refl)))
