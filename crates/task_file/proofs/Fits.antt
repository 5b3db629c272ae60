-- Numbers stay within the sizes as lists grow. Assumes nothing.
use Rattle.std.proofs.Common.{◌≡◌, ℕ, suc, ◌+◌, ◌<◌, Bool, true, false, cond, ◌&&◌, ltb, leb, List, [], ◌∷◌, ◌++◌, map, length, Ok, vec_items, vec_len, sym, refl, ap, ◌∙◌, subst, arith}
use lib.ListN.{length-map}
use Rattle.std.proofs.lemmas.Bool.{and_parts, and_from, ltb-true, lt-ltb, le-leb}
use Rattle.model.specs.Sets.{Literals, no_literals, within}
use Rattle.model.specs.Task as model
use Rattle.model.specs.Task.{no_effect, effects_fit, effect_fits, moves_fit, move_fits}
use Rattle.moves.specs.Lists.{literals_of, added}
use Rattle.moves.specs.Parts.{effect_of, move_of, Extends}
use Rattle.moves.proofs.Bounds.{within_none, added_within}
use Rattle.task_file.specs.Form.{move_stands}
use Rattle.moves.specs.declared.lists.Literal.{Literal}
use Rattle.moves.specs.declared.lists.Literals as code
use Rattle.moves.specs.declared.parts.Effect.{Effect}
use Rattle.moves.specs.declared.parts.Move.{Move}

pub effects_push : (f m : ℕ) (es : List Effect) (e : Effect) → effects_fit f m (map effect_of es) ≡ true → effect_fits f m (effect_of e) ≡ true
    → effects_fit f m (map effect_of (es ++ (e ∷ []))) ≡ true
effects_push f m [] e h g = and_from _ _ g refl
effects_push f m (x ∷ xs) e h g =
    let p = and_parts (effect_fits f m (effect_of x)) (effects_fit f m (map effect_of xs)) h in
    and_from _ _ p.0 (effects_push f m xs e p.1 g)

pub moves_push : (n f m : ℕ) (vs : List Move) (v : Move) → moves_fit n f m (map move_of vs) ≡ true → move_fits n f m (move_of v) ≡ true
    → moves_fit n f m (map move_of (vs ++ (v ∷ []))) ≡ true
moves_push n f m [] v h g = and_from _ _ g refl
moves_push n f m (x ∷ xs) v h g =
    let p = and_parts (move_fits n f m (move_of x)) (moves_fit n f m (map move_of xs)) h in
    and_from _ _ p.0 (moves_push n f m xs v p.1 g)

-- the moves after a push, which memory may keep from joining
pub moves_pushed : (n f m : ℕ) (vs vs' : List Move) (v : Move) (b : Bool) → moves_fit n f m (map move_of vs) ≡ true → move_fits n f m (move_of v) ≡ true
    → vs' ≡ cond b (vs ++ (v ∷ [])) vs → moves_fit n f m (map move_of vs') ≡ true
moves_pushed n f m vs vs' v true h g e = subst (λ (xs : List Move). moves_fit n f m (map move_of xs) ≡ true) (sym e) (moves_push n f m vs v h g)
moves_pushed n f m vs vs' v false h g e = subst (λ (xs : List Move). moves_fit n f m (map move_of xs) ≡ true) (sym e) h

-- a move that has just begun, and one that gains a literal
pub new_stands : (n f m s : ℕ) (p q : Literals) (es : List Effect) → s < n → p ≡ no_literals → q ≡ no_literals → es ≡ []
    → move_stands n f m (record { station = s; needs = p; companions = q; effects = map effect_of es }) ≡ true
new_stands n f m s p q es h e g z = rw (e, g, z, lt-ltb s n h, within_none f, within_none m) refl

module _ (n f m : ℕ) (v : Move) (h : move_stands n f m (move_of v) ≡ true) (x : Literal) (p : ℕ) (r : code.Literals) where
  abbrev rest : Bool
  rest = leb (length (move_of v).effects) 8 && effects_fit f m (move_of v).effects

  abbrev few : Bool
  few = ltb (length (move_of v).effects) 8

  pub need_stands : Ok (literals_of r) ≡ added (literals_of v.needs) x f p
      → move_stands n f m (move_of (record { station = v.station; needs = r; companions = v.companions; effects = v.effects })) ≡ true
  need_stands e =
      swap (ltb v.station n) (within f (literals_of v.needs)) (within f (literals_of r)) (within m (literals_of v.companions)) rest few h
      (λ y. added_within (literals_of v.needs) x f p r y e)
    where
      swap : (a b b' c d e : Bool) → (((a && (b && c)) && d) && e) ≡ true → (b ≡ true → b' ≡ true) → (((a && (b' && c)) && d) && e) ≡ true
      swap a b b' c d e h g = grind (arith, g)

  pub companion_stands : Ok (literals_of r) ≡ added (literals_of v.companions) x m p
      → move_stands n f m (move_of (record { station = v.station; needs = v.needs; companions = r; effects = v.effects })) ≡ true
  companion_stands e =
      swap (ltb v.station n) (within f (literals_of v.needs)) (within m (literals_of v.companions)) (within m (literals_of r)) rest few h
      (λ y. added_within (literals_of v.companions) x m p r y e)
    where
      swap : (a b c c' d e : Bool) → (((a && (b && c)) && d) && e) ≡ true → (c ≡ true → c' ≡ true) → (((a && (b && c')) && d) && e) ≡ true
      swap a b c c' d e h g = grind (arith, g)

-- an effect that has just begun
pub no_effect_fits : (f m : ℕ) (e : Effect) → effect_of e ≡ no_effect → effect_fits f m (effect_of e) ≡ true
no_effect_fits f m e h = subst (λ (x : model.Effect). effect_fits f m x ≡ true) (sym h) (rw (within_none f, within_none m) refl)

-- an effect that gains a literal
module _ (f m : ℕ) (e : Effect) (h : effect_fits f m (effect_of e) ≡ true) (x : Literal) (p : ℕ) (r : code.Literals) where
  abbrev asked : Bool
  asked = within f (literals_of e.conditions)

  abbrev beside : Bool
  beside = within m (literals_of e.alongside)

  abbrev done : Bool
  done = within f (literals_of e.results)

  pub condition_fits : Ok (literals_of r) ≡ added (literals_of e.conditions) x f p → (within f (literals_of r) && (beside && done)) ≡ true
  condition_fits t =
      let q = and_parts asked (beside && done) h in
      and_from _ _ (added_within (literals_of e.conditions) x f p r q.0 t) q.1

  pub alongside_fits : Ok (literals_of r) ≡ added (literals_of e.alongside) x m p → (asked && (within m (literals_of r) && done)) ≡ true
  alongside_fits t =
      let q = and_parts asked (beside && done) h in
      let u = and_parts beside done q.1 in
      and_from _ _ q.0 (and_from _ _ (added_within (literals_of e.alongside) x m p r u.0 t) u.1)

  pub result_fits : Ok (literals_of r) ≡ added (literals_of e.results) x f p → (asked && (beside && within f (literals_of r))) ≡ true
  result_fits t =
      let q = and_parts asked (beside && done) h in
      let u = and_parts beside done q.1 in
      and_from _ _ q.0 (and_from _ _ u.0 (added_within (literals_of e.results) x f p r u.1 t))

-- a move that gains the effect that was not complete yet
module _ (n f m : ℕ) (v : Move) (e : Effect) (h : (move_stands n f m (move_of v) && effect_fits f m (effect_of e)) ≡ true) where
  abbrev placed : Bool
  placed = ltb v.station n && (within f (literals_of v.needs) && within m (literals_of v.companions))

  abbrev so_far : List model.Effect
  so_far = (move_of v).effects

  now_fits : (move_stands n f m (move_of v) ≡ true) × (effect_fits f m (effect_of e) ≡ true)
  now_fits = and_parts (move_stands n f m (move_of v)) (effect_fits f m (effect_of e)) h

  pub move_now_stands : move_stands n f m (move_of v) ≡ true
  move_now_stands = now_fits.0

  pub effect_now_fits : effect_fits f m (effect_of e) ≡ true
  effect_now_fits = now_fits.1

  module _ (w : Move) (g : Extends v e w) where
    longer : (es : List Effect) → length (map effect_of (es ++ (e ∷ []))) ≡ suc (length (map effect_of es))
    longer [] = refl
    longer (x ∷ xs) = ap suc (longer xs)

    grown_length : length (move_of w).effects ≡ suc (length so_far)
    grown_length = ap (λ (es : List Effect). length (map effect_of es)) g.3 ∙ longer (vec_items v.effects)

    pub grown_fits : move_fits n f m (move_of w) ≡ true
    grown_fits =
        let same : move_of w ≡ record { station = v.station; needs = literals_of v.needs; companions = literals_of v.companions; effects = map effect_of (vec_items v.effects ++ (e ∷ [])) } =
        λ i. record { station = g.0 i; needs = literals_of (g.1 i); companions = literals_of (g.2 i); effects = map effect_of (g.3 i) } in
        let parts = and_parts (move_fits n f m (move_of v)) (ltb (length so_far) 8) now_fits.0 in
        let both = and_parts placed (leb (length so_far) 8 && effects_fit f m so_far) parts.0 in
        let mine = and_parts (leb (length so_far) 8) (effects_fit f m so_far) both.1 in
        let few = ltb-true (length so_far) 8 parts.1 in
        let more = longer (vec_items v.effects) in
        subst (λ (x : model.Move). move_fits n f m x ≡ true) (sym same)
        (and_from _ _ both.0 (and_from _ _ (le-leb _ 8 (omega (arith, more))) (effects_push f m (vec_items v.effects) e mine.1 now_fits.1)))

    -- and has room for another, where it is not the eighth
    pub grown_stands : (e' : Effect) → vec_len v.effects + 1 < 8 → effect_of e' ≡ no_effect → (move_stands n f m (move_of w) && effect_fits f m (effect_of e')) ≡ true
    grown_stands e' low new =
        let own : vec_len v.effects ≡ length so_far = v.effects.ok.0 ∙ sym (length-map (vec_items v.effects) effect_of) in
        let all = grown_length in
        and_from _ _ (and_from _ _ grown_fits (lt-ltb _ 8 (omega arith))) (no_effect_fits f m e' new)
