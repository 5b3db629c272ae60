-- The commands that a well formed text spells denote what the text means. Assumes nothing.
use Rattle.std.proofs.Common.{◌≡◌, ℕ, true, false, cond, ◌||◌, eqb, ◌⊎◌, List, [], ◌∷◌, ◌++◌, map, sym, refl, ap, ◌∙◌, ap₂, inl, inr, append_assoc, append-nil}
use Rattle.std.specs.List.{flat_map}
use Rattle.std.proofs.lemmas.Bool.{or_cases, eqb-true}
use Rattle.model.specs.Sets.{no_literals, both}
use Rattle.model.specs.Bounds.{Each}
use Rattle.moves.proofs.Lits.{both_assoc, both_none}
use Rattle.task_command.specs.declared.command.Command.{Command}
use Rattle.task_command.specs.declared.command.Command.TheVariants.{Move, Effect, End}
use Rattle.task_form.specs.Lists.{code, is, says, listed, until, stretches}
use Rattle.task_form.specs.Denoted.{denoted}
use Rattle.task_form.specs.Denoted as den
use Rattle.task_form.specs.Grammar.{EffectText, MoveText, Text, spell_effect, spell_move, spell, effect_meaning, move_meaning, meaning, WellEffect, WellMove}
use Rattle.task_form.proofs.Taking.{moves_at_end}

-- ---- commands that have not the byte b

abbrev Lacks : ℕ → List Command → Type 0
Lacks b cs = Each (λ c. is b c ≡ false) cs

lacks_two : (a b d : ℕ) (cs : List Command) → eqb a d ≡ false → eqb b d ≡ false → Each (λ c. (is a c || is b c) ≡ true) cs → Lacks d cs
lacks_two a b d [] p q h = tt
lacks_two a b d (c ∷ cs) p q h = (one (or_cases (is a c) (is b c) h.0), lacks_two a b d cs p q h.1)
  where
    one : (is a c ≡ true) ⊎ (is b c ≡ true) → is d c ≡ false
    one (inl e) = ap (λ k. eqb k d) (eqb-true (code c) a e) ∙ p
    one (inr e) = ap (λ k. eqb k d) (eqb-true (code c) b e) ∙ q

lacks_three : (a b e d : ℕ) (cs : List Command) → eqb a d ≡ false → eqb b d ≡ false → eqb e d ≡ false → Each (λ c. (is a c || (is b c || is e c)) ≡ true) cs → Lacks d cs
lacks_three a b e d [] p q r h = tt
lacks_three a b e d (c ∷ cs) p q r h = (one (or_cases (is a c) (is b c || is e c) h.0), lacks_three a b e d cs p q r h.1)
  where
    two : (is b c ≡ true) ⊎ (is e c ≡ true) → is d c ≡ false
    two (inl s) = ap (λ k. eqb k d) (eqb-true (code c) b s) ∙ q
    two (inr s) = ap (λ k. eqb k d) (eqb-true (code c) e s) ∙ r

    one : (is a c ≡ true) ⊎ ((is b c || is e c) ≡ true) → is d c ≡ false
    one (inl s) = ap (λ k. eqb k d) (eqb-true (code c) a s) ∙ p
    one (inr s) = two (or_cases (is b c) (is e c) s)

lacks_append : (d : ℕ) (xs ys : List Command) → Lacks d xs → Lacks d ys → Lacks d (xs ++ ys)
lacks_append d [] ys h g = g
lacks_append d (x ∷ xs) ys h g = (h.0, lacks_append d xs ys h.1 g)

lacks_joined : {A : Type 0} (d : ℕ) (f : A → List Command) (xs : List A) → Each (λ a. Lacks d (f a)) xs → Lacks d (flat_map f xs)
lacks_joined d f [] h = tt
lacks_joined d f (a ∷ xs) h = lacks_append d (f a) (flat_map f xs) h.0 (lacks_joined d f xs h.1)

each_from : {A : Type 0} (P Q : A → Type 0) (xs : List A) → ((x : A) → P x → Q x) → Each P xs → Each Q xs
each_from P Q [] f h = tt
each_from P Q (x ∷ xs) f h = (f x h.0, each_from P Q xs f h.1)

-- ---- lists and stretches

listed_append : (b : ℕ) (xs ys : List Command) → listed b (xs ++ ys) ≡ both (listed b xs) (listed b ys)
listed_append b [] ys = refl
listed_append b (x ∷ xs) ys = ap (both (cond (is b x) (says x) no_literals)) (listed_append b xs ys) ∙ sym (both_assoc _ (listed b xs) _)

listed_lacking : (b : ℕ) (cs : List Command) → Lacks b cs → listed b cs ≡ no_literals
listed_lacking b [] h = refl
listed_lacking b (c ∷ cs) h = ap₂ (λ t l. both (cond t (says c) no_literals) l) h.0 (listed_lacking b cs h.1)

-- what stands after a list and belongs to others
listed_before : (b : ℕ) (xs ys : List Command) → Lacks b ys → listed b (xs ++ ys) ≡ listed b xs
listed_before b xs ys h = listed_append b xs ys ∙ ap (both (listed b xs)) (listed_lacking b ys h) ∙ both_none (listed b xs)

stretches_lacking : (b : ℕ) (xs ys : List Command) → Lacks b xs → stretches b (xs ++ ys) ≡ stretches b ys
stretches_lacking b [] ys h = refl
stretches_lacking b (x ∷ xs) ys h = ap (λ t. cond t ((x, until b (xs ++ ys)) ∷ stretches b (xs ++ ys)) (stretches b (xs ++ ys))) h.0 ∙ stretches_lacking b xs ys h.1

until_lacking : (b : ℕ) (xs ys : List Command) → Lacks b xs → until b (xs ++ ys) ≡ xs ++ until b ys
until_lacking b [] ys h = refl
until_lacking b (x ∷ xs) ys h = ap (λ t. cond t [] (x ∷ until b (xs ++ ys))) h.0 ∙ ap (λ zs. x ∷ zs) (until_lacking b xs ys h.1)

-- texts of which each begins with the byte b, and has it nowhere else
module _ {A : Type 0} (b : ℕ) (f : A → Command) (g : A → List Command) (begins : (a : A) → is b (f a) ≡ true) where
  abbrev each_text : A → List Command
  each_text a = f a ∷ g a

  until_joined : (xs : List A) → until b (flat_map each_text xs) ≡ []
  until_joined [] = refl
  until_joined (a ∷ xs) = ap (λ t. cond t [] (f a ∷ until b (g a ++ flat_map each_text xs))) (begins a)

  stretches_joined : (xs : List A) → Each (λ a. Lacks b (g a)) xs → stretches b (flat_map each_text xs) ≡ map (λ a. (f a, g a)) xs
  stretches_joined [] h = refl
  stretches_joined (a ∷ xs) h =
      ap (λ t. cond t ((f a, until b (g a ++ J)) ∷ stretches b (g a ++ J)) (stretches b (g a ++ J))) (begins a)
      ∙ ap₂ (λ us ss. (f a, us) ∷ ss)
      (until_lacking b (g a) J h.0 ∙ ap (λ us. g a ++ us) (until_joined xs) ∙ append-nil (g a))
      (stretches_lacking b (g a) J h.0 ∙ stretches_joined xs h.1)
    where
      J : List Command
      J = flat_map each_text xs

-- ---- the parts of a text

module _ (n f m : ℕ) where
  effects_lack : (d : ℕ) (es : List EffectText) → eqb 0x07 d ≡ false → eqb 0x08 d ≡ false → eqb 0x09 d ≡ false → eqb 0x0a d ≡ false → Each (WellEffect f m) es → Lacks d (flat_map spell_effect es)
  effects_lack d es p q r s h =
      lacks_joined d spell_effect es (each_from (WellEffect f m) (λ e. Lacks d (spell_effect e)) es (λ e w. (p, lacks_three 0x08 0x09 0x0a d e q r s w.own)) h)

  effects_meant : (es : List EffectText) → Each (WellEffect f m) es → map den.effect (stretches 0x07 (flat_map spell_effect es)) ≡ map effect_meaning es
  effects_meant es h =
      ap (map den.effect) (stretches_joined 0x07 (λ e. Effect) (λ e. e) (λ e. refl) es (each_from (WellEffect f m) (Lacks 0x07) es (λ e w. lacks_three 0x08 0x09 0x0a 0x07 e refl refl refl w.own) h))
      ∙ mapped es
    where
      mapped : (xs : List EffectText) → map den.effect (map (λ e. (Effect, e)) xs) ≡ map effect_meaning xs
      mapped [] = refl
      mapped (x ∷ xs) = ap (λ ys. effect_meaning x ∷ ys) (mapped xs)

  -- what stands after MOVE
  abbrev after_move : MoveText → List Command
  after_move v = v.body ++ flat_map spell_effect v.effects

  after_move_lacks : (d : ℕ) (v : MoveText) → eqb 0x05 d ≡ false → eqb 0x06 d ≡ false → eqb 0x07 d ≡ false → eqb 0x08 d ≡ false → eqb 0x09 d ≡ false → eqb 0x0a d ≡ false
      → WellMove n f m v → Lacks d (after_move v)
  after_move_lacks d v p q r s t u w =
      lacks_append d v.body (flat_map spell_effect v.effects) (lacks_two 0x05 0x06 d v.body p q w.own) (effects_lack d v.effects r s t u w.effects)

  move_meant : (v : MoveText) → WellMove n f m v → den.move (Move v.station, after_move v) ≡ move_meaning v
  move_meant v w = λ i. record {
    station = v.station;
    needs = listed_before 0x05 v.body (flat_map spell_effect v.effects) (effects_lack 0x05 v.effects refl refl refl refl w.effects) i;
    companions = listed_before 0x06 v.body (flat_map spell_effect v.effects) (effects_lack 0x06 v.effects refl refl refl refl w.effects) i;
    effects = its i;
  }
    where
      its : map den.effect (stretches 0x07 (after_move v)) ≡ map effect_meaning v.effects
      its =
          ap (map den.effect) (stretches_lacking 0x07 v.body (flat_map spell_effect v.effects) (lacks_two 0x05 0x06 0x07 v.body refl refl w.own))
          ∙ effects_meant v.effects w.effects

  moves_meant : (vs : List MoveText) → Each (WellMove n f m) vs → map den.move (stretches 0x04 (flat_map spell_move vs)) ≡ map move_meaning vs
  moves_meant vs h =
      ap (map den.move) (stretches_joined 0x04 (λ v. Move v.station) after_move (λ v. refl) vs
      (each_from (WellMove n f m) (λ v. Lacks 0x04 (after_move v)) vs (λ v w. after_move_lacks 0x04 v refl refl refl refl refl refl w) h))
      ∙ mapped vs h
    where
      mapped : (xs : List MoveText) → Each (WellMove n f m) xs → map den.move (map (λ v. (Move v.station, after_move v)) xs) ≡ map move_meaning xs
      mapped [] h = refl
      mapped (x ∷ xs) h = ap₂ (λ y ys. y ∷ ys) (move_meant x h.0) (mapped xs h.1)

  moves_lack : (d : ℕ) (vs : List MoveText) → eqb 0x04 d ≡ false → eqb 0x05 d ≡ false → eqb 0x06 d ≡ false → eqb 0x07 d ≡ false → eqb 0x08 d ≡ false → eqb 0x09 d ≡ false → eqb 0x0a d ≡ false
      → Each (WellMove n f m) vs → Lacks d (flat_map spell_move vs)
  moves_lack d vs o p q r s t u h =
      lacks_joined d spell_move vs (each_from (WellMove n f m) (λ v. Lacks d (spell_move v)) vs (λ v w. (o, after_move_lacks d v p q r s t u w)) h)

-- the whole text
pub spell_means : (x : Text) → Each (λ c. (is 0x02 c || is 0x03 c) ≡ true) x.head → Each (WellMove x.sizes.stations x.sizes.fluents x.sizes.moves) x.moves → denoted (spell x) ≡ meaning x
spell_means x own well = λ i. record {
  stations = x.sizes.stations;
  fluents = x.sizes.fluents;
  start = listed_before 0x02 x.head rest (rest_lacks 0x02 refl refl refl refl refl refl refl refl) i true;
  goal = listed_before 0x03 x.head rest (rest_lacks 0x03 refl refl refl refl refl refl refl refl) i;
  moves = its i;
}
  where
    J : List Command
    J = flat_map spell_move x.moves

    rest : List Command
    rest = J ++ (End ∷ [])

    rest_lacks : (d : ℕ) → eqb 0x04 d ≡ false → eqb 0x05 d ≡ false → eqb 0x06 d ≡ false → eqb 0x07 d ≡ false → eqb 0x08 d ≡ false → eqb 0x09 d ≡ false → eqb 0x0a d ≡ false → eqb 0x0f d ≡ false → Lacks d rest
    rest_lacks d o p q r s t u e = lacks_append d J (End ∷ []) (moves_lack _ _ _ d x.moves o p q r s t u well) (e, tt)

    its : map den.move (stretches 0x04 (spell x)) ≡ map move_meaning x.moves
    its =
        ap (λ cs. map den.move (stretches 0x04 cs)) (sym (append_assoc x.head J (End ∷ [])))
        ∙ moves_at_end (x.head ++ J)
        ∙ ap (map den.move) (stretches_lacking 0x04 x.head J (lacks_two 0x02 0x03 0x04 x.head refl refl own))
        ∙ moves_meant _ _ _ x.moves well
