-- Commands that are read to the end are a well formed text. Assumes nothing.
use Rattle.std.proofs.Common.{◌≡◌, ℕ, suc, ◌+◌, ◌<◌, ◌≤◌, true, false, ◌||◌, eqb, ltb, List, [], ◌∷◌, ◌++◌, length, Ok, Err, Result, sym, refl, ap, ◌∙◌, subst, append_assoc, arith, length-append}
use Rattle.std.specs.List.{flat_map}
use Rattle.std.proofs.lemmas.Bool.{ltb-true}
use Rattle.refusals.specs.declared.Refusal.{Refusal}
use Rattle.refusals.specs.Answers.{seen, and_then}
use Rattle.model.specs.Sets.{Literals, plus, names}
use Rattle.model.specs.Task as model
use Rattle.model.specs.Task.{no_effect}
use Rattle.model.specs.Bounds.{Each}
use Rattle.moves.specs.Lists.{added}
use Rattle.moves.specs.declared.lists.Literal.{Literal}
use Rattle.task_command.specs.declared.command.Command.{Command}
use Rattle.task_command.specs.declared.command.Command.TheVariants.{Sizes, Start, Goal, Move, Need, With, Effect, If, IfMove, Then, End}
use Rattle.task_form.specs.Lists.{is}
use Rattle.task_form.specs.Denoted.{Counts}
use Rattle.task_form.specs.Reading.{Named, Stage, Read, lists, move, effect, ended, with_start, with_goal, with_move, with_effect, with_needs, with_companions, with_conditions, with_alongside, with_results, new_move, takes, begins, ends}
use Rattle.task_form.specs.Grammar.{EffectText, MoveText, spell_effect, spell_move, numbers, WellEffect, WellMove}
use Rattle.task_form.proofs.Fitting.{Holds, tested, on_added, on_numbered}
use Rattle.task_form.proofs.ReadThrough.{reads, never_read}
use Rattle.task_form.proofs.GrammarNew.{New, none_new, new_more, with_knows, plus_knows, new_well}

-- ---- what is left of a text, by the part of the file that it begins in

-- moves and END
pub record MovesLeft (z : Counts) (cs : List Command) : Type 0 where
  pub moves : List MoveText
  pub whole : cs ≡ flat_map spell_move moves ++ (End ∷ [])
  pub well : Each (WellMove z.stations z.fluents z.moves) moves

-- effects, after some of the same move, moves and END
record EffectsLeft (z : Counts) (before : ℕ) (cs : List Command) : Type 0 where
  effects : List EffectText
  rest : List Command
  whole : cs ≡ flat_map spell_effect effects ++ rest
  few : before + length effects ≤ 8
  well : Each (WellEffect z.fluents z.moves) effects
  moves : MovesLeft z rest

pub record HeadLeft (n : Named) (cs : List Command) : Type 0 where
  pub head : List Command
  pub rest : List Command
  pub whole : cs ≡ head ++ rest
  pub own : Each (λ c. (is 0x02 c || is 0x03 c) ≡ true) head
  pub start : New n.sizes.fluents n.start (numbers 0x02 head)
  pub goal : New n.sizes.fluents (names n.goal) (numbers 0x03 head)
  pub moves : MovesLeft n.sizes rest

record BodyLeft (z : Counts) (v : model.Move) (cs : List Command) : Type 0 where
  body : List Command
  rest : List Command
  whole : cs ≡ body ++ rest
  own : Each (λ c. (is 0x05 c || is 0x06 c) ≡ true) body
  needs : New z.fluents (names v.needs) (numbers 0x05 body)
  companions : New z.moves (names v.companions) (numbers 0x06 body)
  effects : EffectsLeft z 0 rest

record EffectLeft (z : Counts) (v : model.Move) (e : model.Effect) (cs : List Command) : Type 0 where
  body : List Command
  rest : List Command
  whole : cs ≡ body ++ rest
  own : Each (λ c. (is 0x08 c || (is 0x09 c || is 0x0a c)) ≡ true) body
  conditions : New z.fluents (names e.conditions) (numbers 0x08 body)
  alongside : New z.moves (names e.alongside) (numbers 0x09 body)
  results : New z.fluents (names e.results) (numbers 0x0a body)
  effects : EffectsLeft z (suc (length v.effects)) rest

abbrev Left : Named → Stage → List Command → Type 0
Left n lists cs = HeadLeft n cs
Left n (move v) cs = BodyLeft n.sizes v cs
Left n (effect v e) cs = EffectLeft n.sizes v e cs
Left n ended cs = cs ≡ []

-- the move that is not complete has no effect yet, or room for the one that is read
abbrev Room : Stage → Type 0
Room lists = Unit {0}
Room (move v) = v.effects ≡ []
Room (effect v e) = length v.effects < 8
Room ended = Unit {0}

-- what the command c leaves is, with c before it, what was left
abbrev Leaves : Named → Stage → Command → Named × Stage → Type 0
Leaves n st c x = Room x.1 × ((cs : List Command) → Left x.0 x.1 cs → Left n st (c ∷ cs))

-- ---- where moves and effects begin

no_more_moves : (z : Counts) (cs : List Command) → cs ≡ [] → MovesLeft z (End ∷ cs)
no_more_moves z cs e = record { moves = []; whole = ap (λ ds. End ∷ ds) e; well = tt }

one_more_move : (z : Counts) (s : ℕ) (cs : List Command) → s < z.stations → BodyLeft z (new_move s) cs → MovesLeft z (Move s ∷ cs)
one_more_move z s cs h b = record {
  moves = v ∷ b.effects.moves.moves;
  whole =
      ap (λ ds. Move s ∷ ds) (b.whole ∙ ap (λ ds. b.body ++ ds) (b.effects.whole ∙ ap (λ ds. flat_map spell_effect b.effects.effects ++ ds) b.effects.moves.whole))
      ∙ ap (λ ds. Move s ∷ ds) (simp append_assoc);
  well = (
    record {
      station = h;
      own = b.own;
      needs = new_well _ 0x05 _ b.body b.needs;
      companions = new_well _ 0x06 _ b.body b.companions;
      few = let f = b.effects.few in omega arith;
      effects = b.effects.well;
    },
    b.effects.moves.well,
  );
}
  where
    v : MoveText
    v = record { station = s; body = b.body; effects = b.effects.effects }

no_more_effects : (z : Counts) (k : ℕ) (cs : List Command) → k ≤ 8 → MovesLeft z cs → EffectsLeft z k cs
no_more_effects z k cs h m = record { effects = []; rest = cs; whole = refl; few = omega arith; well = tt; moves = m }

one_more_effect : (z : Counts) (v : model.Move) (cs : List Command) → EffectLeft z v no_effect cs → EffectsLeft z (length v.effects) (Effect ∷ cs)
one_more_effect z v cs e = record {
  effects = e.body ∷ e.effects.effects;
  rest = e.effects.rest;
  whole = ap (λ ds. Effect ∷ ds) (e.whole ∙ ap (λ ds. e.body ++ ds) e.effects.whole ∙ sym (append_assoc e.body _ _));
  few = let f = e.effects.few in omega arith;
  well = (
    record {
      own = e.own;
      conditions = new_well _ 0x08 _ e.body e.conditions;
      alongside = new_well _ 0x09 _ e.body e.alongside;
      results = new_well _ 0x0a _ e.body e.results;
    },
    e.effects.well,
  );
  moves = e.effects.moves;
}

-- a part that ends at once
head_over : (n : Named) (cs : List Command) → MovesLeft n.sizes cs → HeadLeft n cs
head_over n cs m = record { head = []; rest = cs; whole = refl; own = tt; start = none_new _ _; goal = none_new _ _; moves = m }

body_over : (z : Counts) (v : model.Move) (cs : List Command) → EffectsLeft z 0 cs → BodyLeft z v cs
body_over z v cs e = record { body = []; rest = cs; whole = refl; own = tt; needs = none_new _ _; companions = none_new _ _; effects = e }

effect_over : (z : Counts) (v : model.Move) (e : model.Effect) (cs : List Command) → EffectsLeft z (suc (length v.effects)) cs → EffectLeft z v e cs
effect_over z v e cs s = record { body = []; rest = cs; whole = refl; own = tt; conditions = none_new _ _; alongside = none_new _ _; results = none_new _ _; effects = s }

-- ---- one command

begins_leaves : (n m : Named) (st : Stage) (s p : ℕ) → ((cs : List Command) → MovesLeft n.sizes cs → Left m st cs) → Holds (Leaves m st (Move s)) (begins n s p)
begins_leaves n m st s p f =
    tested (Leaves m st (Move s)) (ltb (length n.moves) n.sizes.moves) _ _
    (λ a. tested (Leaves m st (Move s)) (ltb s n.sizes.stations) _ _
    (λ b. (refl, λ cs l. f (Move s ∷ cs) (one_more_move n.sizes s cs (ltb-true s n.sizes.stations b) l)))
    (λ b. tt))
    (λ a. tt)

ends_leaves : (n m : Named) (st : Stage) (p : ℕ) → ((cs : List Command) → MovesLeft n.sizes cs → Left m st cs) → Holds (Leaves m st End) (ends n p)
ends_leaves n m st p f =
    tested (Leaves m st End) (eqb (length n.moves) n.sizes.moves) _ _ (λ a. (tt, λ cs l. f (End ∷ cs) (no_more_moves n.sizes cs l))) (λ a. tt)

lists_leave : (n : Named) (c : Command) (p : ℕ) → Holds (Leaves n lists c) (takes n lists c p)
lists_leave n (Sizes i j k) p = tt
lists_leave n (Start k) p =
    on_numbered (Leaves n lists (Start k)) (λ s. (with_start n s, lists)) n.start k n.sizes.fluents p
    (λ h e. (
      tt,
      λ cs l. record {
        head = Start k ∷ l.head;
        rest = l.rest;
        whole = ap (λ ds. Start k ∷ ds) l.whole;
        own = (refl, l.own);
        start = new_more _ n.start _ k (numbers 0x02 l.head) (with_knows n.start k) h e l.start;
        goal = l.goal;
        moves = l.moves;
      },
    ))
lists_leave n (Goal x) p =
    on_added (Leaves n lists (Goal x)) (λ l. (with_goal n l, lists)) n.goal x n.sizes.fluents p
    (λ h e. (
      tt,
      λ cs l. record {
        head = Goal x ∷ l.head;
        rest = l.rest;
        whole = ap (λ ds. Goal x ∷ ds) l.whole;
        own = (refl, l.own);
        start = l.start;
        goal = new_more _ (names n.goal) _ x.number (numbers 0x03 l.head) (plus_knows n.goal x.plain x.number) h e l.goal;
        moves = l.moves;
      },
    ))
lists_leave n (Move s) p = begins_leaves n n lists s p (head_over n)
lists_leave n (Need x) p = tt
lists_leave n (With x) p = tt
lists_leave n Effect p = tt
lists_leave n (If x) p = tt
lists_leave n (IfMove x) p = tt
lists_leave n (Then x) p = tt
lists_leave n End p = ends_leaves n n lists p (head_over n)

move_leaves : (n : Named) (v : model.Move) (c : Command) (p : ℕ) → v.effects ≡ [] → Holds (Leaves n (move v) c) (takes n (move v) c p)
move_leaves n v (Sizes i j k) p r = tt
move_leaves n v (Start k) p r = tt
move_leaves n v (Goal x) p r = tt
move_leaves n v (Move s) p r = begins_leaves (with_move n v) n (move v) s p (λ cs m. body_over n.sizes v cs (no_more_effects n.sizes 0 cs (omega arith) m))
move_leaves n v (Need x) p r =
    on_added (Leaves n (move v) (Need x)) (λ l. (n, move (with_needs v l))) v.needs x n.sizes.fluents p
    (λ h e. (
      r,
      λ cs l. record {
        body = Need x ∷ l.body;
        rest = l.rest;
        whole = ap (λ ds. Need x ∷ ds) l.whole;
        own = (refl, l.own);
        needs = new_more _ (names v.needs) _ x.number (numbers 0x05 l.body) (plus_knows v.needs x.plain x.number) h e l.needs;
        companions = l.companions;
        effects = l.effects;
      },
    ))
move_leaves n v (With x) p r =
    on_added (Leaves n (move v) (With x)) (λ l. (n, move (with_companions v l))) v.companions x n.sizes.moves p
    (λ h e. (
      r,
      λ cs l. record {
        body = With x ∷ l.body;
        rest = l.rest;
        whole = ap (λ ds. With x ∷ ds) l.whole;
        own = (refl, l.own);
        needs = l.needs;
        companions = new_more _ (names v.companions) _ x.number (numbers 0x06 l.body) (plus_knows v.companions x.plain x.number) h e l.companions;
        effects = l.effects;
      },
    ))
move_leaves n v Effect p r =
    let k = ap length r in
    (omega arith, λ cs l. body_over n.sizes v (Effect ∷ cs) (subst (λ i. EffectsLeft n.sizes i (Effect ∷ cs)) k (one_more_effect n.sizes v cs l)))
move_leaves n v (If x) p r = tt
move_leaves n v (IfMove x) p r = tt
move_leaves n v (Then x) p r = tt
move_leaves n v End p r = ends_leaves (with_move n v) n (move v) p (λ cs m. body_over n.sizes v cs (no_more_effects n.sizes 0 cs (omega arith) m))

module _ (n : Named) (v : model.Move) (e : model.Effect) (p : ℕ) (r : length v.effects < 8) where
  over : (cs : List Command) → MovesLeft n.sizes cs → Left n (effect v e) cs
  over cs m = effect_over n.sizes v e cs (no_more_effects n.sizes (suc (length v.effects)) cs (omega arith) m)

  -- IF, IFMOVE and THEN
  extends : (c : Command) (g : Literals → model.Effect) (l : Literals) (x : Literal) (m : ℕ)
      → (x.number < m → names l x.number ≡ false → (cs : List Command) → EffectLeft n.sizes v (g (plus l x.plain x.number)) cs → EffectLeft n.sizes v e (c ∷ cs))
      → Holds (Leaves n (effect v e) c) (seen (λ y. (n, effect v y)) (seen g (added l x m p)))
  extends c g l x m k = fused (added l x m p) (on_added (Leaves n (effect v e) c) (λ y. (n, effect v (g y))) l x m p (λ h q. (r, k h q)))
    where
      fused : (t : Result Literals Refusal) → Holds (Leaves n (effect v e) c) (seen (λ y. (n, effect v (g y))) t) → Holds (Leaves n (effect v e) c) (seen (λ y. (n, effect v y)) (seen g t))
      fused (Ok x) q = q
      fused (Err x) q = q

  effect_leaves : (c : Command) → Holds (Leaves n (effect v e) c) (takes n (effect v e) c p)
  effect_leaves (Sizes i j k) = tt
  effect_leaves (Start k) = tt
  effect_leaves (Goal x) = tt
  effect_leaves (Move s) = begins_leaves (with_move n (with_effect v e)) n (effect v e) s p over
  effect_leaves (Need x) = tt
  effect_leaves (With x) = tt
  effect_leaves Effect =
      tested (Leaves n (effect v e) Effect) (ltb (suc (length v.effects)) 8) _ _
      (λ a.
      let h = ltb-true (suc (length v.effects)) 8 a in
      let k : length (with_effect v e).effects ≡ suc (length v.effects) = (let l = length-append v.effects (e ∷ []) in omega arith) in
      (omega arith, λ cs l. effect_over n.sizes v e (Effect ∷ cs) (subst (λ i. EffectsLeft n.sizes i (Effect ∷ cs)) k (one_more_effect n.sizes (with_effect v e) cs l))))
      (λ a. tt)
  effect_leaves (If x) =
      extends (If x) (with_conditions e) e.conditions x n.sizes.fluents
      (λ h q cs l. record {
        body = If x ∷ l.body;
        rest = l.rest;
        whole = ap (λ ds. If x ∷ ds) l.whole;
        own = (refl, l.own);
        conditions = new_more _ (names e.conditions) _ x.number (numbers 0x08 l.body) (plus_knows e.conditions x.plain x.number) h q l.conditions;
        alongside = l.alongside;
        results = l.results;
        effects = l.effects;
      })
  effect_leaves (IfMove x) =
      extends (IfMove x) (with_alongside e) e.alongside x n.sizes.moves
      (λ h q cs l. record {
        body = IfMove x ∷ l.body;
        rest = l.rest;
        whole = ap (λ ds. IfMove x ∷ ds) l.whole;
        own = (refl, l.own);
        conditions = l.conditions;
        alongside = new_more _ (names e.alongside) _ x.number (numbers 0x09 l.body) (plus_knows e.alongside x.plain x.number) h q l.alongside;
        results = l.results;
        effects = l.effects;
      })
  effect_leaves (Then x) =
      extends (Then x) (with_results e) e.results x n.sizes.fluents
      (λ h q cs l. record {
        body = Then x ∷ l.body;
        rest = l.rest;
        whole = ap (λ ds. Then x ∷ ds) l.whole;
        own = (refl, l.own);
        conditions = l.conditions;
        alongside = l.alongside;
        results = new_more _ (names e.results) _ x.number (numbers 0x0a l.body) (plus_knows e.results x.plain x.number) h q l.results;
        effects = l.effects;
      })
  effect_leaves End = ends_leaves (with_move n (with_effect v e)) n (effect v e) p over

takes_leaves : (n : Named) (st : Stage) (c : Command) (p : ℕ) → Room st → Holds (Leaves n st c) (takes n st c p)
takes_leaves n lists c p r = lists_leave n c p
takes_leaves n (move v) c p r = move_leaves n v c p r
takes_leaves n (effect v e) c p r = effect_leaves n v e p r c
takes_leaves n ended c p r = tt

-- ---- to the end

reads_left : (n m : Named) (st : Stage) (cs : List Command) → Room st → reads n st cs ≡ Ok (m, ended) → Left n st cs
reads_left n m st [] r e =
    let q : (n, st) ≡ (m, ended) = cc in
    subst (λ (x : Named × Stage). Left x.0 x.1 []) (sym q) refl
reads_left n m st (c ∷ cs) r e = from (takes n st c 0) (takes_leaves n st c 0 r) e (λ k tr. reads_left k m tr cs)
  where
    from : (t : Read) → Holds (Leaves n st c) t → and_then t (λ y. reads y.0 y.1 cs) ≡ Ok (m, ended)
        → ((k : Named) (tr : Stage) → Room tr → reads k tr cs ≡ Ok (m, ended) → Left k tr cs) → Left n st (c ∷ cs)
    from (Ok y) h q more = h.1 cs (more y.0 y.1 h.0 q)
    from (Err f) h q more = absurd (never_read f (m, ended) q)

-- what is read from the lists on to the end
pub reads_head : (n m : Named) (cs : List Command) → reads n lists cs ≡ Ok (m, ended) → HeadLeft n cs
reads_head n m cs e = reads_left n m lists cs tt e
