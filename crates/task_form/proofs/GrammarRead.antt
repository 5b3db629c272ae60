-- The commands of a well formed text are read to the end. Assumes nothing.
use Rattle.std.proofs.Common.{◌≡◌, ℕ, suc, ◌+◌, ◌<◌, ◌≤◌, true, false, cond, ◌||◌, ltb, leb, List, [], ◌∷◌, ◌++◌, length, Ok, refl, ap, ◌∙◌, append_assoc, arith, length-append}
use Rattle.std.specs.List.{flat_map}
use Rattle.std.proofs.lemmas.Bool.{lt-ltb, le-leb, eq-eqb, and_from, both_ways}
use Rattle.refusals.specs.declared.Question.TheVariants as Q
use Rattle.refusals.specs.Answers.{refused, seen, and_then}
use Rattle.model.specs.Sets.{Set, Literals, with, plus, names}
use Rattle.model.specs.Task as model
use Rattle.model.specs.Task.{no_effect}
use Rattle.model.specs.Bounds.{Each, FromOne}
use Rattle.moves.specs.Lists.{added, numbered}
use Rattle.moves.specs.declared.lists.Literal.{Literal}
use Rattle.task_command.specs.declared.command.Command.{Command}
use Rattle.task_command.specs.declared.command.Command.TheVariants.{Sizes, Start, Goal, Move, Need, With, Effect, If, IfMove, Then, End}
use Rattle.task_form.specs.Lists.{is}
use Rattle.task_form.specs.Questions.{up_to}
use Rattle.task_form.specs.Reading.{Named, Stage, lists, move, effect, ended, with_start, with_goal, with_effect, with_needs, with_companions, with_conditions, with_alongside, with_results, new_move, takes, begins, ends, first_named}
use Rattle.task_form.specs.Grammar.{EffectText, MoveText, Text, spell_effect, spell_move, numbers, WellEffect, WellMove, Well}
use Rattle.task_form.proofs.Walks.{newly}
use Rattle.task_form.proofs.ReadThrough.{reads}
use Rattle.task_form.proofs.GrammarNew.{New, new_rest, with_grows, plus_grows, well_new}

-- ---- one number more

numbered_new : (s : Set) (k n p : ℕ) → k < n → s k ≡ false → numbered s k n p ≡ Ok (with s k)
numbered_new s k n p h e = ap (λ t. cond t (cond (s k) (refused Q.New p) (Ok (with s k))) (refused Q.Range p)) (lt-ltb k n h) ∙ ap (λ t. cond t (refused Q.New p) (Ok (with s k))) e

added_new : (l : Literals) (x : Literal) (n p : ℕ) → x.number < n → names l x.number ≡ false → added l x n p ≡ Ok (plus l x.plain x.number)
added_new l x n p h e =
    ap (λ t. cond t (cond (names l x.number) (refused Q.New p) (Ok (plus l x.plain x.number))) (refused Q.Range p)) (lt-ltb x.number n h)
    ∙ ap (λ t. cond t (refused Q.New p) (Ok (plus l x.plain x.number))) e

-- the next command is taken, and the others read on
on : (n m : Named) (st tr : Stage) (c : Command) (cs : List Command) → takes n st c 0 ≡ Ok (m, tr) → reads n st (c ∷ cs) ≡ reads m tr cs
on n m st tr c cs e = ap (λ r. and_then r (λ y. reads y.0 y.1 cs)) e

-- ---- the head

abbrev in_head : Named → Set → Literals → Named
in_head n s g = record { sizes = n.sizes; start = s; goal = g; moves = n.moves }

head_read : (head rest : List Command) (n : Named) → Each (λ c. (is 0x02 c || is 0x03 c) ≡ true) head
    → New n.sizes.fluents n.start (numbers 0x02 head) → New n.sizes.fluents (names n.goal) (numbers 0x03 head)
    → (s : Set) × (g : Literals) × (reads n lists (head ++ rest) ≡ reads (in_head n s g) lists rest)
head_read [] rest n own a b = (n.start, n.goal, refl)
head_read (Start k ∷ cs) rest n own a b =
    let m : Named = with_start n (with n.start k) in
    let t : takes n lists (Start k) 0 ≡ Ok (m, lists) = ap (seen (λ s. (with_start n s, lists))) (numbered_new n.start k n.sizes.fluents 0 a.below.0 a.fresh.0) in
    let r = head_read cs rest m own.1 (new_rest _ n.start (with n.start k) k (numbers 0x02 cs) (with_grows n.start k) a) b in
    (r.0, r.1, on n m lists lists (Start k) (cs ++ rest) t ∙ r.2)
head_read (Goal x ∷ cs) rest n own a b =
    let m : Named = with_goal n (plus n.goal x.plain x.number) in
    let t : takes n lists (Goal x) 0 ≡ Ok (m, lists) = ap (seen (λ l. (with_goal n l, lists))) (added_new n.goal x n.sizes.fluents 0 b.below.0 b.fresh.0) in
    let r = head_read cs rest m own.1 a (new_rest _ (names n.goal) (names (plus n.goal x.plain x.number)) x.number (numbers 0x03 cs) (plus_grows n.goal x.plain x.number) b) in
    (r.0, r.1, on n m lists lists (Goal x) (cs ++ rest) t ∙ r.2)
head_read (Sizes i j k ∷ cs) rest n own a b = absurd (both_ways _ refl own.0)
head_read (Move s ∷ cs) rest n own a b = absurd (both_ways _ refl own.0)
head_read (Need x ∷ cs) rest n own a b = absurd (both_ways _ refl own.0)
head_read (With x ∷ cs) rest n own a b = absurd (both_ways _ refl own.0)
head_read (Effect ∷ cs) rest n own a b = absurd (both_ways _ refl own.0)
head_read (If x ∷ cs) rest n own a b = absurd (both_ways _ refl own.0)
head_read (IfMove x ∷ cs) rest n own a b = absurd (both_ways _ refl own.0)
head_read (Then x ∷ cs) rest n own a b = absurd (both_ways _ refl own.0)
head_read (End ∷ cs) rest n own a b = absurd (both_ways _ refl own.0)

-- ---- the body of a move

abbrev in_body : model.Move → Literals → Literals → model.Move
in_body v l k = record { station = v.station; needs = l; companions = k; effects = v.effects }

body_read : (body rest : List Command) (n : Named) (v : model.Move) → Each (λ c. (is 0x05 c || is 0x06 c) ≡ true) body
    → New n.sizes.fluents (names v.needs) (numbers 0x05 body) → New n.sizes.moves (names v.companions) (numbers 0x06 body)
    → (l : Literals) × (k : Literals) × (reads n (move v) (body ++ rest) ≡ reads n (move (in_body v l k)) rest)
body_read [] rest n v own a b = (v.needs, v.companions, refl)
body_read (Need x ∷ cs) rest n v own a b =
    let w : model.Move = with_needs v (plus v.needs x.plain x.number) in
    let t : takes n (move v) (Need x) 0 ≡ Ok (n, move w) = ap (seen (λ l. (n, move (with_needs v l)))) (added_new v.needs x n.sizes.fluents 0 a.below.0 a.fresh.0) in
    let r = body_read cs rest n w own.1 (new_rest _ (names v.needs) (names (plus v.needs x.plain x.number)) x.number (numbers 0x05 cs) (plus_grows v.needs x.plain x.number) a) b in
    (r.0, r.1, on n n (move v) (move w) (Need x) (cs ++ rest) t ∙ r.2)
body_read (With x ∷ cs) rest n v own a b =
    let w : model.Move = with_companions v (plus v.companions x.plain x.number) in
    let t : takes n (move v) (With x) 0 ≡ Ok (n, move w) = ap (seen (λ l. (n, move (with_companions v l)))) (added_new v.companions x n.sizes.moves 0 b.below.0 b.fresh.0) in
    let r = body_read cs rest n w own.1 a (new_rest _ (names v.companions) (names (plus v.companions x.plain x.number)) x.number (numbers 0x06 cs) (plus_grows v.companions x.plain x.number) b) in
    (r.0, r.1, on n n (move v) (move w) (With x) (cs ++ rest) t ∙ r.2)
body_read (Sizes i j k ∷ cs) rest n v own a b = absurd (both_ways _ refl own.0)
body_read (Start k ∷ cs) rest n v own a b = absurd (both_ways _ refl own.0)
body_read (Goal x ∷ cs) rest n v own a b = absurd (both_ways _ refl own.0)
body_read (Move s ∷ cs) rest n v own a b = absurd (both_ways _ refl own.0)
body_read (Effect ∷ cs) rest n v own a b = absurd (both_ways _ refl own.0)
body_read (If x ∷ cs) rest n v own a b = absurd (both_ways _ refl own.0)
body_read (IfMove x ∷ cs) rest n v own a b = absurd (both_ways _ refl own.0)
body_read (Then x ∷ cs) rest n v own a b = absurd (both_ways _ refl own.0)
body_read (End ∷ cs) rest n v own a b = absurd (both_ways _ refl own.0)

-- ---- an effect

effect_read : (cs rest : List Command) (n : Named) (v : model.Move) (e : model.Effect) → Each (λ c. (is 0x08 c || (is 0x09 c || is 0x0a c)) ≡ true) cs
    → New n.sizes.fluents (names e.conditions) (numbers 0x08 cs) → New n.sizes.moves (names e.alongside) (numbers 0x09 cs) → New n.sizes.fluents (names e.results) (numbers 0x0a cs)
    → (d : model.Effect) × (reads n (effect v e) (cs ++ rest) ≡ reads n (effect v d) rest)
effect_read [] rest n v e own a b c = (e, refl)
effect_read (If x ∷ cs) rest n v e own a b c =
    let d : model.Effect = with_conditions e (plus e.conditions x.plain x.number) in
    let t : takes n (effect v e) (If x) 0 ≡ Ok (n, effect v d) = ap (λ r. seen (λ y. (n, effect v y)) (seen (with_conditions e) r)) (added_new e.conditions x n.sizes.fluents 0 a.below.0 a.fresh.0) in
    let r = effect_read cs rest n v d own.1 (new_rest _ (names e.conditions) (names (plus e.conditions x.plain x.number)) x.number (numbers 0x08 cs) (plus_grows e.conditions x.plain x.number) a) b c in
    (r.0, on n n (effect v e) (effect v d) (If x) (cs ++ rest) t ∙ r.1)
effect_read (IfMove x ∷ cs) rest n v e own a b c =
    let d : model.Effect = with_alongside e (plus e.alongside x.plain x.number) in
    let t : takes n (effect v e) (IfMove x) 0 ≡ Ok (n, effect v d) = ap (λ r. seen (λ y. (n, effect v y)) (seen (with_alongside e) r)) (added_new e.alongside x n.sizes.moves 0 b.below.0 b.fresh.0) in
    let r = effect_read cs rest n v d own.1 a (new_rest _ (names e.alongside) (names (plus e.alongside x.plain x.number)) x.number (numbers 0x09 cs) (plus_grows e.alongside x.plain x.number) b) c in
    (r.0, on n n (effect v e) (effect v d) (IfMove x) (cs ++ rest) t ∙ r.1)
effect_read (Then x ∷ cs) rest n v e own a b c =
    let d : model.Effect = with_results e (plus e.results x.plain x.number) in
    let t : takes n (effect v e) (Then x) 0 ≡ Ok (n, effect v d) = ap (λ r. seen (λ y. (n, effect v y)) (seen (with_results e) r)) (added_new e.results x n.sizes.fluents 0 c.below.0 c.fresh.0) in
    let r = effect_read cs rest n v d own.1 a b (new_rest _ (names e.results) (names (plus e.results x.plain x.number)) x.number (numbers 0x0a cs) (plus_grows e.results x.plain x.number) c) in
    (r.0, on n n (effect v e) (effect v d) (Then x) (cs ++ rest) t ∙ r.1)
effect_read (Sizes i j k ∷ cs) rest n v e own a b c = absurd (both_ways _ refl own.0)
effect_read (Start k ∷ cs) rest n v e own a b c = absurd (both_ways _ refl own.0)
effect_read (Goal x ∷ cs) rest n v e own a b c = absurd (both_ways _ refl own.0)
effect_read (Move s ∷ cs) rest n v e own a b c = absurd (both_ways _ refl own.0)
effect_read (Need x ∷ cs) rest n v e own a b c = absurd (both_ways _ refl own.0)
effect_read (With x ∷ cs) rest n v e own a b c = absurd (both_ways _ refl own.0)
effect_read (Effect ∷ cs) rest n v e own a b c = absurd (both_ways _ refl own.0)
effect_read (End ∷ cs) rest n v e own a b c = absurd (both_ways _ refl own.0)

-- ---- the moves

-- what is named once the move that is being read is complete
abbrev closed : Named → Stage → List model.Move
closed n lists = n.moves
closed n (move v) = n.moves ++ (v ∷ [])
closed n (effect v e) = n.moves ++ (with_effect v e ∷ [])
closed n ended = n.moves

abbrev closing : Named → Stage → Named
closing n st = record { sizes = n.sizes; start = n.start; goal = n.goal; moves = closed n st }

-- commands may follow
abbrev Open : Stage → Type 0
Open lists = Unit {0}
Open (move v) = Unit {0}
Open (effect v e) = Unit {0}
Open ended = ⊥

closing_begins : (n : Named) (st : Stage) (s p : ℕ) → Open st → takes n st (Move s) p ≡ begins (closing n st) s p
closing_begins n lists s p o = refl
closing_begins n (move v) s p o = refl
closing_begins n (effect v e) s p o = refl
closing_begins n ended s p o = absurd o

closing_ends : (n : Named) (st : Stage) (p : ℕ) → Open st → takes n st End p ≡ ends (closing n st) p
closing_ends n lists p o = refl
closing_ends n (move v) p o = refl
closing_ends n (effect v e) p o = refl
closing_ends n ended p o = absurd o

-- the commands cs are read up to rest, with one move more
record Closes (n : Named) (st : Stage) (cs rest : List Command) : Type 0 where
  stage : Stage
  opens : Open stage
  many : length (closed n stage) ≡ suc (length n.moves)
  same : reads n st cs ≡ reads n stage rest

one_longer : (vs : List model.Move) (v : model.Move) → length (vs ++ (v ∷ [])) ≡ suc (length vs)
one_longer vs v = let l = length-append vs (v ∷ []) in omega arith

effects_read : (es : List EffectText) (rest : List Command) (n : Named) (v : model.Move) (e : model.Effect)
    → suc (length v.effects) + length es ≤ 8 → Each (WellEffect n.sizes.fluents n.sizes.moves) es → Closes n (effect v e) (flat_map spell_effect es ++ rest) rest
effects_read [] rest n v e h w = record { stage = effect v e; opens = tt; many = one_longer n.moves (with_effect v e); same = refl }
effects_read (x ∷ es) rest n v e h w =
    let u : model.Move = with_effect v e in
    let l = length-append v.effects (e ∷ []) in
    let t : takes n (effect v e) Effect 0 ≡ Ok (n, effect u no_effect) =
    ap (λ k. cond k (Ok (n, effect u no_effect)) (refused Q.Effects 0)) (lt-ltb (suc (length v.effects)) 8 (omega arith)) in
    let own = w.0 in
    let r = effect_read x (flat_map spell_effect es ++ rest) n u no_effect own.own (well_new _ 0x08 _ x (λ j. refl) own.conditions) (well_new _ 0x09 _ x (λ j. refl) own.alongside) (well_new _ 0x0a _ x (λ j. refl) own.results) in
    let i = effects_read es rest n u r.0 (omega arith) w.1 in
    record {
      stage = i.stage;
      opens = i.opens;
      many = i.many;
      same = on n n (effect v e) (effect u no_effect) Effect ((x ++ flat_map spell_effect es) ++ rest) t ∙ ap (reads n (effect u no_effect)) (append_assoc x (flat_map spell_effect es) rest) ∙ r.1 ∙ i.same;
    }

-- the effects of a move that has none yet
first_effects_read : (es : List EffectText) (rest : List Command) (n : Named) (v : model.Move) → v.effects ≡ [] → length es ≤ 8
    → Each (WellEffect n.sizes.fluents n.sizes.moves) es → Closes n (move v) (flat_map spell_effect es ++ rest) rest
first_effects_read [] rest n v z h w = record { stage = move v; opens = tt; many = one_longer n.moves v; same = refl }
first_effects_read (x ∷ es) rest n v z h w =
    let l = ap length z in
    let own = w.0 in
    let r = effect_read x (flat_map spell_effect es ++ rest) n v no_effect own.own (well_new _ 0x08 _ x (λ j. refl) own.conditions) (well_new _ 0x09 _ x (λ j. refl) own.alongside) (well_new _ 0x0a _ x (λ j. refl) own.results) in
    let i = effects_read es rest n v r.0 (omega arith) w.1 in
    record {
      stage = i.stage;
      opens = i.opens;
      many = i.many;
      same = on n n (move v) (effect v no_effect) Effect ((x ++ flat_map spell_effect es) ++ rest) refl ∙ ap (reads n (effect v no_effect)) (append_assoc x (flat_map spell_effect es) rest) ∙ r.1 ∙ i.same;
    }

move_read : (v : MoveText) (rest : List Command) (n : Named) → WellMove n.sizes.stations n.sizes.fluents n.sizes.moves v
    → Closes n (move (new_move v.station)) ((v.body ++ flat_map spell_effect v.effects) ++ rest) rest
move_read v rest n w =
    let r = body_read v.body (flat_map spell_effect v.effects ++ rest) n (new_move v.station) w.own (well_new _ 0x05 _ v.body (λ j. refl) w.needs) (well_new _ 0x06 _ v.body (λ j. refl) w.companions) in
    let i = first_effects_read v.effects rest n (in_body (new_move v.station) r.0 r.1) refl w.few w.effects in
    record {
      stage = i.stage;
      opens = i.opens;
      many = i.many;
      same = ap (reads n (move (new_move v.station))) (append_assoc v.body (flat_map spell_effect v.effects) rest) ∙ r.2 ∙ i.same;
    }

moves_read : (vs : List MoveText) (n : Named) (st : Stage) → Open st → Each (WellMove n.sizes.stations n.sizes.fluents n.sizes.moves) vs
    → length (closed n st) + length vs ≡ n.sizes.moves → (m : Named) × (reads n st (flat_map spell_move vs ++ (End ∷ [])) ≡ Ok (m, ended))
moves_read [] n st o w h = (
  closing n st,
  on n (closing n st) st ended End [] (closing_ends n st 0 o ∙ ap (λ t. cond t (Ok (closing n st, ended)) (refused Q.Order 0)) (eq-eqb (length (closed n st)) n.sizes.moves (omega arith))),
)
moves_read (v ∷ vs) n st o w h =
    let m = closing n st in
    let s = v.station in
    let rest : List Command = flat_map spell_move vs ++ (End ∷ []) in
    let body : List Command = v.body ++ flat_map spell_effect v.effects in
    let t : takes n st (Move s) 0 ≡ Ok (m, move (new_move s)) =
    closing_begins n st s 0 o
    ∙ ap (λ b. cond b (cond (ltb s n.sizes.stations) (Ok (m, move (new_move s))) (refused Q.Range 0)) (refused Q.Order 0)) (lt-ltb (length (closed n st)) n.sizes.moves (omega arith))
    ∙ ap (λ b. cond b (Ok (m, move (new_move s))) (refused Q.Range 0)) (lt-ltb s n.sizes.stations w.0.station) in
    let r = move_read v rest m w.0 in
    let k = r.many in
    let i = moves_read vs m r.stage r.opens w.1 (omega arith) in (
      i.0,
      on n m st (move (new_move s)) (Move s) ((body ++ flat_map spell_move vs) ++ (End ∷ [])) t
          ∙ ap (reads m (move (new_move s))) (append_assoc body (flat_map spell_move vs) (End ∷ [])) ∙ r.same ∙ i.1,
    )

-- ---- the whole text

from_one_up_to : (most n : ℕ) → FromOne most n → up_to most n ≡ true
from_one_up_to most n h = and_from (leb 1 n) (leb n most) (le-leb 1 n h.0) (le-leb n most h.1)

abbrev pub sizes_of : Text → Command
sizes_of x = Sizes x.sizes.stations x.sizes.fluents x.sizes.moves

abbrev pub begun_of : Text → Named
begun_of x = newly x.sizes.stations x.sizes.fluents x.sizes.moves

pub first_read : (x : Text) → Well x → first_named (sizes_of x) ≡ Ok (begun_of x)
first_read x w =
    ap (λ t. cond t (Ok (begun_of x)) (refused Q.Range 0))
    (and_from (up_to 16 x.sizes.stations) _ (from_one_up_to 16 _ w.stations) (and_from (up_to 128 x.sizes.fluents) _ (from_one_up_to 128 _ w.fluents) (from_one_up_to 64 _ w.count)))

pub text_read : (x : Text) → Well x → (m : Named) × (reads (begun_of x) lists (x.head ++ (flat_map spell_move x.moves ++ (End ∷ []))) ≡ Ok (m, ended))
text_read x w =
    let r = head_read x.head (flat_map spell_move x.moves ++ (End ∷ [])) (begun_of x) w.own (well_new _ 0x02 _ x.head (λ j. refl) w.start) (well_new _ 0x03 _ x.head (λ j. refl) w.goal) in
    let c = w.counted in
    let i = moves_read x.moves (in_head (begun_of x) r.0 r.1) lists tt w.moves (omega arith) in
    (i.0, r.2 ∙ i.1)
