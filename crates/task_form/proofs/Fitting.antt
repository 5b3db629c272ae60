-- What is read stays within its bounds, and takes as many bytes as the commands that name it. Assumes nothing.
use Rattle.std.proofs.Common.{◌≡◌, ℕ, suc, ◌+◌, ◌*◌, ◌<◌, Bool, true, false, cond, ◌&&◌, eqb, ltb, leb, List, [], ◌∷◌, length, Ok, Err, Result, refl, ap, subst, arith, length-append}
use Rattle.std.proofs.lemmas.Bool.{ltb-true, leb-true, and_parts}
use Rattle.refusals.specs.declared.Question.TheVariants as Q
use Rattle.refusals.specs.declared.Refusal.{Refusal}
use Rattle.refusals.specs.Answers.{refused, seen, and_then}
use Rattle.model.specs.Sets.{Set, Literals, with, plus, names}
use Rattle.model.specs.Task as model
use Rattle.model.specs.Task.{no_effect}
use Rattle.model.specs.Bounds.{Each, FromOne, Listed, BoundedEffect, BoundedMove}
use Rattle.model.specs.Size.{count, literals, total, effect_bytes, move_bytes}
use Rattle.moves.specs.Lists.{added, numbered}
use Rattle.moves.specs.declared.lists.Literal.{Literal}
use Rattle.task_command.specs.declared.command.Command.{Command}
use Rattle.task_command.specs.declared.command.Command.TheVariants.{Sizes, Start, Goal, Move, Need, With, Effect, If, IfMove, Then, End}
use Rattle.task_form.specs.Denoted.{Counts}
use Rattle.task_form.specs.Questions.{up_to}
use Rattle.task_form.specs.Reading.{Named, Stage, Read, lists, move, effect, ended, with_start, with_goal, with_move, with_effect, with_needs, with_companions, with_conditions, with_alongside, with_results, new_move, takes, begins, ends, first_named}
use Rattle.task_form.proofs.Walks.{newly}
use Rattle.task_form.proofs.Spelling.{width, widths}
use Rattle.task_form.proofs.Counting.{with_below, count_none, count_with, literals_none, literals_plus, none_listed, plus_listed, each_more, total_more}
use Rattle.task_form.proofs.ReadThrough.{reads, never_read}

pub record FitNamed (n : Named) : Type 0 where
  pub stations : FromOne 16 n.sizes.stations
  pub fluents : FromOne 128 n.sizes.fluents
  pub count : FromOne 64 n.sizes.moves
  pub start : (k : ℕ) → n.start k ≡ true → k < n.sizes.fluents
  pub goal : Listed n.sizes.fluents n.goal
  pub moves : Each (BoundedMove n.sizes.stations n.sizes.fluents n.sizes.moves) n.moves

abbrev FitMove : Counts → model.Move → Type 0
FitMove z v = BoundedMove z.stations z.fluents z.moves v

abbrev FitEffect : Counts → model.Effect → Type 0
FitEffect z e = BoundedEffect z.fluents z.moves e

-- what is not complete yet
abbrev FitStage : Counts → Stage → Type 0
FitStage z lists = Unit {0}
FitStage z (move v) = FitMove z v × (v.effects ≡ [])
FitStage z (effect v e) = FitMove z v × FitEffect z e × (length v.effects < 8)
FitStage z ended = Unit {0}

abbrev pub Fit : Named → Stage → Type 0
Fit n st = FitNamed n × FitStage n.sizes st

-- ---- bytes

abbrev bytes_named : Named → ℕ
bytes_named n = 4 + 2 * (count n.sizes.fluents n.start + literals n.sizes.fluents n.goal) + total (move_bytes n.sizes.fluents n.sizes.moves) n.moves

abbrev bytes_stage : Counts → Stage → ℕ
bytes_stage z lists = 0
bytes_stage z (move v) = move_bytes z.fluents z.moves v
bytes_stage z (effect v e) = move_bytes z.fluents z.moves v + effect_bytes z.fluents z.moves e
bytes_stage z ended = 1

-- the bytes of the commands that name what has been read
abbrev pub bytes : Named → Stage → ℕ
bytes n st = bytes_named n + bytes_stage n.sizes st

-- ---- one command more

abbrev Grown : (b w : ℕ) → Named × Stage → Type 0
Grown b w x = Fit x.0 x.1 × (bytes x.0 x.1 ≡ b + w)

abbrev pub Holds : {X : Type 0} → (X → Type 0) → Result X Refusal → Type 0
Holds P (Ok x) = P x
Holds P (Err e) = Unit {0}

pub tested : {X : Type 0} (P : X → Type 0) (t : Bool) (r s : Result X Refusal) → (t ≡ true → Holds P r) → (t ≡ false → Holds P s) → Holds P (cond t r s)
tested P true r s f g = f refl
tested P false r s f g = g refl

-- a literal that is added to a list
pub on_added : (P : Named × Stage → Type 0) (g : Literals → Named × Stage) (l : Literals) (x : Literal) (n p : ℕ)
    → (x.number < n → names l x.number ≡ false → P (g (plus l x.plain x.number))) → Holds P (seen g (added l x n p))
on_added P g l x n p f = by (ltb x.number n) (names l x.number) (λ a b. f (ltb-true x.number n a) b)
  where
    by : (s t : Bool) → (s ≡ true → t ≡ false → P (g (plus l x.plain x.number))) → Holds P (seen g (cond s (cond t (refused Q.New p) (Ok (plus l x.plain x.number))) (refused Q.Range p)))
    by true true h = tt
    by true false h = h refl refl
    by false t h = tt

-- a number that is added to a set
pub on_numbered : (P : Named × Stage → Type 0) (g : Set → Named × Stage) (s : Set) (k n p : ℕ)
    → (k < n → s k ≡ false → P (g (with s k))) → Holds P (seen g (numbered s k n p))
on_numbered P g s k n p f = by (ltb k n) (s k) (λ a b. f (ltb-true k n a) b)
  where
    by : (a b : Bool) → (a ≡ true → b ≡ false → P (g (with s k))) → Holds P (seen g (cond a (cond b (refused Q.New p) (Ok (with s k))) (refused Q.Range p)))
    by true true h = tt
    by true false h = h refl refl
    by false b h = tt

module _ (n : Named) (p : ℕ) (f : FitNamed n) where
  abbrev z : Counts
  z = n.sizes

  new_fits : (s : ℕ) → s < z.stations → FitMove z (new_move s)
  new_fits s h = record { station = h; needs = none_listed _; companions = none_listed _; few = omega arith; effects = tt }

  move_added : (v : model.Move) → FitMove z v → FitNamed (with_move n v)
  move_added v h = record {
    stations = f.stations;
    fluents = f.fluents;
    count = f.count;
    start = f.start;
    goal = f.goal;
    moves = each_more (BoundedMove z.stations z.fluents z.moves) n.moves v f.moves h;
  }

  move_adds : (v : model.Move) → bytes_named (with_move n v) ≡ bytes_named n + move_bytes z.fluents z.moves v
  move_adds v = let t = total_more (move_bytes z.fluents z.moves) n.moves v in omega arith

  begins_grows : (s : ℕ) → Holds (Grown (bytes_named n) 2) (begins n s p)
  begins_grows s =
      tested (Grown (bytes_named n) 2) (ltb (length n.moves) z.moves) _ _
      (λ a. tested (Grown (bytes_named n) 2) (ltb s z.stations) _ _
      (λ b.
      let i = literals_none z.fluents in
      let j = literals_none z.moves in
      ((f, (new_fits s (ltb-true s z.stations b), refl)), omega arith))
      (λ b. tt))
      (λ a. tt)

  ends_grows : Holds (Grown (bytes_named n) 1) (ends n p)
  ends_grows = tested (Grown (bytes_named n) 1) (eqb (length n.moves) z.moves) _ _ (λ a. ((f, tt), omega arith)) (λ a. tt)

  lists_grow : (c : Command) → Holds (Grown (bytes_named n) (width c)) (takes n lists c p)
  lists_grow (Sizes i j k) = tt
  lists_grow (Start k) =
      on_numbered (Grown (bytes_named n) 2) (λ s. (with_start n s, lists)) n.start k z.fluents p
      (λ h e.
      let c = count_with z.fluents k n.start h e in (
        (record { stations = f.stations; fluents = f.fluents; count = f.count; start = with_below z.fluents n.start k f.start h; goal = f.goal; moves = f.moves }, tt),
        omega arith,
      ))
  lists_grow (Goal x) =
      on_added (Grown (bytes_named n) 2) (λ l. (with_goal n l, lists)) n.goal x z.fluents p
      (λ h e.
      let c = literals_plus z.fluents n.goal x.plain x.number h e in (
        (record { stations = f.stations; fluents = f.fluents; count = f.count; start = f.start; goal = plus_listed z.fluents n.goal x.plain x.number f.goal h e; moves = f.moves }, tt),
        omega arith,
      ))
  lists_grow (Move s) = begins_grows s
  lists_grow (Need x) = tt
  lists_grow (With x) = tt
  lists_grow Effect = tt
  lists_grow (If x) = tt
  lists_grow (IfMove x) = tt
  lists_grow (Then x) = tt
  lists_grow End = ends_grows

-- the bytes so far, written in another way
from_bytes : (a b w : ℕ) (r : Read) → a ≡ b → Holds (Grown a w) r → Holds (Grown b w) r
from_bytes a b w r e h = subst (λ k. Holds (Grown k w) r) e h

module _ (n : Named) (p : ℕ) (f : FitNamed n) where
  module _ (v : model.Move) (h : FitMove n.sizes v) where
    with_move_begins : (s : ℕ) → Holds (Grown (bytes n (move v)) 2) (begins (with_move n v) s p)
    with_move_begins s = from_bytes _ _ 2 (begins (with_move n v) s p) (move_adds n p f v) (begins_grows (with_move n v) p (move_added n p f v h) s)

    with_move_ends : Holds (Grown (bytes n (move v)) 1) (ends (with_move n v) p)
    with_move_ends = from_bytes _ _ 1 (ends (with_move n v) p) (move_adds n p f v) (ends_grows (with_move n v) p (move_added n p f v h))

  module _ (v : model.Move) (h : FitMove n.sizes v) (first : v.effects ≡ []) where
    move_grows : (c : Command) → Holds (Grown (bytes n (move v)) (width c)) (takes n (move v) c p)
    move_grows (Sizes i j k) = tt
    move_grows (Start k) = tt
    move_grows (Goal x) = tt
    move_grows (Move s) = with_move_begins v h s
    move_grows (Need x) =
        on_added (Grown (bytes n (move v)) 2) (λ l. (n, move (with_needs v l))) v.needs x n.sizes.fluents p
        (λ l e.
        let c = literals_plus n.sizes.fluents v.needs x.plain x.number l e in (
          (f, (record { station = h.station; needs = plus_listed _ v.needs x.plain x.number h.needs l e; companions = h.companions; few = h.few; effects = h.effects }, first)),
          omega arith,
        ))
    move_grows (With x) =
        on_added (Grown (bytes n (move v)) 2) (λ l. (n, move (with_companions v l))) v.companions x n.sizes.moves p
        (λ l e.
        let c = literals_plus n.sizes.moves v.companions x.plain x.number l e in (
          (f, (record { station = h.station; needs = h.needs; companions = plus_listed _ v.companions x.plain x.number h.companions l e; few = h.few; effects = h.effects }, first)),
          omega arith,
        ))
    move_grows Effect =
        let i = literals_none n.sizes.fluents in
        let j = literals_none n.sizes.moves in
        let l = ap length first in
        ((f, (h, no_effect_fits, omega arith)), omega arith)
      where
        no_effect_fits : FitEffect n.sizes no_effect
        no_effect_fits = record { conditions = none_listed _; alongside = none_listed _; results = none_listed _ }
    move_grows (If x) = tt
    move_grows (IfMove x) = tt
    move_grows (Then x) = tt
    move_grows End = with_move_ends v h

  module _ (v : model.Move) (e : model.Effect) (h : FitMove n.sizes v) (g : FitEffect n.sizes e) (few : length v.effects < 8) where
    with_effect_fits : FitMove n.sizes (with_effect v e)
    with_effect_fits = record {
      station = h.station;
      needs = h.needs;
      companions = h.companions;
      few = let l = length-append v.effects (e ∷ []) in omega arith;
      effects = each_more (BoundedEffect n.sizes.fluents n.sizes.moves) v.effects e h.effects g;
    }

    with_effect_adds : bytes n (move (with_effect v e)) ≡ bytes n (effect v e)
    with_effect_adds = let t = total_more (effect_bytes n.sizes.fluents n.sizes.moves) v.effects e in omega arith

    -- IF, IFMOVE and THEN
    extends : (g : Literals → model.Effect) (l : Literals) (x : Literal) (m : ℕ)
        → (x.number < m → names l x.number ≡ false → Grown (bytes n (effect v e)) 2 (n, effect v (g (plus l x.plain x.number))))
        → Holds (Grown (bytes n (effect v e)) 2) (seen (λ y. (n, effect v y)) (seen g (added l x m p)))
    extends g l x m k = fused (added l x m p) (on_added (Grown (bytes n (effect v e)) 2) (λ y. (n, effect v (g y))) l x m p k)
      where
        fused : (r : Result Literals Refusal) → Holds (Grown (bytes n (effect v e)) 2) (seen (λ y. (n, effect v (g y))) r) → Holds (Grown (bytes n (effect v e)) 2) (seen (λ y. (n, effect v y)) (seen g r))
        fused (Ok x) q = q
        fused (Err x) q = q

    effect_grows : (c : Command) → Holds (Grown (bytes n (effect v e)) (width c)) (takes n (effect v e) c p)
    effect_grows (Sizes i j k) = tt
    effect_grows (Start k) = tt
    effect_grows (Goal x) = tt
    effect_grows (Move s) = from_bytes _ _ 2 (begins (with_move n (with_effect v e)) s p) with_effect_adds (with_move_begins (with_effect v e) with_effect_fits s)
    effect_grows (Need x) = tt
    effect_grows (With x) = tt
    effect_grows Effect =
        tested (Grown (bytes n (effect v e)) 1) (ltb (suc (length v.effects)) 8) _ _
        (λ a.
        let i = literals_none n.sizes.fluents in
        let j = literals_none n.sizes.moves in
        let l = length-append v.effects (e ∷ []) in
        let m = ltb-true (suc (length v.effects)) 8 a in
        let t = with_effect_adds in
        ((f, (with_effect_fits, record { conditions = none_listed _; alongside = none_listed _; results = none_listed _ }, omega arith)), omega arith))
        (λ a. tt)
    effect_grows (If x) =
        extends (with_conditions e) e.conditions x n.sizes.fluents
        (λ l q.
        let c = literals_plus n.sizes.fluents e.conditions x.plain x.number l q in
        ((f, (h, record { conditions = plus_listed _ e.conditions x.plain x.number g.conditions l q; alongside = g.alongside; results = g.results }, few)), omega arith))
    effect_grows (IfMove x) =
        extends (with_alongside e) e.alongside x n.sizes.moves
        (λ l q.
        let c = literals_plus n.sizes.moves e.alongside x.plain x.number l q in
        ((f, (h, record { conditions = g.conditions; alongside = plus_listed _ e.alongside x.plain x.number g.alongside l q; results = g.results }, few)), omega arith))
    effect_grows (Then x) =
        extends (with_results e) e.results x n.sizes.fluents
        (λ l q.
        let c = literals_plus n.sizes.fluents e.results x.plain x.number l q in
        ((f, (h, record { conditions = g.conditions; alongside = g.alongside; results = plus_listed _ e.results x.plain x.number g.results l q }, few)), omega arith))
    effect_grows End = from_bytes _ _ 1 (ends (with_move n (with_effect v e)) p) with_effect_adds (with_move_ends (with_effect v e) with_effect_fits)

-- each command keeps what is read within its bounds, and adds its own bytes
takes_grows : (n : Named) (st : Stage) (c : Command) (p : ℕ) → Fit n st → Holds (Grown (bytes n st) (width c)) (takes n st c p)
takes_grows n lists c p f = from_bytes (bytes_named n) (bytes n lists) (width c) (takes n lists c p) (omega arith) (lists_grow n p f.0 c)
takes_grows n (move v) c p f = move_grows n p f.0 v f.1.0 f.1.1 c
takes_grows n (effect v e) c p f = effect_grows n p f.0 v e f.1.0 f.1.1 f.1.2 c
takes_grows n ended c p f = tt

pub reads_grows : (n : Named) (st : Stage) (cs : List Command) (x : Named × Stage) → Fit n st → reads n st cs ≡ Ok x → Grown (bytes n st) (widths cs) x
reads_grows n st [] x f e =
    let q : (n, st) ≡ x = cc in
    subst (Grown (bytes n st) 0) q (f, omega arith)
reads_grows n st (c ∷ cs) x f e = from (takes n st c 0) (takes_grows n st c 0 f) e (λ y g. reads_grows y.0 y.1 cs x g)
  where
    from : (r : Read) → Holds (Grown (bytes n st) (width c)) r → and_then r (λ y. reads y.0 y.1 cs) ≡ Ok x
        → ((y : Named × Stage) → Fit y.0 y.1 → reads y.0 y.1 cs ≡ Ok x → Grown (bytes y.0 y.1) (widths cs) x) → Grown (bytes n st) (widths (c ∷ cs)) x
    from (Ok y) h q more =
        let m = more y h.0 q in
        let a = h.1 in
        let b = m.1 in
        (m.0, omega arith)
    from (Err z) h q more = absurd (never_read z x q)

-- ---- SIZES, at the front

up_to_from_one : (most n : ℕ) → up_to most n ≡ true → FromOne most n
up_to_from_one most n h = let a = and_parts (leb 1 n) (leb n most) h in (leb-true 1 n a.0, leb-true n most a.1)

pub first_fits : (c : Command) (n : Named) → first_named c ≡ Ok n → Fit n lists × (bytes n lists ≡ width c)
first_fits (Sizes i j k) n e = by (up_to 16 i && (up_to 128 j && up_to 64 k)) refl e
  where
    fits : (up_to 16 i && (up_to 128 j && up_to 64 k)) ≡ true → Fit (newly i j k) lists × (bytes (newly i j k) lists ≡ 4)
    fits h =
        let a = and_parts (up_to 16 i) (up_to 128 j && up_to 64 k) h in
        let b = and_parts (up_to 128 j) (up_to 64 k) a.1 in
        let c = count_none j in (
          (
            record {
              stations = up_to_from_one 16 i a.0;
              fluents = up_to_from_one 128 j b.0;
              count = up_to_from_one 64 k b.1;
              start = (none_listed j).below true;
              goal = none_listed j;
              moves = tt;
            },
            tt,
          ),
          omega arith,
        )

    by : (t : Bool) → (up_to 16 i && (up_to 128 j && up_to 64 k)) ≡ t → cond t (Ok (newly i j k)) (refused Q.Range 0) ≡ Ok n → Fit n lists × (bytes n lists ≡ 4)
    by true h q = let r : newly i j k ≡ n = cc in subst (λ m. Fit m lists × (bytes m lists ≡ 4)) r (fits h)
    by false h q = absurd (never_read _ n q)
first_fits (Start k) n e = absurd (never_read _ n e)
first_fits (Goal x) n e = absurd (never_read _ n e)
first_fits (Move s) n e = absurd (never_read _ n e)
first_fits (Need x) n e = absurd (never_read _ n e)
first_fits (With x) n e = absurd (never_read _ n e)
first_fits Effect n e = absurd (never_read _ n e)
first_fits (If x) n e = absurd (never_read _ n e)
first_fits (IfMove x) n e = absurd (never_read _ n e)
first_fits (Then x) n e = absurd (never_read _ n e)
first_fits End n e = absurd (never_read _ n e)
