-- Each command, in each part of a file: the question answered no is the defined one, and otherwise what is read stands
-- for the commands up to it. Assumes nothing.
use Rattle.std.proofs.Common.{◌≡◌, ℕ, suc, Bool, true, false, ◌&&◌, eqb, ltb, List, [], ◌∷◌, ◌++◌, map, length, sym, refl, ap, ◌∙◌, ap₂, arith, length-append, true-eqb}
use lib.ListN.{length-map}
use Rattle.std.proofs.lemmas.List.{map_push}
use Rattle.refusals.specs.declared.Question.TheVariants as Q
use Rattle.refusals.specs.Answers.{refused}
use Rattle.model.specs.Sets.{names, with, plus}
use Rattle.model.specs.Task as model
use Rattle.model.specs.Task.{no_effect}
use Rattle.task_command.specs.declared.command.Command.{Command}
use Rattle.task_command.specs.declared.command.Command.TheVariants.{Sizes, Start, Goal, Move, Need, With, Effect, If, IfMove, Then, End}
use Rattle.task_form.specs.Lists.{is, listed, Stretch, stretches, last_body}
use Rattle.task_form.specs.Denoted.{sizes}
use Rattle.task_form.specs.Denoted as meaning
use Rattle.task_form.specs.Questions.{part, may_stand, begun, in_number, own_move, own_effect, first_no}
use Rattle.task_form.specs.Questions as parts
use Rattle.task_form.specs.Reading.{Named, Stage, lists, move, effect, ended, with_start, with_goal, with_move, with_effect, with_needs, with_companions, with_conditions, with_alongside, with_results, new_move, takes, in_lists, in_move, in_effect, begins, ends}
use Rattle.task_form.proofs.Stretches.{part_more, stretches_begun, stretches_more, grown, grown_last, last_of}
use Rattle.task_form.proofs.Agrees.{kept, gains, Base, Last, InLists, InMove, InEffect, Stands, Agree, so_far, base_more, last_more, sizes_more, with_any, out_of_order, asked_new, asked_its, asked_move, asked_end, asked_effect}

-- END stands in the last stretch, and adds nothing to its move
pub moves_at_end : (before : List Command) → map meaning.move (stretches 0x04 (before ++ (End ∷ []))) ≡ map meaning.move (stretches 0x04 before)
moves_at_end before = ap (map meaning.move) (stretches_more 0x04 End refl before) ∙ grown_end (stretches 0x04 before)
  where
    effects_end : (cs : List Command) → map meaning.effect (stretches 0x07 (cs ++ (End ∷ []))) ≡ map meaning.effect (stretches 0x07 cs)
    effects_end cs = ap (map meaning.effect) (stretches_more 0x07 End refl cs) ∙ same (stretches 0x07 cs)
      where
        effect_end : (s : Stretch) → meaning.effect (s.0, s.1 ++ (End ∷ [])) ≡ meaning.effect s
        effect_end s = λ i. record { conditions = kept 0x08 s.1 End refl i; alongside = kept 0x09 s.1 End refl i; results = kept 0x0a s.1 End refl i }

        same : (ss : List Stretch) → map meaning.effect (grown ss End) ≡ map meaning.effect ss
        same [] = refl
        same (s ∷ []) = ap (λ e. e ∷ []) (effect_end s)
        same (s ∷ (t ∷ ts)) = ap (λ es. meaning.effect s ∷ es) (same (t ∷ ts))

    move_end : (s : Stretch) → meaning.move (s.0, s.1 ++ (End ∷ [])) ≡ meaning.move s
    move_end s = λ i. record { station = meaning.station s.0; needs = kept 0x05 s.1 End refl i; companions = kept 0x06 s.1 End refl i; effects = effects_end s.1 i }

    grown_end : (ss : List Stretch) → map meaning.move (grown ss End) ≡ map meaning.move ss
    grown_end [] = refl
    grown_end (s ∷ []) = ap (λ v. v ∷ []) (move_end s)
    grown_end (s ∷ (t ∷ ts)) = ap (λ vs. meaning.move s ∷ vs) (grown_end (t ∷ ts))

module _ (before : List Command) (p : ℕ) where
  abbrev After : Command → Named × Stage → Type 0
  After c x = Stands (before ++ (c ∷ [])) x.0 x.1

  -- ---- MOVE and END, once the moves before are complete
  module _ (n : Named) (b : Base before n) (complete : map meaning.move (stretches 0x04 before) ≡ n.moves) where
    counted : begun before ≡ length n.moves
    counted = sym (length-map (stretches 0x04 before) meaning.move) ∙ ap length complete

    begun_anew : (s : ℕ) → may_stand (Move s) (part before) ≡ true → Agree (first_no before (Move s)) p (After (Move s)) (begins n s p)
    begun_anew s stands =
        asked_move p (After (Move s)) (may_stand (Move s) (part before) && in_number before (Move s)) (ltb (length n.moves) n.sizes.moves) (ltb s (sizes before).stations) (ltb s n.sizes.stations) (n, move (new_move s))
        (ap (λ t. t && in_number before (Move s)) stands ∙ ap₂ (λ k z. ltb k z.moves) counted b.sized)
        (ap (λ z. ltb s z.stations) b.sized)
        record {
          base = base_more before n (Move s) refl refl b;
          at = record {
            place = part_more parts.front before (Move s);
            stretch = (Move s, []);
            last = record { done = stretches 0x04 before; all = stretches_begun 0x04 before (Move s) refl; complete = complete };
            plain = refl;
            this = refl;
          };
        }

    finished : may_stand End (part before) ≡ true → Agree (first_no before End) p (After End) (ends n p)
    finished stands =
        asked_end p (After End) (may_stand End (part before) && in_number before End) (eqb (length n.moves) n.sizes.moves) (n, ended)
        (ap (λ t. t && in_number before End) stands ∙ ap₂ (λ k z. eqb k z.moves) counted b.sized)
        (λ all. record {
          base = base_more before n End refl refl b;
          at = record {
            place = part_more parts.front before End;
            complete = moves_at_end before ∙ complete;
            counted = true-eqb _ _ (sym all);
          };
        })

  module _ (n : Named) (b : Base before n) where
    -- a literal command in the part that it belongs to
    abbrev own : Command → parts.Part → Bool
    own c q = may_stand c q && in_number before c

    -- ---- in the lists
    module _ (l : InLists before n) where
      still : (c : Command) → parts.after c ≡ parts.lists → is 0x04 c ≡ false → (m : Named) → m.moves ≡ [] → InLists (before ++ (c ∷ [])) m
      still c a h m e = record {
        place = part_more parts.front before c ∙ a;
        unmoved = stretches_more 0x04 c h before ∙ ap (λ ss. grown ss c) l.unmoved;
        none_yet = e;
      }

      none_complete : map meaning.move (stretches 0x04 before) ≡ n.moves
      none_complete = ap (map meaning.move) l.unmoved ∙ sym l.none_yet

      wrong : (c : Command) → may_stand c parts.lists ≡ false → Agree (first_no before c) p (After c) (refused Q.Order p)
      wrong c h = out_of_order p (After c) before c (ap (may_stand c) l.place ∙ h)

      pub lists_agree : (c : Command) → Agree (first_no before c) p (After c) (in_lists n c p)
      lists_agree (Sizes i j k) = wrong (Sizes i j k) refl
      lists_agree (Start k) =
          asked_new p (After (Start k)) _ _ (ltb k n.sizes.fluents) _ (n.start k) (λ s. (with_start n s, lists)) (with n.start k)
          (ap (own (Start k)) l.place)
          (ap (λ z. ltb k z.fluents) b.sized)
          (ap (λ s. s k) b.start)
          record {
            base = record {
              head = b.head;
              tail = b.tail ++ (Start k ∷ []);
              whole = ap (λ cs. cs ++ (Start k ∷ [])) b.whole;
              sized = sizes_more before (Start k) b.head b.tail b.whole ∙ b.sized;
              start = ap (λ m. m true) (gains 0x02 before (Start k) true k refl refl) ∙ ap (λ s. with s k) b.start;
              goal = kept 0x03 before (Start k) refl ∙ b.goal;
            };
            at = still (Start k) refl refl (with_start n (with n.start k)) l.none_yet;
          }
      lists_agree (Goal x) =
          asked_new p (After (Goal x)) _ _ (ltb x.number n.sizes.fluents) _ (names n.goal x.number) (λ m. (with_goal n m, lists)) (plus n.goal x.plain x.number)
          (ap (own (Goal x)) l.place)
          (ap (λ z. ltb x.number z.fluents) b.sized)
          (ap (λ m. names m x.number) b.goal)
          record {
            base = record {
              head = b.head;
              tail = b.tail ++ (Goal x ∷ []);
              whole = ap (λ cs. cs ++ (Goal x ∷ [])) b.whole;
              sized = sizes_more before (Goal x) b.head b.tail b.whole ∙ b.sized;
              start = ap (λ m. m true) (kept 0x02 before (Goal x) refl) ∙ b.start;
              goal = gains 0x03 before (Goal x) x.plain x.number refl refl ∙ ap (λ m. plus m x.plain x.number) b.goal;
            };
            at = still (Goal x) refl refl (with_goal n (plus n.goal x.plain x.number)) l.none_yet;
          }
      lists_agree (Move s) = begun_anew n b none_complete s (ap (may_stand (Move s)) l.place)
      lists_agree (Need x) = wrong (Need x) refl
      lists_agree (With x) = wrong (With x) refl
      lists_agree Effect = wrong Effect refl
      lists_agree (If x) = wrong (If x) refl
      lists_agree (IfMove x) = wrong (IfMove x) refl
      lists_agree (Then x) = wrong (Then x) refl
      lists_agree End = finished n b none_complete (ap (may_stand End) l.place)

    own_of : (s : Stretch) → Last before n s → own_move before ≡ s.1
    own_of s l = ap last_body l.all ∙ last_of l.done s

    -- ---- in a move
    module _ (v : model.Move) (i : InMove before n v) where
      abbrev s : Stretch
      s = i.stretch

      mine : own_move before ≡ s.1
      mine = own_of s i.last

      -- a command of the move itself: it changes the needs or the companions
      still_move : (c : Command) → parts.after c ≡ parts.move → is 0x04 c ≡ false → is 0x07 c ≡ false → (w : model.Move)
          → so_far (s.0, s.1 ++ (c ∷ [])) [] ≡ w → InMove (before ++ (c ∷ [])) n w
      still_move c a h g w e = record {
        place = part_more parts.front before c ∙ a;
        stretch = (s.0, s.1 ++ (c ∷ []));
        last = last_more before n s c h i.last;
        plain = stretches_more 0x07 c g s.1 ∙ ap (λ ss. grown ss c) i.plain;
        this = e;
      }

      move_complete : map meaning.move (stretches 0x04 before) ≡ (with_move n v).moves
      move_complete =
          ap (map meaning.move) i.last.all ∙ map_push meaning.move i.last.done s
          ∙ ap₂ (λ vs w. vs ++ (w ∷ [])) i.last.complete
          (ap (λ es. record { station = meaning.station s.0; needs = listed 0x05 s.1; companions = listed 0x06 s.1; effects = map meaning.effect es }) i.plain ∙ i.this)

      move_wrong : (c : Command) → may_stand c parts.move ≡ false → Agree (first_no before c) p (After c) (refused Q.Order p)
      move_wrong c h = out_of_order p (After c) before c (ap (may_stand c) i.place ∙ h)

      pub move_agree : (c : Command) → Agree (first_no before c) p (After c) (in_move n v c p)
      move_agree (Sizes i j k) = move_wrong (Sizes i j k) refl
      move_agree (Start k) = move_wrong (Start k) refl
      move_agree (Goal x) = move_wrong (Goal x) refl
      move_agree (Move k) = begun_anew (with_move n v) (with_any before n b (with_move n v).moves) move_complete k (ap (may_stand (Move k)) i.place)
      move_agree (Need x) =
          asked_new p (After (Need x)) _ _ (ltb x.number n.sizes.fluents) _ (names v.needs x.number) (λ m. (n, move (with_needs v m))) (plus v.needs x.plain x.number)
          (ap (own (Need x)) i.place)
          (ap (λ z. ltb x.number z.fluents) b.sized)
          (ap (λ cs. names (listed 0x05 cs) x.number) mine ∙ ap (λ w. names w.needs x.number) i.this)
          record {
            base = base_more before n (Need x) refl refl b;
            at = still_move (Need x) refl refl refl (with_needs v (plus v.needs x.plain x.number))
                ((λ j. record { station = meaning.station s.0; needs = gains 0x05 s.1 (Need x) x.plain x.number refl refl j; companions = kept 0x06 s.1 (Need x) refl j; effects = [] })
                ∙ ap (λ w. with_needs w (plus w.needs x.plain x.number)) i.this);
          }
      move_agree (With x) =
          asked_new p (After (With x)) _ _ (ltb x.number n.sizes.moves) _ (names v.companions x.number) (λ m. (n, move (with_companions v m))) (plus v.companions x.plain x.number)
          (ap (own (With x)) i.place)
          (ap (λ z. ltb x.number z.moves) b.sized)
          (ap (λ cs. names (listed 0x06 cs) x.number) mine ∙ ap (λ w. names w.companions x.number) i.this)
          record {
            base = base_more before n (With x) refl refl b;
            at = still_move (With x) refl refl refl (with_companions v (plus v.companions x.plain x.number))
                ((λ j. record { station = meaning.station s.0; needs = kept 0x05 s.1 (With x) refl j; companions = gains 0x06 s.1 (With x) x.plain x.number refl refl j; effects = [] })
                ∙ ap (λ w. with_companions w (plus w.companions x.plain x.number)) i.this);
          }
      move_agree Effect =
          asked_effect p (After Effect) (own Effect (part before)) (ltb (length (stretches 0x07 (own_move before))) 8) true (n, effect v no_effect)
          (ap (own Effect) i.place)
          (ap (λ cs. ltb (length (stretches 0x07 cs)) 8) mine ∙ ap (λ ss. ltb (length ss) 8) i.plain)
          record {
            base = base_more before n Effect refl refl b;
            at = record {
              place = part_more parts.front before Effect;
              stretch = (s.0, s.1 ++ (Effect ∷ []));
              last = last_more before n s Effect refl i.last;
              done = [];
              pending = (Effect, []);
              all = stretches_begun 0x07 s.1 Effect refl ∙ ap (λ ss. ss ++ ((Effect, []) ∷ [])) i.plain;
              this = (λ j. record { station = meaning.station s.0; needs = kept 0x05 s.1 Effect refl j; companions = kept 0x06 s.1 Effect refl j; effects = [] }) ∙ i.this;
              its = refl;
            };
          }
      move_agree (If x) = move_wrong (If x) refl
      move_agree (IfMove x) = move_wrong (IfMove x) refl
      move_agree (Then x) = move_wrong (Then x) refl
      move_agree End = finished (with_move n v) (with_any before n b (with_move n v).moves) move_complete (ap (may_stand End) i.place)

    -- ---- in an effect
    module _ (v : model.Move) (e : model.Effect) (i : InEffect before n v e) where
      abbrev s' : Stretch
      s' = i.stretch

      abbrev x' : Stretch
      x' = i.pending

      mine' : own_move before ≡ s'.1
      mine' = own_of s' i.last

      its_own : own_effect before ≡ x'.1
      its_own = ap (λ cs. last_body (stretches 0x07 cs)) mine' ∙ ap last_body i.all ∙ last_of i.done x'

      -- a command of the effect itself
      still_effect : (c : Command) → parts.after c ≡ parts.effect → is 0x04 c ≡ false → is 0x05 c ≡ false → is 0x06 c ≡ false → is 0x07 c ≡ false → (f : model.Effect)
          → meaning.effect (x'.0, x'.1 ++ (c ∷ [])) ≡ f → InEffect (before ++ (c ∷ [])) n v f
      still_effect c a h₄ h₅ h₆ h₇ f g = record {
        place = part_more parts.front before c ∙ a;
        stretch = (s'.0, s'.1 ++ (c ∷ []));
        last = last_more before n s' c h₄ i.last;
        done = i.done;
        pending = (x'.0, x'.1 ++ (c ∷ []));
        all = stretches_more 0x07 c h₇ s'.1 ∙ ap (λ ss. grown ss c) i.all ∙ grown_last i.done x' c;
        this = (λ j. record { station = meaning.station s'.0; needs = kept 0x05 s'.1 c h₅ j; companions = kept 0x06 s'.1 c h₆ j; effects = map meaning.effect i.done }) ∙ i.this;
        its = g;
      }

      effect_complete : map meaning.move (stretches 0x04 before) ≡ (with_move n (with_effect v e)).moves
      effect_complete =
          ap (map meaning.move) i.last.all ∙ map_push meaning.move i.last.done s'
          ∙ ap₂ (λ vs w. vs ++ (w ∷ [])) i.last.complete
          (ap (λ es. record { station = meaning.station s'.0; needs = listed 0x05 s'.1; companions = listed 0x06 s'.1; effects = es }) (ap (map meaning.effect) i.all ∙ map_push meaning.effect i.done x')
          ∙ ap₂ with_effect i.this i.its)

      effect_wrong : (c : Command) → may_stand c parts.effect ≡ false → Agree (first_no before c) p (After c) (refused Q.Order p)
      effect_wrong c h = out_of_order p (After c) before c (ap (may_stand c) i.place ∙ h)

      pub effect_agree : (c : Command) → Agree (first_no before c) p (After c) (in_effect n v e c p)
      effect_agree (Sizes i j k) = effect_wrong (Sizes i j k) refl
      effect_agree (Start k) = effect_wrong (Start k) refl
      effect_agree (Goal x) = effect_wrong (Goal x) refl
      effect_agree (Move k) = begun_anew (with_move n (with_effect v e)) (with_any before n b (with_move n (with_effect v e)).moves) effect_complete k (ap (may_stand (Move k)) i.place)
      effect_agree (Need x) = effect_wrong (Need x) refl
      effect_agree (With x) = effect_wrong (With x) refl
      effect_agree Effect =
          asked_effect p (After Effect) (own Effect (part before)) (ltb (length (stretches 0x07 (own_move before))) 8) (ltb (suc (length v.effects)) 8) (n, effect (with_effect v e) no_effect)
          (ap (own Effect) i.place)
          (ap (λ cs. ltb (length (stretches 0x07 cs)) 8) mine' ∙ ap (λ k. ltb k 8) many)
          record {
            base = base_more before n Effect refl refl b;
            at = record {
              place = part_more parts.front before Effect;
              stretch = (s'.0, s'.1 ++ (Effect ∷ []));
              last = last_more before n s' Effect refl i.last;
              done = i.done ++ (x' ∷ []);
              pending = (Effect, []);
              all = stretches_begun 0x07 s'.1 Effect refl ∙ ap (λ ss. ss ++ ((Effect, []) ∷ [])) i.all;
              this =
                  (λ j. record { station = meaning.station s'.0; needs = kept 0x05 s'.1 Effect refl j; companions = kept 0x06 s'.1 Effect refl j; effects = map_push meaning.effect i.done x' j })
                  ∙ ap₂ with_effect i.this i.its;
              its = refl;
            };
          }
        where
          many : length (stretches 0x07 s'.1) ≡ suc (length v.effects)
          many =
              let a = ap length i.all in
              let c = length-append i.done (x' ∷ []) in
              let d = length-map i.done meaning.effect in
              let f = ap (λ w. length w.effects) i.this in
              omega arith
      effect_agree (If x) =
          asked_its p (After (If x)) _ _ (ltb x.number n.sizes.fluents) _ (names e.conditions x.number) (with_conditions e) (λ f. (n, effect v f)) (plus e.conditions x.plain x.number)
          (ap (own (If x)) i.place)
          (ap (λ z. ltb x.number z.fluents) b.sized)
          (ap (λ cs. names (listed 0x08 cs) x.number) its_own ∙ ap (λ f. names f.conditions x.number) i.its)
          record {
            base = base_more before n (If x) refl refl b;
            at = still_effect (If x) refl refl refl refl refl (with_conditions e (plus e.conditions x.plain x.number))
                ((λ j. record { conditions = gains 0x08 x'.1 (If x) x.plain x.number refl refl j; alongside = kept 0x09 x'.1 (If x) refl j; results = kept 0x0a x'.1 (If x) refl j })
                ∙ ap (λ f. with_conditions f (plus f.conditions x.plain x.number)) i.its);
          }
      effect_agree (IfMove x) =
          asked_its p (After (IfMove x)) _ _ (ltb x.number n.sizes.moves) _ (names e.alongside x.number) (with_alongside e) (λ f. (n, effect v f)) (plus e.alongside x.plain x.number)
          (ap (own (IfMove x)) i.place)
          (ap (λ z. ltb x.number z.moves) b.sized)
          (ap (λ cs. names (listed 0x09 cs) x.number) its_own ∙ ap (λ f. names f.alongside x.number) i.its)
          record {
            base = base_more before n (IfMove x) refl refl b;
            at = still_effect (IfMove x) refl refl refl refl refl (with_alongside e (plus e.alongside x.plain x.number))
                ((λ j. record { conditions = kept 0x08 x'.1 (IfMove x) refl j; alongside = gains 0x09 x'.1 (IfMove x) x.plain x.number refl refl j; results = kept 0x0a x'.1 (IfMove x) refl j })
                ∙ ap (λ f. with_alongside f (plus f.alongside x.plain x.number)) i.its);
          }
      effect_agree (Then x) =
          asked_its p (After (Then x)) _ _ (ltb x.number n.sizes.fluents) _ (names e.results x.number) (with_results e) (λ f. (n, effect v f)) (plus e.results x.plain x.number)
          (ap (own (Then x)) i.place)
          (ap (λ z. ltb x.number z.fluents) b.sized)
          (ap (λ cs. names (listed 0x0a cs) x.number) its_own ∙ ap (λ f. names f.results x.number) i.its)
          record {
            base = base_more before n (Then x) refl refl b;
            at = still_effect (Then x) refl refl refl refl refl (with_results e (plus e.results x.plain x.number))
                ((λ j. record { conditions = kept 0x08 x'.1 (Then x) refl j; alongside = kept 0x09 x'.1 (Then x) refl j; results = gains 0x0a x'.1 (Then x) x.plain x.number refl refl j })
                ∙ ap (λ f. with_results f (plus f.results x.plain x.number)) i.its);
          }
      effect_agree End = finished (with_move n (with_effect v e)) (with_any before n b (with_move n (with_effect v e)).moves) effect_complete (ap (may_stand End) i.place)

-- what is read stands for the commands before: each command is answered as it is defined
pub agrees : (before : List Command) (n : Named) (st : Stage) (c : Command) (p : ℕ) → Stands before n st
    → Agree (first_no before c) p (λ x. Stands (before ++ (c ∷ [])) x.0 x.1) (takes n st c p)
agrees before n lists c p h = lists_agree before p n h.base h.at c
agrees before n (move v) c p h = move_agree before p n h.base v h.at c
agrees before n (effect v e) c p h = effect_agree before p n h.base v e h.at c
agrees before n ended c p h = out_of_order p _ before c (ap (may_stand c) h.at.place ∙ nothing c)
  where
    nothing : (c : Command) → may_stand c parts.ended ≡ false
    nothing (Sizes i j k) = refl
    nothing (Start k) = refl
    nothing (Goal x) = refl
    nothing (Move s) = refl
    nothing (Need x) = refl
    nothing (With x) = refl
    nothing Effect = refl
    nothing (If x) = refl
    nothing (IfMove x) = refl
    nothing (Then x) = refl
    nothing End = refl
